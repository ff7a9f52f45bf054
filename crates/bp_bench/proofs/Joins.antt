-- What a search has come to can be joined.
use Rattle.std.proofs.Common.{◌≡◌, ℕ, List, get_or, All, sym, subst}
use Rattle.bp_base.specs.declared.point.Sheet.{Sheet}
use Rattle.bp_base.specs.declared.record.Record.{Record}
use Rattle.bp_base.specs.declared.record.RecordKind.{RecordKind}
use Rattle.bp_base.specs.declared.record.RecordKind.TheVariants.{Split, Closed}
use Rattle.bp_base.specs.declared.record.Settled.{Settled}
use Rattle.bp_base.specs.declared.record.Task.{Task}
use Rattle.bp_base.specs.Tree.{TreeValue, IsTree, leaf_count}
use Rattle.bp_metric.specs.Chains.{HasPairsOf}
use Rattle.bp_metric.specs.Records.{IsJudged}
use Rattle.bp_branch.proofs.Picked.{picked_branch, stated_picked}
use Rattle.bp_core.specs.Underway.{IsUnderway}
use Rattle.bp_join.specs.Joined.{HasPairOf}

module _ (T : TreeValue) (t : IsTree T) (G : Sheet) where
  kind_pair : (u : ℕ) (x : Record) (kind : RecordKind) → IsJudged T G u x kind → HasPairOf T kind
  kind_pair u x (Split p) judged = judged.0.next.pair
  kind_pair u x (Closed claim) judged = tt

  module _ (B : ℕ) (Z : Settled) (way : IsUnderway T G B Z) where
    pub records_pairs : (records : List Record) → records ≡ Z.records → All (λ (x : Record). HasPairOf T x.kind) records
    records_pairs records is = subst (All (λ (x : Record). HasPairOf T x.kind)) (sym is) (λ k d less.
        let sound = way.sound k d less in
        let x = get_or Z.records k d in
        kind_pair sound.opening_side x x.kind sound.judged)

    pub left_pairs : (tasks : List Task) → tasks ≡ Z.left → All (λ (x : Task). HasPairsOf (leaf_count T) x.path) tasks
    left_pairs tasks is = subst (All (λ (x : Task). HasPairsOf (leaf_count T) x.path)) (sym is) (λ k d less.
        let x = get_or Z.left k d in
        let u = way.least.opening_side in
        (picked_branch T t x.path (stated_picked T t G u x.path ((way.left k d less).stated u way.least.is_opening_side))).pairs)
