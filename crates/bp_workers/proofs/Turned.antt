-- What judging a task's path tells of its record: its kind, its offer, and that its children are of different pairs of leaves.
use Rattle.std.proofs.Common.{◌≡◌, ◌≢◌, inl, inr, ℕ, ◌≤◌, Bool, true, false, if◌then◌else◌, List, [], ◌∷◌, length, get_or, All, AllPairs, Option, None, Some, sym, ap, ◌∙◌, arith}
use Rattle.std.proofs.lemmas.List.{length-map}
use Rattle.std.proofs.lemmas.List.Elements.{All-map}
use Rattle.std.proofs.lemmas.Option.{get_or_from_slice_get, slice_get-get_or, slice_get_within}
use Rattle.bp_base.specs.declared.path.Choice.{Choice}
use Rattle.bp_base.specs.declared.path.Choice.TheVariants.{Left, Right, Below, Above}
use Rattle.bp_base.specs.declared.path.Pair.{Pair}
use Rattle.bp_base.specs.declared.path.Step.{Step}
use Rattle.bp_base.specs.declared.point.Placement.{Placement}
use Rattle.bp_base.specs.declared.point.Sheet.{Sheet}
use Rattle.bp_base.specs.declared.point.Sheet.TheVariants.{Square, Strip}
use Rattle.bp_base.specs.declared.record.Record.{Record}
use Rattle.bp_base.specs.declared.record.RecordKind.{RecordKind}
use Rattle.bp_base.specs.declared.record.RecordKind.TheVariants.{Closed, Split}
use Rattle.bp_base.specs.Tree.{TreeValue, IsTree, leaf_count}
use Rattle.bp_metric.specs.Chains.{HasCycle}
use Rattle.bp_metric.specs.Choices.{allowed, allowed_later, are_late_twins, is_pair_of}
use Rattle.bp_metric.specs.Next.{IsNextPair}
use Rattle.bp_metric.specs.Refutation.{extended}
use Rattle.bp_branch.specs.Branches.{IsBranch}
use Rattle.bp_branch.proofs.Picked.{longer_branch}
use Rattle.bp_pool.specs.Shares.{HasDifferentPairs, IsTaskOf}
use Rattle.bp_turn.specs.Turns.{IsFoundOrCyclic, child, tasks_of}
use Rattle.bp_turn.proofs.Forced.{one_forced}
use Rattle.bp_workers.specs.Worked.{HasKind, IsOffer}
use Rattle.bp_workers.proofs.Underway.{shows_cycle}

-- different pairs, in both forms
pub pairs_differ : (path : List Step) → HasDifferentPairs path → AllPairs (λ (s t : Step). s.pair ≢ t.pair) path
pairs_differ path different i j d less within =
    different i j (get_or path i d) (get_or path j d) less (slice_get-get_or path i d (omega (arith, less, within))) (slice_get-get_or path j d within)

differ_pairs : (path : List Step) → AllPairs (λ (s t : Step). s.pair ≢ t.pair) path → HasDifferentPairs path
differ_pairs path differ i j s t less at_i at_j same =
    let one : get_or path i s ≡ s = get_or_from_slice_get path i s s at_i in
    let other : get_or path j s ≡ t = get_or_from_slice_get path j t s at_j in
    differ i j s less (slice_get_within path j t at_j) (ap (λ (x : Step). x.pair) one ∙ same ∙ sym (ap (λ (x : Step). x.pair) other))

-- a pair has at most four choices
few_of : (b : Bool) (xs ys : List Choice) → length xs ≤ 4 → length ys ≤ 4 → length (if b then xs else ys) ≤ 4
few_of true xs ys one other = one
few_of false xs ys one other = other

later_few : (T : TreeValue) (p : Pair) → length (allowed_later T p) ≤ 4
later_few T p = few_of (are_late_twins T p) (Left ∷ Below ∷ []) (Left ∷ Right ∷ Below ∷ Above ∷ []) (omega arith) (omega arith)

allowed_few : (T : TreeValue) (G : Sheet) (p : Pair) → length (allowed T G p) ≤ 4
unfolding allowed
allowed_few T Square p =
    few_of (is_pair_of 1 2 p) (Left ∷ []) (if is_pair_of 1 3 p then Left ∷ Right ∷ Below ∷ [] else allowed_later T p) (omega arith) (few_of (is_pair_of 1 3 p) (Left ∷ Right ∷ Below ∷ []) (allowed_later T p) (omega arith) (later_few T p))
allowed_few T (Strip width) p =
    few_of (is_pair_of 1 2 p) (Left ∷ Below ∷ []) (allowed_later T p) (omega arith) (later_few T p)

pub tasks_few : (T : TreeValue) (G : Sheet) (path : List Step) (bound : ℕ) (kind : RecordKind) → length (tasks_of T G path bound kind) ≤ 4
tasks_few T G path bound (Split p) = omega (arith, length-map (allowed T G p) (child path bound p), allowed_few T G p)
tasks_few T G path bound (Closed claim) = omega arith

-- what a placement makes its worker offer
abbrev pub offer_of : Option Placement → Option ℕ
offer_of None = None
offer_of (Some p) = Some p.side

abbrev pub record_of : List Step → RecordKind → ℕ → ℕ → ℕ → Record
record_of path kind ticket given bound = record { path = path; kind = kind; ticket = ticket; given = given; bound = bound }

module _ (T : TreeValue) (G : Sheet) (path : List Step) (ticket given bound : ℕ) where
  pub judged_kind : (kind : RecordKind) (placement : Option Placement) → IsFoundOrCyclic T G path bound kind placement → HasKind T G (record_of path kind ticket given bound)
  judged_kind (Split p) None (inl (no_cycle, is)) = is
  judged_kind (Split p) (Some q) (inl (no_cycle, is)) = absurd is
  judged_kind (Split p) placement (inr is) = absurd is
  judged_kind (Closed claim) None (inl (no_cycle, is)) = inr (inl is)
  judged_kind (Closed claim) (Some q) (inl (no_cycle, is)) = inr (inr (q.side, (is.0, is.1)))
  judged_kind (Closed claim) None (inr is) = inl is
  judged_kind (Closed claim) (Some q) (inr is) = absurd is

  pub judged_offer : (kind : RecordKind) (placement : Option Placement) → IsFoundOrCyclic T G path bound kind placement → IsOffer T G (record_of path kind ticket given bound) (offer_of placement)
  judged_offer (Split p) None (inl (no_cycle, is)) = λ side forces. forces.solved.no_next p is.1.pair is.1.near
  judged_offer (Split p) (Some q) (inl (no_cycle, is)) = absurd is
  judged_offer (Split p) placement (inr is) = absurd is
  judged_offer (Closed claim) None (inl (no_cycle, is)) =
      λ side forces. omega (arith, is.1.enough, forces.solved.below, one_forced T path G side is.1.side forces.solved.forced is.1.forced)
  judged_offer (Closed claim) (Some q) (inl (no_cycle, is)) = record { no_cycle = no_cycle; solved = is.1 }
  judged_offer (Closed claim) None (inr is) = λ side forces. forces.no_cycle (shows_cycle (leaf_count T) path claim is)
  judged_offer (Closed claim) (Some q) (inr is) = absurd is

  module _ (t : IsTree T) (of_pairs : IsTaskOf (leaf_count T) (record { path = path; bound = given })) where
    child_task : (p : Pair) (c : Choice) → (HasCycle (leaf_count T) path → ⊥) → IsNextPair T path p → IsTaskOf (leaf_count T) (child path bound p c)
    child_task p c no_cycle next =
        let branch : IsBranch T path = record { pairs = of_pairs.pairs; differ = pairs_differ path of_pairs.different; no_cycle = no_cycle } in
        let longer = longer_branch T t path (record { pair = p; choice = c }) branch next in
        record { pairs = longer.pairs; different = differ_pairs (extended path p c) longer.differ }

    pub judged_tasks : (kind : RecordKind) (placement : Option Placement) → IsFoundOrCyclic T G path bound kind placement → All (IsTaskOf (leaf_count T)) (tasks_of T G path bound kind)
    judged_tasks (Split p) None (inl (no_cycle, is)) =
        All-map (IsTaskOf (leaf_count T)) (child path bound p) (allowed T G p) (λ k d less. child_task p (get_or (allowed T G p) k d) no_cycle is.1)
    judged_tasks (Split p) (Some q) (inl (no_cycle, is)) = absurd is
    judged_tasks (Split p) placement (inr is) = absurd is
    judged_tasks (Closed claim) placement is = λ k d less. absurd (omega (arith, less))
