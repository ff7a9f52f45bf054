-- Paths of different pairs of leaves: one step more, and how long they are.
use Rattle.std.proofs.Common.{◌≢◌, ℕ, ◌-◌, ◌*◌, ◌/◌, ◌<◌, ◌≤◌, List, [], ◌∷◌, ◌++◌, length, get_or, refl, sym, ap, ◌∙◌, arith}
use Rattle.std.proofs.Math.Nat.{mul-le-mul}
use Rattle.std.proofs.lemmas.List.{get_or_append_left, get_or_at, get_or_default, length_push}
use Rattle.std.proofs.lemmas.List.Elements.{All-push}
use Rattle.std.proofs.lemmas.List.Quantifiers.{all_pairs_push}
use Rattle.bp_base.specs.declared.path.Choice.{Choice}
use Rattle.bp_base.specs.declared.path.Choice.TheVariants.{Left}
use Rattle.bp_base.specs.declared.path.Pair.{Pair}
use Rattle.bp_base.specs.declared.path.Step.{Step}
use Rattle.bp_base.specs.Limits.{most_leaves, most_steps}
use Rattle.bp_base.specs.Path.{IsPairOf}
use Rattle.bp_base.specs.Tree.{TreeValue, IsTree, leaf_count}
use Rattle.bp_metric.specs.Chains.{HasCycle}
use Rattle.bp_metric.specs.Next.{IsNextPair}
use Rattle.bp_metric.specs.Refutation.{CanSplit, extended}
use Rattle.bp_branch.specs.Branches.{IsBranch}
use Rattle.bp_branch.proofs.Picked.{differing_short, longer_branch}
use Rattle.bp_written.specs.Told.{IsOfPairs}

pub no_pairs : (T : TreeValue) → IsOfPairs T []
no_pairs T = record {
  pairs = λ k d less. absurd (omega (arith, less));
  differ = λ i j d less within. absurd (omega (arith, within));
}

pub longer_pairs : (T : TreeValue) (path : List Step) (p : Pair) (c : Choice) → IsOfPairs T path → CanSplit T path p → IsOfPairs T (extended path p c)
longer_pairs T path p c of can =
    let s : Step = record { pair = p; choice = c } in
    record {
      pairs = All-push (λ (r : Step). IsPairOf (leaf_count T) r.pair) path s of.pairs can.pair;
      differ = all_pairs_push (λ (r q : Step). r.pair ≢ q.pair) path s of.differ (λ k d less same. can.new (k, get_or path k d, less, get_or_default path k (get_or path k d) d less, same));
    }

-- 32 leaves have 496 pairs
pairs_few : (n : ℕ) → n ≤ most_leaves → n * (n - 1) / 2 ≤ 496
pairs_few n few =
    let less : n - 1 ≤ 31 = omega (arith, few) in
    let product : n * (n - 1) ≤ 32 * 31 = mul-le-mul few less in
    omega (arith, product)

pub pairs_short : (T : TreeValue) → IsTree T → (path : List Step) → IsOfPairs T path → length path ≤ most_steps
pairs_short T t path of = omega (arith, differing_short T t path of.pairs of.differ, pairs_few (leaf_count T) t.leaves_few)

-- there is room for one step more
pub pairs_room : (T : TreeValue) → IsTree T → (path : List Step) (p : Pair) → IsOfPairs T path → CanSplit T path p → length path < most_steps
pairs_room T t path p of can =
    let s : Step = record { pair = p; choice = Left } in
    omega (arith, pairs_short T t (extended path p Left) (longer_pairs T path p Left of can), length_push path s)

-- the next pair of a path of different pairs without a cycle isn't on it
pub next_can : (T : TreeValue) → IsTree T → (path : List Step) → IsOfPairs T path → (HasCycle (leaf_count T) path → ⊥) → (p : Pair) → IsNextPair T path p → CanSplit T path p
next_can T t path of no_cycle p next = record {
  pair = next.pair;
  new = λ (k, x, less, at, same).
      longer.differ k (length path) s less (omega (arith, length_push path s))
      (ap (λ (r : Step). r.pair) (get_or_append_left path (s ∷ []) s k less ∙ get_or_default path k s x less ∙ at) ∙ same ∙ sym (ap (λ (r : Step). r.pair) (get_or_at path s [] s (length path) refl)));
}
  where
    s : Step
    s = record { pair = p; choice = Left }

    longer : IsBranch T (path ++ s ∷ [])
    longer = longer_branch T t path s (record { pairs = of.pairs; differ = of.differ; no_cycle = no_cycle }) next
