-- A branch that has a next pair has room for one more step.
use Rattle.std.proofs.Common.{ℕ, ◌-◌, ◌*◌, ◌/◌, ◌<◌, ◌≤◌, List, [], ◌∷◌, ◌++◌, length, arith}
use Rattle.std.proofs.Math.Nat.{mul-le-mul}
use Rattle.std.proofs.lemmas.List.{length_push}
use Rattle.bp_base.specs.declared.path.Choice.TheVariants.{Left}
use Rattle.bp_base.specs.declared.path.Pair.{Pair}
use Rattle.bp_base.specs.declared.path.Step.{Step}
use Rattle.bp_base.specs.Limits.{most_leaves, most_steps}
use Rattle.bp_base.specs.Tree.{TreeValue, IsTree, leaf_count}
use Rattle.bp_metric.specs.Next.{IsNextPair}
use Rattle.bp_branch.specs.Branches.{IsBranch}
use Rattle.bp_branch.proofs.Picked.{branch_short, longer_branch}

-- 32 leaves have 496 pairs
pairs_few : (n : ℕ) → n ≤ most_leaves → n * (n - 1) / 2 ≤ 496
pairs_few n few =
    let less : n - 1 ≤ 31 = omega arith in
    let product : n * (n - 1) ≤ 32 * 31 = mul-le-mul few less in
    omega (arith, product)

pub branch_room : (T : TreeValue) → IsTree T → (path : List Step) → IsBranch T path → (p : Pair) → IsNextPair T path p → length path < most_steps
branch_room T t path branch p next =
    let s : Step = record { pair = p; choice = Left } in
    let short = branch_short T t (path ++ s ∷ []) (longer_branch T t path s branch next) in
    omega (arith, short, length_push path s, pairs_few (leaf_count T) t.leaves_few)
