-- What the tests of a swap decide one by one.
use Rattle.std.specs.Prelude.{◌≡◌, ◌≢◌, ℕ, ◌≤◌, List, AllPairs}
use Rattle.bp_base.specs.declared.path.Pair.{Pair}
use Rattle.bp_base.specs.Tree.{TreeValue, IsLeaf}
use Rattle.bp_metric.specs.Distance.{leaf_dist}
use Rattle.bp_arrangement.specs.Swaps.{leaves_of, sent}

-- both of the pair are numbers from 1 to n
abbrev pub AreLeavesOf : ℕ → Pair → Type 0
AreLeavesOf n p = ((1 ≤ p.i) × (p.i ≤ n)) × ((1 ≤ p.j) × (p.j ≤ n))

-- the pair names neither A nor B
abbrev pub IsApart : ℕ → ℕ → Pair → Type 0
IsApart A B p = ((p.i ≢ A) × (p.i ≢ B)) × ((p.j ≢ A) × (p.j ≢ B))

-- the pair doesn't name the leaf
abbrev pub IsWithout : ℕ → Pair → Type 0
IsWithout k p = (p.i ≢ k) × (p.j ≢ k)

abbrev pub AllDiffer : List Pair → Type 0
AllDiffer swap = AllPairs (λ i j. i ≢ j) (leaves_of swap)

-- the distances from leaf i are kept
abbrev pub KeepsFrom : TreeValue → List Pair → ℕ → Type 0
KeepsFrom T swap i = (j : ℕ) → IsLeaf T j → leaf_dist T (sent swap i) (sent swap j) ≡ leaf_dist T i j
