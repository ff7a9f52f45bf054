-- Mirrors: pairs of leaves, a left and a right one, whose exchange keeps all distances. A leaf in no pair lies on the line of symmetry.
use Rattle.std.specs.Prelude.{◌≡◌, ◌≢◌, ℕ, ◌≤◌, List, length, All, AllPairs}
use Rattle.bp_base.specs.declared.path.Pair.{Pair}
use Rattle.bp_base.specs.Tree.{TreeValue, IsLeaf}
use Rattle.bp_metric.specs.Distance.{leaf_dist}
use Rattle.bp_arrangement.specs.Swaps.{leaves_of, sent, most_pairs}

-- Of each pair the first leaf is a left one, and the second its right one.
pub record IsMirror (T : TreeValue) (mirror : List Pair) : Type 0 where
  pub few : length mirror ≤ most_pairs
  pub leaves : All (IsLeaf T) (leaves_of mirror)
  pub differ : AllPairs (λ i j. i ≢ j) (leaves_of mirror)
  pub keeps : (i j : ℕ) → IsLeaf T i → IsLeaf T j → leaf_dist T (sent mirror i) (sent mirror j) ≡ leaf_dist T i j

-- the leaf is in no pair
abbrev pub IsOnAxis : List Pair → ℕ → Type 0
IsOnAxis mirror k = All (λ i. i ≢ k) (leaves_of mirror)
