-- Corners and swaps: two leaves that are told apart, and exchanges of leaves that keep all distances and leave those two where they are.
use Rattle.std.specs.Prelude.{◌≡◌, ◌≢◌, ℕ, ◌-◌, ◌≤◌, ◌==◌, min, List, [], ◌∷◌, length, take, slice_index_or, flat_map, All, AllPairs, if◌then◌else◌}
use Rattle.bp_base.specs.declared.path.Pair.{Pair}
use Rattle.bp_base.specs.Tree.{TreeValue, IsLeaf}
use Rattle.bp_metric.specs.Distance.{leaf_dist}

-- a corner: two different leaves
abbrev pub IsCorner : TreeValue → ℕ → ℕ → Type 0
IsCorner T A B = IsLeaf T A × IsLeaf T B × (A ≢ B)

-- a swap exchanges at most so many pairs
abbrev pub most_pairs : ℕ
most_pairs = 16

-- the leaves that a swap exchanges
abbrev pub leaves_of : List Pair → List ℕ
leaves_of swap = flat_map (λ p. p.i ∷ p.j ∷ []) swap

-- where a swap sends leaf k
unfoldable pub sent : List Pair → ℕ → ℕ
sent [] k = k
sent (p ∷ rest) k = if k == p.i then p.j else (if k == p.j then p.i else sent rest k)

-- the least leaf that a swap exchanges
unfoldable pub least : List Pair → ℕ
least [] = 0
least (p ∷ []) = min p.i p.j
least (p ∷ r ∷ rest) = min (min p.i p.j) (least (r ∷ rest))

-- the pair that holds the least leaf, that leaf first
abbrev pub head : List Pair → Pair
head swap = record { i = least swap; j = sent swap (least swap) }

-- a swap of the tree's leaves: they are all different, and all distances are kept
pub record IsSwap (T : TreeValue) (swap : List Pair) : Type 0 where
  pub some : 1 ≤ length swap
  pub few : length swap ≤ most_pairs
  pub leaves : All (IsLeaf T) (leaves_of swap)
  pub differ : AllPairs (λ i j. i ≢ j) (leaves_of swap)
  pub keeps : (i j : ℕ) → IsLeaf T i → IsLeaf T j → leaf_dist T (sent swap i) (sent swap j) ≡ leaf_dist T i j

-- one that moves neither leaf of the corner
pub record IsAdmissible (T : TreeValue) (A B : ℕ) (swap : List Pair) : Type 0 where
  pub swaps : IsSwap T swap
  pub corner : All (λ k. (k ≢ A) × (k ≢ B)) (leaves_of swap)

-- the first swap, counted from 1, that isn't admissible
pub record IsFirstBadSwap (T : TreeValue) (A B : ℕ) (swaps : List (List Pair)) (n : ℕ) : Type 0 where
  pub among : (1 ≤ n) × (n ≤ length swaps)
  pub earlier : All (IsAdmissible T A B) (take (n - 1) swaps)
  pub bad : IsAdmissible T A B (slice_index_or swaps (n - 1) []) → ⊥
