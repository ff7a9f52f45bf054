-- Near pairs by coordinates, one for each leaf, and the best among those before a pair.
use Rattle.std.specs.Prelude.{◌≡◌, ◌⊎◌, ℕ, ◌-◌, ◌<◌, ◌≤◌, max, List, slice_index, Option, None, Some}
use Rattle.std.specs.Int.{abs_diff}
use Rattle.bp_base.specs.declared.path.Pair.{Pair}
use Rattle.bp_base.specs.Tree.{TreeValue}
use Rattle.bp_metric.specs.Distance.{leaf_dist}
use Rattle.bp_metric.specs.Valid.{IsPair}

-- the coordinate of leaf i
abbrev pub of_leaf : List ℕ → ℕ → ℕ
of_leaf coordinates i = slice_index coordinates (i - 1)

-- leaves i and j are nearer than their distance
abbrev pub AreNear : TreeValue → List ℕ → List ℕ → ℕ → ℕ → Type 0
AreNear T xs ys i j = max (abs_diff (of_leaf xs i) (of_leaf xs j)) (abs_diff (of_leaf ys i) (of_leaf ys j)) < leaf_dist T i j

-- the place (i, j) in the order of pairs is past the pair (k, l), whose number is less
abbrev pub IsPast : ℕ → ℕ → ℕ → ℕ → Type 0
IsPast i j k l = (k < i) ⊎ ((k ≡ i) × (l < j))

-- p is the near pair of greatest distance before (i, j), and of least number among those
pub record IsFarthest (T : TreeValue) (xs ys : List ℕ) (i j : ℕ) (p : Pair) : Type 0 where
  pub pair : IsPair T p.i p.j
  pub before : IsPast i j p.i p.j
  pub near : AreNear T xs ys p.i p.j
  pub most : (k l : ℕ) → IsPair T k l → IsPast i j k l → AreNear T xs ys k l → leaf_dist T k l ≤ leaf_dist T p.i p.j
  pub first :
      (k l : ℕ)
      → IsPair T k l
      → AreNear T xs ys k l
      → leaf_dist T k l ≡ leaf_dist T p.i p.j
      → IsPast p.i p.j k l
      → ⊥

-- that pair, or none where no pair before (i, j) is near
abbrev pub IsBest : TreeValue → List ℕ → List ℕ → ℕ → ℕ → Option Pair → Type 0
IsBest T xs ys i j None = (k l : ℕ) → IsPair T k l → IsPast i j k l → AreNear T xs ys k l → ⊥
IsBest T xs ys i j (Some p) = IsFarthest T xs ys i j p
