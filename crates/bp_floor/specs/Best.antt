-- How floors compare while the best one is looked for.
use Rattle.std.specs.Prelude.{◌≡◌, ◌⊎◌, ℕ, ◌<◌, ◌≤◌, List, length, slice_index}
use Rattle.bp_base.specs.declared.point.Floor.{Floor}
use Rattle.bp_base.specs.declared.point.Sheet.{Sheet}
use Rattle.bp_base.specs.Tree.{TreeValue}
use Rattle.bp_metric.specs.Distance.{leaf_dist}
use Rattle.bp_metric.specs.Valid.{IsPair}
use Rattle.bp_metric.specs.Floor.{FloorHolds, floor_at}
use Rattle.bp_floor.specs.Small.{IsSmall}

-- f has a greater side, or the same side and no greater m
abbrev pub IsBetter : Floor → Floor → Type 0
IsBetter f g = (g.side < f.side) ⊎ ((f.side ≡ g.side) × (f.m ≤ g.m))

-- a rising list of some of the first n leaves, pairwise m apart
pub record AreApart (T : TreeValue) (m n : ℕ) (leaves : List ℕ) : Type 0 where
  pub leaf : (k : ℕ) → k < length leaves → (1 ≤ slice_index leaves k) × (slice_index leaves k ≤ n)
  pub rising : (k l : ℕ) → k < l → l < length leaves → slice_index leaves k < slice_index leaves l
  pub far : (k l : ℕ) → k < l → l < length leaves → m ≤ leaf_dist T (slice_index leaves k) (slice_index leaves l)
  pub few : length leaves ≤ n
  pub some : 1 ≤ n → 1 ≤ length leaves

-- f is the floor of some leaf distance, and it holds
pub record IsFound (T : TreeValue) (G : Sheet) (f : Floor) : Type 0 where
  pub i : ℕ
  pub j : ℕ
  pub pair : IsPair T i j
  pub is : f ≡ floor_at T G (leaf_dist T i j)
  pub holds : FloorHolds T G f
  pub small : IsSmall f
