-- Box count floors: leaves that are pairwise at least m apart need a side.
use Rattle.std.specs.Prelude.{◌≡◌, ℕ, ◌+◌, ◌-◌, ◌*◌, ◌/◌, ◌<◌, ◌≤◌, List, [], ◌∷◌, ◌++◌, length, fold, find, unwrap_or, slice_index, nat_le, if◌then◌else◌}
use Rattle.std.specs.List.{list_all, range_with_len}
use Rattle.bp_base.specs.declared.point.Floor.{Floor}
use Rattle.bp_base.specs.declared.point.Sheet.{Sheet}
use Rattle.bp_base.specs.declared.point.Sheet.TheVariants.{Square, Strip}
use Rattle.bp_base.specs.Tree.{TreeValue, leaf_count, IsLeaf}
use Rattle.bp_metric.specs.Distance.{leaf_dist}
use Rattle.bp_metric.specs.Valid.{IsPair}

-- how many points pairwise m apart r rows of boxes hold: r to a row of a square, and as many to a row of a strip as its width has room for
abbrev pub room_of : Sheet → ℕ → ℕ → ℕ
room_of Square m r = r * r
room_of (Strip width) m r = r * (width / m + 1)

-- the least number of rows that hold K points; K rows do, so one is found
unfoldable pub rows_for : Sheet → ℕ → ℕ → ℕ
rows_for G m K = unwrap_or (find (λ r. nat_le K (room_of G m r)) (range_with_len 0 (K + 1))) 0

-- the side that K points need that are pairwise m apart
abbrev pub box_side : Sheet → ℕ → ℕ → ℕ
box_side G m K = m * (rows_for G m K - 1)

pub record FloorHolds (T : TreeValue) (G : Sheet) (f : Floor) : Type 0 where
  pub apart : 1 ≤ f.m
  pub some : 1 ≤ length f.leaves
  pub leaf : (k : ℕ) → k < length f.leaves → IsLeaf T (slice_index f.leaves k)
  pub rising : (k l : ℕ) → k < l → l < length f.leaves → slice_index f.leaves k < slice_index f.leaves l
  pub far : (k l : ℕ) → k < l → l < length f.leaves → f.m ≤ leaf_dist T (slice_index f.leaves k) (slice_index f.leaves l)
  pub side : f.side ≡ box_side G f.m (length f.leaves)

-- the leaves in order, each taken where it is at least m from all taken ones
unfoldable pub taken : TreeValue → ℕ → List ℕ
taken T m =
    fold (λ ls i. if list_all (λ k. nat_le m (leaf_dist T k i)) ls then ls ++ i ∷ [] else ls) [] (range_with_len 1 (leaf_count T))

abbrev pub floor_at : TreeValue → Sheet → ℕ → Floor
floor_at T G m = record { m = m; leaves = taken T m; side = box_side G m (length (taken T m)) }

-- f is the floor of greatest side over all leaf distances, and of least m among those
pub record IsFloor (T : TreeValue) (G : Sheet) (f : Floor) : Type 0 where
  pub i : ℕ
  pub j : ℕ
  pub pair : IsPair T i j
  pub is : f ≡ floor_at T G (leaf_dist T i j)
  pub greatest : (k l : ℕ) → IsPair T k l → (floor_at T G (leaf_dist T k l)).side ≤ f.side
  pub least : (k l : ℕ) → IsPair T k l → (floor_at T G (leaf_dist T k l)).side ≡ f.side → f.m ≤ leaf_dist T k l

-- l is the side of the floor, L0
pub record IsFloorSide (T : TreeValue) (G : Sheet) (l : ℕ) : Type 0 where
  pub floor : Floor
  pub is_floor : IsFloor T G floor
  pub is_side : l ≡ floor.side
