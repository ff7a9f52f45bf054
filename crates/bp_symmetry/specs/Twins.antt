-- The last move: among late twins points are sorted and handed out in leaf order.
use Rattle.std.specs.Prelude.{◌≡◌, ◌≢◌, ◌⊎◌, ℕ, ◌+◌, ◌<◌, ◌≤◌, IsTrue, List, length, map, filter}
use Rattle.std.specs.List.{range_with_len}
use Rattle.bp_base.specs.declared.path.Pair.{Pair}
use Rattle.bp_base.specs.declared.point.Point.{Point}
use Rattle.bp_base.specs.Bags.{AreSame}
use Rattle.bp_base.specs.Path.{IsPairOf}
use Rattle.bp_base.specs.Tree.{TreeValue, leaf_count, IsLeaf}
use Rattle.bp_base.specs.Point.{point_at}
use Rattle.bp_metric.specs.Choices.{are_late_twins}

-- p stands after r in the order by (x + y, x, y)
abbrev pub IsAfter : Point → Point → Type 0
IsAfter p r =
    (r.x + r.y < p.x + p.y) ⊎ ((p.x + p.y ≡ r.x + r.y) × ((r.x < p.x) ⊎ ((p.x ≡ r.x) × (r.y < p.y))))

abbrev pub pair_of : ℕ → ℕ → Pair
pair_of i j = record { i = i; j = j }

-- leaf i and its late twins, in order; none where i is numbered less than 4
abbrev pub late_class : TreeValue → ℕ → List ℕ
late_class T i = filter (λ k. are_late_twins T (pair_of i k)) (range_with_len 1 (leaf_count T))

-- the points of these leaves
abbrev pub points_of : List Point → List ℕ → List Point
points_of P leaves = map (point_at P) leaves

-- Q is P handed out anew: each leaf numbered less than 4 has its own point, and late twins have their points among them, sorted in leaf order.
pub record IsHandedOut (T : TreeValue) (P Q : List Point) : Type 0 where
  pub each : length Q ≡ length P
  pub early : (i : ℕ) → IsLeaf T i → i < 4 → point_at Q i ≡ point_at P i
  pub same : (i : ℕ) → IsLeaf T i → AreSame (points_of P (late_class T i)) (points_of Q (late_class T i))
  pub sorted :
      (p : Pair)
      → IsPairOf (leaf_count T) p
      → IsTrue (are_late_twins T p)
      → IsAfter (point_at Q p.i) (point_at Q p.j)
      → ⊥
