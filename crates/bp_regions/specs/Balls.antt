-- The balls of all edges in one list, and where balls end on an axis.
use Rattle.std.specs.Prelude.{ℕ, ◌≡◌, ◌+◌, ◌-◌, ◌*◌, ◌<◌, ◌≤◌, min, ◌==◌, List, [], ◌∷◌, length, map, slice_index_or, if◌then◌else◌, All}
use Rattle.std.specs.List.{flat_map, range_with_len, Contains}
use Rattle.std.specs.List.Sorted.{IsStrictlyIncreasing}
use Rattle.bp_base.specs.declared.point.Axis.{Axis}
use Rattle.bp_base.specs.declared.point.Axis.TheVariants.{X, Y}
use Rattle.bp_base.specs.declared.point.Point.{Point}
use Rattle.bp_base.specs.Point.{point_at, origin, IsSmallPoint}
use Rattle.bp_base.specs.Tree.{TreeValue, edges, leaf_count}
use Rattle.bp_metric.specs.Distance.{leaf_below, radius, most_distance}
use Rattle.bp_regions.specs.declared.ball.Ball.{Ball}
use Rattle.bp_regions.specs.declared.span.Span.{Span}
use Rattle.bp_regions.specs.Cells.{IsInBall}

-- the ball of a leaf for an edge; it is empty where the leaf isn't below the edge
abbrev pub ball_of : TreeValue → List Point → ℕ → ℕ → Ball
ball_of T P e i = record { at = point_at P i; radius = if leaf_below T i e then radius T i e else 0 }

-- the balls of all leaves for an edge
abbrev pub row_of : TreeValue → List Point → ℕ → List Ball
row_of T P e = map (ball_of T P e) (range_with_len 1 (leaf_count T))

unfoldable pub balls_of : TreeValue → List Point → List Ball
balls_of T P = flat_map (row_of T P) (edges T)

abbrev pub IsSmallBall : Ball → Type 0
IsSmallBall b = IsSmallPoint b.at × (b.radius ≤ most_distance)

abbrev pub no_ball : Ball
no_ball = record { at = origin; radius = 0 }

-- some of the balls holds the cell
pub record HoldsCell (balls : List Ball) (x y : ℕ) : Type 0 where
  pub at : ℕ
  pub within : at < length balls
  pub near : IsInBall (slice_index_or balls at no_ball).at (slice_index_or balls at no_ball).radius x y

-- from the start on, of so many balls, the span leaves only empty ones out
pub record IsSpan (balls : List Ball) (start each : ℕ) (s : Span) : Type 0 where
  pub after : start ≤ s.start
  pub before : s.start + s.count ≤ start + each
  pub first : (k : ℕ) → start ≤ k → k < s.start → (slice_index_or balls k no_ball).radius ≡ 0
  pub last : (k : ℕ) → s.start + s.count ≤ k → k < start + each → (slice_index_or balls k no_ball).radius ≡ 0

abbrev pub no_span : Span
no_span = record { start = 0; count = 0 }

-- a span for each row of so many balls
abbrev pub AreSpans : List Ball → ℕ → List Span → Type 0
AreSpans balls each spans =
    (k : ℕ) → k * each + each ≤ length balls → (k < length spans) × IsSpan balls (k * each) each (slice_index_or spans k no_span)

abbrev pub along : Axis → Point → ℕ
along X p = p.x
along Y p = p.y

-- where a ball begins and ends on an axis, as far as it lies on the sheet of side S
abbrev pub ends_of : ℕ → Axis → Ball → List ℕ
ends_of S axis b = if b.radius == 0 then [] else min (along axis b.at - b.radius) S ∷ min (along axis b.at + b.radius) S ∷ []

-- the rising list of 0, the side and all ends
pub record AreEnds (S : ℕ) (axis : Axis) (balls : List Ball) (cuts : List ℕ) : Type 0 where
  pub rising : IsStrictlyIncreasing cuts
  pub within : All (λ c. c ≤ S) cuts
  pub zero : Contains cuts 0
  pub side : Contains cuts S
  pub ends : All (λ b. All (Contains cuts) (ends_of S axis b)) balls
