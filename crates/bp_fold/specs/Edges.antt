-- Edges: straight runs of drawn segments between two vertices with no vertex inside; and the letter of each.
use Rattle.std.specs.Prelude.{◌≡◌, ◌⊎◌, ℕ, ◌<◌, ◌≤◌, ◌==◌, ◌&&◌, ◌||◌, Bool, List, length, slice_index_or, if◌then◌else◌}
use Rattle.bp_base.specs.declared.point.Axis.TheVariants.{X, Y}
use Rattle.bp_base.specs.declared.point.Point.{Point}
use Rattle.bp_base.specs.Point.{origin}
use Rattle.bp_regions.specs.Regions.{RegionsValue}
use Rattle.bp_fold.specs.declared.drawing.Edge.{Edge}
use Rattle.bp_fold.specs.declared.drawing.Letter.{Letter}
use Rattle.bp_fold.specs.declared.drawing.Letter.TheVariants.{Boundary, Unassigned}
use Rattle.bp_fold.specs.Segments.{IsDrawn}
use Rattle.bp_fold.specs.Vertices.{IsPairBefore, IsVertex}

-- every unit segment from p to the right to q is drawn, and no point strictly between them is a vertex
pub record RunsRight (R : RegionsValue) (p q : Point) : Type 0 where
  pub level : p.y ≡ q.y
  pub order : p.x < q.x
  pub drawn : (x : ℕ) → p.x ≤ x → x < q.x → IsDrawn R X x p.y
  pub free : (x : ℕ) → p.x < x → x < q.x → ¬ IsVertex R (record { x = x; y = p.y })

-- the same from p upwards to q
pub record RunsUp (R : RegionsValue) (p q : Point) : Type 0 where
  pub upright : p.x ≡ q.x
  pub order : p.y < q.y
  pub drawn : (y : ℕ) → p.y ≤ y → y < q.y → IsDrawn R Y p.x y
  pub free : (y : ℕ) → p.y < y → y < q.y → ¬ IsVertex R (record { x = p.x; y = y })

-- from one of the two points to the other
abbrev pub AreJoined : RegionsValue → Point → Point → Type 0
AreJoined R p q = RunsRight R p q ⊎ RunsRight R q p ⊎ RunsUp R p q ⊎ RunsUp R q p

abbrev pub vertex_at : List Point → ℕ → Point
vertex_at vertices k = slice_index_or vertices k origin

-- the vertices of these two numbers are an edge; the smaller number comes first
abbrev pub IsEdgeOf : RegionsValue → List Point → Edge → Type 0
IsEdgeOf R vertices e = (e.from < e.to) × (e.to < length vertices) × AreJoined R (vertex_at vertices e.from) (vertex_at vertices e.to)

-- the order of edges, by their two numbers
abbrev pub GoesBefore : Edge → Edge → Type 0
GoesBefore e f = IsPairBefore e.from e.to f.from f.to

-- the run between two points lies on the border of the square of side S
abbrev pub lies_on_border : ℕ → Point → Point → Bool
lies_on_border S p q = ((p.x == q.x) && ((p.x == 0) || (p.x == S))) || ((p.y == q.y) && ((p.y == 0) || (p.y == S)))

abbrev pub letter_of : ℕ → List Point → Edge → Letter
letter_of S vertices e = if lies_on_border S (vertex_at vertices e.from) (vertex_at vertices e.to) then Boundary else Unassigned
