-- The drawing of regions: its vertices, its edges and their letters, each list with nothing else in it and in its order.
use Rattle.std.specs.Prelude.{◌≡◌, ◌↔◌, map}
use Rattle.std.specs.List.{AllPairs, Contains}
use Rattle.bp_base.specs.declared.point.Point.{Point}
use Rattle.bp_regions.specs.Regions.{RegionsValue}
use Rattle.bp_fold.specs.declared.drawing.Drawing.{Drawing}
use Rattle.bp_fold.specs.declared.drawing.Edge.{Edge}
use Rattle.bp_regions.specs.Contours.{ComesBefore}
use Rattle.bp_fold.specs.Vertices.{IsVertex}
use Rattle.bp_fold.specs.Edges.{GoesBefore, IsEdgeOf, letter_of}

pub record IsDrawing (R : RegionsValue) (D : Drawing) : Type 0 where
  pub vertices_rise : AllPairs ComesBefore D.vertices
  pub vertices : (p : Point) → (Contains D.vertices p ↔ IsVertex R p)
  pub edges_rise : AllPairs GoesBefore D.edges
  pub edges : (e : Edge) → (Contains D.edges e ↔ IsEdgeOf R D.vertices e)
  pub letters : D.letters ≡ map (letter_of R.side D.vertices) D.edges
