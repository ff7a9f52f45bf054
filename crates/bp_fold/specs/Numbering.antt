-- Vertices and edges as they are found on a mesh, one after another: a vertex is a crossing of lines, named by their numbers.
use Rattle.std.specs.Prelude.{ℕ, ◌<◌, List, [], ◌∷◌, map, Option, None, Some, length}
use Rattle.bp_base.specs.declared.point.Point.{Point}
use Rattle.bp_regions.specs.Regions.{RegionsValue}
use Rattle.bp_fold.specs.declared.drawing.Edge.{Edge}
use Rattle.bp_fold.specs.declared.mesh.Corner.{Corner}
use Rattle.bp_fold.specs.declared.mesh.Mesh.{Mesh}
use Rattle.bp_fold.specs.Edges.{IsEdgeOf, vertex_at}
use Rattle.bp_fold.specs.Listing.{ListsBefore}
use Rattle.bp_fold.specs.Meshes.{crossing}
use Rattle.bp_fold.specs.Vertices.{IsPairBefore, IsVertex}

abbrev pub corner_at : ℕ → ℕ → Corner
corner_at column row = record { column = column; row = row }

abbrev pub point_of : List ℕ → List ℕ → Corner → Point
point_of xs ys c = crossing xs ys c.column c.row

abbrev pub points_of : List ℕ → List ℕ → List Corner → List Point
points_of xs ys corners = map (point_of xs ys) corners

-- these lines cross at a vertex
abbrev pub IsCornerOf : RegionsValue → List ℕ → List ℕ → Corner → Type 0
IsCornerOf R xs ys c = (c.column < length xs) × (c.row < length ys) × IsVertex R (point_of xs ys c)

-- the order of crossings, by row and column
abbrev pub StandsBefore : Corner → Corner → Type 0
StandsBefore c d = IsPairBefore c.row c.column d.row d.column

-- all vertices that stand before this crossing
abbrev pub AreCornersBefore : RegionsValue → List ℕ → List ℕ → ℕ → ℕ → List Corner → Type 0
AreCornersBefore R xs ys row column corners =
    ListsBefore (λ (c : Corner). c.row) (λ (c : Corner). c.column) (IsCornerOf R xs ys) row column corners

-- all vertices
abbrev pub AreCorners : RegionsValue → List ℕ → List ℕ → List Corner → Type 0
AreCorners R xs ys corners = AreCornersBefore R xs ys (length ys) 0 corners

-- the number of the vertex to which a run goes from this one, or none
abbrev pub Leads : (Point → Point → Type 0) → List Point → ℕ → Option ℕ → Type 0
Leads Runs vertices from None = (to : ℕ) → to < length vertices → Runs (vertex_at vertices from) (vertex_at vertices to) → ⊥
Leads Runs vertices from (Some to) = (to < length vertices) × Runs (vertex_at vertices from) (vertex_at vertices to)

-- the edge that such a run makes
abbrev pub edge_to : ℕ → Option ℕ → List Edge
edge_to from None = []
edge_to from (Some to) = record { from = from; to = to } ∷ []

-- all edges whose two numbers come before these
abbrev pub AreEdgesBefore : RegionsValue → List Point → ℕ → ℕ → List Edge → Type 0
AreEdgesBefore R vertices from to edges =
    ListsBefore (λ (e : Edge). e.from) (λ (e : Edge). e.to) (IsEdgeOf R vertices) from to edges

-- the same of a mesh
abbrev pub HasCornersBefore : Mesh → ℕ → ℕ → List Corner → Type 0
HasCornersBefore m row column corners = AreCornersBefore m.regions.now m.xs.now m.ys.now row column corners

abbrev pub HasCorners : Mesh → List Corner → Type 0
HasCorners m corners = AreCorners m.regions.now m.xs.now m.ys.now corners

abbrev pub vertices_of : Mesh → List Corner → List Point
vertices_of m corners = points_of m.xs.now m.ys.now corners

abbrev pub HasEdgesBefore : Mesh → List Corner → ℕ → ℕ → List Edge → Type 0
HasEdgesBefore m corners from to edges = AreEdgesBefore m.regions.now (vertices_of m corners) from to edges
