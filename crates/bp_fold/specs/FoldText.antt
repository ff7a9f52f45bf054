-- The FOLD text of a drawing: one JSON object without spaces, and LF.
use Rattle.std.specs.Prelude.{ℕ, ◌==◌, List, [], ◌∷◌, ◌++◌, map, decimal, codes, if◌then◌else◌}
use Rattle.std.specs.List.{join_with_byte}
use Rattle.bp_base.specs.declared.point.Point.{Point}
use Rattle.bp_fold.specs.declared.drawing.Drawing.{Drawing}
use Rattle.bp_fold.specs.declared.drawing.Edge.{Edge}
use Rattle.bp_fold.specs.declared.drawing.Letter.{Letter}
use Rattle.bp_fold.specs.declared.drawing.Letter.TheVariants.{Boundary, Unassigned}

-- two numbers as a JSON list
abbrev pub pair_text : ℕ → ℕ → List ℕ
pair_text a b = codes "[" ++ decimal a ++ codes "," ++ decimal b ++ codes "]"

abbrev pub point_text : Point → List ℕ
point_text p = pair_text p.x p.y

abbrev pub edge_text : Edge → List ℕ
edge_text e = pair_text e.from e.to

abbrev pub letter_text : Letter → List ℕ
letter_text Boundary = codes "\"B\""
letter_text Unassigned = codes "\"U\""

-- parts with a comma between each two
abbrev pub commas : List (List ℕ) → List ℕ
commas parts = join_with_byte 44 parts

-- what stands before the part of this number
abbrev pub lead_text : ℕ → List ℕ
lead_text k = if k == 0 then [] else 44 ∷ []

-- all before the vertices
unfoldable pub head_text : List ℕ
head_text = codes "{\"file_spec\":1.1,\"file_creator\":\"boxpleat\",\"file_classes\":[\"singleModel\"],\"frame_classes\":[\"creasePattern\"],\"frame_attributes\":[\"2D\"],\"frame_unit\":\"unit\",\"vertices_coords\":["

unfoldable pub edges_head : List ℕ
edges_head = codes "],\"edges_vertices\":["

unfoldable pub letters_head : List ℕ
letters_head = codes "],\"edges_assignment\":["

unfoldable pub last_text : List ℕ
last_text = codes "]}\n"

unfoldable pub fold_text : Drawing → List ℕ
fold_text D =
    head_text ++ commas (map point_text D.vertices) ++ edges_head ++ commas (map edge_text D.edges) ++ letters_head
    ++ commas (map letter_text D.letters) ++ last_text
