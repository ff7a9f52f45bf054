-- The text of a certificate.
use Rattle.std.specs.Prelude.{ℕ, List, [], ◌∷◌, ◌++◌, length, decimal, codes, Option, None, Some}
use Rattle.std.specs.List.{flat_map}
use Rattle.bp_base.specs.declared.path.Pair.{Pair}
use Rattle.bp_base.specs.declared.point.Sheet.{Sheet}
use Rattle.bp_document.specs.Lines.{line, sheet_line, floor_line}
use Rattle.bp_document.specs.Text.{edge_lines, point_lines}
use Rattle.bp_document.specs.Forms.{version_line, end_line}
use Rattle.bp_certificate.specs.declared.certificate.Certificate.{Certificate}
use Rattle.bp_certificate.specs.declared.certificate.Lemmas.{Lemmas}
use Rattle.bp_certificate.specs.Lines.{lemma_line, swap_line, swaps_line, corner_line, count_line, mirror_line}

-- the lines before those of the edges
unfoldable pub opening_text : Sheet → List ℕ
opening_text G = version_line 3 ++ (sheet_line G ++ mirror_line)

unfoldable pub swap_lines : List (List Pair) → List ℕ
swap_lines swaps = swaps_line (length swaps) ++ flat_map swap_line swaps

unfoldable pub search_text : Lemmas → List ℕ
search_text L = count_line (Some (length L.lemmas)) ++ (corner_line L.corner ++ (swap_lines L.swaps ++ flat_map lemma_line L.lemmas))

abbrev pub lemmas_text : Option Lemmas → List ℕ
lemmas_text None = count_line None
lemmas_text (Some L) = search_text L

-- the lines from those of the edges on to those of the points
unfoldable pub places_text : Certificate → List ℕ
places_text C =
    edge_lines C.tree ++ (line (codes "side") (decimal C.side ∷ []) ++ (line (codes "bound") (decimal C.bound ∷ []) ++ point_lines C.tree C.points))

unfoldable pub certificate_text : Certificate → List ℕ
certificate_text C = opening_text C.sheet ++ (places_text C ++ (floor_line C.floor ++ (lemmas_text C.lemmas ++ end_line)))
