-- The text of a picture: SVG. Regions, grid, hinges and border are told in grid units as in the document, but y points down: what lies at y
-- stands at S - y. Dots and names are told in thousandths of a grid unit.
use Rattle.std.specs.Prelude.{ℕ, ◌+◌, ◌-◌, ◌*◌, ◌/◌, ◌%◌, max, min, nat_le, List, [], ◌∷◌, ◌++◌, length, decimal, codes, if◌then◌else◌}
use Rattle.std.specs.List.{flat_map, range_with_len}
use Rattle.bp_base.specs.declared.point.Point.{Point}
use Rattle.bp_base.specs.Point.{point_at}
use Rattle.bp_base.specs.Tree.{TreeValue, edges, leaf_count, leaf_node, length_of, name_of}
use Rattle.bp_contour.specs.declared.loops.Loop.{Loop}
use Rattle.bp_picture.specs.declared.fill.Fill.{Fill}
use Rattle.bp_picture.specs.declared.label.Label.{Label}
use Rattle.bp_picture.specs.declared.outline.Outline.{Outline}
use Rattle.bp_picture.specs.Fills.{fill_of}
use Rattle.bp_picture.specs.Labels.{label_of}
use Rattle.bp_picture.specs.Outlines.{outline_at}

-- the width of the picture in pixels
abbrev pub pixels : ℕ → ℕ
pixels S = min 2800 (max 840 (28 * S))

unfoldable pub size_text : ℕ → List ℕ
size_text S = codes "<svg xmlns=\"http://www.w3.org/2000/svg\" width=\"" ++ decimal (pixels S) ++ codes "\" height=\"" ++ decimal (pixels S) ++ codes "\""

-- The picture is wider than the sheet by 60 thousandths of the side on each border.
unfoldable pub corner_text : ℕ → List ℕ
corner_text S = codes " viewBox=\"-" ++ decimal (60 * S) ++ codes " -" ++ decimal (60 * S)

unfoldable pub extent_text : ℕ → List ℕ
extent_text S = codes " " ++ decimal (1120 * S) ++ codes " " ++ decimal (1120 * S) ++ codes "\">\n"

unfoldable pub frame_text : ℕ → List ℕ
frame_text S = size_text S ++ corner_text S ++ extent_text S

unfoldable pub title_text : ℕ → ℕ → List ℕ
title_text S bound = codes "<title>side " ++ decimal S ++ codes " bound " ++ decimal bound ++ codes "</title>\n<g transform=\"scale(1000)\">\n"

unfoldable pub paper_text : ℕ → List ℕ
paper_text S = codes "<rect width=\"" ++ decimal S ++ codes "\" height=\"" ++ decimal S ++ codes "\" fill=\"#fff\"/>\n"

unfoldable pub start_text : ℕ → ℕ → List ℕ
start_text S bound = frame_text S ++ title_text S bound ++ paper_text S

-- Regions.

-- a turning point
abbrev pub turn_text : ℕ → Point → List ℕ
turn_text S p = decimal p.x ++ codes " " ++ decimal (S - p.y) ++ codes " "

unfoldable pub loop_text : ℕ → List Point → List ℕ
loop_text S points = codes "M" ++ flat_map (turn_text S) points ++ codes "Z"

-- the loops of an edge, which together are one path
abbrev pub outline_text : ℕ → List Loop → List ℕ
outline_text S loops = flat_map (λ (l : Loop). loop_text S l.points) loops

abbrev pub fill_text : Fill → List ℕ
fill_text f = codes "rgb(" ++ decimal f.red ++ codes "," ++ decimal f.green ++ codes "," ++ decimal f.blue ++ codes ")"

unfoldable pub region_head : Fill → List ℕ
region_head f = codes "<path fill=\"" ++ fill_text f ++ codes "\" fill-rule=\"evenodd\" d=\""

unfoldable pub region_last : List ℕ → List ℕ
region_last name = codes "\"><title>" ++ name ++ codes "</title></path>\n"

unfoldable pub region_text : TreeValue → ℕ → ℕ → List Loop → List ℕ
region_text T S e loops = region_head (fill_of T e) ++ outline_text S loops ++ region_last (name_of T e)

-- the regions of all edges, an upper one before those below it, which cover it
abbrev pub regions_text : TreeValue → ℕ → List Outline → List ℕ
regions_text T S outlines = flat_map (λ (e : ℕ). region_text T S e (outline_at outlines e).loops) (edges T)

-- Lines.

-- n thousandths
unfoldable pub three_digits : ℕ → List ℕ
three_digits n = (48 + n / 100) ∷ (48 + n / 10 % 10) ∷ (48 + n % 10) ∷ []

unfoldable pub thousandths : ℕ → List ℕ
thousandths n = decimal (n / 1000) ++ codes "." ++ three_digits (n % 1000)

-- the two grid lines of number k
abbrev pub upright_line : ℕ → ℕ → List ℕ
upright_line S k = codes "M" ++ decimal k ++ codes " 0V" ++ decimal S

abbrev pub level_line : ℕ → ℕ → List ℕ
level_line S k = codes "M0 " ++ decimal k ++ codes "H" ++ decimal S

unfoldable pub grid_line : ℕ → ℕ → List ℕ
grid_line S k = upright_line S k ++ level_line S k

unfoldable pub lines_head : List ℕ
lines_head = codes "<g fill=\"none\" pointer-events=\"none\">\n"

unfoldable pub grid_head : ℕ → List ℕ
grid_head S = codes "<path stroke=\"#000\" stroke-opacity=\"0.1\" stroke-width=\"" ++ thousandths S ++ codes "\" d=\""

unfoldable pub path_last : List ℕ
path_last = codes "\"/>\n"

unfoldable pub grid_path : ℕ → List ℕ
grid_path S = grid_head S ++ flat_map (grid_line S) (range_with_len 1 (S - 1)) ++ path_last

-- a grid, where its lines don't stand too dense
abbrev pub grid_text : ℕ → List ℕ
grid_text S = if nat_le S 64 then grid_path S else []

unfoldable pub hinges_head : ℕ → List ℕ
hinges_head S = codes "<path stroke=\"#2f4858\" stroke-width=\"" ++ thousandths (2 * S) ++ codes "\" d=\""

-- Outlines of regions are the hinges, and what they take of the border.
unfoldable pub hinges_text : ℕ → List Outline → List ℕ
hinges_text S outlines = hinges_head S ++ flat_map (λ (o : Outline). outline_text S o.loops) outlines ++ path_last

unfoldable pub border_size : ℕ → List ℕ
border_size S =
    codes "<rect width=\"" ++ decimal S ++ codes "\" height=\"" ++ decimal S ++ codes "\" stroke=\"#1b2a33\" stroke-width=\""

unfoldable pub border_text : ℕ → List ℕ
border_text S = border_size S ++ thousandths (4 * S) ++ codes "\"/>\n</g>\n</g>\n"

unfoldable pub lines_text : ℕ → List Outline → List ℕ
lines_text S outlines = lines_head ++ grid_text S ++ hinges_text S outlines ++ border_text S

-- Tips.

unfoldable pub tips_head : List ℕ
tips_head = codes "<g fill=\"#1b2a33\" font-family=\"monospace\" text-anchor=\"middle\" pointer-events=\"none\">\n"

unfoldable pub dot_text : Label → List ℕ
dot_text l = codes "<circle cx=\"" ++ decimal l.x ++ codes "\" cy=\"" ++ decimal l.y ++ codes "\" r=\"" ++ decimal l.dot ++ codes "\"/>"

unfoldable pub place_text : Label → List ℕ
place_text l = codes "<text x=\"" ++ decimal l.middle ++ codes "\" y=\"" ++ decimal l.line ++ codes "\""

unfoldable pub name_text : ℕ → List ℕ → List ℕ
name_text size name = codes " font-size=\"" ++ decimal size ++ codes "\">" ++ name ++ codes "</text>\n"

unfoldable pub label_text : Label → List ℕ → List ℕ
label_text l name = dot_text l ++ place_text l ++ name_text l.size name

-- the tip of leaf i
unfoldable pub tip_text : TreeValue → ℕ → List Point → ℕ → List ℕ
tip_text T S P i =
    let node = leaf_node T i in
    let name = name_of T node in
    label_text (label_of S (length_of T node) (length name) (point_at P i)) name

unfoldable pub last_text : List ℕ
last_text = codes "</g>\n</svg>\n"

unfoldable pub tips_text : TreeValue → ℕ → List Point → List ℕ
tips_text T S P = tips_head ++ flat_map (tip_text T S P) (range_with_len 1 (leaf_count T)) ++ last_text

-- The whole picture of a tree, a side with a bound, points, and outlines.
unfoldable pub picture_text : TreeValue → ℕ → ℕ → List Point → List Outline → List ℕ
picture_text T S bound P outlines =
    start_text S bound ++ regions_text T S outlines ++ lines_text S outlines ++ tips_text T S P
