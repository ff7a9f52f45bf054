-- Fills: each edge of a tree has one of its own, a flap a warm one, and a river, an edge with others below it, a cold one.
use Rattle.std.specs.Prelude.{ℕ, ◌+◌, ◌-◌, ◌*◌, ◌/◌, ◌%◌, if◌then◌else◌}
use Rattle.bp_base.specs.Tree.{TreeValue, has_child}
use Rattle.bp_picture.specs.declared.fill.Fill.{Fill}

-- A number below 64 for each edge. Neighbours in number have far ones, which differ in each of their digits to base 4.
abbrev pub shade_of : ℕ → ℕ
shade_of e = 25 * e % 64

abbrev pub flap_fill : ℕ → Fill
flap_fill shade = record {
  red = 255 - 8 * (shade / 16);
  green = 242 - 16 * (shade / 4 % 4);
  blue = 190 - 20 * (shade % 4);
}

abbrev pub river_fill : ℕ → Fill
river_fill shade = record {
  red = 140 + 18 * (shade / 16);
  green = 182 + 14 * (shade / 4 % 4);
  blue = 252 - 10 * (shade % 4);
}

abbrev pub fill_of : TreeValue → ℕ → Fill
fill_of T e = if has_child T e then river_fill (shade_of e) else flap_fill (shade_of e)
