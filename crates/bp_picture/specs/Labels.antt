-- Where the dot and the name of a tip stand, in thousandths of a grid unit, from the left and from the top of the sheet. The name stands in the
-- part of the flap's square that lies on the sheet, so it crosses no other region.
use Rattle.std.specs.Prelude.{ℕ, ◌+◌, ◌-◌, ◌*◌, ◌/◌, min, nat_lt, if◌then◌else◌}
use Rattle.bp_base.specs.declared.point.Point.{Point}
use Rattle.bp_picture.specs.declared.label.Label.{Label}

-- the point of a tip, where y points down
abbrev pub across : Point → ℕ
across p = 1000 * p.x

abbrev pub down : ℕ → Point → ℕ
down S p = 1000 * (S - p.y)

-- from where to where the square of a flap of length r lies on the sheet
abbrev pub square_from : ℕ → Point → ℕ
square_from r p = across p - 1000 * r

abbrev pub square_to : ℕ → ℕ → Point → ℕ
square_to S r p = min (1000 * S) (across p + 1000 * r)

-- The size of a name of n letters: at most a fortieth of the side and half the flap's length, and so small that letters which are 0.6 times as
-- wide as high fill no more than nine tenths of the width.
abbrev pub name_size : ℕ → ℕ → ℕ → ℕ → ℕ
name_size S r n width = min (min (24 * S) (500 * r)) (3 * width / (2 * n + 1))

-- how far a name stands from the middle of its dot
abbrev pub tip_gap : ℕ → ℕ → ℕ
tip_gap S r = min (14 * S) (300 * r)

-- the line of a name: above the dot, or below it where the tip lies in the upper half of the sheet
abbrev pub name_line : ℕ → ℕ → ℕ → Point → ℕ
name_line S r size p = if nat_lt S (2 * p.y) then down S p + tip_gap S r + 7 * size / 10 else down S p - tip_gap S r

-- of a flap of length r with a name of n letters
abbrev pub label_of : ℕ → ℕ → ℕ → Point → Label
label_of S r n p =
    let size = name_size S r n (square_to S r p - square_from r p) in
    record {
      x = across p;
      y = down S p;
      dot = min (7 * S) (150 * r);
      middle = (square_from r p + square_to S r p) / 2;
      line = name_line S r size p;
      size = size;
    }
