-- How much of a line is held while it comes.
use Rattle.std.specs.Prelude.{ℕ, ◌+◌}
use Rattle.bp_certificate.specs.Ranges.{most_line_bytes}

-- one byte more than a line of any form has, by which a longer one is known
abbrev pub most_held : ℕ
most_held = most_line_bytes + 1
