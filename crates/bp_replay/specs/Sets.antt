-- Sets of numbers below 64 as the bits of a word.
use Rattle.std.specs.Prelude.{ℕ, ◌^◌, ◌==◌, Bool, not, bit_and}

abbrev pub has : ℕ → ℕ → Bool
has set leaf = not (bit_and set (2 ^ leaf) == 0)
