-- The generator of numbers: a state, and the draws from it.
use Rattle.std.specs.Prelude.{ℕ, ◌+◌, ◌*◌, ◌/◌, ◌%◌}

-- the state after a draw
abbrev pub next_state : ℕ → ℕ
next_state s = (s * 1103515245 + 12345) % 2147483648

-- the number that a draw gives
abbrev pub drawn : ℕ → ℕ
drawn s = next_state s / 65536
