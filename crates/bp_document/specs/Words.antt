-- The words of a line: what stands between its spaces.
use Rattle.std.specs.Prelude.{ℕ, List, ◌==◌, drop}
use Rattle.std.specs.List.{slice_split}

unfoldable pub words : List ℕ → List (List ℕ)
words bytes = slice_split (λ b. b == 32) bytes

-- the words behind the first space
abbrev pub words_behind : List ℕ → List (List ℕ)
words_behind bytes = drop 1 (words bytes)
