-- The lines of a text, and the words of a line.
use Rattle.std.specs.Prelude.{ℕ, List, [], ◌∷◌, length, map, filter, Bool, ◌==◌, ◌&&◌, ◌||◌, nat_lt, nat_le, slice_index_or, if◌then◌else◌}
use Rattle.std.specs.List.{slice_split, onto_first, before_first}
use Rattle.std.specs.Str.Lines.{strip_carriage_return}

-- The lines of the bytes, each without its LF. A last LF begins no further line.
unfoldable pub lines_of : List ℕ → List (List ℕ)
lines_of [] = []
lines_of (b ∷ bs) = if b == 10 then [] ∷ lines_of bs else onto_first b (lines_of bs)

-- What counts of a line: it is without one CR at its end, and goes to before the first `#`.
unfoldable pub content : List ℕ → List ℕ
content line = before_first (λ b. b == 35) (strip_carriage_return line)

-- a space or a tab
abbrev pub is_blank : ℕ → Bool
is_blank b = (b == 32) || (b == 9)

abbrev pub is_some_word : List ℕ → Bool
is_some_word w = nat_lt 0 (length w)

-- the words of bytes, parted by blanks
unfoldable pub words : List ℕ → List (List ℕ)
words bytes = filter is_some_word (slice_split is_blank bytes)

abbrev pub words_of : List ℕ → List (List ℕ)
words_of line = words (content line)

-- the words of each line that has some
abbrev pub rows : List (List ℕ) → List (List (List ℕ))
rows lines = filter (λ ws. nat_lt 0 (length ws)) (map words_of lines)

-- word i of a row, from 0 on
abbrev pub word : List (List ℕ) → ℕ → List ℕ
word row i = slice_index_or row i []

-- a tab, or a byte from 32 to 126
abbrev pub is_text_byte : ℕ → Bool
is_text_byte b = (b == 9) || (nat_le 32 b && nat_le b 126)
