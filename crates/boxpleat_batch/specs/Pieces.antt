-- How the input of a batch is parted into pieces.
use Rattle.std.specs.Prelude.{ℕ, List, [], ◌∷◌, ◌++◌, Bool, ◌==◌, codes, if◌then◌else◌, take, drop, ◌-◌, ◌≤◌}
use Rattle.std.specs.List.{list_any, onto_first}
use Rattle.std.specs.Str.{bytes_eq}
use Rattle.boxpleat_batch.specs.declared.pieces.Piece.{Piece}

-- the most pieces of a batch, and the most bytes of its input
abbrev pub most_pieces : ℕ
most_pieces = 200

abbrev pub most_batch_bytes : ℕ
most_batch_bytes = 4194304

-- The lines of the bytes, each with its LF. A last LF begins no further line.
unfoldable pub whole_lines : List ℕ → List (List ℕ)
whole_lines [] = []
whole_lines (b ∷ bs) = if b == 10 then (b ∷ []) ∷ whole_lines bs else onto_first b (whole_lines bs)

-- the line is `%`, with or without CR
abbrev pub is_mark : List ℕ → Bool
is_mark line = list_any (bytes_eq line) (codes "%\n" ∷ codes "%\r\n" ∷ codes "%" ∷ codes "%\r" ∷ [])

-- the bytes before the first piece join it
abbrev pub onto_piece : List ℕ → List (List ℕ) → List (List ℕ)
onto_piece bytes [] = bytes ∷ []
onto_piece bytes (piece ∷ pieces) = (bytes ++ piece) ∷ pieces

-- the pieces of these lines: a mark parts two pieces and belongs to none
abbrev pub parted : List (List ℕ) → List (List ℕ)
parted [] = [] ∷ []
parted (line ∷ lines) = if is_mark line then [] ∷ parted lines else onto_piece line (parted lines)

-- the pieces of the bytes: there is one more than marks
unfoldable pub pieces_of : List ℕ → List (List ℕ)
pieces_of bytes = parted (whole_lines bytes)

-- what a piece holds of the bytes
abbrev pub bytes_at : List ℕ → Piece → List ℕ
bytes_at bytes p = take (p.to - p.from) (drop p.from bytes)

-- the piece lies within so many bytes
pub record IsWithin (long : ℕ) (p : Piece) : Type 0 where
  pub rising : p.from ≤ p.to
  pub within : p.to ≤ long
