-- The pieces of bytes, from the front on.
use Rattle.std.proofs.Common.{◌≡◌, ◌≢◌, ◌⊎◌, inl, inr, ℕ, zero, suc, ◌+◌, ◌-◌, ◌<◌, ◌≤◌, Bool, true, false, cond, List, [], ◌∷◌, ◌++◌, length, map, get_or, take, drop, refl, sym, ◌∙◌, ap, arith, append_assoc, length-append}
use Rattle.std.specs.List.{onto_first}
use Rattle.std.proofs.lemmas.Bool.{eq-eqb, ne_eqb, cases_lt}
use Rattle.std.proofs.lemmas.List.{append-nil, length-drop, get_or-drop, drop-drop, drop_all, take_all, length-map}
use Rattle.bp_base.specs.declared.point.Line.{Line}
use Rattle.bp_text.specs.Lines.{IsLineAt}
use Rattle.bp_tree.proofs.LineLists.{line_forward}
use Rattle.boxpleat_batch.specs.declared.pieces.Piece.{Piece}
use Rattle.boxpleat_batch.specs.Pieces.{bytes_at, is_mark, onto_piece, parted, pieces_of, whole_lines}

cases_bool : (b : Bool) → (b ≡ true) ⊎ (b ≡ false)
cases_bool true = inl refl
cases_bool false = inr refl

-- ---- lines with their LF

lines_none : whole_lines [] ≡ []
unfolding whole_lines
lines_none = refl

lf : (b : ℕ) (bs : List ℕ) → b ≡ 10 → whole_lines (b ∷ bs) ≡ (b ∷ []) ∷ whole_lines bs
unfolding whole_lines
lf b bs is = rw (eq-eqb b 10 is)

no_lf : (b : ℕ) (bs : List ℕ) → b ≢ 10 → whole_lines (b ∷ bs) ≡ onto_first b (whole_lines bs)
unfolding whole_lines
no_lf b bs other = rw (ne_eqb b 10 other)

lines_lf : (bs : List ℕ) (i : ℕ) → i < length bs → ((k : ℕ) → k < i → get_or bs k 0 ≢ 10) → get_or bs i 0 ≡ 10 → whole_lines bs ≡ take (suc i) bs ∷ whole_lines (drop (suc i) bs)
lines_lf [] i less free ends = absurd (omega arith)
lines_lf (b ∷ bs) zero less free ends = lf b bs ends
lines_lf (b ∷ bs) (suc i) less free ends =
    no_lf b bs (free 0 (omega arith)) ∙ ap (onto_first b) (lines_lf bs i (omega arith) (λ k l. free (suc k) (omega arith)) ends)

lines_last : (b : ℕ) (bs : List ℕ) → ((k : ℕ) → k < length (b ∷ bs) → get_or (b ∷ bs) k 0 ≢ 10) → whole_lines (b ∷ bs) ≡ (b ∷ bs) ∷ []
lines_last b [] free = no_lf b [] (free 0 (omega arith)) ∙ ap (onto_first b) lines_none
lines_last b (c ∷ bs) free = no_lf b (c ∷ bs) (free 0 (omega arith)) ∙ ap (onto_first b) (lines_last c bs (λ k l. free (suc k) (omega arith)))

last_of : (bs : List ℕ) → 0 < length bs → ((k : ℕ) → k < length bs → get_or bs k 0 ≢ 10) → whole_lines bs ≡ bs ∷ []
last_of [] some free = absurd (omega arith)
last_of (b ∷ bs) some free = lines_last b bs free

-- the line at a place with its LF, and the lines behind it
line_cut : (bytes : List ℕ) (at : ℕ) (l : Line) → IsLineAt bytes at l → whole_lines (drop at bytes) ≡ take (l.next - at) (drop at bytes) ∷ whole_lines (drop l.next bytes)
line_cut bytes at l is = elim (cases_lt l.to (length bytes)) [
  | inl less ↦
      let here : l.next ≡ l.to + 1 = is.next ∙ ap (λ (b : Bool). cond b (l.to + 1) (length bytes)) (is.ended.1 less) in
      let ends : get_or (drop at bytes) (l.to - at) 0 ≡ 10 = get_or-drop at bytes (l.to - at) 0 ∙ ap (λ (k : ℕ). get_or bytes k 0) there ∙ is.ends less in
      let long : suc (l.to - at) ≡ l.next - at = omega (arith, here, is.after) in
      let behind : drop (suc (l.to - at)) (drop at bytes) ≡ drop l.next bytes = drop-drop (suc (l.to - at)) at bytes ∙ ap (λ (n : ℕ). drop n bytes) (omega (arith, here, is.after)) in
      lines_lf (drop at bytes) (l.to - at) (omega (arith, length-drop at bytes, is.after)) free ends
      ∙ ap (λ (n : ℕ). take n (drop at bytes) ∷ whole_lines (drop (suc (l.to - at)) (drop at bytes))) long
      ∙ ap (λ (bs : List ℕ). take (l.next - at) (drop at bytes) ∷ whole_lines bs) behind
  | inr end ↦
      let whole : l.to ≡ length bytes = omega (arith, end, is.within) in
      let last : l.next ≡ length bytes = is.next ∙ ap (λ (b : Bool). cond b (l.to + 1) (length bytes)) (not_ended (omega arith)) in
      let all : take (l.next - at) (drop at bytes) ≡ drop at bytes = take_all (l.next - at) (drop at bytes) (omega (arith, length-drop at bytes, last)) in
      let none : whole_lines (drop l.next bytes) ≡ [] = ap (λ (n : ℕ). whole_lines (drop n bytes)) last ∙ ap whole_lines (drop_all (length bytes) bytes (omega arith)) ∙ lines_none in
      last_of (drop at bytes) (omega (arith, length-drop at bytes, is.begins)) (λ k less. free k (omega (arith, less, length-drop at bytes, whole)))
      ∙ ap (λ (x : List ℕ). x ∷ []) (sym all) ∙ ap (λ (ls : List (List ℕ)). take (l.next - at) (drop at bytes) ∷ ls) (sym none)
]
  where
    there : at + (l.to - at) ≡ l.to
    there = omega (arith, is.after)

    free : (k : ℕ) → k < l.to - at → get_or (drop at bytes) k 0 ≢ 10
    free k less lf_there = is.free (at + k) (omega arith) (omega (arith, less)) (sym (get_or-drop at bytes k 0) ∙ lf_there)

    not_ended : length bytes ≤ l.to → l.ended ≡ false
    not_ended end = elim (cases_bool l.ended) [ inl yes_ended ↦ absurd (omega (arith, is.ended.0 yes_ended)) | inr not_yet ↦ not_yet ]

-- ---- pieces

-- there is always a first piece
some_piece : (lines : List (List ℕ)) → 1 ≤ length (parted lines)
some_piece [] = omega arith
some_piece (l ∷ lines) = go (is_mark l) (parted lines) (some_piece lines)
  where
    joined : (line : List ℕ) (ps : List (List ℕ)) → 1 ≤ length ps → 1 ≤ length (onto_piece line ps)
    joined line [] some = omega arith
    joined line (p ∷ ps) some = omega arith

    go : (b : Bool) (ps : List (List ℕ)) → 1 ≤ length ps → 1 ≤ length (cond b ([] ∷ ps) (onto_piece l ps))
    go true ps some = omega arith
    go false ps some = joined l ps some

nothing_onto : (ps : List (List ℕ)) → 1 ≤ length ps → onto_piece [] ps ≡ ps
nothing_onto [] some = absurd (omega arith)
nothing_onto (p ∷ ps) some = refl

onto_twice : (a b : List ℕ) (ps : List (List ℕ)) → onto_piece a (onto_piece b ps) ≡ onto_piece (a ++ b) ps
onto_twice a b [] = refl
onto_twice a b (p ∷ ps) = ap (λ (x : List ℕ). x ∷ ps) (sym (append_assoc a b p))

take_none : (j : ℕ) → take {A = ℕ} j [] ≡ []
take_none zero = refl
take_none (suc j) = refl

take_more : (xs : List ℕ) (i j : ℕ) → take i xs ++ take j (drop i xs) ≡ take (i + j) xs
take_more xs zero j =
    let same : j ≡ 0 + j = omega arith in
    ap (λ (n : ℕ). take n xs) same
take_more [] (suc i) j = take_none j ∙ sym (take_none (suc i + j))
take_more (x ∷ xs) (suc i) j =
    let same : suc (i + j) ≡ suc i + j = omega arith in
    ap (λ (ys : List ℕ). x ∷ ys) (take_more xs i j) ∙ ap (λ (n : ℕ). take n (x ∷ xs)) same

-- bytes between two places, and then to a third
take_on : (bytes : List ℕ) (from at next : ℕ) → from ≤ at → at ≤ next → take (at - from) (drop from bytes) ++ take (next - at) (drop at bytes) ≡ take (next - from) (drop from bytes)
take_on bytes from at next rising more =
    let split = take_more (drop from bytes) (at - from) (next - at) in
    let back : from + (at - from) ≡ at = omega (arith, rising) in
    let there : drop (at - from) (drop from bytes) ≡ drop at bytes = drop-drop (at - from) from bytes ∙ ap (λ (n : ℕ). drop n bytes) back in
    let long : (at - from) + (next - at) ≡ next - from = omega (arith, rising, more) in
    ap (λ (x : List ℕ). take (at - from) (drop from bytes) ++ take (next - at) x) (sym there) ∙ split ∙ ap (λ (n : ℕ). take n (drop from bytes)) long

-- What is cut so far: these pieces, and behind them what stands from the last of them on.
pub record IsCutTo (bytes : List ℕ) (pieces : List Piece) (from at : ℕ) : Type 0 where
  pub rising : from ≤ at
  pub within : at ≤ length bytes
  pub so_far : map (bytes_at bytes) pieces ++ onto_piece (take (at - from) (drop from bytes)) (parted (whole_lines (drop at bytes))) ≡ pieces_of bytes

pub cut_none : (bytes : List ℕ) → IsCutTo bytes [] 0 0
unfolding pieces_of
cut_none bytes = record {
  rising = omega arith;
  within = omega arith;
  so_far = nothing_onto (parted (whole_lines bytes)) (some_piece (whole_lines bytes));
}

step_is : (bytes : List ℕ) (at : ℕ) (l : Line) → IsLineAt bytes at l → parted (whole_lines (drop at bytes))
    ≡ cond (is_mark (take (l.next - at) (drop at bytes))) ([] ∷ parted (whole_lines (drop l.next bytes))) (onto_piece (take (l.next - at) (drop at bytes)) (parted (whole_lines (drop l.next bytes))))
step_is bytes at l is = ap parted (line_cut bytes at l is)

-- a line that is no mark joins the piece that is open
pub cut_line : (bytes : List ℕ) (pieces : List Piece) (from at : ℕ) (l : Line) → IsCutTo bytes pieces from at → IsLineAt bytes at l
    → is_mark (take (l.next - at) (drop at bytes)) ≡ false → IsCutTo bytes pieces from l.next
cut_line bytes pieces from at l cut is no_mark =
    let forward = line_forward bytes at l is in
    let here : parted (whole_lines (drop at bytes)) ≡ onto_piece (take (l.next - at) (drop at bytes)) (parted (whole_lines (drop l.next bytes)))
    = step_is bytes at l is ∙ ap (λ (b : Bool). cond b ([] ∷ parted (whole_lines (drop l.next bytes))) (onto_piece (take (l.next - at) (drop at bytes)) (parted (whole_lines (drop l.next bytes))))) no_mark in
    let begun = take (at - from) (drop from bytes) in
    let line = take (l.next - at) (drop at bytes) in
    let rest = parted (whole_lines (drop l.next bytes)) in
    record {
      rising = omega (arith, cut.rising, forward.0);
      within = forward.1;
      so_far = ap (λ (ps : List (List ℕ)). map (bytes_at bytes) pieces ++ ps)
          (ap (λ (x : List ℕ). onto_piece x rest) (sym (take_on bytes from at l.next cut.rising (omega (arith, forward.0)))) ∙ sym (onto_twice begun line rest) ∙ ap (onto_piece begun) (sym here))
          ∙ cut.so_far;
    }

-- what stands behind a mark
mark_parts : (bytes : List ℕ) (pieces : List Piece) (from at : ℕ) (l : Line) → IsCutTo bytes pieces from at → IsLineAt bytes at l
    → is_mark (take (l.next - at) (drop at bytes)) ≡ true
    → map (bytes_at bytes) pieces ++ take (at - from) (drop from bytes) ∷ parted (whole_lines (drop l.next bytes)) ≡ pieces_of bytes
mark_parts bytes pieces from at l cut is mark =
    let rest = parted (whole_lines (drop l.next bytes)) in
    let begun = take (at - from) (drop from bytes) in
    let here : parted (whole_lines (drop at bytes)) ≡ [] ∷ rest
    = step_is bytes at l is ∙ ap (λ (b : Bool). cond b ([] ∷ rest) (onto_piece (take (l.next - at) (drop at bytes)) rest)) mark in
    ap (λ (ps : List (List ℕ)). map (bytes_at bytes) pieces ++ ps) (ap (λ (x : List ℕ). x ∷ rest) (sym (append-nil begun)) ∙ ap (onto_piece begun) (sym here)) ∙ cut.so_far

one_more : (bytes : List ℕ) (pieces : List Piece) (p : Piece) (rest : List (List ℕ)) → map (bytes_at bytes) (pieces ++ p ∷ []) ++ rest ≡ map (bytes_at bytes) pieces ++ bytes_at bytes p ∷ rest
one_more bytes [] p rest = refl
one_more bytes (q ∷ pieces) p rest = ap (λ (ps : List (List ℕ)). bytes_at bytes q ∷ ps) (one_more bytes pieces p rest)

-- a mark closes the piece that is open
pub cut_mark : (bytes : List ℕ) (pieces now : List Piece) (p : Piece) (from at : ℕ) (l : Line) → IsCutTo bytes pieces from at → IsLineAt bytes at l
    → is_mark (take (l.next - at) (drop at bytes)) ≡ true → p.from ≡ from → p.to ≡ at → now ≡ pieces ++ p ∷ [] → IsCutTo bytes now l.next l.next
cut_mark bytes pieces now p from at l cut is mark p_from p_to now_is =
    let forward = line_forward bytes at l is in
    let rest = parted (whole_lines (drop l.next bytes)) in
    let piece : bytes_at bytes p ≡ take (at - from) (drop from bytes) = (λ i. take (p_to i - p_from i) (drop (p_from i) bytes)) in
    let none : l.next - l.next ≡ 0 = omega arith in
    let empty : take (l.next - l.next) (drop l.next bytes) ≡ [] = ap (λ (n : ℕ). take n (drop l.next bytes)) none in
    record {
      rising = omega arith;
      within = forward.1;
      so_far = ap (λ (x : List ℕ). map (bytes_at bytes) now ++ onto_piece x rest) empty
          ∙ ap (λ (ps : List (List ℕ)). map (bytes_at bytes) now ++ ps) (nothing_onto rest (some_piece (whole_lines (drop l.next bytes))))
          ∙ ap (λ (ps : List Piece). map (bytes_at bytes) ps ++ rest) now_is
          ∙ one_more bytes pieces p rest
          ∙ ap (λ (x : List ℕ). map (bytes_at bytes) pieces ++ x ∷ rest) piece
          ∙ mark_parts bytes pieces from at l cut is mark;
    }

-- bytes have a piece
pub some_pieces : (bytes : List ℕ) → 1 ≤ length (pieces_of bytes)
unfolding pieces_of
some_pieces bytes = some_piece (whole_lines bytes)

-- where so many pieces are closed by a mark, there is one more
pub mark_more : (bytes : List ℕ) (pieces : List Piece) (from at : ℕ) (l : Line) → IsCutTo bytes pieces from at → IsLineAt bytes at l
    → is_mark (take (l.next - at) (drop at bytes)) ≡ true → length pieces + 2 ≤ length (pieces_of bytes)
mark_more bytes pieces from at l cut is mark =
    let rest = parted (whole_lines (drop l.next bytes)) in
    omega (
      arith,
      some_piece (whole_lines (drop l.next bytes)),
      ap length (sym (mark_parts bytes pieces from at l cut is mark)),
      length-append (map (bytes_at bytes) pieces) (take (at - from) (drop from bytes) ∷ rest),
      length-map pieces (bytes_at bytes),
    )

-- the last piece goes to the end of the bytes
pub cut_all : (bytes : List ℕ) (pieces now : List Piece) (p : Piece) (from at : ℕ) → IsCutTo bytes pieces from at → at ≡ length bytes
    → p.from ≡ from → p.to ≡ length bytes → now ≡ pieces ++ p ∷ [] → map (bytes_at bytes) now ≡ pieces_of bytes
unfolding whole_lines
cut_all bytes pieces now p from at cut end p_from p_to now_is =
    let piece : bytes_at bytes p ≡ take (at - from) (drop from bytes) = (λ i. take ((p_to ∙ sym end) i - p_from i) (drop (p_from i) bytes)) in
    let last : parted (whole_lines (drop at bytes)) ≡ [] ∷ [] = ap (λ (n : ℕ). parted (whole_lines (drop n bytes))) end ∙ ap (λ (bs : List ℕ). parted (whole_lines bs)) (drop_all (length bytes) bytes (omega arith)) in
    let begun = take (at - from) (drop from bytes) in
    sym (append-nil (map (bytes_at bytes) now))
    ∙ ap (λ (ps : List Piece). map (bytes_at bytes) ps ++ []) now_is
    ∙ one_more bytes pieces p []
    ∙ ap (λ (x : List ℕ). map (bytes_at bytes) pieces ++ x ∷ []) (piece ∙ sym (append-nil begun))
    ∙ ap (λ (ps : List (List ℕ)). map (bytes_at bytes) pieces ++ onto_piece begun ps) (sym last)
    ∙ cut.so_far
