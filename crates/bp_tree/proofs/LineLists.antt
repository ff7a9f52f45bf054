-- The lines of bytes, from the front on.
use Rattle.std.proofs.Common.{◌≡◌, ◌≢◌, ◌⊎◌, inl, inr, ℕ, zero, suc, ◌+◌, ◌-◌, ◌<◌, ◌≤◌, Bool, true, false, cond, List, [], ◌∷◌, length, get_or, take, drop, refl, sym, ◌∙◌, ap, arith}
use Rattle.std.specs.List.{onto_first}
use Rattle.std.proofs.lemmas.Bool.{eq-eqb, ne_eqb, cases_lt}
use Rattle.std.proofs.lemmas.List.{length-drop, get_or-drop, drop-drop, drop_all, take_all}
use Rattle.bp_base.specs.declared.point.Line.{Line}
use Rattle.bp_text.specs.Lines.{IsLineAt}
use Rattle.bp_tree.specs.Lines.{lines_of}

cases_bool : (b : Bool) → (b ≡ true) ⊎ (b ≡ false)
cases_bool true = inl refl
cases_bool false = inr refl

pub lines_none : lines_of [] ≡ []
unfolding lines_of
lines_none = refl

lf : (b : ℕ) (bs : List ℕ) → b ≡ 10 → lines_of (b ∷ bs) ≡ [] ∷ lines_of bs
unfolding lines_of
lf b bs is = rw (eq-eqb b 10 is)

no_lf : (b : ℕ) (bs : List ℕ) → b ≢ 10 → lines_of (b ∷ bs) ≡ onto_first b (lines_of bs)
unfolding lines_of
no_lf b bs other = rw (ne_eqb b 10 other)

pub lines_lf : (bs : List ℕ) (i : ℕ) → i < length bs → ((k : ℕ) → k < i → get_or bs k 0 ≢ 10) → get_or bs i 0 ≡ 10 → lines_of bs ≡ take i bs ∷ lines_of (drop (suc i) bs)
lines_lf [] i less free ends = absurd (omega arith)
lines_lf (b ∷ bs) zero less free ends = lf b bs ends
lines_lf (b ∷ bs) (suc i) less free ends =
    no_lf b bs (free 0 (omega arith)) ∙ ap (onto_first b) (lines_lf bs i (omega arith) (λ k l. free (suc k) (omega arith)) ends)

pub lines_last : (b : ℕ) (bs : List ℕ) → ((k : ℕ) → k < length (b ∷ bs) → get_or (b ∷ bs) k 0 ≢ 10) → lines_of (b ∷ bs) ≡ (b ∷ bs) ∷ []
lines_last b [] free = no_lf b [] (free 0 (omega arith)) ∙ ap (onto_first b) lines_none
lines_last b (c ∷ bs) free = no_lf b (c ∷ bs) (free 0 (omega arith)) ∙ ap (onto_first b) (lines_last c bs (λ k l. free (suc k) (omega arith)))

last_of : (bs : List ℕ) → 0 < length bs → ((k : ℕ) → k < length bs → get_or bs k 0 ≢ 10) → lines_of bs ≡ bs ∷ []
last_of [] some free = absurd (omega arith)
last_of (b ∷ bs) some free = lines_last b bs free

-- the line at a place, and the lines behind it
pub line_cut : (bytes : List ℕ) (at : ℕ) (l : Line) → IsLineAt bytes at l → lines_of (drop at bytes) ≡ take (l.to - l.from) (drop l.from bytes) ∷ lines_of (drop l.next bytes)
line_cut bytes at l is = elim (cases_lt l.to (length bytes)) [
  | inl less ↦
      let here : l.next ≡ l.to + 1 = is.next ∙ ap (λ (b : Bool). cond b (l.to + 1) (length bytes)) (is.ended.1 less) in
      let ends : get_or (drop at bytes) (l.to - at) 0 ≡ 10 = get_or-drop at bytes (l.to - at) 0 ∙ ap (λ (k : ℕ). get_or bytes k 0) there ∙ is.ends less in
      let behind : drop (suc (l.to - at)) (drop at bytes) ≡ drop l.next bytes = drop-drop (suc (l.to - at)) at bytes ∙ ap (λ (n : ℕ). drop n bytes) (omega (arith, here, is.after)) in
      lines_lf (drop at bytes) (l.to - at) (omega (arith, length-drop at bytes, is.after)) free ends ∙ ap (λ (ls : List (List ℕ)). take (l.to - at) (drop at bytes) ∷ ls) (ap lines_of behind) ∙ named
  | inr end ↦
      let whole : l.to ≡ length bytes = omega (arith, end, is.within) in
      let last : l.next ≡ length bytes = is.next ∙ ap (λ (b : Bool). cond b (l.to + 1) (length bytes)) (not_ended (omega arith)) in
      let all : take (l.to - at) (drop at bytes) ≡ drop at bytes = take_all (l.to - at) (drop at bytes) (omega (arith, length-drop at bytes, whole)) in
      let none : lines_of (drop l.next bytes) ≡ [] = ap (λ (n : ℕ). lines_of (drop n bytes)) last ∙ ap lines_of (drop_all (length bytes) bytes (omega arith)) ∙ lines_none in
      last_of (drop at bytes) (omega (arith, length-drop at bytes, is.begins)) (λ k less. free k (omega (arith, less, length-drop at bytes, whole)))
      ∙ ap (λ (x : List ℕ). x ∷ []) (sym all) ∙ ap (λ (ls : List (List ℕ)). take (l.to - at) (drop at bytes) ∷ ls) (sym none) ∙ named
]
  where
    there : at + (l.to - at) ≡ l.to
    there = omega (arith, is.after)

    free : (k : ℕ) → k < l.to - at → get_or (drop at bytes) k 0 ≢ 10
    free k less lf_there = is.free (at + k) (omega arith) (omega (arith, less)) (sym (get_or-drop at bytes k 0) ∙ lf_there)

    not_ended : length bytes ≤ l.to → l.ended ≡ false
    not_ended end = elim (cases_bool l.ended) [ inl yes_ended ↦ absurd (omega (arith, is.ended.0 yes_ended)) | inr not_yet ↦ not_yet ]

    named : take (l.to - at) (drop at bytes) ∷ lines_of (drop l.next bytes) ≡ take (l.to - l.from) (drop l.from bytes) ∷ lines_of (drop l.next bytes)
    named = ap (λ (f : ℕ). take (l.to - f) (drop f bytes) ∷ lines_of (drop l.next bytes)) (sym is.from)

-- the next line begins behind this one
pub line_forward : (bytes : List ℕ) (at : ℕ) (l : Line) → IsLineAt bytes at l → (at < l.next) × (l.next ≤ length bytes)
line_forward bytes at l is = go l.ended refl
  where
    go : (b : Bool) → l.ended ≡ b → (at < l.next) × (l.next ≤ length bytes)
    go true ended =
        let here : l.next ≡ l.to + 1 = is.next ∙ ap (λ (x : Bool). cond x (l.to + 1) (length bytes)) ended in
        (omega (arith, here, is.after), omega (arith, here, is.ended.0 ended))
    go false ended =
        let here : l.next ≡ length bytes = is.next ∙ ap (λ (x : Bool). cond x (l.to + 1) (length bytes)) ended in
        (omega (arith, here, is.begins), omega (arith, here))
