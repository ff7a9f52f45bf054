-- The words of bytes, from the front on.
use Rattle.std.proofs.Common.{◌≡◌, inl, inr, ℕ, zero, suc, ◌+◌, ◌-◌, ◌<◌, ◌≤◌, true, false, List, [], ◌∷◌, ◌++◌, length, get_or, take, drop, filter, All, refl, sym, ◌∙◌, ap, arith}
use Rattle.std.proofs.lemmas.Bool.{cases_lt, cases_eq, lt-ltb, false≢true}
use Rattle.std.proofs.lemmas.List.{get_or-take, length-take-le, take-append-drop, drop_more, drop_all, take_all, take_rest}
use Rattle.std.proofs.lemmas.List.Splits.{slice_split_at, slice_split_none, slice_split-cons_yes}
use Rattle.std.proofs.lemmas.List.Elements.{All-from_get_or}
use Rattle.bp_tree.specs.Lines.{words, is_blank, is_some_word}

pub words_none : words [] ≡ []
unfolding words
words_none = refl

pub words_blank : (b : ℕ) (bs : List ℕ) → is_blank b ≡ true → words (b ∷ bs) ≡ words bs
unfolding words
words_blank b bs blank = ap (filter is_some_word) (slice_split-cons_yes is_blank b bs blank)

pub words_blanks : (bs : List ℕ) (i : ℕ) → i ≤ length bs → ((k : ℕ) → k < i → is_blank (get_or bs k 0) ≡ true) → words (drop i bs) ≡ words bs
words_blanks bs zero fits blank = refl
words_blanks [] (suc i) fits blank = refl
words_blanks (b ∷ bs) (suc i) fits blank =
    words_blanks bs i (omega arith) (λ k less. blank (suc k) (omega arith)) ∙ sym (words_blank b bs (blank 0 (omega arith)))

some_word : (w : List ℕ) → 0 < length w → is_some_word w ≡ true
some_word w some = lt-ltb 0 (length w) some

pub word_then : (w : List ℕ) (y : ℕ) (ys : List ℕ) → 0 < length w → All (λ b. is_blank b ≡ false) w → is_blank y ≡ true → words (w ++ y ∷ ys) ≡ w ∷ words (y ∷ ys)
unfolding words
word_then w y ys some word blank =
    ap (filter is_some_word) (slice_split_at is_blank w y ys word blank) ∙ rw (some_word w some) (ap (λ (ws : List (List ℕ)). w ∷ ws) (sym (words_blank y ys blank)))

pub word_last : (w : List ℕ) → 0 < length w → All (λ b. is_blank b ≡ false) w → words w ≡ w ∷ []
unfolding words
word_last w some word = ap (filter is_some_word) (slice_split_none is_blank w word) ∙ rw (some_word w some) refl

-- a word, up to the end or to the first blank
pub words_word : (bs : List ℕ) (i : ℕ) → 0 < i → i ≤ length bs → ((k : ℕ) → k < i → is_blank (get_or bs k 0) ≡ false) → (i < length bs → is_blank (get_or bs i 0) ≡ true) → words bs ≡ take i bs ∷ words (drop i bs)
words_word bs i some fits word ends =
    let long : length (take i bs) ≡ i = length-take-le i bs fits in
    let each : All (λ b. is_blank b ≡ false) (take i bs) = All-from_get_or (λ b. is_blank b ≡ false) (take i bs) 0 (λ k less. let l : k < i = omega arith in rw get_or-take (word k l)) in
    elim (cases_lt i (length bs)) [
      | inl less ↦
          let rest : drop i bs ≡ get_or bs i 0 ∷ drop (i + 1) bs = drop_more bs i 0 less in
          let whole : bs ≡ take i bs ++ get_or bs i 0 ∷ drop (i + 1) bs = sym (take-append-drop i bs) ∙ ap (λ (t : List ℕ). take i bs ++ t) rest in
          ap words whole ∙ word_then (take i bs) (get_or bs i 0) (drop (i + 1) bs) (omega arith) each (ends less) ∙ ap (λ (t : List ℕ). take i bs ∷ words t) (sym rest)
      | inr end ↦
          let all : take i bs ≡ bs = take_all i bs end in
          let none : drop i bs ≡ [] = drop_all i bs end in
          ap words (sym all) ∙ word_last (take i bs) (omega arith) each ∙ ap (λ (t : List (List ℕ)). take i bs ∷ t) (sym (ap words none ∙ words_none))
    ]

-- the same, where blanks stood before
pub first_word : (bytes bs : List ℕ) (i : ℕ) → words bs ≡ words bytes → ((b : ℕ) (more : List ℕ) → bs ≡ b ∷ more → is_blank b ≡ false) → i < length bs → ((k : ℕ) → k < i → is_blank (get_or bs k 0) ≡ false) → is_blank (get_or bs i 0) ≡ true → words bytes ≡ take i bs ∷ words (take (length bs - i) (drop i bs))
first_word bytes bs i same first less word blank =
    let some : 0 < i = elim (cases_eq i 0) [
      | inl none ↦ absurd (false≢true (sym (first (get_or bs 0 0) (drop 1 bs) (front bs (omega arith))) ∙ ap (λ (k : ℕ). is_blank (get_or bs k 0)) (sym none) ∙ blank))
      | inr more ↦ omega arith
    ] in
    sym same ∙ words_word bs i some (omega arith) word (λ l. blank) ∙ ap (λ (t : List ℕ). take i bs ∷ words t) (sym (take_rest bs i))
  where
    front : (xs : List ℕ) → 0 < length xs → xs ≡ get_or xs 0 0 ∷ drop 1 xs
    front [] some = absurd (omega arith)
    front (x ∷ xs) some = refl

pub only_word : (bytes bs : List ℕ) → words bs ≡ words bytes → 0 < length bs → ((k : ℕ) → k < length bs → is_blank (get_or bs k 0) ≡ false) → words bytes ≡ bs ∷ words (take (length bs - length bs) (drop (length bs) bs))
only_word bytes bs same some word =
    sym same ∙ words_word bs (length bs) some (omega arith) word (λ l. absurd (omega arith)) ∙ ap (λ (t : List ℕ). t ∷ words (drop (length bs) bs)) (take_all (length bs) bs (omega arith)) ∙ ap (λ (t : List ℕ). bs ∷ words t) (sym (take_rest bs (length bs)))
