-- The words of a line, cut at single spaces.
use Rattle.std.proofs.Common.{◌≡◌, ◌≢◌, ℕ, ◌+◌, ◌-◌, ◌<◌, ◌≤◌, ◌==◌, false, List, [], ◌∷◌, ◌++◌, length, get_or, take, drop, All, refl, sym, ◌∙◌, ap, arith}
use Rattle.std.proofs.lemmas.Bool.{ne_eqb}
use Rattle.std.proofs.lemmas.List.{length-take-le, get_or-take, take-append-drop, drop_more, drop_all, take_rest}
use Rattle.std.proofs.lemmas.List.Splits.{slice_split_at, slice_split_none}
use Rattle.std.proofs.lemmas.List.Elements.{All-from_get_or}
use Rattle.bp_document.specs.Words.{words, words_behind}

-- a byte of a word
abbrev pub IsWordByte : ℕ → Type 0
IsWordByte b = b ≢ 32

-- no byte before place i is a space
abbrev pub IsFreeTo : List ℕ → ℕ → Type 0
IsFreeTo bs i = (k : ℕ) → k < i → IsWordByte (get_or bs k 0)

is_no_space : (b : ℕ) → IsWordByte b → (b == 32) ≡ false
is_no_space b not = ne_eqb b 32 not

free_front : (bs : List ℕ) (i : ℕ) → i ≤ length bs → IsFreeTo bs i → All (λ b. (b == 32) ≡ false) (take i bs)
free_front bs i fits free =
    All-from_get_or (λ b. (b == 32) ≡ false) (take i bs) 0 (λ k less. let l : k < i = omega (arith, length-take-le i bs fits) in rw get_or-take (is_no_space (get_or bs k 0) (free k l)))

pub words_then : (w bs : List ℕ) → All (λ b. (b == 32) ≡ false) w → words (w ++ 32 ∷ bs) ≡ w ∷ words bs
unfolding words
words_then w bs free = slice_split_at (λ b. b == 32) w 32 bs free refl

pub words_last : (w : List ℕ) → All (λ b. (b == 32) ≡ false) w → words w ≡ w ∷ []
unfolding words
words_last w free = slice_split_none (λ b. b == 32) w free

pub behind_space : (bs : List ℕ) → words_behind (32 ∷ bs) ≡ words bs
unfolding words
behind_space bs = refl

pub behind_none : words_behind [] ≡ []
unfolding words
behind_none = refl

-- up to a space, and behind it
pub words_cut : (bs : List ℕ) (i : ℕ) → i < length bs → IsFreeTo bs i → get_or bs i 0 ≡ 32 → words bs ≡ take i bs ∷ words (drop (i + 1) bs)
words_cut bs i less free space =
    let rest : drop i bs ≡ get_or bs i 0 ∷ drop (i + 1) bs = drop_more bs i 0 less in
    let whole : bs ≡ take i bs ++ 32 ∷ drop (i + 1) bs = sym (take-append-drop i bs) ∙ ap (λ (t : List ℕ). take i bs ++ t) (rest ∙ ap (λ b. b ∷ drop (i + 1) bs) space) in
    ap words whole ∙ words_then (take i bs) (drop (i + 1) bs) (free_front bs i (omega arith) free)

-- the same, with the rest from the space on
pub words_split : (bs : List ℕ) (i : ℕ) → i < length bs → IsFreeTo bs i → get_or bs i 0 ≡ 32 → words bs ≡ take i bs ∷ words_behind (take (length bs - i) (drop i bs))
words_split bs i less free space =
    let rest : take (length bs - i) (drop i bs) ≡ 32 ∷ drop (i + 1) bs = take_rest bs i ∙ drop_more bs i 0 less ∙ ap (λ b. b ∷ drop (i + 1) bs) space in
    words_cut bs i less free space ∙ ap (λ (t : List (List ℕ)). take i bs ∷ t) (sym (behind_space (drop (i + 1) bs)) ∙ ap words_behind (sym rest))

pub words_whole : (bs : List ℕ) → IsFreeTo bs (length bs) → words bs ≡ bs ∷ words_behind (take (length bs - length bs) (drop (length bs) bs))
words_whole bs free =
    let all : All (λ b. (b == 32) ≡ false) bs = All-from_get_or (λ b. (b == 32) ≡ false) bs 0 (λ k less. is_no_space (get_or bs k 0) (free k less)) in
    words_last bs all ∙ ap (λ (t : List (List ℕ)). bs ∷ t) (sym (ap words_behind (take_rest bs (length bs) ∙ drop_all (length bs) bs (omega arith)) ∙ behind_none))

-- behind the first space
pub behind_cut : (bs : List ℕ) (i : ℕ) → i < length bs → IsFreeTo bs i → get_or bs i 0 ≡ 32 → words_behind bs ≡ words (take (length bs - (i + 1)) (drop (i + 1) bs))
behind_cut bs i less free space = ap (drop 1) (words_cut bs i less free space) ∙ ap words (sym (take_rest bs (i + 1)))

pub behind_whole : (bs : List ℕ) → IsFreeTo bs (length bs) → words_behind bs ≡ []
behind_whole bs free =
    ap (drop 1) (words_last bs (All-from_get_or (λ b. (b == 32) ≡ false) bs 0 (λ k less. is_no_space (get_or bs k 0) (free k less))))
