-- The text of a certificate in the parts in which it is written.
use Rattle.std.proofs.Common.{◌≡◌, ◌++◌, List, [], ◌∷◌, ℕ, map, append_assoc, length, Option, Some, Result, refl, sym, ap, subst, ◌∙◌, decimal}
use Rattle.std.specs.Prelude.{codes}
use Rattle.std.specs.List.{flat_map}
use Rattle.std.proofs.lemmas.List.Folds.{flat_map-map}
use Rattle.std.proofs.lemmas.List.{append-nil}
use Rattle.std.proofs.lemmas.Grind.{flat_map-append}
use Rattle.bp_base.specs.declared.path.Pair.{Pair}
use Rattle.bp_arrangement.specs.declared.fact.Fact.{Fact}
use Rattle.bp_arrangement.specs.declared.fact.Hint.{Hint}
use Rattle.bp_document.specs.Lines.{line, word}
use Rattle.bp_certificate.specs.declared.certificate.Lemma.{Lemma}
use Rattle.bp_base.specs.declared.outside.Failed.{Failed}
use Rattle.bp_text.specs.Puts.{Puts}
use Rattle.bp_certificate.specs.declared.certificate.Lemmas.{Lemmas}
use Rattle.bp_certificate.specs.Text.{search_text, swap_lines}
use Rattle.bp_certificate.specs.Lines.{fact_word, hint_word, pair_words, swap_line, lemma_line, corner_line, count_line}

pub four : (a b c d : List ℕ) → a ++ (b ++ (c ++ d)) ≡ (a ++ (b ++ c)) ++ d
four a b c d = simp append_assoc refl

pub three : (a b c : List ℕ) → a ++ (b ++ c) ≡ (a ++ b) ++ c
three a b c = sym (append_assoc a b c)

-- words with a space before each
abbrev pub spaced_fact : Fact → List ℕ
spaced_fact f = word (fact_word f)

abbrev pub spaced_hint : Hint → List ℕ
spaced_hint h = word (hint_word h)

abbrev pub spaced_pair : Pair → List ℕ
spaced_pair p = word (decimal p.i ++ word (decimal p.j))

pub all_facts : (fs : List Fact) → flat_map word (map fact_word fs) ≡ flat_map spaced_fact fs
all_facts fs = flat_map-map word fact_word fs

pub all_hints : (hs : List Hint) → flat_map word (map hint_word hs) ≡ flat_map spaced_hint hs
all_hints hs = flat_map-map word hint_word hs

two_words : (p : Pair) → flat_map word (pair_words p) ≡ spaced_pair p
two_words p = ap (λ (t : List ℕ). word (decimal p.i) ++ t) (append-nil (word (decimal p.j)))

pub all_pairs : (ps : List Pair) → flat_map word (flat_map pair_words ps) ≡ flat_map spaced_pair ps
all_pairs [] = refl
all_pairs (p ∷ ps) =
    flat_map-append word (pair_words p) (flat_map pair_words ps)
    ∙ ap (λ (t : List ℕ). t ++ flat_map word (flat_map pair_words ps)) (two_words p)
    ∙ ap (λ (t : List ℕ). spaced_pair p ++ t) (all_pairs ps)

-- three parts, in the other grouping
pub after : (a b c t : List ℕ) → t ≡ a ++ (b ++ c) → t ≡ (a ++ b) ++ c
after a b c t same = same ∙ three a b c

pub swap_parts : (swap : List Pair) → swap_line swap ≡ codes "swap" ++ (flat_map word (flat_map pair_words swap) ++ 10 ∷ [])
unfolding swap_line line
swap_parts swap = append_assoc (codes "swap") (flat_map word (flat_map pair_words swap)) (10 ∷ [])

lemma_split : (a b c d e : List ℕ) → (a ++ (b ++ (c ++ d))) ++ e ≡ (a ++ (b ++ c)) ++ (d ++ e)
lemma_split a b c d e = simp append_assoc refl

-- a lemma's line: its facts up to `by`, its hints and its end
pub lemma_parts : (l : Lemma) → lemma_line l ≡ (codes "no" ++ (flat_map word (map fact_word l.facts) ++ codes " by")) ++ (flat_map word (map hint_word l.hints) ++ 10 ∷ [])
unfolding lemma_line line
lemma_parts l =
    ap (λ (t : List ℕ). (codes "no" ++ t) ++ 10 ∷ []) (flat_map-append word (map fact_word l.facts) (codes "by" ∷ map hint_word l.hints))
    ∙ lemma_split (codes "no") (flat_map word (map fact_word l.facts)) (codes " by") (flat_map word (map hint_word l.hints)) (10 ∷ [])

-- the same, with the lists as the code has them
pub lemma_parts_as : (l : Lemma) (fs : List Fact) (hs : List Hint) → fs ≡ l.facts → hs ≡ l.hints → lemma_line l ≡ (codes "no" ++ (flat_map word (map fact_word fs) ++ codes " by")) ++ (flat_map word (map hint_word hs) ++ 10 ∷ [])
lemma_parts_as l fs hs same_facts same_hints =
    lemma_parts l
    ∙ ap (λ (t : List Fact). (codes "no" ++ (flat_map word (map fact_word t) ++ codes " by")) ++ (flat_map word (map hint_word l.hints) ++ 10 ∷ [])) (sym same_facts)
    ∙ ap (λ (t : List Hint). (codes "no" ++ (flat_map word (map fact_word fs) ++ codes " by")) ++ (flat_map word (map hint_word t) ++ 10 ∷ [])) (sym same_hints)

pub swaps_and_lemmas : (swaps swaps' : List (List Pair)) (lemmas lemmas' : List Lemma) → swaps ≡ swaps' → lemmas ≡ lemmas' → swap_lines swaps' ++ flat_map lemma_line lemmas' ≡ swap_lines swaps ++ flat_map lemma_line lemmas
swaps_and_lemmas swaps swaps' lemmas lemmas' same same' = λ i. swap_lines (sym same i) ++ flat_map lemma_line (sym same' i)

-- the text of what the code has in another name
pub puts_at : {T X : Type 0} (f : X → List ℕ) (a c : Option (List ℕ)) (r : Result T Failed) (x y : X) → x ≡ y → Puts a c r (f x) → Puts a c r (f y)
puts_at f a c r x y same puts = subst (λ z. Puts a c r (f z)) same puts

pub search_as : (L : Lemmas) (n : ℕ) → n ≡ length L.lemmas → search_text L ≡ count_line (Some n) ++ (corner_line L.corner ++ (swap_lines L.swaps ++ flat_map lemma_line L.lemmas))
unfolding search_text
search_as L n same = ap (λ (k : ℕ). count_line (Some k) ++ (corner_line L.corner ++ (swap_lines L.swaps ++ flat_map lemma_line L.lemmas))) (sym same)
