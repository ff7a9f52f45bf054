-- A line behind the floor has the form that its words say.
use Rattle.std.proofs.Common.{◌≡◌, ℕ, suc, ◌<◌, ◌≤◌, ◌/◌, ◌==◌, false, List, [], ◌∷◌, ◌++◌, length, drop, map, All, decimal, Option, None, Some, Result, Ok, Err, refl, sym, ◌∙◌, ap, subst, arith, length-append}
use Rattle.std.specs.Prelude.{codes}
use Rattle.std.specs.List.{flat_map}
use Rattle.std.proofs.lemmas.List.Elements.{All-append, All-cons, All-nil}
use Rattle.bp_base.specs.declared.memory.NoMemory.{NoMemory}
use Rattle.bp_base.specs.declared.path.Pair.{Pair}
use Rattle.bp_base.specs.declared.point.Axis.{Axis}
use Rattle.bp_base.specs.declared.point.Axis.TheVariants.{X, Y}
use Rattle.bp_base.specs.Limits.{most_number}
use Rattle.bp_arrangement.specs.declared.fact.Fact.{Fact}
use Rattle.bp_arrangement.specs.declared.fact.Fact.TheVariants.{Before, NotBefore, Least, Below}
use Rattle.bp_arrangement.specs.declared.fact.Hint.{Hint}
use Rattle.bp_arrangement.specs.declared.fact.Hint.TheVariants.{Pair as OfPair, Lemma as OfLemma}
use Rattle.bp_document.specs.Nodes.{IsPairOfNumbers}
use Rattle.bp_document.specs.Lines.{axis_word}
use Rattle.bp_document.specs.Words.{words}
use Rattle.bp_document.proofs.NodeLines.{IsWord, spelled_word, number_word, line_of_words, words_of_line}
use Rattle.bp_certificate.specs.declared.certificate.Lemma.{Lemma}
use Rattle.bp_certificate.specs.Lines.{coordinate, corner_words, count_words, fact_word, hint_word, lemma_line, pair_words, swap_line}
use Rattle.bp_certificate.specs.Ranges.{IsCornerLine, IsSmallFact, IsSmallHint, IsFactList, IsHintList, most_line_bytes}
use Rattle.bp_certificate.specs.Words.{AreFacts, IsCornerForm, IsCountForm, IsCountLine, IsLemmaForm, IsSwapForm, ReadsCorner, ReadsCount, ReadsHints, ReadsLemma, ReadsLemmaWords, ReadsSwap, back_of, front_of, lemma_words, sign_of}
use Rattle.bp_certificate.proofs.WordLists.{by_once}
use Rattle.bp_certificate.proofs.FactWords.{each_sign, half_small, parts_are, sign_is}

axis_is_word : (axis : Axis) → IsWord (axis_word axis)
axis_is_word X = spelled_word (codes "x") refl
axis_is_word Y = spelled_word (codes "y") refl

coordinate_is_word : (axis : Axis) (leaf : ℕ) → leaf ≤ most_number → IsWord (coordinate axis leaf)
coordinate_is_word axis leaf small = All-append (λ b. (b == 32) ≡ false) (axis_word axis) (decimal leaf) (axis_is_word axis) (number_word leaf small)

front_is_word : (f : Fact) → IsSmallFact f → IsWord (front_of f)
front_is_word (Before axis first second) small = coordinate_is_word axis first small.0
front_is_word (NotBefore axis first second) small = All-cons (λ b. (b == 32) ≡ false) 33 (coordinate axis first) refl (coordinate_is_word axis first small.0)
front_is_word (Least axis leaf code) small = coordinate_is_word axis leaf small.0
front_is_word (Below axis leaf code) small = coordinate_is_word axis leaf small.0

back_is_word : (f : Fact) → IsSmallFact f → IsWord (back_of f)
back_is_word (Before axis first second) small = coordinate_is_word axis second small.1
back_is_word (NotBefore axis first second) small = coordinate_is_word axis second small.1
back_is_word (Least axis leaf code) small = number_word (code / 2) (half_small code small.1)
back_is_word (Below axis leaf code) small = number_word (code / 2) (half_small code small.1)

sign_is_word : (f : Fact) → IsWord (sign_of f)
sign_is_word f = each_sign IsWord (spelled_word (codes "<<") refl) (spelled_word (codes ">=") refl) (spelled_word (codes ">") refl) (spelled_word (codes "<") refl) (spelled_word (codes "<=") refl) (sign_of f) (sign_is f)

fact_is_word : (f : Fact) → IsSmallFact f → IsWord (fact_word f)
fact_is_word f small =
    subst IsWord (sym (parts_are f))
    (All-append (λ b. (b == 32) ≡ false) (front_of f) (sign_of f ++ back_of f) (front_is_word f small)
    (All-append (λ b. (b == 32) ≡ false) (sign_of f) (back_of f) (sign_is_word f) (back_is_word f small)))

hint_is_word : (h : Hint) → IsSmallHint h → IsWord (hint_word h)
unfolding hint_word
hint_is_word (OfPair p) small = All-append (λ b. (b == 32) ≡ false) (decimal p.i) (codes "-" ++ decimal p.j) (number_word p.i small.0) (All-cons (λ b. (b == 32) ≡ false) 45 (decimal p.j) refl (number_word p.j small.1))
hint_is_word (OfLemma n) small = number_word n small

each_word : {X : Type 0} (f : X → List ℕ) (P : X → Type 0) → ((x : X) → P x → IsWord (f x)) → (xs : List X) → All P xs → All IsWord (map f xs)
each_word f P is [] all = All-nil IsWord
each_word f P is (x ∷ xs) all = All-cons IsWord (f x) (map f xs) (is x (all 0 x (omega arith))) (each_word f P is xs (λ k d less. all (suc k) d (omega (arith, less))))

lemma_is_words : (l : Lemma) → IsFactList l.facts → IsHintList l.hints → All IsWord (map fact_word l.facts ++ codes "by" ∷ map hint_word l.hints)
lemma_is_words l facts hints =
    All-append IsWord (map fact_word l.facts) (codes "by" ∷ map hint_word l.hints) (each_word fact_word IsSmallFact fact_is_word l.facts facts.small)
    (All-cons IsWord (codes "by") (map hint_word l.hints) (spelled_word (codes "by") refl) (each_word hint_word IsSmallHint hint_is_word l.hints hints.small))

pairs_are_words : (ps : List Pair) → All IsPairOfNumbers ps → All IsWord (flat_map pair_words ps)
pairs_are_words [] all = All-nil IsWord
pairs_are_words (p ∷ ps) all =
    let small = all 0 p (omega arith) in
    All-cons IsWord (decimal p.i) (decimal p.j ∷ flat_map pair_words ps) (number_word p.i small.0)
    (All-cons IsWord (decimal p.j) (flat_map pair_words ps) (number_word p.j small.1) (pairs_are_words ps (λ k d less. all (suc k) d (omega (arith, less)))))

corner_is_words : (corner : Option Pair) → IsCornerLine corner → All IsWord (corner_words corner)
corner_is_words None small = All-cons IsWord (codes "none") [] (spelled_word (codes "none") refl) (All-nil IsWord)
corner_is_words (Some p) small = All-cons IsWord (decimal p.i) (decimal p.j ∷ []) (number_word p.i small.0) (All-cons IsWord (decimal p.j) [] (number_word p.j small.1) (All-nil IsWord))

count_is_words : (count : Option ℕ) → IsCountLine count → All IsWord (count_words count)
count_is_words None range = All-cons IsWord (codes "none") [] (spelled_word (codes "none") refl) (All-nil IsWord)
count_is_words (Some count) range = All-cons IsWord (decimal count) [] (number_word count (omega (arith, range.1))) (All-nil IsWord)

module _ (bytes : List ℕ) where
  pub lemma_line_words : (l : Lemma) → IsLemmaForm bytes l → words bytes ≡ lemma_words l
  unfolding lemma_line
  lemma_line_words l is = words_of_line bytes (codes "no") (map fact_word l.facts ++ codes "by" ∷ map hint_word l.hints) (spelled_word (codes "no") refl) (lemma_is_words l is.small.facts is.small.hints) is.text

  lemma_text : (l : Lemma) → words bytes ≡ lemma_words l → bytes ++ 10 ∷ [] ≡ lemma_line l
  unfolding lemma_line
  lemma_text l same = line_of_words bytes (codes "no") (map fact_word l.facts ++ codes "by" ∷ map hint_word l.hints) same

  pub lemma_exact : (r : Result (Option Lemma) NoMemory) → length bytes ≤ most_line_bytes → ReadsLemmaWords (words bytes) r → ReadsLemma bytes r
  lemma_exact (Ok None) short reads = λ l is. reads l is.small.facts is.small.hints (lemma_line_words l is)
  lemma_exact (Ok (Some l)) short reads =
      let text = lemma_text l reads.2 in
      record { text = text; small = record { facts = reads.0; hints = reads.1; short = omega (arith, short, ap length text, length-append bytes (10 ∷ [])) } }
  lemma_exact (Err e) short reads = tt

  pub long_lemma : most_line_bytes < length bytes → ReadsLemma bytes (Ok None)
  long_lemma long l is = omega (arith, long, ap length is.text, length-append bytes (10 ∷ []), is.small.short)

  pub swap_line_words : (swap : List Pair) → IsSwapForm bytes swap → words bytes ≡ codes "swap" ∷ flat_map pair_words swap
  unfolding swap_line
  swap_line_words swap is = words_of_line bytes (codes "swap") (flat_map pair_words swap) (spelled_word (codes "swap") refl) (pairs_are_words swap is.small.small) is.text

  pub no_swap : ReadsSwap (words bytes) (Ok None) → (swap : List Pair) → IsSwapForm bytes swap → ⊥
  no_swap reads swap is = reads swap is.small (swap_line_words swap is)

  pub swap_read : (swap : List Pair) → ReadsSwap (words bytes) (Ok (Some swap)) → IsSwapForm bytes swap
  unfolding swap_line
  swap_read swap reads = record { text = line_of_words bytes (codes "swap") (flat_map pair_words swap) reads.1; small = reads.0 }

  pub corner_line_words : (corner : Option Pair) → IsCornerForm bytes corner → words bytes ≡ codes "corner" ∷ corner_words corner
  corner_line_words corner is = words_of_line bytes (codes "corner") (corner_words corner) (spelled_word (codes "corner") refl) (corner_is_words corner is.small) is.text

  pub no_corner : ReadsCorner (words bytes) None → (corner : Option Pair) → IsCornerForm bytes corner → ⊥
  no_corner reads corner is = reads corner is.small (corner_line_words corner is)

  pub corner_read : (corner : Option Pair) → ReadsCorner (words bytes) (Some corner) → IsCornerForm bytes corner
  corner_read corner reads = record { text = line_of_words bytes (codes "corner") (corner_words corner) reads.1; small = reads.0 }

  pub count_line_words : (count : Option ℕ) → IsCountForm bytes count → words bytes ≡ codes "lemmas" ∷ count_words count
  count_line_words count is = words_of_line bytes (codes "lemmas") (count_words count) (spelled_word (codes "lemmas") refl) (count_is_words count is.range) is.text

  pub no_count : ReadsCount (words bytes) None → (count : Option ℕ) → IsCountForm bytes count → ⊥
  no_count reads count is = reads count is.range (count_line_words count is)

  pub count_read : (count : Option ℕ) → ReadsCount (words bytes) (Some count) → IsCountForm bytes count
  count_read count reads = record { text = line_of_words bytes (codes "lemmas") (count_words count) reads.1; range = reads.0 }

-- what stands behind `by` are no hints
pub no_hints : (ws behind : List (List ℕ)) (w : List ℕ) (fs : List Fact) (tail : List (List ℕ)) → ws ≡ w ∷ behind → AreFacts behind fs tail → ReadsHints tail (Ok None) → ReadsLemmaWords ws (Ok None)
no_hints ws behind w fs tail here are none l facts hints same =
    none l.hints hints (by_once behind fs l.facts tail (map hint_word l.hints) are (facts, ap (drop 1) (sym here ∙ same)))
