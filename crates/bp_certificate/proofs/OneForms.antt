-- What a line behind the floor is the form of is one thing, and no line holds an LF.
use Rattle.std.proofs.Common.{◌≡◌, ◌≢◌, ℕ, suc, ◌+◌, ◌≤◌, ◌/◌, List, [], ◌∷◌, ◌++◌, length, get_or, drop, map, All, decimal, Option, None, Some, refl, sym, ◌∙◌, ap, subst, arith}
use Rattle.std.specs.Prelude.{codes}
use Rattle.std.specs.List.{flat_map}
use Rattle.std.proofs.lemmas.Fmt.{decimal_injective}
use Rattle.std.proofs.lemmas.List.{append_cancel_right}
use Rattle.std.proofs.lemmas.List.Elements.{All-append, All-cons, All-nil, All-from_get_or}
use Rattle.bp_base.specs.declared.path.Pair.{Pair}
use Rattle.bp_base.specs.declared.point.Axis.{Axis}
use Rattle.bp_base.specs.declared.point.Axis.TheVariants.{X, Y}
use Rattle.bp_base.specs.Limits.{most_number}
use Rattle.bp_arrangement.specs.declared.fact.Fact.{Fact}
use Rattle.bp_arrangement.specs.declared.fact.Fact.TheVariants.{Before, NotBefore, Least, Below}
use Rattle.bp_arrangement.specs.declared.fact.Hint.{Hint}
use Rattle.bp_arrangement.specs.declared.fact.Hint.TheVariants.{Pair as OfPair, Lemma as OfLemma}
use Rattle.bp_document.specs.Lines.{axis_word, line, word}
use Rattle.bp_document.specs.Forms.{IsLine}
use Rattle.bp_document.specs.Nodes.{IsPairOfNumbers}
use Rattle.bp_document.proofs.Spelling.{NoEnd, tidy_code}
use Rattle.bp_certificate.specs.declared.certificate.Lemma.{Lemma}
use Rattle.bp_certificate.specs.Lines.{coordinate, corner_words, count_words, fact_word, hint_word, lemma_line, pair_words, swap_line}
use Rattle.bp_certificate.specs.Ranges.{IsCornerLine, IsSmallFact, IsSmallHint}
use Rattle.bp_certificate.specs.Words.{IsCornerForm, IsCountForm, IsCountLine, IsLemmaForm, IsSwapForm, back_of, front_of, sign_of}
use Rattle.bp_certificate.proofs.WordLists.{not_by}
use Rattle.bp_certificate.proofs.FactWords.{digits_between, each_sign, fact_one, half_small, hint_one, parts_are, sign_is}
use Rattle.bp_certificate.proofs.LineForms.{corner_line_words, count_line_words, lemma_line_words, swap_line_words}

number_one : (n m : ℕ) → n ≤ most_number → m ≤ most_number → decimal n ≡ decimal m → n ≡ m
number_one n m small small' same = decimal_injective n m (omega (arith, small)) (omega (arith, small')) same

-- things of one word each are those of their words
words_one : {X : Type 0} (f : X → List ℕ) (P : X → Type 0) → ((x y : X) → P x → P y → f x ≡ f y → x ≡ y) → (xs ys : List X) → All P xs → All P ys → map f xs ≡ map f ys → xs ≡ ys
words_one f P one [] [] all all' same = refl
words_one f P one [] (y ∷ ys) all all' same = absurd (omega (arith, ap length same))
words_one f P one (x ∷ xs) [] all all' same = absurd (omega (arith, ap length same))
words_one f P one (x ∷ xs) (y ∷ ys) all all' same =
    let first = one x y (all 0 x (omega arith)) (all' 0 y (omega arith)) (ap (λ (ws : List (List ℕ)). get_or ws 0 []) same) in
    let rest = words_one f P one xs ys (λ k d less. all (suc k) d (omega (arith, less))) (λ k d less. all' (suc k) d (omega (arith, less))) (ap (drop 1) same) in
    λ i. first i ∷ rest i

-- facts, and what stands behind `by`
facts_one : (fs gs : List Fact) (x y : List (List ℕ)) → All IsSmallFact fs → All IsSmallFact gs → map fact_word fs ++ codes "by" ∷ x ≡ map fact_word gs ++ codes "by" ∷ y → (fs ≡ gs) × (x ≡ y)
facts_one [] [] x y all all' same = (refl, ap (drop 1) same)
facts_one [] (g ∷ gs) x y all all' same = absurd (not_by g (sym (ap (λ (ws : List (List ℕ)). get_or ws 0 []) same)))
facts_one (f ∷ fs) [] x y all all' same = absurd (not_by f (ap (λ (ws : List (List ℕ)). get_or ws 0 []) same))
facts_one (f ∷ fs) (g ∷ gs) x y all all' same =
    let first = fact_one f g (all 0 f (omega arith)) (all' 0 g (omega arith)) (ap (λ (ws : List (List ℕ)). get_or ws 0 []) same) in
    let rest = facts_one fs gs x y (λ k d less. all (suc k) d (omega (arith, less))) (λ k d less. all' (suc k) d (omega (arith, less))) (ap (drop 1) same) in
    (λ i. first i ∷ rest.0 i, rest.1)

pairs_one : (ps qs : List Pair) → All IsPairOfNumbers ps → All IsPairOfNumbers qs → flat_map pair_words ps ≡ flat_map pair_words qs → ps ≡ qs
pairs_one [] [] all all' same = refl
pairs_one [] (q ∷ qs) all all' same = absurd (omega (arith, ap length same))
pairs_one (p ∷ ps) [] all all' same = absurd (omega (arith, ap length same))
pairs_one (p ∷ ps) (q ∷ qs) all all' same =
    let small = all 0 p (omega arith) in
    let small' = all' 0 q (omega arith) in
    let i = number_one p.i q.i small.0 small'.0 (ap (λ (ws : List (List ℕ)). get_or ws 0 []) same) in
    let j = number_one p.j q.j small.1 small'.1 (ap (λ (ws : List (List ℕ)). get_or ws 1 []) same) in
    let rest = pairs_one ps qs (λ k d less. all (suc k) d (omega (arith, less))) (λ k d less. all' (suc k) d (omega (arith, less))) (ap (drop 2) same) in
    λ t. record { i = i t; j = j t } ∷ rest t

corner_words_one : (a b : Option Pair) → IsCornerLine a → IsCornerLine b → corner_words a ≡ corner_words b → a ≡ b
corner_words_one None None small small' same = refl
corner_words_one None (Some q) small small' same = absurd (omega (arith, ap length same))
corner_words_one (Some p) None small small' same = absurd (omega (arith, ap length same))
corner_words_one (Some p) (Some q) small small' same =
    let i = number_one p.i q.i small.0 small'.0 (ap (λ (ws : List (List ℕ)). get_or ws 0 []) same) in
    let j = number_one p.j q.j small.1 small'.1 (ap (λ (ws : List (List ℕ)). get_or ws 1 []) same) in
    λ t. Some (record { i = i t; j = j t })

no_digits : (n : ℕ) → n ≤ most_number → decimal n ≡ codes "none" → ⊥
no_digits n small same =
    let d = digits_between n small 0 (omega (arith, ap length same)) in
    omega (arith, d.1, ap (λ (w : List ℕ). get_or w 0 0) same)

count_words_one : (a b : Option ℕ) → IsCountLine a → IsCountLine b → count_words a ≡ count_words b → a ≡ b
count_words_one None None range range' same = refl
count_words_one None (Some m) range range' same = absurd (no_digits m (omega (arith, range'.1)) (sym (ap (λ (ws : List (List ℕ)). get_or ws 0 []) same)))
count_words_one (Some n) None range range' same = absurd (no_digits n (omega (arith, range.1)) (ap (λ (ws : List (List ℕ)). get_or ws 0 []) same))
count_words_one (Some n) (Some m) range range' same = ap Some (number_one n m (omega (arith, range.1)) (omega (arith, range'.1)) (ap (λ (ws : List (List ℕ)). get_or ws 0 []) same))

module _ (bytes : List ℕ) where
  pub lemma_one : (l m : Lemma) → IsLemmaForm bytes l → IsLemmaForm bytes m → l ≡ m
  lemma_one l m is is' =
      let same = ap (drop 1) (sym (lemma_line_words bytes l is) ∙ lemma_line_words bytes m is') in
      let both = facts_one l.facts m.facts (map hint_word l.hints) (map hint_word m.hints) is.small.facts.small is'.small.facts.small same in
      let hints = words_one hint_word IsSmallHint hint_one l.hints m.hints is.small.hints.small is'.small.hints.small both.1 in
      λ i. record { facts = both.0 i; hints = hints i }

  pub swap_one : (s t : List Pair) → IsSwapForm bytes s → IsSwapForm bytes t → s ≡ t
  swap_one s t is is' = pairs_one s t is.small.small is'.small.small (ap (drop 1) (sym (swap_line_words bytes s is) ∙ swap_line_words bytes t is'))

  pub corner_one : (a b : Option Pair) → IsCornerForm bytes a → IsCornerForm bytes b → a ≡ b
  corner_one a b is is' = corner_words_one a b is.small is'.small (ap (drop 1) (sym (corner_line_words bytes a is) ∙ corner_line_words bytes b is'))

  pub count_one : (a b : Option ℕ) → IsCountForm bytes a → IsCountForm bytes b → a ≡ b
  count_one a b is is' = count_words_one a b is.range is'.range (ap (drop 1) (sym (count_line_words bytes a is) ∙ count_line_words bytes b is'))

-- no word of a line holds an LF
free_number : (n : ℕ) → n ≤ most_number → NoEnd (decimal n)
free_number n small = All-from_get_or (λ b. b ≢ 10) (decimal n) 0 (λ k less is. let d = digits_between n small k less in omega (arith, d.0, is))

one_free : (b : ℕ) → b ≢ 10 → NoEnd (b ∷ [])
one_free b is = All-cons (λ c. c ≢ 10) b [] is (All-nil (λ c. c ≢ 10))

two_free : (b c : ℕ) → b ≢ 10 → c ≢ 10 → NoEnd (b ∷ c ∷ [])
two_free b c is is' = All-cons (λ d. d ≢ 10) b (c ∷ []) is (one_free c is')

axis_free : (axis : Axis) → NoEnd (axis_word axis)
axis_free X = one_free 120 (λ h. omega (arith, h))
axis_free Y = one_free 121 (λ h. omega (arith, h))

coordinate_free : (axis : Axis) (leaf : ℕ) → leaf ≤ most_number → NoEnd (coordinate axis leaf)
coordinate_free axis leaf small = All-append (λ b. b ≢ 10) (axis_word axis) (decimal leaf) (axis_free axis) (free_number leaf small)

front_free : (f : Fact) → IsSmallFact f → NoEnd (front_of f)
front_free (Before axis first second) small = coordinate_free axis first small.0
front_free (NotBefore axis first second) small = All-cons (λ b. b ≢ 10) 33 (coordinate axis first) (λ h. omega (arith, h)) (coordinate_free axis first small.0)
front_free (Least axis leaf code) small = coordinate_free axis leaf small.0
front_free (Below axis leaf code) small = coordinate_free axis leaf small.0

back_free : (f : Fact) → IsSmallFact f → NoEnd (back_of f)
back_free (Before axis first second) small = coordinate_free axis second small.1
back_free (NotBefore axis first second) small = coordinate_free axis second small.1
back_free (Least axis leaf code) small = free_number (code / 2) (half_small code small.1)
back_free (Below axis leaf code) small = free_number (code / 2) (half_small code small.1)

sign_free : (f : Fact) → NoEnd (sign_of f)
sign_free f =
    each_sign NoEnd (two_free 60 60 (λ h. omega (arith, h)) (λ h. omega (arith, h))) (two_free 62 61 (λ h. omega (arith, h)) (λ h. omega (arith, h))) (one_free 62 (λ h. omega (arith, h))) (one_free 60 (λ h. omega (arith, h))) (two_free 60 61 (λ h. omega (arith, h)) (λ h. omega (arith, h)))
    (sign_of f) (sign_is f)

fact_free : (f : Fact) → IsSmallFact f → NoEnd (fact_word f)
fact_free f small =
    subst NoEnd (sym (parts_are f))
    (All-append (λ b. b ≢ 10) (front_of f) (sign_of f ++ back_of f) (front_free f small) (All-append (λ b. b ≢ 10) (sign_of f) (back_of f) (sign_free f) (back_free f small)))

hint_free : (h : Hint) → IsSmallHint h → NoEnd (hint_word h)
unfolding hint_word
hint_free (OfPair p) small = All-append (λ b. b ≢ 10) (decimal p.i) (45 ∷ decimal p.j) (free_number p.i small.0) (All-cons (λ b. b ≢ 10) 45 (decimal p.j) (λ h. omega (arith, h)) (free_number p.j small.1))
hint_free (OfLemma n) small = free_number n small

each_free : {X : Type 0} (f : X → List ℕ) (P : X → Type 0) → ((x : X) → P x → NoEnd (f x)) → (xs : List X) → All P xs → All NoEnd (map f xs)
each_free f P is [] all = All-nil NoEnd
each_free f P is (x ∷ xs) all = All-cons NoEnd (f x) (map f xs) (is x (all 0 x (omega arith))) (each_free f P is xs (λ k d less. all (suc k) d (omega (arith, less))))

pairs_free : (ps : List Pair) → All IsPairOfNumbers ps → All NoEnd (flat_map pair_words ps)
pairs_free [] all = All-nil NoEnd
pairs_free (p ∷ ps) all =
    let small = all 0 p (omega arith) in
    All-cons NoEnd (decimal p.i) (decimal p.j ∷ flat_map pair_words ps) (free_number p.i small.0)
    (All-cons NoEnd (decimal p.j) (flat_map pair_words ps) (free_number p.j small.1) (pairs_free ps (λ k d less. all (suc k) d (omega (arith, less)))))

words_free : (ws : List (List ℕ)) → All NoEnd ws → NoEnd (flat_map word ws)
words_free [] all = All-nil (λ b. b ≢ 10)
words_free (w ∷ ws) all =
    All-cons (λ b. b ≢ 10) 32 (w ++ flat_map word ws) (λ h. omega (arith, h))
    (All-append (λ b. b ≢ 10) w (flat_map word ws) (all 0 w (omega arith)) (words_free ws (λ k d less. all (suc k) d (omega (arith, less)))))

-- a line of a keyword and words
pub line_free : (bytes k : List ℕ) (ws : List (List ℕ)) → NoEnd k → All NoEnd ws → IsLine bytes (line k ws) → NoEnd bytes
unfolding line
line_free bytes k ws key all is =
    subst NoEnd (sym (append_cancel_right bytes (k ++ flat_map word ws) (10 ∷ []) is)) (All-append (λ b. b ≢ 10) k (flat_map word ws) key (words_free ws all))

one_word : (w : List ℕ) → NoEnd w → All NoEnd (w ∷ [])
one_word w is = All-cons NoEnd w [] is (All-nil NoEnd)

none_free : NoEnd (codes "none")
none_free = (tidy_code (codes "none") refl refl (omega arith)).free

module _ (bytes : List ℕ) where
  pub lemma_has_no_end : (l : Lemma) → IsLemmaForm bytes l → NoEnd bytes
  unfolding lemma_line
  lemma_has_no_end l is =
      line_free bytes (codes "no") (map fact_word l.facts ++ codes "by" ∷ map hint_word l.hints) (tidy_code (codes "no") refl refl (omega arith)).free
      (All-append NoEnd (map fact_word l.facts) (codes "by" ∷ map hint_word l.hints) (each_free fact_word IsSmallFact fact_free l.facts is.small.facts.small)
      (All-cons NoEnd (codes "by") (map hint_word l.hints) (tidy_code (codes "by") refl refl (omega arith)).free (each_free hint_word IsSmallHint hint_free l.hints is.small.hints.small)))
      is.text

  pub swap_has_no_end : (swap : List Pair) → IsSwapForm bytes swap → NoEnd bytes
  unfolding swap_line
  swap_has_no_end swap is = line_free bytes (codes "swap") (flat_map pair_words swap) (tidy_code (codes "swap") refl refl (omega arith)).free (pairs_free swap is.small.small) is.text

  pub corner_has_no_end : (corner : Option Pair) → IsCornerForm bytes corner → NoEnd bytes
  corner_has_no_end None is = line_free bytes (codes "corner") (codes "none" ∷ []) (tidy_code (codes "corner") refl refl (omega arith)).free (one_word (codes "none") none_free) is.text
  corner_has_no_end (Some p) is =
      line_free bytes (codes "corner") (decimal p.i ∷ decimal p.j ∷ []) (tidy_code (codes "corner") refl refl (omega arith)).free
      (All-cons NoEnd (decimal p.i) (decimal p.j ∷ []) (free_number p.i is.small.0) (one_word (decimal p.j) (free_number p.j is.small.1))) is.text

  pub count_has_no_end : (count : Option ℕ) → IsCountForm bytes count → NoEnd bytes
  count_has_no_end None is = line_free bytes (codes "lemmas") (codes "none" ∷ []) (tidy_code (codes "lemmas") refl refl (omega arith)).free (one_word (codes "none") none_free) is.text
  count_has_no_end (Some n) is = line_free bytes (codes "lemmas") (decimal n ∷ []) (tidy_code (codes "lemmas") refl refl (omega arith)).free (one_word (decimal n) (free_number n (omega (arith, is.range.1)))) is.text

  pub mirror_has_no_end : IsLine bytes (line (codes "mirror") (codes "none" ∷ [])) → NoEnd bytes
  mirror_has_no_end is = line_free bytes (codes "mirror") (codes "none" ∷ []) (tidy_code (codes "mirror") refl refl (omega arith)).free (one_word (codes "none") none_free) is
