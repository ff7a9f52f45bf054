-- Facts and hints of their words, each in one way.
use Rattle.std.proofs.Common.{◌≡◌, ◌≢◌, ℕ, ◌+◌, ◌-◌, ◌*◌, ◌/◌, ◌%◌, ◌<◌, ◌≤◌, ◌==◌, ◌⊎◌, inl, inr, not, Bool, true, false, List, [], ◌∷◌, ◌++◌, length, get_or, take, drop, All, decimal, Option, None, Some, refl, sym, ◌∙◌, ap, subst, arith}
use Rattle.std.specs.Prelude.{codes, if◌then◌else◌}
use Rattle.std.proofs.lemmas.Bool.{ne_eqb, eqb-true, eqb-false}
use Rattle.std.proofs.lemmas.List.{append-nil, drop_more, take_rest}
use Rattle.std.proofs.lemmas.List.Elements.{All-cons, All-nil, All-append, All-from_get_or}
use Rattle.std.proofs.lemmas.Fmt.{decimal_is_IsNumeral, decimal_injective}
use Rattle.std.proofs.lemmas.Str.Parse.{digit_at}
use Rattle.bp_base.specs.declared.path.Pair.{Pair}
use Rattle.bp_base.specs.declared.point.Axis.{Axis}
use Rattle.bp_base.specs.declared.point.Axis.TheVariants.{X, Y}
use Rattle.bp_base.specs.Limits.{most_number}
use Rattle.bp_arrangement.specs.declared.fact.Fact.{Fact}
use Rattle.bp_arrangement.specs.declared.fact.Fact.TheVariants.{Before, NotBefore, Least, Below}
use Rattle.bp_arrangement.specs.declared.fact.Hint.{Hint}
use Rattle.bp_arrangement.specs.declared.fact.Hint.TheVariants.{Pair as OfPair, Lemma as OfLemma}
use Rattle.bp_text.specs.Numbers.{IsDecimal}
use Rattle.bp_document.specs.Lines.{axis_word}
use Rattle.bp_document.specs.Nodes.{IsPairOfNumbers}
use Rattle.bp_certificate.specs.declared.mark.Mark.TheVariants.{Sign, Other, Dash}
use Rattle.bp_certificate.specs.Lines.{coordinate, fact_word, hint_word}
use Rattle.bp_certificate.specs.Ranges.{IsSmallFact, IsSmallHint}
use Rattle.bp_certificate.specs.Words.{AreParts, Begins, IsCut, ReadsFact, ReadsHint, ReadsNotBefore, ReadsParts, back_of, front_of, is_marked, is_sign, sign_of}
use Rattle.bp_certificate.proofs.Cutting.{one_cut}

pub empty_by : (bs : List ℕ) → (length bs == 0) ≡ true → bs ≡ []
empty_by [] is = refl
empty_by (b ∷ bs) is = absurd (omega (arith, eqb-true (length (b ∷ bs)) 0 is))

pub some_by : (bs : List ℕ) → (length bs == 0) ≡ false → bs ≡ [] → ⊥
some_by bs is same = omega (arith, eqb-false (length bs) 0 is, ap length same)

pub first_byte : (bs : List ℕ) (b : ℕ) → (length bs == 0) ≡ false → get_or bs 0 0 ≡ b → bs ≡ b ∷ take (length bs - 1) (drop 1 bs)
first_byte bs b is here = drop_more bs 0 0 (omega (arith, eqb-false (length bs) 0 is)) ∙ (λ i. here i ∷ sym (take_rest bs 1) i)

abbrev pub NoSign : List ℕ → Type 0
NoSign w = All (λ b. is_marked Sign b ≡ false) w

no_sign : (b : ℕ) → b ≢ 60 → b ≢ 61 → b ≢ 62 → is_sign b ≡ false
no_sign b one two three = rw (ne_eqb b 60 one) (rw (ne_eqb b 61 two) (ne_eqb b 62 three))

pub digits_between : (n : ℕ) → n ≤ most_number → (k : ℕ) → k < length (decimal n) → (48 ≤ get_or (decimal n) k 0) × (get_or (decimal n) k 0 ≤ 57)
digits_between n small k less =
    let numeral = (decimal_is_IsNumeral n (omega arith)).0.1 in
    let d = digit_at (decimal n) k numeral less in
    (omega (arith, d.0), omega (arith, d.1))

number_no_sign : (n : ℕ) → n ≤ most_number → NoSign (decimal n)
number_no_sign n small =
    All-from_get_or (λ b. is_marked Sign b ≡ false) (decimal n) 0 (λ k less. let d = digits_between n small k less in no_sign (get_or (decimal n) k 0) (λ h. omega (arith, h, d.1)) (λ h. omega (arith, h, d.1)) (λ h. omega (arith, h, d.1)))

axis_no_sign : (axis : Axis) → NoSign (axis_word axis)
axis_no_sign X = All-cons (λ b. is_marked Sign b ≡ false) 120 [] refl (All-nil (λ b. is_marked Sign b ≡ false))
axis_no_sign Y = All-cons (λ b. is_marked Sign b ≡ false) 121 [] refl (All-nil (λ b. is_marked Sign b ≡ false))

coordinate_no_sign : (axis : Axis) (leaf : ℕ) → leaf ≤ most_number → NoSign (coordinate axis leaf)
coordinate_no_sign axis leaf small = All-append (λ b. is_marked Sign b ≡ false) (axis_word axis) (decimal leaf) (axis_no_sign axis) (number_no_sign leaf small)

pub half_small : (code : ℕ) → code ≤ 2 * most_number + 1 → code / 2 ≤ most_number
half_small code small = omega (arith, small)

front_no_sign : (f : Fact) → IsSmallFact f → NoSign (front_of f)
front_no_sign (Before axis first second) small = coordinate_no_sign axis first small.0
front_no_sign (NotBefore axis first second) small = All-cons (λ b. is_marked Sign b ≡ false) 33 (coordinate axis first) refl (coordinate_no_sign axis first small.0)
front_no_sign (Least axis leaf code) small = coordinate_no_sign axis leaf small.0
front_no_sign (Below axis leaf code) small = coordinate_no_sign axis leaf small.0

back_no_sign : (f : Fact) → IsSmallFact f → NoSign (back_of f)
back_no_sign (Before axis first second) small = coordinate_no_sign axis second small.1
back_no_sign (NotBefore axis first second) small = coordinate_no_sign axis second small.1
back_no_sign (Least axis leaf code) small = number_no_sign (code / 2) (half_small code small.1)
back_no_sign (Below axis leaf code) small = number_no_sign (code / 2) (half_small code small.1)

-- a sign is one of five
abbrev pub IsSignWord : List ℕ → Type 0
IsSignWord w = (w ≡ codes "<<") ⊎ (w ≡ codes ">=") ⊎ (w ≡ codes ">") ⊎ (w ≡ codes "<") ⊎ (w ≡ codes "<=")

least_if : (b : Bool) → IsSignWord (if b then codes ">=" else codes ">")
least_if true = inr (inl refl)
least_if false = inr (inr (inl refl))

below_if : (b : Bool) → IsSignWord (if b then codes "<" else codes "<=")
below_if true = inr (inr (inr (inl refl)))
below_if false = inr (inr (inr (inr refl)))

pub sign_is : (f : Fact) → IsSignWord (sign_of f)
sign_is (Before axis first second) = inl refl
sign_is (NotBefore axis first second) = inl refl
sign_is (Least axis leaf code) = least_if (code % 2 == 0)
sign_is (Below axis leaf code) = below_if (code % 2 == 0)

-- what is so of each sign is so of a fact's
pub each_sign : (P : List ℕ → Type 0) → P (codes "<<") → P (codes ">=") → P (codes ">") → P (codes "<") → P (codes "<=") → (w : List ℕ) → IsSignWord w → P w
each_sign P a b c d e w (inl h) = subst P (sym h) a
each_sign P a b c d e w (inr (inl h)) = subst P (sym h) b
each_sign P a b c d e w (inr (inr (inl h))) = subst P (sym h) c
each_sign P a b c d e w (inr (inr (inr (inl h)))) = subst P (sym h) d
each_sign P a b c d e w (inr (inr (inr (inr h)))) = subst P (sym h) e

one_mark : (b : ℕ) → is_marked Other b ≡ false → All (λ c. is_marked Other c ≡ false) (b ∷ [])
one_mark b is = All-cons (λ c. is_marked Other c ≡ false) b [] is (All-nil (λ c. is_marked Other c ≡ false))

two_marks : (b c : ℕ) → is_marked Other b ≡ false → is_marked Other c ≡ false → All (λ d. is_marked Other d ≡ false) (b ∷ c ∷ [])
two_marks b c is is' = All-cons (λ d. is_marked Other d ≡ false) b (c ∷ []) is (one_mark c is')

sign_all : (f : Fact) → All (λ b. is_marked Other b ≡ false) (sign_of f)
sign_all f = each_sign (λ w. All (λ b. is_marked Other b ≡ false) w) (two_marks 60 60 refl refl) (two_marks 62 61 refl refl) (one_mark 62 refl) (one_mark 60 refl) (two_marks 60 61 refl refl) (sign_of f) (sign_is f)

sign_begins : (f : Fact) → Begins Sign (sign_of f ++ back_of f)
sign_begins f = each_sign (λ w. Begins Sign (w ++ back_of f)) refl refl refl refl refl (sign_of f) (sign_is f)

begins_other : (w : List ℕ) → NoSign w → Begins Other w
begins_other [] none = tt
begins_other (b ∷ w) none = ap not (none 0 0 (omega arith))

pub parts_are : (f : Fact) → fact_word f ≡ front_of f ++ (sign_of f ++ back_of f)
unfolding fact_word
parts_are (Before axis first second) = refl
parts_are (NotBefore axis first second) = refl
parts_are (Least axis leaf code) = refl
parts_are (Below axis leaf code) = refl

-- a fact of its parts
module _ (w front behind sign back : List ℕ) (cut : IsCut Sign w front behind) (again : IsCut Other behind sign back) where
  pub parts_of_word : (f : Fact) → IsSmallFact f → w ≡ fact_word f → AreParts front sign back f
  parts_of_word f small same =
      let one = one_cut Sign front (front_of f) behind (sign_of f ++ back_of f) cut.free (front_no_sign f small) cut.begins (sign_begins f) (sym cut.whole ∙ same ∙ parts_are f) in
      let two = one_cut Other sign (sign_of f) back (back_of f) again.free (sign_all f) again.begins (begins_other (back_of f) (back_no_sign f small)) (sym again.whole ∙ one.1) in
      (one.0, two.0, two.1)

  pub fact_read : (r : Option Fact) → ReadsParts front sign back r → ReadsFact w r
  fact_read None reads = λ f small same. reads f small (parts_of_word f small same)
  fact_read (Some f) reads =
      let p = reads.1 in
      (reads.0, cut.whole ∙ ap (λ (t : List ℕ). front ++ t) again.whole ∙ (λ i. p.0 i ++ (p.1 i ++ p.2 i)) ∙ sym (parts_are f))

-- the first byte of a coordinate is an axis
axis_first : (axis : Axis) (leaf : ℕ) → get_or (coordinate axis leaf) 0 0 ≢ 33
axis_first X leaf h = omega (arith, h)
axis_first Y leaf h = omega (arith, h)

sign_apart : (b : Bool) → codes "<<" ≡ (if b then codes ">=" else codes ">") → ⊥
sign_apart true same = omega (arith, ap (λ (w : List ℕ). get_or w 0 0) same)
sign_apart false same = omega (arith, ap (λ (w : List ℕ). get_or w 0 0) same)

sign_apart_below : (b : Bool) → codes "<<" ≡ (if b then codes "<" else codes "<=") → ⊥
sign_apart_below true same = omega (arith, ap (λ (w : List ℕ). length w) same)
sign_apart_below false same = omega (arith, ap (λ (w : List ℕ). get_or w 1 0) same)

pub not_before_parts : (front rest sign back : List ℕ) (r : Option Fact) → front ≡ 33 ∷ rest → sign ≡ codes "<<" → ReadsNotBefore rest back r → ReadsParts front sign back r
not_before_parts front rest sign back None here order reads = go
  where
    go : (f : Fact) → IsSmallFact f → AreParts front sign back f → ⊥
    go (Before axis first second) small parts = axis_first axis first (sym (ap (λ (w : List ℕ). get_or w 0 0) (sym here ∙ parts.0)))
    go (NotBefore axis first second) small parts = reads axis first second small.0 small.1 (ap (drop 1) (sym here ∙ parts.0)) parts.2
    go (Least axis leaf code) small parts = sign_apart (code % 2 == 0) (sym order ∙ parts.1)
    go (Below axis leaf code) small parts = sign_apart_below (code % 2 == 0) (sym order ∙ parts.1)
not_before_parts front rest sign back (Some f) here order reads = (reads.0, (here ∙ reads.1.0, order ∙ reads.1.1, reads.1.2))

abbrev NoDash : List ℕ → Type 0
NoDash w = All (λ b. is_marked Dash b ≡ false) w

number_no_dash : (n : ℕ) → n ≤ most_number → NoDash (decimal n)
number_no_dash n small = All-from_get_or (λ b. is_marked Dash b ≡ false) (decimal n) 0 (λ k less. let d = digits_between n small k less in ne_eqb (get_or (decimal n) k 0) 45 (λ h. omega (arith, h, d.0)))

-- hints of their words
module _ (w front back : List ℕ) (cut : IsCut Dash w front back) where
  pair_cut : (p : Pair) → p.i ≤ most_number → w ≡ hint_word (OfPair p) → (front ≡ decimal p.i) × (back ≡ 45 ∷ decimal p.j)
  unfolding hint_word
  pair_cut p small same = one_cut Dash front (decimal p.i) back (45 ∷ decimal p.j) cut.free (number_no_dash p.i small) cut.begins refl (sym cut.whole ∙ same)

  number_cut : (n : ℕ) → n ≤ most_number → w ≡ hint_word (OfLemma n) → (front ≡ decimal n) × (back ≡ [])
  unfolding hint_word
  number_cut n small same = one_cut Dash front (decimal n) back [] cut.free (number_no_dash n small) cut.begins tt (sym cut.whole ∙ same ∙ sym (append-nil (decimal n)))

  pub no_first : ((n : ℕ) → IsDecimal most_number front n → ⊥) → ReadsHint w None
  no_first none (OfPair p) small same = none p.i ((pair_cut p small.0 same).0, small.0)
  no_first none (OfLemma n) small same = none n ((number_cut n small same).0, small)

  pub lemma_hint : (n : ℕ) → IsDecimal most_number front n → back ≡ [] → ReadsHint w (Some (OfLemma n))
  unfolding hint_word
  lemma_hint n is empty = (is.1, cut.whole ∙ ap (λ (t : List ℕ). front ++ t) empty ∙ append-nil front ∙ is.0)

  pub no_second : (rest : List ℕ) → (back ≡ [] → ⊥) → rest ≡ drop 1 back → ((n : ℕ) → IsDecimal most_number rest n → ⊥) → ReadsHint w None
  no_second rest some is none (OfPair p) small same = none p.j (is ∙ ap (drop 1) (pair_cut p small.0 same).1, small.1)
  no_second rest some is none (OfLemma n) small same = some (number_cut n small same).1

  dash_first : (bs : List ℕ) → Begins Dash bs → (bs ≡ [] → ⊥) → bs ≡ 45 ∷ drop 1 bs
  dash_first [] begins some = absurd (some refl)
  dash_first (b ∷ bs) begins some = ap (λ (c : ℕ). c ∷ bs) (is_dash b begins)
    where
      is_dash : (c : ℕ) → is_marked Dash c ≡ true → c ≡ 45
      is_dash c is = grind (arith, is)

  pub pair_hint : (rest : List ℕ) (i j : ℕ) → (back ≡ [] → ⊥) → rest ≡ drop 1 back → IsDecimal most_number front i → IsDecimal most_number rest j → ReadsHint w (Some (OfPair (record { i = i; j = j })))
  unfolding hint_word
  pair_hint rest i j some is first second =
      ((first.1, second.1), cut.whole ∙ (λ t. first.0 t ++ dash_first back cut.begins some t) ∙ ap (λ (u : List ℕ). decimal i ++ 45 ∷ u) (sym is ∙ second.0))

-- two facts share no word
number_one : (n m : ℕ) → n ≤ most_number → m ≤ most_number → decimal n ≡ decimal m → n ≡ m
number_one n m small small' same = decimal_injective n m (omega (arith, small)) (omega (arith, small')) same

coordinate_one : (axis other : Axis) (i j : ℕ) → i ≤ most_number → j ≤ most_number → coordinate axis i ≡ coordinate other j → (axis ≡ other) × (i ≡ j)
coordinate_one X X i j small small' same = (refl, number_one i j small small' (ap (drop 1) same))
coordinate_one X Y i j small small' same = absurd (omega (arith, ap (λ (w : List ℕ). get_or w 0 0) same))
coordinate_one Y X i j small small' same = absurd (omega (arith, ap (λ (w : List ℕ). get_or w 0 0) same))
coordinate_one Y Y i j small small' same = (refl, number_one i j small small' (ap (drop 1) same))

-- codes with one half and one parity are one
same_code : (c d : ℕ) (even : Bool) → (c % 2 == 0) ≡ even → (d % 2 == 0) ≡ even → c / 2 ≡ d / 2 → c ≡ d
same_code c d true is is' half = omega (arith, eqb-true (c % 2) 0 is, eqb-true (d % 2) 0 is', half)
same_code c d false is is' half = omega (arith, eqb-false (c % 2) 0 is, eqb-false (d % 2) 0 is', half)

least_parity : (a b : Bool) → (if a then codes ">=" else codes ">") ≡ (if b then codes ">=" else codes ">") → a ≡ b
least_parity true true same = refl
least_parity true false same = absurd (omega (arith, ap (λ (w : List ℕ). length w) same))
least_parity false true same = absurd (omega (arith, ap (λ (w : List ℕ). length w) same))
least_parity false false same = refl

below_parity : (a b : Bool) → (if a then codes "<" else codes "<=") ≡ (if b then codes "<" else codes "<=") → a ≡ b
below_parity true true same = refl
below_parity true false same = absurd (omega (arith, ap (λ (w : List ℕ). length w) same))
below_parity false true same = absurd (omega (arith, ap (λ (w : List ℕ). length w) same))
below_parity false false same = refl

bounds_apart : (a b : Bool) → (if a then codes ">=" else codes ">") ≡ (if b then codes "<" else codes "<=") → ⊥
bounds_apart true true same = omega (arith, ap (λ (w : List ℕ). get_or w 0 0) same)
bounds_apart true false same = omega (arith, ap (λ (w : List ℕ). get_or w 0 0) same)
bounds_apart false true same = omega (arith, ap (λ (w : List ℕ). get_or w 0 0) same)
bounds_apart false false same = omega (arith, ap (λ (w : List ℕ). get_or w 0 0) same)

one_of_parts : (f g : Fact) → IsSmallFact f → IsSmallFact g → AreParts (front_of g) (sign_of g) (back_of g) f → f ≡ g
one_of_parts (Before a i j) (Before b k l) small small' parts =
    let first = coordinate_one b a k i small'.0 small.0 parts.0 in
    let second = coordinate_one b a l j small'.1 small.1 parts.2 in
    sym (λ t. Before (first.0 t) (first.1 t) (second.1 t))
one_of_parts (Before a i j) (NotBefore b k l) small small' parts = absurd (axis_first a i (sym (ap (λ (w : List ℕ). get_or w 0 0) parts.0)))
one_of_parts (Before a i j) (Least b k c) small small' parts = absurd (sign_apart (c % 2 == 0) (sym parts.1))
one_of_parts (Before a i j) (Below b k c) small small' parts = absurd (sign_apart_below (c % 2 == 0) (sym parts.1))
one_of_parts (NotBefore a i j) (Before b k l) small small' parts = absurd (axis_first b k (ap (λ (w : List ℕ). get_or w 0 0) parts.0))
one_of_parts (NotBefore a i j) (NotBefore b k l) small small' parts =
    let first = coordinate_one b a k i small'.0 small.0 (ap (drop 1) parts.0) in
    let second = coordinate_one b a l j small'.1 small.1 parts.2 in
    sym (λ t. NotBefore (first.0 t) (first.1 t) (second.1 t))
one_of_parts (NotBefore a i j) (Least b k c) small small' parts = absurd (sign_apart (c % 2 == 0) (sym parts.1))
one_of_parts (NotBefore a i j) (Below b k c) small small' parts = absurd (sign_apart_below (c % 2 == 0) (sym parts.1))
one_of_parts (Least a i c) (Before b k l) small small' parts = absurd (sign_apart (c % 2 == 0) parts.1)
one_of_parts (Least a i c) (NotBefore b k l) small small' parts = absurd (sign_apart (c % 2 == 0) parts.1)
one_of_parts (Least a i c) (Least b k d) small small' parts =
    let first = coordinate_one b a k i small'.0 small.0 parts.0 in
    let half = number_one (d / 2) (c / 2) (half_small d small'.1) (half_small c small.1) parts.2 in
    let code = same_code d c (c % 2 == 0) (least_parity (d % 2 == 0) (c % 2 == 0) parts.1) refl half in
    sym (λ t. Least (first.0 t) (first.1 t) (code t))
one_of_parts (Least a i c) (Below b k d) small small' parts = absurd (bounds_apart (c % 2 == 0) (d % 2 == 0) (sym parts.1))
one_of_parts (Below a i c) (Before b k l) small small' parts = absurd (sign_apart_below (c % 2 == 0) parts.1)
one_of_parts (Below a i c) (NotBefore b k l) small small' parts = absurd (sign_apart_below (c % 2 == 0) parts.1)
one_of_parts (Below a i c) (Least b k d) small small' parts = absurd (bounds_apart (d % 2 == 0) (c % 2 == 0) parts.1)
one_of_parts (Below a i c) (Below b k d) small small' parts =
    let first = coordinate_one b a k i small'.0 small.0 parts.0 in
    let half = number_one (d / 2) (c / 2) (half_small d small'.1) (half_small c small.1) parts.2 in
    let code = same_code d c (c % 2 == 0) (below_parity (d % 2 == 0) (c % 2 == 0) parts.1) refl half in
    sym (λ t. Below (first.0 t) (first.1 t) (code t))

pub fact_one : (f g : Fact) → IsSmallFact f → IsSmallFact g → fact_word f ≡ fact_word g → f ≡ g
fact_one f g small small' same =
    let first : IsCut Sign (fact_word g) (front_of g) (sign_of g ++ back_of g) = record { whole = parts_are g; free = front_no_sign g small'; begins = sign_begins g } in
    let second : IsCut Other (sign_of g ++ back_of g) (sign_of g) (back_of g) = record { whole = refl; free = sign_all g; begins = begins_other (back_of g) (back_no_sign g small') } in
    one_of_parts f g small small' (parts_of_word (fact_word g) (front_of g) (sign_of g ++ back_of g) (sign_of g) (back_of g) first second f small (sym same))

-- two hints share no word
pair_is_cut : (q : Pair) → IsPairOfNumbers q → IsCut Dash (hint_word (OfPair q)) (decimal q.i) (45 ∷ decimal q.j)
unfolding hint_word
pair_is_cut q small = record { whole = refl; free = number_no_dash q.i small.0; begins = refl }

no_number : (p : Pair) (n : ℕ) → IsPairOfNumbers p → n ≤ most_number → hint_word (OfPair p) ≡ hint_word (OfLemma n) → ⊥
no_number p n small small' same =
    let cut = number_cut (hint_word (OfPair p)) (decimal p.i) (45 ∷ decimal p.j) (pair_is_cut p small) n small' same in
    omega (arith, ap length cut.1)

pub hint_one : (h k : Hint) → IsSmallHint h → IsSmallHint k → hint_word h ≡ hint_word k → h ≡ k
unfolding hint_word
hint_one (OfPair p) (OfPair q) small small' same =
    let cut = pair_cut (hint_word (OfPair q)) (decimal q.i) (45 ∷ decimal q.j) (pair_is_cut q small') p small.0 (sym same) in
    let i = number_one p.i q.i small.0 small'.0 (sym cut.0) in
    let j = number_one p.j q.j small.1 small'.1 (sym (ap (drop 1) cut.1)) in
    λ t. OfPair (record { i = i t; j = j t })
hint_one (OfPair p) (OfLemma n) small small' same = absurd (no_number p n small small' same)
hint_one (OfLemma n) (OfPair q) small small' same = absurd (no_number q n small' small (sym same))
hint_one (OfLemma n) (OfLemma m) small small' same = ap OfLemma (number_one n m small small' same)
