-- Options among words: where a value stands, and what it can be.
use Rattle.std.proofs.Common.{◌≡◌, ◌≢◌, ◌⊎◌, inl, inr, ℕ, ◌+◌, ◌*◌, ◌/◌, ◌<◌, ◌≤◌, List, [], length, get_or, map, take, Contains, decimal, Option, None, Some, MatchOption, is_some, Bool, true, false, sym, ◌∙◌, ap, subst, arith, refl}
use Rattle.std.proofs.lemmas.Fmt.{decimal_injective}
use Rattle.std.proofs.lemmas.List.{get_or-take, take-map, length-map, length-take-le}
use Rattle.std.proofs.lemmas.Bool.{cases_order}
use borrow.Author.Count.{below_more}
use Rattle.bp_text.specs.Numbers.{IsDecimal, most_long_number}
use Rattle.bp_words.specs.Words.{AreOptions, AreUnique, HasDefault, HasFile, HasNumber, HasOptional, IsFile, IsGiven, IsNotGiven, IsNumberIn, word_at}

-- a word spells one number
pub same_number : (m n : ℕ) (word : List ℕ) → m ≤ most_long_number → n ≤ most_long_number → word ≡ decimal m → word ≡ decimal n → m ≡ n
same_number m n word few less is also = decimal_injective m n (omega arith) (omega arith) (sym is ∙ also)

pub not_within : (low high number n : ℕ) (word : List ℕ) → high ≤ most_long_number → IsDecimal most_long_number word number → (number < low) ⊎ (high < number) → IsNumberIn low high word n → ⊥
not_within low high number n word most is out (same, lower, upper) =
    let e : number ≡ n = same_number number n word is.1 (omega arith) is.0 same in
    elim out [ inl below ↦ omega arith | inr above ↦ omega arith ]

module _ (name : List ℕ) (words : List (List ℕ)) (place : ℕ) (unique : AreUnique words) (given : IsGiven name words place) where
  pub number_there : (low high n : ℕ) → HasNumber name low high words n → IsNumberIn low high (word_at words place) n
  number_there low high n (p, g, is) = subst (λ (q : ℕ). IsNumberIn low high (word_at words q) n) (unique name p place g given) is

  -- where the word is no such number, the option has none
  pub no_optional : (low high : ℕ) → ((n : ℕ) → IsNumberIn low high (word_at words place) n → ⊥) → (o : Option ℕ) → HasOptional name low high words o → ⊥
  no_optional low high none None not = not place given
  no_optional low high none (Some n) has = none n (number_there low high n has)

  pub default_found : (low high default : ℕ) (r : Option ℕ) → MatchOption r ((n : ℕ) → IsNumberIn low high (word_at words place) n → ⊥) (λ n. IsNumberIn low high (word_at words place) n) → MatchOption r ((n : ℕ) → HasDefault name low high default words n → ⊥) (λ n. HasDefault name low high default words n)
  default_found low high default None none = λ n has. elim has [ inl there ↦ none n (number_there low high n there) | inr not ↦ not.0 place given ]
  default_found low high default (Some n) is = inl (place, given, is)

  pub no_file : (IsFile (word_at words place) → ⊥) → (o : Option ℕ) → HasFile name words o → ⊥
  no_file not None absent = absent place given
  no_file not (Some p) (g, is) = not (subst (λ (q : ℕ). IsFile (word_at words q)) (unique name p place g given) is)

-- the words of a front are those of the whole
pub word_in_front : {A : Type 0} (f : A → List ℕ) (words : List A) (n i : ℕ) → i < n → word_at (map f (take n words)) i ≡ word_at (map f words) i
word_in_front f words n i less = ap (λ (ws : List (List ℕ)). get_or ws i []) (sym (take-map f n words)) ∙ get_or-take n (map f words) i [] less

-- each option below k is known, and no two of them have one name
pub record AreBelow (names words : List (List ℕ)) (k : ℕ) : Type 0 where
  pub known : (j : ℕ) → j < k → Contains names (word_at words (1 + 2 * j))
  pub once : (i j : ℕ) → i < j → j < k → word_at words (1 + 2 * i) ≢ word_at words (1 + 2 * j)

pub none_below : (names words : List (List ℕ)) → AreBelow names words 0
none_below names words = record { known = λ j less. absurd (omega arith); once = λ i j less below. absurd (omega arith) }

pub not_true : (b : Bool) → b ≡ false → b ≡ true → ⊥
not_true b no_truth truth = let e : false ≡ true = sym no_truth ∙ truth in cc

pub absent : (name : List ℕ) (words : List (List ℕ)) (r : Option ℕ) → false ≡ is_some r → MatchOption r (IsNotGiven name words) (λ p. IsGiven name words p) → IsNotGiven name words
absent name words None e not = not
absent name words (Some p) e given = absurd (not_true true (sym e) refl)

-- an option more: known, and not given before
pub one_more : {A : Type 0} (f : A → List ℕ) (names : List (List ℕ)) (words : List A) (k : ℕ) (name : List ℕ) → 1 + 2 * k < length words → name ≡ word_at (map f words) (1 + 2 * k) → Contains names name → IsNotGiven name (map f (take (1 + 2 * k) words)) → AreBelow names (map f words) k → AreBelow names (map f words) (k + 1)
one_more f names words k name within is known new so_far = record {
  known = below_more (λ j. Contains names (word_at (map f words) (1 + 2 * j))) k so_far.known (subst (Contains names) is known);
  once = λ i j less below. below_more (λ l. i < l → word_at (map f words) (1 + 2 * i) ≢ word_at (map f words) (1 + 2 * l)) k (λ l before earlier. so_far.once i l earlier before) (λ earlier e. new (2 + 2 * i) (record {
    k = i;
    within = rw (length-map (take (1 + 2 * k) words) f, length-take-le (1 + 2 * k) words (omega arith)) (omega arith);
    named = word_in_front f words (1 + 2 * k) (1 + 2 * i) (omega arith) ∙ e ∙ sym is;
    behind = refl;
  })) j below less;
}

pub all_options : (names words : List (List ℕ)) (k : ℕ) → length words ≡ 1 + 2 * k → AreBelow names words k → AreOptions names words
all_options names words k each so_far = record { pairs = k; each = each; known = so_far.known; once = so_far.once }

-- a value has one place
pub unique_options : (names words : List (List ℕ)) → AreOptions names words → AreUnique words
unique_options names words options name p r one other =
    let same : one.k ≡ other.k = elim (cases_order one.k other.k) [
      | inl equal ↦ equal
      | inr (inl before) ↦ absurd (options.once one.k other.k before (omega (arith, options.each, other.within)) (one.named ∙ sym other.named))
      | inr (inr after) ↦ absurd (options.once other.k one.k after (omega (arith, options.each, one.within)) (other.named ∙ sym one.named))
    ] in omega (arith, same, one.behind, other.behind)

pub not_options : {A : Type 0} (f : A → List ℕ) (names : List (List ℕ)) (words : List A) (k : ℕ) (name : List ℕ) → k < length words / 2 → name ≡ word_at (map f words) (1 + 2 * k) → AreOptions names (map f words) → Contains names name
not_options f names words k name less is options =
    subst (Contains names) (sym is) (options.known k (omega (arith, options.each, length-map words f)))

pub given_before : {A : Type 0} (f : A → List ℕ) (names : List (List ℕ)) (words : List A) (k : ℕ) (name : List ℕ) (r : Option ℕ) → k < length words / 2 → name ≡ word_at (map f words) (1 + 2 * k) → true ≡ is_some r → MatchOption r (IsNotGiven name (map f (take (1 + 2 * k) words))) (λ p. IsGiven name (map f (take (1 + 2 * k) words)) p) → AreOptions names (map f words) → ⊥
given_before f names words k name None less is e not options = not_true false refl (sym e)
given_before f names words k name (Some place) less is e given options =
    let long : 2 + 2 * given.k < 1 + 2 * k = subst (λ (n : ℕ). 2 + 2 * given.k < n) (length-map (take (1 + 2 * k) words) f ∙ length-take-le (1 + 2 * k) words (omega arith)) given.within in
    options.once given.k k (omega arith) (omega (arith, options.each, length-map words f)) (sym (word_in_front f words (1 + 2 * k) (1 + 2 * given.k) (omega arith)) ∙ given.named ∙ is)

-- what an option says is said once
module _ (name : List ℕ) (words : List (List ℕ)) (unique : AreUnique words) where
  pub one_number : (low high m n : ℕ) → high ≤ most_long_number → HasNumber name low high words m → HasNumber name low high words n → m ≡ n
  one_number low high m n most (p, given, is) also =
      let there = number_there name words p unique given low high n also in
      same_number m n (word_at words p) (omega (arith, is.2)) (omega (arith, there.2)) is.0 there.0

  pub one_default : (low high default m n : ℕ) → high ≤ most_long_number → HasDefault name low high default words m → HasDefault name low high default words n → m ≡ n
  one_default low high default m n most (inl (p, given, is)) (inl also) = one_number low high m n most (p, given, is) also
  one_default low high default m n most (inl (p, given, is)) (inr (not, e)) = absurd (not p given)
  one_default low high default m n most (inr (not, e)) (inl (p, given, is)) = absurd (not p given)
  one_default low high default m n most (inr (not, e)) (inr (also, e')) = e ∙ sym e'

  pub one_optional : (low high : ℕ) (o u : Option ℕ) → high ≤ most_long_number → HasOptional name low high words o → HasOptional name low high words u → o ≡ u
  one_optional low high None None most not also = refl
  one_optional low high None (Some n) most not (p, given, is) = absurd (not p given)
  one_optional low high (Some m) None most (p, given, is) not = absurd (not p given)
  one_optional low high (Some m) (Some n) most is also = ap (λ (k : ℕ). Some k) (one_number low high m n most is also)

  pub one_file : (o u : Option ℕ) → HasFile name words o → HasFile name words u → o ≡ u
  one_file None None not also = refl
  one_file None (Some p) not given = absurd (not p given.0)
  one_file (Some p) None given not = absurd (not p given.0)
  one_file (Some p) (Some r) given also = ap (λ (k : ℕ). Some k) (unique name p r given.0 also.0)
