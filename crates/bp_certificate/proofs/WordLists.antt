-- Words of a line that are facts, hints or pairs.
use Rattle.std.proofs.Common.{◌≡◌, ℕ, suc, ◌+◌, ◌<◌, ◌≤◌, List, [], ◌∷◌, ◌++◌, length, get_or, drop, map, All, None, Some, Ok, refl, sym, ◌∙◌, ap, arith, append_assoc, length-append}
use Rattle.std.specs.Prelude.{codes}
use Rattle.std.specs.List.{flat_map}
use Rattle.std.proofs.lemmas.Grind.{flat_map-append}
use Rattle.std.proofs.lemmas.List.{map-append, append-nil}
use Rattle.std.proofs.lemmas.List.Elements.{All-append, All-cons, All-nil}
use Rattle.bp_base.specs.declared.path.Pair.{Pair}
use Rattle.bp_base.specs.declared.point.Axis.TheVariants.{X, Y}
use Rattle.bp_arrangement.specs.declared.fact.Fact.{Fact}
use Rattle.bp_arrangement.specs.declared.fact.Fact.TheVariants.{Before, NotBefore, Least, Below}
use Rattle.bp_arrangement.specs.declared.fact.Hint.{Hint}
use Rattle.bp_document.specs.Nodes.{IsPairOfNumbers}
use Rattle.bp_certificate.specs.Lines.{fact_word, hint_word, pair_words}
use Rattle.bp_certificate.specs.Ranges.{IsSmallFact, IsSmallHint, IsHintList, IsSwapLine, most_facts, most_hints, most_swap_pairs}
use Rattle.bp_certificate.specs.Words.{AreFacts, AreNoFacts, ReadsFact, ReadsHint, ReadsHints, ReadsPairs, ReadsPairWords}

tail_of : {X : Type 0} (P : X → Type 0) (x : X) (xs : List X) → All P (x ∷ xs) → All P xs
tail_of P x xs all k d less = all (suc k) d (omega (arith, less))

head_of : {X : Type 0} (P : X → Type 0) (x : X) (xs : List X) → All P (x ∷ xs) → P x
head_of P x xs all = all 0 x (omega arith)

-- The words begin with those of so many things, each of one word.
pub record HasRead (X : Type 0) (f : X → List ℕ) (P : X → Type 0) (most : ℕ) (ws : List (List ℕ)) (done : List X) (rest : List (List ℕ)) : Type 0 where
  pub words : ws ≡ map f done ++ rest
  pub few : length done ≤ most
  pub small : All P done

module _ (X : Type 0) (f : X → List ℕ) (P : X → Type 0) (most : ℕ) (ws : List (List ℕ)) where
  pub read_nothing : HasRead X f P most ws [] ws
  read_nothing = record { words = refl; few = omega arith; small = All-nil P }

  pub read_more : (done : List X) (rest more : List (List ℕ)) (w : List ℕ) (x : X) → HasRead X f P most ws done rest → rest ≡ w ∷ more → P x → w ≡ f x → length done < most → HasRead X f P most ws (done ++ x ∷ []) more
  read_more done rest more w x read here small is room =
      record {
        words =
            read.words ∙ ap (λ (t : List (List ℕ)). map f done ++ t) (here ∙ ap (λ (v : List ℕ). v ∷ more) is)
            ∙ sym (append_assoc (map f done) (f x ∷ []) more)
            ∙ ap (λ (t : List (List ℕ)). t ++ more) (sym (map-append f done (x ∷ [])));
        few = omega (arith, room, length-append done (x ∷ []));
        small = All-append P done (x ∷ []) read.small (All-cons P x [] small (All-nil P));
      }

-- what is left of things that begin with these
module _ (X : Type 0) (f : X → List ℕ) (P : X → Type 0) (end : List (List ℕ)) (differs : (x : X) (done : List X) (rest : List (List ℕ)) → f x ∷ (map f done ++ rest) ≡ end → ⊥) where
  pub left_of : (done xs : List X) (rest : List (List ℕ)) → map f done ++ rest ≡ map f xs ++ end → All P xs → (t : List X) × (rest ≡ map f t ++ end) × (length xs ≡ length done + length t) × All P t
  left_of [] xs rest same all = (xs, same, omega arith, all)
  left_of (d ∷ done) [] rest same all = absurd (differs d done rest same)
  left_of (d ∷ done) (x ∷ xs) rest same all =
      let t = left_of done xs rest (ap (drop 1) same) (tail_of P x xs all) in
      (t.0, t.1, omega (arith, t.2), t.3)

first_of : List (List ℕ) → List ℕ
first_of ws = get_or ws 0 []

-- no fact is the word `by`
pub not_by : (f : Fact) → fact_word f ≡ codes "by" → ⊥
unfolding fact_word
not_by (Before X first second) same = omega (arith, ap (λ (w : List ℕ). get_or w 0 0) same)
not_by (Before Y first second) same = omega (arith, ap (λ (w : List ℕ). get_or w 0 0) same)
not_by (NotBefore axis first second) same = omega (arith, ap (λ (w : List ℕ). get_or w 0 0) same)
not_by (Least X leaf code) same = omega (arith, ap (λ (w : List ℕ). get_or w 0 0) same)
not_by (Least Y leaf code) same = omega (arith, ap (λ (w : List ℕ). get_or w 0 0) same)
not_by (Below X leaf code) same = omega (arith, ap (λ (w : List ℕ). get_or w 0 0) same)
not_by (Below Y leaf code) same = omega (arith, ap (λ (w : List ℕ). get_or w 0 0) same)

abbrev pub FactsRead : List (List ℕ) → List Fact → List (List ℕ) → Type 0
FactsRead ws done rest = HasRead Fact fact_word IsSmallFact most_facts ws done rest

facts_left : (ws : List (List ℕ)) (done : List Fact) (rest : List (List ℕ)) → FactsRead ws done rest → (fs : List Fact) (tail : List (List ℕ)) → AreFacts ws fs tail → (t : List Fact) × (rest ≡ map fact_word t ++ codes "by" ∷ tail) × (length fs ≡ length done + length t) × All IsSmallFact t
facts_left ws done rest read fs tail are =
    left_of Fact fact_word IsSmallFact (codes "by" ∷ tail) (λ x others more same. not_by x (ap (λ (v : List (List ℕ)). get_or v 0 []) same)) done fs rest (sym read.words ∙ are.1) are.0.small

module _ (ws : List (List ℕ)) (done : List Fact) (rest : List (List ℕ)) (read : FactsRead ws done rest) where
  pub facts_done : (more : List (List ℕ)) (w : List ℕ) → rest ≡ w ∷ more → w ≡ codes "by" → AreFacts ws done more
  facts_done more w here is = (record { few = read.few; small = read.small }, read.words ∙ ap (λ (t : List (List ℕ)). map fact_word done ++ t) (here ∙ ap (λ (v : List ℕ). v ∷ more) is))

  pub no_fact : (more : List (List ℕ)) (w : List ℕ) → rest ≡ w ∷ more → (w ≡ codes "by" → ⊥) → ReadsFact w None → AreNoFacts ws
  no_fact more w here other none fs tail are = let t = facts_left ws done rest read fs tail are in go t.0 t.1 t.3
    where
      go : (t : List Fact) → rest ≡ map fact_word t ++ codes "by" ∷ tail → All IsSmallFact t → ⊥
      go [] is all = other (ap (λ (v : List (List ℕ)). get_or v 0 []) (sym here ∙ is))
      go (f ∷ fs') is all = none f (head_of IsSmallFact f fs' all) (ap (λ (v : List (List ℕ)). get_or v 0 []) (sym here ∙ is))

  pub too_many_facts : (more : List (List ℕ)) (w : List ℕ) → rest ≡ w ∷ more → (w ≡ codes "by" → ⊥) → length done ≡ most_facts → AreNoFacts ws
  too_many_facts more w here other full fs tail are = let t = facts_left ws done rest read fs tail are in go t.0 t.1 t.2
    where
      go : (t : List Fact) → rest ≡ map fact_word t ++ codes "by" ∷ tail → length fs ≡ length done + length t → ⊥
      go [] is long = other (ap (λ (v : List (List ℕ)). get_or v 0 []) (sym here ∙ is))
      go (f ∷ fs') is long = omega (arith, long, full, are.0.few)

  pub no_by : rest ≡ [] → AreNoFacts ws
  no_by none fs tail are =
      let t = facts_left ws done rest read fs tail are in
      omega (arith, ap length (sym none ∙ t.1), length-append (map fact_word t.0) (codes "by" ∷ tail))

-- facts and what stands behind `by` are one thing
pub by_once : (ws : List (List ℕ)) (fs gs : List Fact) (x y : List (List ℕ)) → AreFacts ws fs x → AreFacts ws gs y → x ≡ y
by_once ws fs gs x y are are' =
    let read : FactsRead ws fs (codes "by" ∷ x) = record { words = are.1; few = are.0.few; small = are.0.small } in
    let t = facts_left ws fs (codes "by" ∷ x) read gs y are' in go t.0 t.1
  where
    go : (t : List Fact) → codes "by" ∷ x ≡ map fact_word t ++ codes "by" ∷ y → x ≡ y
    go [] is = ap (drop 1) is
    go (f ∷ fs') is = absurd (not_by f (sym (ap (λ (v : List (List ℕ)). get_or v 0 []) is)))

abbrev pub HintsRead : List (List ℕ) → List Hint → List (List ℕ) → Type 0
HintsRead ws done rest = HasRead Hint hint_word IsSmallHint most_hints ws done rest

module _ (ws : List (List ℕ)) (done : List Hint) (rest : List (List ℕ)) (read : HintsRead ws done rest) where
  hints_left : (hs : List Hint) → IsHintList hs → ws ≡ map hint_word hs → (t : List Hint) × (rest ≡ map hint_word t ++ []) × (length hs ≡ length done + length t) × All IsSmallHint t
  hints_left hs is same =
      left_of Hint hint_word IsSmallHint [] (λ x others more e. omega (arith, ap length e)) done hs rest (sym read.words ∙ same ∙ sym (append-nil (map hint_word hs))) is.small

  pub no_hint : (more : List (List ℕ)) (w : List ℕ) → rest ≡ w ∷ more → ReadsHint w None → ReadsHints ws (Ok None)
  no_hint more w here none hs is same = let t = hints_left hs is same in go t.0 t.1 t.3
    where
      go : (t : List Hint) → rest ≡ map hint_word t ++ [] → All IsSmallHint t → ⊥
      go [] e all = omega (arith, ap length (sym here ∙ e))
      go (h ∷ hs') e all = none h (head_of IsSmallHint h hs' all) (ap (λ (v : List (List ℕ)). get_or v 0 []) (sym here ∙ e))

  pub too_many_hints : (more : List (List ℕ)) (w : List ℕ) → rest ≡ w ∷ more → length done ≡ most_hints → ReadsHints ws (Ok None)
  too_many_hints more w here full hs is same = let t = hints_left hs is same in go t.0 t.1 t.2
    where
      go : (t : List Hint) → rest ≡ map hint_word t ++ [] → length hs ≡ length done + length t → ⊥
      go [] e long = omega (arith, ap length (sym here ∙ e))
      go (h ∷ hs') e long = omega (arith, long, full, is.few)

  pub hints_done : rest ≡ [] → ReadsHints ws (Ok (Some done))
  hints_done none = (record { few = read.few; small = read.small }, read.words ∙ ap (λ (t : List (List ℕ)). map hint_word done ++ t) none ∙ append-nil (map hint_word done))

-- The words begin with those of so many pairs, each of two words.
pub record PairsRead (ws : List (List ℕ)) (done : List Pair) (rest : List (List ℕ)) : Type 0 where
  pub words : ws ≡ flat_map pair_words done ++ rest
  pub few : length done ≤ most_swap_pairs
  pub small : All IsPairOfNumbers done

pub no_pairs_yet : (ws : List (List ℕ)) → PairsRead ws [] ws
no_pairs_yet ws = record { words = refl; few = omega arith; small = All-nil IsPairOfNumbers }

left_pairs : (done xs : List Pair) (rest : List (List ℕ)) → flat_map pair_words done ++ rest ≡ flat_map pair_words xs → All IsPairOfNumbers xs → (t : List Pair) × (rest ≡ flat_map pair_words t) × (length xs ≡ length done + length t) × All IsPairOfNumbers t
left_pairs [] xs rest same all = (xs, same, omega arith, all)
left_pairs (d ∷ done) [] rest same all = absurd (omega (arith, ap length same))
left_pairs (d ∷ done) (x ∷ xs) rest same all =
    let t = left_pairs done xs rest (ap (drop 2) same) (tail_of IsPairOfNumbers x xs all) in
    (t.0, t.1, omega (arith, t.2), t.3)

module _ (ws : List (List ℕ)) (done : List Pair) (rest : List (List ℕ)) (read : PairsRead ws done rest) where
  pub pair_more : (more : List (List ℕ)) (v w : List ℕ) (p : Pair) → rest ≡ v ∷ w ∷ more → ReadsPairWords v w (Some p) → length done < most_swap_pairs → PairsRead ws (done ++ p ∷ []) more
  pair_more more v w p here is room =
      record {
        words =
            read.words ∙ ap (λ (t : List (List ℕ)). flat_map pair_words done ++ t) (here ∙ (λ i. is.1 i ∷ is.2 i ∷ more))
            ∙ sym (append_assoc (flat_map pair_words done) (pair_words p) more)
            ∙ ap (λ (t : List (List ℕ)). t ++ more) (sym (flat_map-append pair_words done (p ∷ [])));
        few = omega (arith, room, length-append done (p ∷ []));
        small = All-append IsPairOfNumbers done (p ∷ []) read.small (All-cons IsPairOfNumbers p [] is.0 (All-nil IsPairOfNumbers));
      }

  pairs_left : (xs : List Pair) → IsSwapLine xs → ws ≡ flat_map pair_words xs → (t : List Pair) × (rest ≡ flat_map pair_words t) × (length xs ≡ length done + length t) × All IsPairOfNumbers t
  pairs_left xs is same = left_pairs done xs rest (sym read.words ∙ same) is.small

  pub half_pair : (v : List ℕ) → rest ≡ v ∷ [] → ReadsPairs ws (Ok None)
  half_pair v here xs is same = let t = pairs_left xs is same in go t.0 t.1
    where
      go : (t : List Pair) → rest ≡ flat_map pair_words t → ⊥
      go [] e = omega (arith, ap length (sym here ∙ e))
      go (p ∷ ps) e = omega (arith, ap length (sym here ∙ e))

  pub no_pair : (more : List (List ℕ)) (v w : List ℕ) → rest ≡ v ∷ w ∷ more → ReadsPairWords v w None → ReadsPairs ws (Ok None)
  no_pair more v w here none xs is same = let t = pairs_left xs is same in go t.0 t.1 t.3
    where
      go : (t : List Pair) → rest ≡ flat_map pair_words t → All IsPairOfNumbers t → ⊥
      go [] e all = omega (arith, ap length (sym here ∙ e))
      go (p ∷ ps) e all = none p (head_of IsPairOfNumbers p ps all) (ap (λ (u : List (List ℕ)). get_or u 0 []) (sym here ∙ e)) (ap (λ (u : List (List ℕ)). get_or u 1 []) (sym here ∙ e))

  pub too_many_pairs : (more : List (List ℕ)) (v w : List ℕ) → rest ≡ v ∷ w ∷ more → length done ≡ most_swap_pairs → ReadsPairs ws (Ok None)
  too_many_pairs more v w here full xs is same = let t = pairs_left xs is same in go t.0 t.1 t.2
    where
      go : (t : List Pair) → rest ≡ flat_map pair_words t → length xs ≡ length done + length t → ⊥
      go [] e long = omega (arith, ap length (sym here ∙ e))
      go (p ∷ ps) e long = omega (arith, long, full, is.few)

  pub no_pairs : rest ≡ [] → length done ≡ 0 → ReadsPairs ws (Ok None)
  no_pairs none empty xs is same = let t = pairs_left xs is same in go t.0 t.1 t.2
    where
      go : (t : List Pair) → rest ≡ flat_map pair_words t → length xs ≡ length done + length t → ⊥
      go [] e long = omega (arith, long, empty, is.some)
      go (p ∷ ps) e long = omega (arith, ap length (sym none ∙ e))

  pub pairs_done : rest ≡ [] → (length done ≡ 0 → ⊥) → ReadsPairs ws (Ok (Some done))
  pairs_done none some = (
    record { some = omega (arith, some); few = read.few; small = read.small },
    read.words ∙ ap (λ (t : List (List ℕ)). flat_map pair_words done ++ t) none ∙ append-nil (flat_map pair_words done),
  )
