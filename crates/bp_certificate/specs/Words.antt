-- What reading a certificate's words answers, each time exactly.
use Rattle.std.specs.Prelude.{◌≡◌, ℕ, ◌/◌, ◌≤◌, ◌==◌, ◌||◌, not, List, [], ◌∷◌, ◌++◌, map, decimal, codes, All, Bool, true, false, Option, None, Some, Result, Ok, Err}
use Rattle.std.specs.List.{flat_map}
use Rattle.bp_base.specs.declared.memory.NoMemory.{NoMemory}
use Rattle.bp_base.specs.declared.path.Pair.{Pair}
use Rattle.bp_base.specs.declared.point.Axis.{Axis}
use Rattle.bp_base.specs.Limits.{most_number}
use Rattle.bp_arrangement.specs.declared.fact.Fact.{Fact}
use Rattle.bp_arrangement.specs.declared.fact.Fact.TheVariants.{Before, NotBefore, Least, Below}
use Rattle.bp_arrangement.specs.declared.fact.Hint.{Hint}
use Rattle.bp_document.specs.Forms.{IsLine}
use Rattle.bp_document.specs.Nodes.{IsPairOfNumbers}
use Rattle.bp_certificate.specs.declared.certificate.Lemma.{Lemma}
use Rattle.bp_certificate.specs.declared.mark.Mark.{Mark}
use Rattle.bp_certificate.specs.declared.mark.Mark.TheVariants.{Sign, Other, Dash}
use Rattle.bp_certificate.specs.Lines.{coordinate, fact_word, hint_word, pair_words, lemma_line, swap_line, corner_line, corner_words, count_line, count_words, least_sign, below_sign}
use Rattle.bp_certificate.specs.Ranges.{IsSmallFact, IsSmallHint, IsFactList, IsHintList, IsLemma, IsSwapLine, IsCornerLine, IsLemmaCount}

-- a byte of an order's or a bound's sign
abbrev pub is_sign : ℕ → Bool
is_sign b = (b == 60) || ((b == 61) || (b == 62))

-- before which bytes a word is cut
abbrev pub is_marked : Mark → ℕ → Bool
is_marked Sign b = is_sign b
is_marked Other b = not (is_sign b)
is_marked Dash b = b == 45

-- there is no byte, or the first is marked
abbrev pub Begins : Mark → List ℕ → Type 0
Begins mark [] = Unit {0}
Begins mark (b ∷ bs) = is_marked mark b ≡ true

-- The bytes are cut before the first that is marked.
pub record IsCut (mark : Mark) (bytes front back : List ℕ) : Type 0 where
  pub whole : bytes ≡ front ++ back
  pub free : All (λ b. is_marked mark b ≡ false) front
  pub begins : Begins mark back

-- a fact's word is what stands before its sign, the sign, and what stands behind it
abbrev pub front_of : Fact → List ℕ
front_of (Before axis first second) = coordinate axis first
front_of (NotBefore axis first second) = codes "!" ++ coordinate axis first
front_of (Least axis leaf code) = coordinate axis leaf
front_of (Below axis leaf code) = coordinate axis leaf

abbrev pub sign_of : Fact → List ℕ
sign_of (Before axis first second) = codes "<<"
sign_of (NotBefore axis first second) = codes "<<"
sign_of (Least axis leaf code) = least_sign code
sign_of (Below axis leaf code) = below_sign code

abbrev pub back_of : Fact → List ℕ
back_of (Before axis first second) = coordinate axis second
back_of (NotBefore axis first second) = coordinate axis second
back_of (Least axis leaf code) = decimal (code / 2)
back_of (Below axis leaf code) = decimal (code / 2)

abbrev pub AreParts : List ℕ → List ℕ → List ℕ → Fact → Type 0
AreParts front sign back f = (front ≡ front_of f) × (sign ≡ sign_of f) × (back ≡ back_of f)

abbrev pub ReadsParts : List ℕ → List ℕ → List ℕ → Option Fact → Type 0
ReadsParts front sign back None = (f : Fact) → IsSmallFact f → AreParts front sign back f → ⊥
ReadsParts front sign back (Some f) = IsSmallFact f × AreParts front sign back f

abbrev pub ReadsCoordinate : List ℕ → Option (Axis × ℕ) → Type 0
ReadsCoordinate bytes None = (axis : Axis) (leaf : ℕ) → leaf ≤ most_number → bytes ≡ coordinate axis leaf → ⊥
ReadsCoordinate bytes (Some c) = (c.1 ≤ most_number) × (bytes ≡ coordinate c.0 c.1)

-- an order, its denial, and a bound
abbrev pub ReadsOrder : List ℕ → List ℕ → Option Fact → Type 0
ReadsOrder front back None = (axis : Axis) (first second : ℕ) → first ≤ most_number → second ≤ most_number → front ≡ coordinate axis first → back ≡ coordinate axis second → ⊥
ReadsOrder front back (Some f) = IsSmallFact f × AreParts front (codes "<<") back f

abbrev pub ReadsNotBefore : List ℕ → List ℕ → Option Fact → Type 0
ReadsNotBefore front back None = (axis : Axis) (first second : ℕ) → first ≤ most_number → second ≤ most_number → front ≡ coordinate axis first → back ≡ coordinate axis second → ⊥
ReadsNotBefore front back (Some f) = IsSmallFact f × AreParts (codes "!" ++ front) (codes "<<") back f

abbrev pub ReadsBound : List ℕ → List ℕ → List ℕ → Option Fact → Type 0
ReadsBound front sign back None = (f : Fact) → IsSmallFact f → (sign ≡ codes "<<" → ⊥) → AreParts front sign back f → ⊥
ReadsBound front sign back (Some f) = IsSmallFact f × AreParts front sign back f

abbrev pub ReadsFact : List ℕ → Option Fact → Type 0
ReadsFact w None = (f : Fact) → IsSmallFact f → w ≡ fact_word f → ⊥
ReadsFact w (Some f) = IsSmallFact f × (w ≡ fact_word f)

abbrev pub ReadsHint : List ℕ → Option Hint → Type 0
ReadsHint w None = (h : Hint) → IsSmallHint h → w ≡ hint_word h → ⊥
ReadsHint w (Some h) = IsSmallHint h × (w ≡ hint_word h)

-- Facts up to the word `by`, and what stands behind it.
abbrev pub AreFacts : List (List ℕ) → List Fact → List (List ℕ) → Type 0
AreFacts ws fs tail = IsFactList fs × (ws ≡ map fact_word fs ++ codes "by" ∷ tail)

abbrev pub AreNoFacts : List (List ℕ) → Type 0
AreNoFacts ws = (fs : List Fact) (tail : List (List ℕ)) → AreFacts ws fs tail → ⊥

-- Only memory may lack.
abbrev pub ReadsHints : List (List ℕ) → Result (Option (List Hint)) NoMemory → Type 0
ReadsHints ws (Ok None) = (hs : List Hint) → IsHintList hs → ws ≡ map hint_word hs → ⊥
ReadsHints ws (Ok (Some hs)) = IsHintList hs × (ws ≡ map hint_word hs)
ReadsHints ws (Err e) = Unit {0}

abbrev pub ReadsPairWords : List ℕ → List ℕ → Option Pair → Type 0
ReadsPairWords first second None = (p : Pair) → IsPairOfNumbers p → first ≡ decimal p.i → second ≡ decimal p.j → ⊥
ReadsPairWords first second (Some p) = IsPairOfNumbers p × (first ≡ decimal p.i) × (second ≡ decimal p.j)

abbrev pub ReadsPairs : List (List ℕ) → Result (Option (List Pair)) NoMemory → Type 0
ReadsPairs ws (Ok None) = (swap : List Pair) → IsSwapLine swap → ws ≡ flat_map pair_words swap → ⊥
ReadsPairs ws (Ok (Some swap)) = IsSwapLine swap × (ws ≡ flat_map pair_words swap)
ReadsPairs ws (Err e) = Unit {0}

-- The forms of the lines behind the floor, each line without its LF.
pub record IsLemmaForm (bytes : List ℕ) (l : Lemma) : Type 0 where
  pub text : IsLine bytes (lemma_line l)
  pub small : IsLemma l

pub record IsSwapForm (bytes : List ℕ) (swap : List Pair) : Type 0 where
  pub text : IsLine bytes (swap_line swap)
  pub small : IsSwapLine swap

pub record IsCornerForm (bytes : List ℕ) (corner : Option Pair) : Type 0 where
  pub text : IsLine bytes (corner_line corner)
  pub small : IsCornerLine corner

abbrev pub IsCountLine : Option ℕ → Type 0
IsCountLine None = Unit {0}
IsCountLine (Some count) = IsLemmaCount count

pub record IsCountForm (bytes : List ℕ) (count : Option ℕ) : Type 0 where
  pub text : IsLine bytes (count_line count)
  pub range : IsCountLine count

abbrev pub lemma_words : Lemma → List (List ℕ)
lemma_words l = codes "no" ∷ (map fact_word l.facts ++ codes "by" ∷ map hint_word l.hints)

abbrev pub ReadsLemmaWords : List (List ℕ) → Result (Option Lemma) NoMemory → Type 0
ReadsLemmaWords ws (Ok None) = (l : Lemma) → IsFactList l.facts → IsHintList l.hints → ws ≡ lemma_words l → ⊥
ReadsLemmaWords ws (Ok (Some l)) = IsFactList l.facts × IsHintList l.hints × (ws ≡ lemma_words l)
ReadsLemmaWords ws (Err e) = Unit {0}

abbrev pub ReadsLemma : List ℕ → Result (Option Lemma) NoMemory → Type 0
ReadsLemma bytes (Ok None) = (l : Lemma) → IsLemmaForm bytes l → ⊥
ReadsLemma bytes (Ok (Some l)) = IsLemmaForm bytes l
ReadsLemma bytes (Err e) = Unit {0}

abbrev pub ReadsSwap : List (List ℕ) → Result (Option (List Pair)) NoMemory → Type 0
ReadsSwap ws (Ok None) = (swap : List Pair) → IsSwapLine swap → ws ≡ codes "swap" ∷ flat_map pair_words swap → ⊥
ReadsSwap ws (Ok (Some swap)) = IsSwapLine swap × (ws ≡ codes "swap" ∷ flat_map pair_words swap)
ReadsSwap ws (Err e) = Unit {0}

abbrev pub ReadsCorner : List (List ℕ) → Option (Option Pair) → Type 0
ReadsCorner ws None = (corner : Option Pair) → IsCornerLine corner → ws ≡ codes "corner" ∷ corner_words corner → ⊥
ReadsCorner ws (Some corner) = IsCornerLine corner × (ws ≡ codes "corner" ∷ corner_words corner)

abbrev pub ReadsCount : List (List ℕ) → Option (Option ℕ) → Type 0
ReadsCount ws None = (count : Option ℕ) → IsCountLine count → ws ≡ codes "lemmas" ∷ count_words count → ⊥
ReadsCount ws (Some count) = IsCountLine count × (ws ≡ codes "lemmas" ∷ count_words count)
