-- The ranges within which a certificate has a text.
use Rattle.std.specs.Prelude.{◌≡◌, ℕ, ◌+◌, ◌*◌, ◌≤◌, List, length, All, Option, None, Some}
use Rattle.bp_base.specs.declared.path.Pair.{Pair}
use Rattle.bp_base.specs.Limits.{most_number}
use Rattle.bp_base.specs.Tree.{IsTree, leaf_count}
use Rattle.bp_metric.specs.Metric.{IsSheet}
use Rattle.bp_arrangement.specs.declared.fact.Fact.{Fact}
use Rattle.bp_arrangement.specs.declared.fact.Fact.TheVariants.{Before, NotBefore, Least, Below}
use Rattle.bp_arrangement.specs.declared.fact.Hint.{Hint}
use Rattle.bp_arrangement.specs.declared.fact.Hint.TheVariants.{Pair as OfPair, Lemma as OfLemma}
use Rattle.bp_document.specs.Nodes.{IsPairOfNumbers}
use Rattle.bp_base.specs.Point.{IsSmallPoint}
use Rattle.bp_document.specs.Ranges.{IsFloorLine}
use Rattle.bp_certificate.specs.declared.certificate.Certificate.{Certificate}
use Rattle.bp_certificate.specs.declared.certificate.Lemma.{Lemma}
use Rattle.bp_certificate.specs.declared.certificate.Lemmas.{Lemmas}
use Rattle.bp_certificate.specs.declared.limits.TheConstants.{MOST_FACTS, MOST_HINTS, MOST_LEMMAS, MOST_SWAPS, MOST_SWAP_PAIRS, MOST_LINE_BYTES}
use Rattle.bp_certificate.specs.Lines.{lemma_line}

-- facts of a lemma
abbrev pub most_facts : ℕ
most_facts = MOST_FACTS

-- hints of a lemma
abbrev pub most_hints : ℕ
most_hints = MOST_HINTS

-- lemmas of a certificate
abbrev pub most_lemmas : ℕ
most_lemmas = MOST_LEMMAS

-- swaps of a certificate
abbrev pub most_swaps : ℕ
most_swaps = MOST_SWAPS

-- pairs of a swap
abbrev pub most_swap_pairs : ℕ
most_swap_pairs = MOST_SWAP_PAIRS

-- bytes of a line before its LF
abbrev pub most_line_bytes : ℕ
most_line_bytes = MOST_LINE_BYTES

-- the greatest code of a bound
abbrev pub most_code : ℕ
most_code = 2 * most_number + 1

abbrev pub IsSmallFact : Fact → Type 0
IsSmallFact (Before axis first second) = (first ≤ most_number) × (second ≤ most_number)
IsSmallFact (NotBefore axis first second) = (first ≤ most_number) × (second ≤ most_number)
IsSmallFact (Least axis leaf code) = (leaf ≤ most_number) × (code ≤ most_code)
IsSmallFact (Below axis leaf code) = (leaf ≤ most_number) × (code ≤ most_code)

abbrev pub IsSmallHint : Hint → Type 0
IsSmallHint (OfPair p) = IsPairOfNumbers p
IsSmallHint (OfLemma number) = number ≤ most_number

pub record IsFactList (facts : List Fact) : Type 0 where
  pub few : length facts ≤ most_facts
  pub small : All IsSmallFact facts

pub record IsHintList (hints : List Hint) : Type 0 where
  pub few : length hints ≤ most_hints
  pub small : All IsSmallHint hints

-- a lemma whose line is within its limits
pub record IsLemma (l : Lemma) : Type 0 where
  pub facts : IsFactList l.facts
  pub hints : IsHintList l.hints
  pub short : length (lemma_line l) ≤ most_line_bytes + 1

pub record IsSwapLine (swap : List Pair) : Type 0 where
  pub some : 1 ≤ length swap
  pub few : length swap ≤ most_swap_pairs
  pub small : All IsPairOfNumbers swap

abbrev pub IsCornerLine : Option Pair → Type 0
IsCornerLine None = Unit {0}
IsCornerLine (Some p) = IsPairOfNumbers p

abbrev pub IsLemmaCount : ℕ → Type 0
IsLemmaCount count = (1 ≤ count) × (count ≤ most_lemmas)

pub record AreSwaps (swaps : List (List Pair)) : Type 0 where
  pub few : length swaps ≤ most_swaps
  pub each : All IsSwapLine swaps

abbrev pub AreLemmas : Option Lemmas → Type 0
AreLemmas None = Unit {0}
AreLemmas (Some L) = IsCornerLine L.corner × AreSwaps L.swaps × IsLemmaCount (length L.lemmas) × All IsLemma L.lemmas

-- the certificate's tree, numbers, lists and lines are within the ranges of its text, and it has one point per leaf
pub record IsCertificate (C : Certificate) : Type 0 where
  pub tree : IsTree C.tree
  pub sheet : IsSheet C.sheet
  pub side : C.side ≤ most_number
  pub bound : C.bound ≤ most_number
  pub each : length C.points ≡ leaf_count C.tree
  pub points : All IsSmallPoint C.points
  pub floor : IsFloorLine C.floor
  pub lemmas : AreLemmas C.lemmas
