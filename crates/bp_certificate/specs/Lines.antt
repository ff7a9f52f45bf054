-- Lines of a certificate that a document doesn't have: those of its mirror, corner, swaps and lemmas.
use Rattle.std.specs.Prelude.{ℕ, ◌/◌, ◌%◌, ◌==◌, List, [], ◌∷◌, ◌++◌, map, decimal, codes, Option, None, Some, if◌then◌else◌}
use Rattle.std.specs.List.{flat_map}
use Rattle.bp_base.specs.declared.point.Axis.{Axis}
use Rattle.bp_base.specs.declared.path.Pair.{Pair}
use Rattle.bp_arrangement.specs.declared.fact.Fact.{Fact}
use Rattle.bp_arrangement.specs.declared.fact.Fact.TheVariants.{Before, NotBefore, Least, Below}
use Rattle.bp_arrangement.specs.declared.fact.Hint.{Hint}
use Rattle.bp_arrangement.specs.declared.fact.Hint.TheVariants.{Pair as OfPair, Lemma as OfLemma}
use Rattle.bp_document.specs.Lines.{line, axis_word}
use Rattle.bp_certificate.specs.declared.certificate.Lemma.{Lemma}

-- a leaf's coordinate on an axis
abbrev pub coordinate : Axis → ℕ → List ℕ
coordinate axis leaf = axis_word axis ++ decimal leaf

abbrev pub order_word : Axis → ℕ → ℕ → List ℕ
order_word axis first second = coordinate axis first ++ (codes "<<" ++ coordinate axis second)

-- an even code of a lower bound is at least, an odd one above its half
abbrev pub least_sign : ℕ → List ℕ
least_sign code = if code % 2 == 0 then codes ">=" else codes ">"

-- an even code of an upper bound is below, an odd one at most its half
abbrev pub below_sign : ℕ → List ℕ
below_sign code = if code % 2 == 0 then codes "<" else codes "<="

unfoldable pub fact_word : Fact → List ℕ
fact_word (Before axis first second) = order_word axis first second
fact_word (NotBefore axis first second) = codes "!" ++ order_word axis first second
fact_word (Least axis leaf code) = coordinate axis leaf ++ (least_sign code ++ decimal (code / 2))
fact_word (Below axis leaf code) = coordinate axis leaf ++ (below_sign code ++ decimal (code / 2))

unfoldable pub hint_word : Hint → List ℕ
hint_word (OfPair p) = decimal p.i ++ (codes "-" ++ decimal p.j)
hint_word (OfLemma number) = decimal number

unfoldable pub lemma_line : Lemma → List ℕ
lemma_line l = line (codes "no") (map fact_word l.facts ++ codes "by" ∷ map hint_word l.hints)

abbrev pub pair_words : Pair → List (List ℕ)
pair_words p = decimal p.i ∷ decimal p.j ∷ []

unfoldable pub swap_line : List Pair → List ℕ
swap_line swap = line (codes "swap") (flat_map pair_words swap)

abbrev pub corner_words : Option Pair → List (List ℕ)
corner_words None = codes "none" ∷ []
corner_words (Some p) = pair_words p

abbrev pub corner_line : Option Pair → List ℕ
corner_line corner = line (codes "corner") (corner_words corner)

abbrev pub swaps_line : ℕ → List ℕ
swaps_line count = line (codes "swaps") (decimal count ∷ [])

-- the line before the corner, with how many lemmas there are, or none
abbrev pub count_words : Option ℕ → List (List ℕ)
count_words None = codes "none" ∷ []
count_words (Some count) = decimal count ∷ []

abbrev pub count_line : Option ℕ → List ℕ
count_line count = line (codes "lemmas") (count_words count)

abbrev pub mirror_line : List ℕ
mirror_line = line (codes "mirror") (codes "none" ∷ [])
