use Rattle.std.proofs.Common.{All, refl, subst, sym}
use Rattle.std.proofs.lemmas.Bool.{false≢true}
use Rattle.std.proofs.lemmas.Result.{IfOk-weaker}
use Rattle.bp_certificate.specs.Ranges.{AreSwaps, IsLemma, IsLemmaCount}
use Rattle.bp_solve.proofs.ranges.are_lemmas.Goals as goal

pub returns-then-not-is_corner_line : goal.returns-then-not-is_corner_line
returns-then-not-is_corner_line c = (λ never. absurd (false≢true never), λ a. c.if-not-is_corner_line.ensures.1 a.0)

pub returns-then-not-are_swaps : goal.returns-then-not-are_swaps
returns-then-not-are_swaps c = (
  λ never. absurd (false≢true never),
  λ a. c.if-not-are_swaps.ensures.1 (subst AreSwaps (sym c.as_slice.ensures) a.1),
)

pub returns-then-not-is_lemma_count : goal.returns-then-not-is_lemma_count
returns-then-not-is_lemma_count c = (
  λ never. absurd (false≢true never),
  λ a. c.if-not-is_lemma_count.ensures.1 (subst IsLemmaCount (sym c.len.ensures) a.2),
)

pub returns : goal.returns
returns c =
    IfOk-weaker c.are_each_lemma.result _ _ (λ b each. (
      λ is. (
        c.if-not-is_corner_line.ensures.0 refl,
        subst AreSwaps c.as_slice.ensures (c.if-not-are_swaps.ensures.0 refl),
        subst IsLemmaCount c.len.ensures (c.if-not-is_lemma_count.ensures.0 refl),
        subst (All IsLemma) c.as_slice-2.ensures (each.0 is),
      ),
      λ a. each.1 (subst (All IsLemma) (sym c.as_slice-2.ensures) a.3),
    )) c.are_each_lemma.ensures
