use Rattle.std.proofs.Common.{refl, subst, sym}
use Rattle.std.proofs.lemmas.Bool.{false≢true}
use Rattle.std.proofs.lemmas.Result.{IfOk-weaker}
use Rattle.bp_certificate.specs.Ranges.{IsFactList, IsHintList}
use Rattle.bp_solve.proofs.ranges.is_lemma.Goals as goal

pub returns-then-not-are_facts : goal.returns-then-not-are_facts
returns-then-not-are_facts c = (
  λ never. absurd (false≢true never),
  λ l. c.if-not-are_facts.ensures.1 (subst IsFactList (sym c.as_slice.ensures) l.facts),
)

pub returns-then-not-are_hints : goal.returns-then-not-are_hints
returns-then-not-are_hints c = (
  λ never. absurd (false≢true never),
  λ l. c.if-not-are_hints.ensures.1 (subst IsHintList (sym c.as_slice-2.ensures) l.hints),
)

pub returns : goal.returns
returns c =
    IfOk-weaker c.is_short.result _ _ (λ b short. (
      λ is. record {
        facts = subst IsFactList c.as_slice.ensures (c.if-not-are_facts.ensures.0 refl);
        hints = subst IsHintList c.as_slice-2.ensures (c.if-not-are_hints.ensures.0 refl);
        short = short.0 is;
      },
      λ l. short.1 l.short,
    )) c.is_short.ensures
