use Rattle.std.proofs.Common.{All, refl, subst, sym, arith, ◌∙◌}
use Rattle.std.proofs.lemmas.Bool.{false≢true}
use Rattle.std.proofs.lemmas.List.{take_all}
use Rattle.std.proofs.lemmas.List.Elements.{All-more}
use Rattle.bp_certificate.specs.Ranges.{IsLemma}
use Rattle.bp_solve.proofs.ranges.are_each_lemma.Goals as goal

pub returns-then-not-fits : goal.returns-then-not-fits
returns-then-not-fits c = (
  λ never. absurd (false≢true never),
  λ all. sym c.if-not-fits.true ∙ c.in_ok-fits.ensures.1 (subst IsLemma (sym c.index-lemmas-at.is) (all c.loop-at.at c.index-lemmas-at.result c.loop-at-test.true)),
)

pub loop-at-preserved : goal.loop-at-preserved
loop-at-preserved c =
    All-more IsLemma c.args.lemmas.now c.loop-at.at c.index-lemmas-at.result c.loop-at-test.true c.loop-at.invariant (subst IsLemma c.index-lemmas-at.is (c.in_ok-fits.ensures.0 c.if-not-fits.false))

pub returns : goal.returns
returns c = (
  λ is. subst (All IsLemma) (take_all c.loop-at.at c.args.lemmas.now (omega (arith, c.loop-at-test.false))) c.loop-at.invariant,
  λ all. refl,
)
