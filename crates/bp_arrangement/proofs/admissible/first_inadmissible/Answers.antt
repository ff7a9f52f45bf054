use Rattle.std.proofs.Common.{refl, ◌∙◌, subst, arith}
use Rattle.std.proofs.lemmas.List.{take_all}
use Rattle.std.proofs.lemmas.List.Elements.{All-more}
use Rattle.std.specs.Prelude.{All}
use Rattle.bp_arrangement.specs.Swaps.{IsAdmissible}
use Rattle.bp_arrangement.proofs.admissible.first_inadmissible.Goals as goal

pub loop-at-preserved : goal.loop-at-preserved
loop-at-preserved c =
    let Fine = IsAdmissible c.args.metric.now.tree c.args.a c.args.b in
    All-more Fine c.args.swaps.now c.loop-at.at c.index-swaps-at.result c.loop-at-test.true c.loop-at.invariant (subst Fine (c.as_slice.ensures ∙ c.index-swaps-at.is) (c.if-not-is_admissible.ensures.admissible.0 refl))

pub returns : goal.returns
returns c = record {
  first = subst (All (IsAdmissible c.args.metric.now.tree c.args.a c.args.b)) (take_all c.loop-at.at c.args.swaps.now (omega (arith, c.loop-at-test.false))) c.loop-at.invariant;
}
