use Rattle.std.proofs.Common.{arith, refl, sym, ◌∙◌}
use Rattle.std.proofs.lemmas.Bool.{false≢true}
use Rattle.bp_chain.proofs.Lists.{placed_more, placed_here, placed_all}
use Rattle.bp_chain.proofs.claim.are_placed.Goals as goal

pub returns-then-not-places : goal.returns-then-not-places
returns-then-not-places g c = (
  λ never. absurd (false≢true never),
  λ all.
      absurd (false≢true (sym c.if-not-places.true ∙ c.places.ensures.1 (placed_here (g.P.Steps.steps c.args.path.now) c.args.axis c.args.chain.now c.loop-k.k _ _ (omega arith) c.at.ensures c.at-in-loop-k.ensures all))),
)

pub loop-k-preserved : goal.loop-k-preserved
loop-k-preserved g c =
    placed_more (g.P.Steps.steps c.args.path.now) c.args.axis c.args.chain.now c.loop-k.k _ _ (omega arith) c.at.ensures c.at-in-loop-k.ensures (c.places.ensures.0 c.if-not-places.false) c.loop-k.invariant

pub returns : goal.returns
returns g c = (λ _. placed_all (g.P.Steps.steps c.args.path.now) c.args.axis c.args.chain.now c.loop-k.k (omega arith) c.loop-k.invariant, λ _. refl)
