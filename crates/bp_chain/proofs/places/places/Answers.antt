use Rattle.std.proofs.Common.{refl, sym, ◌∙◌}
use Rattle.std.proofs.lemmas.Bool.{false≢true}
use Rattle.bp_metric.proofs.Chains.{places_at, none_more}
use Rattle.bp_chain.proofs.places.places.Goals as goal

pub returns-then-places_by : goal.returns-then-places_by
returns-then-places_by g c = (
  λ _. places_at (g.P.Steps.steps c.args.path.now) c.args.axis c.args.a c.args.b c.loop-k.k _ c.at.ensures (c.places_by.ensures.0 c.if-places_by.true),
  λ _. refl,
)

pub loop-k-preserved : goal.loop-k-preserved
loop-k-preserved g c =
    none_more (g.P.Steps.steps c.args.path.now) c.args.axis c.args.a c.args.b c.loop-k.k _ c.at.ensures c.loop-k.invariant (λ by. false≢true (sym c.if-places_by.false ∙ c.places_by.ensures.1 by))
