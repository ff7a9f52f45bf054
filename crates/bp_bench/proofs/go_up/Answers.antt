use Rattle.std.proofs.Common.{ap, arith, length, length-append, ◌∷◌, [], ◌∙◌}
use Rattle.bp_bench.proofs.go_up.Goals as goal

pub loop-preserved : goal.loop-preserved
loop-preserved c = (
  omega (arith, c.loop.invariant.0, ap length c.retract.ensures.path.1, length-append c.retract.new.self.path (c.retract.ensures.path.0 ∷ [])),
  c.retract.ensures.metric ∙ c.loop.invariant.1,
)
