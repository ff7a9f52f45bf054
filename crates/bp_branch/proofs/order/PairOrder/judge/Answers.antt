use Rattle.std.proofs.Common.{subst, sym, arith}
use Rattle.bp_base.specs.declared.chain.Claim.{Claim}
use Rattle.bp_metric.specs.Coordinates.{IsShown}
use Rattle.bp_branch.proofs.order.PairOrder.judge.Goals as goal

pub returns-in-None-clause-outcome : goal.returns-in-None-clause-outcome
returns-in-None-clause-outcome c = λ path least. (
  subst (λ (claim : Claim). IsShown c.args.metric.now.tree c.args.metric.now.sheet path claim) (sym c.copy-in-None.ensures) least.claim,
  record { forced = least.forced; below = omega (arith, c.if-least-bound.false); no_next = c.in-None.ensures path least },
)
