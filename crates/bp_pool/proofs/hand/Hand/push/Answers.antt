use Rattle.bp_pool.proofs.Hands.{pushed, as_it_was}
use Rattle.bp_pool.proofs.hand.Hand.push.Goals as goal

pub invariant_of-self : goal.invariant_of-self
invariant_of-self c = as_it_was c.self.inside c.self.invariant c.push.new.owner c.in_err-push.ensures.same c.in_err-push.ensures.done.1

pub invariant_of-self-2 : goal.invariant_of-self-2
invariant_of-self-2 c = rw c.saturating_add-self-inside.ensures (pushed c.self.inside c.self.invariant c.push.new.owner c.args.task c.in_ok-push.ensures.same c.in_ok-push.ensures.done)
