use Rattle.bp_metric.proofs.Sampled.{letters_more}
use Rattle.bp_samples.proofs.trees.names.Goals as goal

pub loop-number-preserved : goal.loop-number-preserved
loop-number-preserved c =
    letters_more c.loop-number.number c.loop-number.names.items c.push.new.self.items c.in-Some.name c.loop-number.invariant c.in-Some.ensures.1 c.in_ok-push-in-Some.ensures.items
