use Rattle.bp_base.specs.Tree.{leaf_count}
use Rattle.bp_warm.proofs.Backs.{IsBack}
use Rattle.bp_warm.proofs.back.loop_back.Given as goal

abbrev pub invariant-loop-trail : goal.invariant-loop-trail
invariant-loop-trail l = IsBack (leaf_count l.metric.tree) l._steps l.fn._axis l.first l.work l.trail l.at

abbrev pub decreases-loop-trail : goal.decreases-loop-trail
decreases-loop-trail l = l.at
