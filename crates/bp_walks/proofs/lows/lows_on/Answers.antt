use Rattle.std.proofs.Common.{arith}
use Rattle.bp_walks.proofs.Done.{done_start, done_more, done_all}
use Rattle.bp_walks.proofs.lows.lows_on.Goals as goal

pub loop-leaf-init : goal.loop-leaf-init
loop-leaf-init c = done_start c.args.metric.now.tree c.leaves-n.ensures.metric.tree c.args.path.now c.requires c.args.axis

pub loop-leaf-smaller : goal.loop-leaf-smaller
loop-leaf-smaller c = (done_more c.args.metric.now.tree c.leaves-n.ensures.metric.tree c.args.path.now c.requires c.args.axis c.loop-leaf.lows c.loop-leaf.open c.in-Some.leaf c.greatest.result c.loop-leaf.invariant (c.in-Some.ensures.within.0, omega (arith, c.in-Some.ensures.within.1, c.leaves-n.ensures.count)) c.in-Some.ensures.within.2 c.in-Some.ensures.ready c.greatest.ensures.meets c.greatest.ensures.made_up).1

pub loop-leaf-preserved : goal.loop-leaf-preserved
loop-leaf-preserved c = (done_more c.args.metric.now.tree c.leaves-n.ensures.metric.tree c.args.path.now c.requires c.args.axis c.loop-leaf.lows c.loop-leaf.open c.in-Some.leaf c.greatest.result c.loop-leaf.invariant (c.in-Some.ensures.within.0, omega (arith, c.in-Some.ensures.within.1, c.leaves-n.ensures.count)) c.in-Some.ensures.within.2 c.in-Some.ensures.ready c.greatest.ensures.meets c.greatest.ensures.made_up).0

pub returns-in-None : goal.returns-in-None
returns-in-None c = done_all c.args.metric.now.tree c.leaves-n.ensures.metric.tree c.args.path.now c.requires c.args.axis c.loop-leaf.lows c.loop-leaf.open c.loop-leaf.invariant (λ i from to. c.in-None.ensures i from (omega (arith, to, c.leaves-n.ensures.count)))
