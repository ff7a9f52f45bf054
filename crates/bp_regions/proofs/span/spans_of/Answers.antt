use Rattle.std.proofs.Common.{arith}
use Rattle.bp_regions.proofs.Rows.{spans_more, spans_done}
use Rattle.bp_regions.proofs.span.spans_of.Goals as goal

pub loop-start-preserved : goal.loop-start-preserved
loop-start-preserved c =
    let more = spans_more c.args.balls.now c.args.each c.loop-start.start c.loop-start.spans.items c.push.new.self.items c.span_of.result c.loop-start.invariant.at c.loop-start.invariant.spans c.span_of.ensures c.in_ok-push.ensures.items in
    record { within = omega (arith, c.loop-start-test.true, c.loop-start.invariant.within); at = more.0; spans = more.1 }

pub returns : goal.returns
returns c =
    spans_done c.args.balls.now c.args.each c.loop-start.start c.loop-start.spans.items c.loop-start.invariant.at c.loop-start.invariant.spans c.loop-start.invariant.within (omega (arith, c.loop-start-test.false))
