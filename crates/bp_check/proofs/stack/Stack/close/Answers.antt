use Rattle.std.proofs.Common.{◌∙◌, ◌-◌, sym, ap, arith, length}
use Rattle.bp_check.specs.Stack.{closed}
use Rattle.bp_check.proofs.Kept.{closed_closed, closed_done}
use Rattle.bp_check.proofs.stack.Stack.close.Goals as goal

pub loop-self-smaller : goal.loop-self-smaller
loop-self-smaller c = c.close_last.ensures.less

pub loop-self-preserved : goal.loop-self-preserved
loop-self-preserved c =
    let T = c.args.metric.now.tree in
    let G = c.args.metric.now.sheet in
    let same = ap (closed T G c.args.depth) c.close_last.ensures.closed ∙ closed_closed T G c.loop-self.self c.args.depth (length c.loop-self.self.splits - 1) (omega arith) in
    record { kept = c.close_last.ensures.kept; count = c.close_last.ensures.count ∙ c.loop-self.invariant.count; same = same ∙ c.loop-self.invariant.same }

pub returns-clause-closed : goal.returns-clause-closed
returns-clause-closed c =
    sym (closed_done c.args.metric.now.tree c.args.metric.now.sheet c.loop-self.self c.args.depth c.loop-self.invariant.kept.path (omega arith))
    ∙ c.loop-self.invariant.same
