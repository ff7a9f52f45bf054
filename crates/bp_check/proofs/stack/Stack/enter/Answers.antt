use Rattle.std.proofs.Common.{◌∙◌, sym}
use Rattle.bp_check.proofs.Kept.{entered_last, entered_none}
use Rattle.bp_check.proofs.stack.Stack.enter.Goals as goal

pub returns-then-len-depth-clause-entered : goal.returns-then-len-depth-clause-entered
returns-then-len-depth-clause-entered c =
    c.enter_last.ensures.entered
    ∙ sym (entered_last c.args.metric.now.tree c.args.metric.now.sheet c.args.self.now c.args.depth (sym c.len.ensures ∙ c.if-len-depth.true))

pub returns-else-len-depth-clause-entered : goal.returns-else-len-depth-clause-entered
returns-else-len-depth-clause-entered c =
    sym (entered_none c.args.metric.now.tree c.args.metric.now.sheet c.args.self.now c.args.depth c.requires.kept.path (λ is. c.if-len-depth.false (c.len.ensures ∙ is)))
