use Rattle.std.proofs.Common.{◌∙◌, refl, sym}
use Rattle.bp_check.proofs.Kept.{split_opened, split_refused}
use Rattle.bp_check.proofs.stack.Stack.add_split.Goals as goal

pub returns-then-may_open-clause-split : goal.returns-then-may_open-clause-split
returns-then-may_open-clause-split c =
    c.open_split.ensures.split ∙ sym (split_opened c.args.metric.now.tree c.args.metric.now.sheet c.args.self.now c.args.pair (sym c.may_open.ensures ∙ c.if-may_open.true))

pub returns-clause-split : goal.returns-clause-split
returns-clause-split c =
    split_refused c.args.metric.now.tree c.args.metric.now.sheet c.args.self.now _ c.args.pair (sym c.may_open.ensures ∙ c.if-may_open.false) c.requires.kept.path refl refl refl c.joined-self.ensures
