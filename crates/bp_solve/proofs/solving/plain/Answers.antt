use Rattle.std.proofs.Common.{◌∙◌}
use Rattle.bp_solve.proofs.Proven.{is_plain}
use Rattle.bp_solve.proofs.solving.plain.Goals as goal

pub returns-clause-plain : goal.returns-clause-plain
returns-clause-plain c =
    is_plain c.args.metric.now.tree c.args.metric.now.sheet c.tree.ensures.metric.tree c.tree.ensures.metric.sheet c.args.placement c.args.floor c.requires.placement c.requires.floor c.in_ok-tree.tree c.sheet.result (c.in_ok-tree.ensures.value ∙ c.tree.ensures.tree) c.sheet.ensures.sheet
