use Rattle.std.proofs.Common.{◌∙◌, refl, sym, ap}
use Rattle.std.proofs.lemmas.List.{nil_from_length}
use Rattle.bp_check.specs.Stack.{run}
use Rattle.bp_check.proofs.Visiting.{first_child, first_child_less, no_child, no_child_less}
use Rattle.bp_check.proofs.visit.visit_next.Goals as goal

pub returns-in_ok-visit-clause-lines : goal.returns-in_ok-visit-clause-lines
returns-in_ok-visit-clause-lines c =
    c.in_ok-visit.ensures.lines
    ∙ ap (run c.args.metric.now.tree c.args.metric.now.sheet c.args.stack.now)
    (first_child c.args.levels.now.items c.push.new.self.items c.args.level _ c.in-Some.first.now c.in-Some.rest.now c.in-Some.ensures.cases.0 refl c.in_ok-push.ensures.items)

pub returns-in_ok-visit-clause-less : goal.returns-in_ok-visit-clause-less
returns-in_ok-visit-clause-less c =
    first_child_less c.args.levels.now.items c.push.new.self.items c.args.level _ c.in-Some.first.now c.in-Some.rest.now c.in-Some.ensures.cases.0 refl c.in_ok-push.ensures.items _ c.in_ok-visit.ensures.less

pub returns-in_default-clause-lines : goal.returns-in_default-clause-lines
returns-in_default-clause-lines c =
    ap (run c.args.metric.now.tree c.args.metric.now.sheet c.args.stack.now)
    (sym (no_child c.args.levels.now.items c.args.level (nil_from_length c.args.level.children.now c.in_default.ensures.cases)))

pub returns-in_default-clause-less : goal.returns-in_default-clause-less
returns-in_default-clause-less c =
    no_child_less c.args.levels.now.items c.args.level (nil_from_length c.args.level.children.now c.in_default.ensures.cases)
