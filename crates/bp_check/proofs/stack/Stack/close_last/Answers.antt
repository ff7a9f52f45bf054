use Rattle.std.proofs.Common.{◌∙◌, ◌-◌, refl, sym, ap, subst, length}
use Rattle.bp_check.specs.Stack.{KeepsWithin}
use Rattle.bp_check.specs.Found.{joined}
use Rattle.bp_check.proofs.Kept.{last_pair, close_is, keeps_closed}
use Rattle.bp_check.proofs.stack.Stack.close_last.Goals as goal

pub found_count-requires : goal.found_count-requires
found_count-requires c =
    last_pair c.args.metric.now.tree c.args.metric.now.sheet c.args.self.now.count c.args.self.now c.pop.new.self c.in-Some.split c.in-Some.ensures c.requires.kept

pub returns-in-Some-clause-closed : goal.returns-in-Some-clause-closed
returns-in-Some-clause-closed c =
    close_is c.args.metric.now.tree c.args.metric.now.sheet c.args.self.now _ c.in-Some.split c.take_last-step.result c.requires.kept.path c.in-Some.ensures c.take_last-step.ensures refl
    (c.joined-self.ensures ∙ ap (joined c.args.self.now.found) c.found_count.ensures)

pub returns-in-Some-clause-kept : goal.returns-in-Some-clause-kept
returns-in-Some-clause-kept c =
    let S = c.args.self.now in
    let T = c.args.metric.now.tree in
    let G = c.args.metric.now.sheet in
    subst (KeepsWithin T G S.count) (sym (returns-in-Some-clause-closed c)) (keeps_closed T G S.count (length S.splits - 1) S c.requires.kept)
