use Rattle.std.proofs.Common.{sym, subst}
use Rattle.bp_machine.specs.declared.event.Event.{Event}
use Rattle.bp_machine.specs.Lawful.{IsLawful}
use Rattle.bp_machine.specs.Steps.{Steps}
use Rattle.bp_machine.proofs.Standing.{examining, pushing}
use Rattle.bp_machine.proofs.state.State.take.Goals as goal

pub draw-requires-clause-word : goal.draw-requires-clause-word
draw-requires-clause-word c = c.requires.facts.word

pub examine-requires-clause-hand : goal.examine-requires-clause-hand
examine-requires-clause-hand c =
    let S = c.args.self.now in
    let M = c.args.metric.now in
    examining M.tree M.sheet S c.requires.facts c.leaves-leaves.ensures.metric.tree c.in-Examine.hand (subst (λ (e : Event). IsLawful S e) c.in-Examine.is c.requires.lawful)

pub push-requires : goal.push-requires
push-requires c =
    let S = c.args.self.now in
    let M = c.args.metric.now in
    let lawful = subst (λ (e : Event). IsLawful S e) c.in-Push.is c.requires.lawful in
    (lawful.0, lawful.1, lawful.2, pushing M.tree M.sheet S c.requires.facts c.in-Push.hand lawful.0 lawful.1 lawful.2)

pub keep-requires : goal.keep-requires
keep-requires c =
    let S = c.args.self.now in
    let M = c.args.metric.now in
    let lawful = subst (λ (e : Event). IsLawful S e) c.in-Keep.is c.requires.lawful in
    (lawful.0, lawful.1, lawful.2, pushing M.tree M.sheet S c.requires.facts c.in-Keep.hand lawful.0 lawful.1 lawful.2)

pub returns-in-Steal-clause-done : goal.returns-in-Steal-clause-done
returns-in-Steal-clause-done c = subst (λ (e : Event). Steps c.args.self.now e c.steal.new.self) (sym c.in-Steal.is) c.steal.ensures
