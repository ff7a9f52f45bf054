use Rattle.std.proofs.Common.{sym, subst}
use Rattle.std.proofs.lemmas.Bool.{OnTrue_at, OnTrue_from}
use Rattle.bp_machine.specs.declared.event.Event.{Event}
use Rattle.bp_machine.specs.Lawful.{HasSource}
use Rattle.bp_machine.proofs.Standing.{hand_there}
use Rattle.bp_machine.proofs.state.State.has_source.Goals as goal

pub returns-in-Steal-clause-yes : goal.returns-in-Steal-clause-yes
returns-in-Steal-clause-yes c =
    let S = c.args.self.now in
    OnTrue_from c.has_hand.result (HasSource S c.args.event) (λ is. subst (λ (e : Event). HasSource S e) (sym c.in-Steal.is) (hand_there S c.in-Steal.from (OnTrue_at is c.has_hand.ensures.yes)))
