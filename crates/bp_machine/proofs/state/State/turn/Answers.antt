use Rattle.std.proofs.Common.{ap}
use Rattle.bp_machine.specs.State.{HandValue}
use Rattle.bp_machine.proofs.Ordered.{lawful_turn, moves_turn, place_read}
use Rattle.bp_machine.proofs.state.State.turn.Goals as goal

pub take-requires-clause-lawful : goal.take-requires-clause-lawful
take-requires-clause-lawful c =
    let live = c.live_hand-number.ensures in
    let place = place_read c.args.self.now _ c.live_hand-number.result live.0 c.index.result.now c.behind-self.inside.place c.self.view_is live.1 c.index.ensures (ap (λ (x : HandValue). x.place) c.behind-self.view_is) in
    lawful_turn c.args.self.now _ c.live_hand-number.result c.behind-self.inside.place c.event_at-event.result c.requires.orderly live place c.event_at-event.ensures

pub returns-clause-done : goal.returns-clause-done
returns-clause-done c =
    moves_turn c.args.self.now c.take.new.self c.args.answer c.live_hand-number.result c.behind-self.inside.place c.event_at-event.result c.live_hand-number.ensures c.event_at-event.ensures c.in_ok-take.ensures.done
