use Rattle.bp_machine.specs.declared.event.Event.TheVariants.{Push}
use Rattle.bp_machine.proofs.Placed.{push_step, seen_hand, seen_step}
use Rattle.bp_machine.proofs.state.State.push.Goals as goal

pub returns-clause-done : goal.returns-clause-done
returns-clause-done c =
    let i = c.args.number in
    let (h, at, place, some) = c.requires in
    seen_step _ _ (Push i) _ c.self.view_is (push_step _ i h (seen_hand _ _ i h c.self.view_is at) c.index_mut.result.now c.index_mut.ensures.value c.push.new.self place c.in_ok-push.ensures.ok)
