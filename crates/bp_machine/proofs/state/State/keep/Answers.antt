use Rattle.bp_machine.specs.declared.event.Event.TheVariants.{Keep}
use Rattle.bp_machine.proofs.Placed.{keep_step, seen_hand, seen_step}
use Rattle.bp_machine.proofs.state.State.keep.Goals as goal

pub returns-clause-done : goal.returns-clause-done
returns-clause-done c =
    let i = c.args.number in
    let (h, at, place, some) = c.requires in
    seen_step _ _ (Keep i) _ c.self.view_is (keep_step _ i h (seen_hand _ _ i h c.self.view_is at) c.index_mut.result.now c.index_mut.ensures.value c.keep.new.self place c.in_ok-keep.ensures.ok)
