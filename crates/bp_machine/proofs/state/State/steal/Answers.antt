use Rattle.std.proofs.Common.{rules}
use Rattle.bp_machine.specs.declared.event.Event.TheVariants.{Steal}
use Rattle.bp_machine.proofs.Placed.{seen_hand, seen_step, steal_seen}
use Rattle.bp_machine.proofs.state.State.steal.Goals as goal

pub returns : goal.returns
returns c =
    let i = c.args.number in
    let g = c.args.from in
    let (h, at, place, few) = c.requires.hand in
    let (other, there) = c.requires.source in
    seen_step _ _ (Steal i g) _ c.self.view_is (steal_seen _ i g c.len-count.result h other c.index_mut.result.now c.give-stolen.new.self c.index_mut-2.result.now c.receive.new.self (seen_hand _ _ i h c.self.view_is at) place c.requires.apart (seen_hand _ _ g other c.self.view_is there) c.index_mut.ensures.value c.index_mut-2.ensures.value (search rules) c.give-stolen.result c.give-stolen.ensures c.receive.ensures)
