use Rattle.std.proofs.Common.{◌≤◌, ◌+◌, sym, subst, arith}
use Rattle.std.specs.List.{sum_by}
use Rattle.bp_machine.specs.declared.event.Event.TheVariants.{Draw}
use Rattle.bp_machine.specs.Facts.{spends}
use Rattle.bp_machine.specs.State.{HandValue, StateValue}
use Rattle.bp_machine.proofs.Placed.{draw_step, seen_hand, seen_step}
use Rattle.bp_machine.proofs.Standing.{spent_few}
use Rattle.bp_machine.proofs.state.State.draw.Goals as goal

pub overflow_add-self : goal.overflow_add-self
overflow_add-self c =
    let word : c.self.inside.tickets ≤ c.self.inside.budget + sum_by (λ (h : HandValue). spends h.place) c.self.inside.hands.items =
    subst (λ (X : StateValue). X.tickets ≤ X.budget + sum_by (λ (h : HandValue). spends h.place) X.hands) (sym c.self.view_is) c.requires.word in
    omega (arith, word, spent_few c.self.inside.hands.items, c.self.invariant)

pub returns-clause-done : goal.returns-clause-done
returns-clause-done c =
    let i = c.args.number in
    let (h, at, held) = c.requires.hand in
    let (u, drawn_at, is) = c.in_ok-draw.ensures.ok in
    seen_step _ _ (Draw i) _ c.self.view_is (draw_step _ i h (seen_hand _ _ i h c.self.view_is at) c.index_mut.result.now c.index_mut.ensures.value c.draw.new.self u drawn_at is)
