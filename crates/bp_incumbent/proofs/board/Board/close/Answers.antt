use Rattle.std.proofs.Common.{ap}
use Rattle.bp_incumbent.proofs.Closes.{least, known, lowest, once, halts}
use Rattle.bp_incumbent.proofs.board.Board.close.Goals as goal

pub returns-clause-side : goal.returns-clause-side
returns-clause-side c = rw (← ap (λ b. b.opening) c.self.view_is) (least _ _ c.gather-seats.ensures.taken _ _ c.close-side.ensures.least)

pub returns-clause-tickets : goal.returns-clause-tickets
returns-clause-tickets c = once _ _ c.gather-seats.ensures.taken c.close-tickets.result c.close-tickets.ensures.once

pub returns-clause-seen : goal.returns-clause-seen
returns-clause-seen c = rw (← ap (λ b. b.opening) c.self.view_is) (known _ _ c.gather-seats.ensures.taken _ c.close-side.ensures.seen)

pub returns-clause-halt : goal.returns-clause-halt
returns-clause-halt c = halts _ _ c.gather-seats.ensures.taken c.close.ensures.read

pub returns-clause-none_below : goal.returns-clause-none_below
returns-clause-none_below c =
    let taken = c.gather-seats.ensures.taken in
    lowest _ _ _ _ (least _ _ taken _ _ c.close-side.ensures.least) (known _ _ taken _ c.close-side.ensures.seen)
