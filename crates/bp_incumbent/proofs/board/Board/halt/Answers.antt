use Rattle.std.proofs.Common.{refl, ap}
use Rattle.bp_incumbent.specs.Halt.{halting}
use Rattle.bp_incumbent.proofs.Passes.{with_halt}
use Rattle.bp_incumbent.proofs.board.Board.halt.Goals as goal

pub invariant_of-pass : goal.invariant_of-pass
invariant_of-pass c =
    let is = c.set.ensures.seat.1 in
    with_halt c.pass.inside _ halting (λ h. refl) c.pass.invariant refl refl refl refl (ap (λ m. m.1) is) (ap (λ m. m.0.passes) is)
