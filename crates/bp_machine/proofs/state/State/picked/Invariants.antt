use Rattle.std.proofs.Common.{◌≡◌, ◌<◌, ℕ, Some}
use Rattle.std.specs.List.{slice_get}
use Rattle.bp_machine.specs.Facts.{IsReached}
use Rattle.bp_machine.specs.State.{HandValue}
use Rattle.bp_machine.proofs.state.State.picked.Given as goal

abbrev pub invariant-loop-hand : goal.invariant-loop-hand
invariant-loop-hand l = (j : ℕ) (g : HandValue) → j < l.hand-index → slice_get l.hand-items j ≡ Some g → IsReached l.self.side g → ⊥
