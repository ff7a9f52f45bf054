use Rattle.std.proofs.Common.{◌≡◌, ◌+◌, take}
use Rattle.std.specs.List.{count_by}
use Rattle.bp_machine.specs.Runs.{is_live}
use Rattle.bp_machine.proofs.state.State.live_hand.Given as goal

abbrev pub invariant-loop-hand : goal.invariant-loop-hand
invariant-loop-hand l = record { count : l.before + count_by is_live (take l.hand-index l.hand-items) ≡ l.answer; number : l.number ≡ l.hand-index + 1 }
