use Rattle.std.proofs.Common.{◌≡◌, ◌≤◌}
use Rattle.bp_machine.specs.State.{begun_hands}
use Rattle.bp_machine.proofs.state.fresh_hands.Given as goal

abbrev pub invariant-loop-number : goal.invariant-loop-number
invariant-loop-number l = record {
  some : 1 ≤ l.number;
  made : l.hands.items ≡ begun_hands l.side l.number;
}
