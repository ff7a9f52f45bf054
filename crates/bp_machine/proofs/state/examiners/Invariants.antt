use Rattle.std.proofs.Common.{◌≡◌, replicate}
use Rattle.bp_machine.proofs.state.examiners.Given as goal

abbrev pub invariant-loop-number : goal.invariant-loop-number
invariant-loop-number l = l.all.items ≡ replicate l.number l.metric
