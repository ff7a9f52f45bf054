use Rattle.std.proofs.Common.{◌≡◌}
use Rattle.bp_steady.specs.Questions.{ends}
use Rattle.bp_steady.proofs.bounds.Bounds.whole.Given as goal

abbrev pub invariant-loop : goal.invariant-loop
invariant-loop l = l.high.items ≡ ends l.metric.sheet l.fn.side l.counter
