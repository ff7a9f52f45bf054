use Rattle.std.proofs.Common.{◌≡◌, length}
use Rattle.bp_learn.proofs.watches.Watches.open.Given as goal

abbrev pub invariant-loop : goal.invariant-loop
invariant-loop l = length l.rows.items ≡ l.counter
