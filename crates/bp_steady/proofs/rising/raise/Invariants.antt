use Rattle.std.proofs.Common.{◌+◌, ◌-◌, ◌*◌, sum}
use Rattle.bp_base.specs.Limits.{most_number}
use Rattle.bp_steady.specs.Searching.{IsRising}
use Rattle.bp_steady.proofs.rising.raise.Given as goal

abbrev pub invariant-loop : goal.invariant-loop
invariant-loop l = IsRising l.metric.tree l.steps l.bounds l.row

abbrev pub decreases-loop : goal.decreases-loop
decreases-loop l = 64 * most_number + 1 - sum l.row
