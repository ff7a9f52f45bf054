use Rattle.std.proofs.Common.{ℕ, ◌<◌}
use Rattle.bp_metric.specs.Floor.{room_of}
use Rattle.bp_floor.proofs.rows.rows.Given as goal

abbrev pub invariant-loop-rows : goal.invariant-loop-rows
invariant-loop-rows l = (k : ℕ) → k < l.rows → room_of l.sheet l.m k < l.count
