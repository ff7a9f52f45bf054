use Rattle.std.proofs.Common.{◌≡◌, ◌-◌}
use Rattle.std.specs.List.{flat_map, range_with_len}
use Rattle.bp_regions.specs.Balls.{row_of}
use Rattle.bp_regions.proofs.ball.balls_of.Given as goal

abbrev pub invariant-loop-edge : goal.invariant-loop-edge
invariant-loop-edge l = l.balls.items ≡ flat_map (row_of l.metric.tree l.points) (range_with_len 1 (l.edge - 1))
