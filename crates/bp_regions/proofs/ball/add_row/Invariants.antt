use Rattle.std.proofs.Common.{◌≡◌, ◌++◌, ◌-◌, map}
use Rattle.std.specs.List.{range_with_len}
use Rattle.bp_regions.specs.Balls.{ball_of}
use Rattle.bp_regions.proofs.ball.add_row.Given as goal

abbrev pub invariant-loop-leaf : goal.invariant-loop-leaf
invariant-loop-leaf l = l.balls.items ≡ l.initial.balls.items ++ map (ball_of l.metric.tree l.points l.edge) (range_with_len 1 (l.leaf - 1))
