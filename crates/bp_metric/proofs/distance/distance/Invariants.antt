use Rattle.std.proofs.Common.{◌≡◌, ◌+◌, ◌<◌}
use Rattle.bp_base.specs.Tree.{node_count}
use Rattle.bp_metric.specs.Distance.{dist}
use Rattle.bp_metric.proofs.distance.distance.Given as goal

abbrev pub invariant-loop-a : goal.invariant-loop-a
invariant-loop-a l =
    (l.a < node_count l.tree) × (l.b < node_count l.tree) × (l.sum + dist l.tree l.a l.b ≡ dist l.tree l.fn.a l.fn.b)

abbrev pub decreases-loop-a : goal.decreases-loop-a
decreases-loop-a l = l.a + l.b
