use Rattle.std.proofs.Common.{map}
use Rattle.bp_metric.specs.Nodes.{node_count_of}
use Rattle.bp_metric.specs.Records.{paths_left}
use Rattle.bp_join.specs.Joined.{node_of}
use Rattle.bp_revise.proofs.Takings.{IsTaken}
use Rattle.bp_revise.proofs.apart.+take_apart.Given as goal

abbrev pub decreases-take_apart : goal.decreases-take_apart
decreases-take_apart l = node_count_of l.refutation.now

abbrev pub invariant-loop-k : goal.invariant-loop-k
invariant-loop-k l =
    IsTaken l.metric.tree l.metric.sheet l.path l.pair l.children l.refutation l.k (map (node_of l.metric.tree l.metric.sheet) l.fn.parts.records) (map (node_of l.metric.tree l.metric.sheet) l.parts.records) (paths_left l.fn.parts.left) (paths_left l.parts.left)
