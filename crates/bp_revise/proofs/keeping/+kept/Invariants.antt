use Rattle.std.proofs.Common.{◌≡◌, map, take}
use Rattle.bp_metric.specs.Nodes.{node_count_of}
use Rattle.bp_revise.specs.Keep.{kept}
use Rattle.bp_revise.proofs.keeping.+kept.Given as goal

abbrev pub decreases-kept : goal.decreases-kept
decreases-kept l = node_count_of l.refutation.now

abbrev pub invariant-loop-child : goal.invariant-loop-child
invariant-loop-child l = l.kept_children.items ≡ map (kept l.metric.tree l.metric.sheet l.start) (take l.child-index l.child-items)
