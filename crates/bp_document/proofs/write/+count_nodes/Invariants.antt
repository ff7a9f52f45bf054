use Rattle.std.proofs.Common.{◌≡◌, ◌+◌, length, take}
use Rattle.std.specs.List.{flat_map}
use Rattle.bp_metric.specs.Nodes.{node_count_of, parts_of}
use Rattle.bp_document.proofs.write.+count_nodes.Given as goal

abbrev pub decreases-count_nodes : goal.decreases-count_nodes
decreases-count_nodes l = node_count_of l.refutation.now

abbrev pub invariant-loop-child : goal.invariant-loop-child
invariant-loop-child l = l.total ≡ 1 + length (flat_map parts_of (take l.child-index l.child-items))
