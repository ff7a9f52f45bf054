use Rattle.std.proofs.Common.{◌≡◌, take}
use Rattle.bp_metric.specs.Nodes.{node_count_of}
use Rattle.bp_catalogue.proofs.copying.+copied_refutation.Given as goal

abbrev pub decreases-copied_refutation : goal.decreases-copied_refutation
decreases-copied_refutation l = node_count_of l.refutation.now

abbrev pub invariant-loop-child : goal.invariant-loop-child
invariant-loop-child l = l.copies.items ≡ take l.child-index l.child-items
