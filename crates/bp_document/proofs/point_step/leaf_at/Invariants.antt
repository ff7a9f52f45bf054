use Rattle.std.proofs.Common.{◌≡◌, ◌≤◌, length}
use Rattle.bp_document.proofs.Leaves.{leaves_before}
use Rattle.bp_document.proofs.point_step.leaf_at.Given as goal

abbrev pub invariant-loop-node : goal.invariant-loop-node
invariant-loop-node l = (l.leaves ≡ length (leaves_before l.tree l.node)) × (l.leaves ≤ l.place)
