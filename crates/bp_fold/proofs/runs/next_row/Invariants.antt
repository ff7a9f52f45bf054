use Rattle.std.proofs.Common.{ℕ, ◌<◌, ◌-◌, length}
use Rattle.bp_fold.specs.Meshes.{crossing}
use Rattle.bp_fold.specs.Vertices.{IsVertex}
use Rattle.bp_fold.proofs.runs.next_row.Given as goal

abbrev pub invariant-loop-next : goal.invariant-loop-next
invariant-loop-next l =
    (l.row < l.next) × (l.next < length l.mesh.ys.now) × ((k : ℕ) → l.row < k → k < l.next → IsVertex l.mesh.regions.now (crossing l.mesh.xs.now l.mesh.ys.now l.column k) → ⊥)

abbrev pub decreases-loop-next : goal.decreases-loop-next
decreases-loop-next l = length l.mesh.ys.now - l.next
