use Rattle.std.proofs.Common.{ℕ, ◌≤◌}
use Rattle.bp_base.specs.Tree.{IsEdge, node_count}
use Rattle.bp_regions.specs.Cells.{Reach}
use Rattle.bp_regions.proofs.regions.Regions.owner.Given as goal

abbrev pub invariant-loop-edge : goal.invariant-loop-edge
invariant-loop-edge l =
    (l.edge ≤ node_count l.self.tree) × ((f : ℕ) → IsEdge l.self.tree f → l.edge ≤ f → Reach l.self.tree l.self.side l.self.points f l.x l.y → ⊥)

abbrev pub decreases-loop-edge : goal.decreases-loop-edge
decreases-loop-edge l = l.edge
