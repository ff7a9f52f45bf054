use Rattle.std.proofs.Common.{ℕ, ◌<◌, ◌≤◌}
use Rattle.bp_pieces.specs.Labels.{Among, IsFound, Near, label_at}
use Rattle.bp_pieces.proofs.labels.least_near.Given as goal

abbrev pub invariant-loop-v : goal.invariant-loop-v
invariant-loop-v l = (l.least ≤ label_at l.cells.width l.labels l.x l.y) × IsFound (Among l.cells l.kind) (Near l.kind) l.cells.width l.labels l.x l.y l.least × ((j k : ℕ) → k < l.v → Among l.cells l.kind j k → Near l.kind l.x l.y j k → l.least ≤ label_at l.cells.width l.labels j k)
