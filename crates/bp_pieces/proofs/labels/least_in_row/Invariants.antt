use Rattle.std.proofs.Common.{ℕ, ◌<◌, ◌≤◌}
use Rattle.bp_pieces.specs.Labels.{Among, IsFound, Near, label_at}
use Rattle.bp_pieces.proofs.labels.least_in_row.Given as goal

abbrev pub invariant-loop-u : goal.invariant-loop-u
invariant-loop-u l = (l.least ≤ l.fn.start) × IsFound (Among l.cells l.kind) (Near l.kind) l.cells.width l.labels l.at.x l.at.y l.least × ((k : ℕ) → k < l.u → Among l.cells l.kind k l.v → Near l.kind l.at.x l.at.y k l.v → l.least ≤ label_at l.cells.width l.labels k l.v)
