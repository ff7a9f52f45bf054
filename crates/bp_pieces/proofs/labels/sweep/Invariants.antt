use Rattle.std.proofs.Common.{◌≡◌, ℕ, ◌<◌, true, false}
use Rattle.std.specs.List.{sum}
use Rattle.bp_pieces.specs.Labels.{Among, HasLabels, IsLowest, Near}
use Rattle.bp_pieces.proofs.labels.sweep.Given as goal

abbrev pub invariant-loop-y : goal.invariant-loop-y
invariant-loop-y l = HasLabels (Among l.cells l.kind) (Near l.kind) l.cells.width l.cells.height l.labels × (l.lowered ≡ false → l.labels ≡ l.initial.labels) × (l.lowered ≡ false → (j k : ℕ) → k < l.y → Among l.cells l.kind j k → IsLowest (Among l.cells l.kind) (Near l.kind) l.cells.width l.labels j k) × (l.lowered ≡ true → sum l.labels < sum l.initial.labels)
