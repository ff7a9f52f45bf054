use Rattle.std.proofs.Common.{◌≡◌, ℕ, ◌<◌, true, false}
use Rattle.std.specs.List.{sum}
use Rattle.bp_pieces.specs.Labels.{Among, HasLabels, IsLowest, Near}
use Rattle.bp_pieces.proofs.labels.sweep_row.Given as goal

abbrev pub invariant-loop-x : goal.invariant-loop-x
invariant-loop-x l = HasLabels (Among l.cells l.kind) (Near l.kind) l.cells.width l.cells.height l.labels × (l.lowered ≡ false → l.labels ≡ l.initial.labels) × (l.lowered ≡ false → (k : ℕ) → k < l.x → Among l.cells l.kind k l.y → IsLowest (Among l.cells l.kind) (Near l.kind) l.cells.width l.labels k l.y) × (l.lowered ≡ true → sum l.labels < sum l.initial.labels)
