use Rattle.std.proofs.Common.{◌≡◌, ℕ, ◌+◌, ◌<◌, ◌≤◌, length}
use Rattle.bp_picture.specs.Outlines.{IsOutline, outline_at}
use Rattle.bp_picture.proofs.outline.outlines.Given as goal

abbrev pub invariant-loop-edge : goal.invariant-loop-edge
invariant-loop-edge l =
    (length l.outlines.items + 1 ≡ l.edge)
    × ((e : ℕ) → 1 ≤ e → e < l.edge → IsOutline l.regions e (outline_at l.outlines.items e))
