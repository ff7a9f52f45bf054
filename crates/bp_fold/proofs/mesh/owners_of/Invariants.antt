use Rattle.std.proofs.Common.{◌≡◌, ◌/◌, ◌%◌, ◌-◌, ◌<◌, ℕ, length, slice_index, slice_index_or}
use Rattle.std.specs.Prelude.{None}
use Rattle.bp_fold.specs.Meshes.{IsOwner}
use Rattle.bp_fold.proofs.mesh.owners_of.Given as goal

abbrev pub invariant-loop-k : goal.invariant-loop-k
invariant-loop-k l =
    (length l.owners.items ≡ l.k) × ((a : ℕ) → a < l.k → IsOwner l.regions (slice_index l.xs (a % (length l.xs - 1))) (slice_index l.ys (a / (length l.xs - 1))) (slice_index_or l.owners.items a None))
