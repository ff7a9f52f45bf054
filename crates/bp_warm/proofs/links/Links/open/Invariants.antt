use Rattle.std.proofs.Common.{◌≡◌, ◌≤◌, [], map, replicate, All, length}
use Rattle.std.specs.Vec.{vec_capacity}
use Rattle.bp_warm.proofs.links.Links.open.Given as goal

abbrev pub invariant-loop : goal.invariant-loop
invariant-loop l =
    (length l.rows.items ≡ l.counter) × (map (λ v. v.items) l.rows.items ≡ replicate l.counter []) × All (λ v. l.room ≤ vec_capacity v) l.rows.items
