use Rattle.std.proofs.Common.{◌≡◌, ◌≤◌, take}
use Rattle.std.specs.Prelude.{vec_capacity}
use Rattle.bp_base.specs.Limits.{most_leaves}
use Rattle.bp_document.proofs.room.Room+u64.fill.Given as goal

abbrev pub invariant-loop-k : goal.invariant-loop-k
invariant-loop-k l = (l.self-inside.items.items ≡ take l.k l.chain) × (most_leaves ≤ vec_capacity l.self-inside.items)
