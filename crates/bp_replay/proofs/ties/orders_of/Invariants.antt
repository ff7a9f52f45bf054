use Rattle.std.proofs.Common.{◌≡◌, ℕ, ◌<◌, length, get_or}
use Rattle.bp_mirror.specs.Systems.{mirror_order}
use Rattle.bp_replay.specs.declared.relation.Relation.{Relation}
use Rattle.bp_replay.specs.Cells.{order_named}
use Rattle.bp_replay.specs.Readings.{order_as}
use Rattle.bp_replay.proofs.ties.orders_of.Given as goal

-- each that is there is that of its name
abbrev pub invariant-loop-name : goal.invariant-loop-name
invariant-loop-name l =
    (length l.orders.items ≡ l.name) × ((d : Relation) (n : ℕ) → n < l.name → order_as (get_or l.orders.items n d) ≡ order_named l.metric.tree (mirror_order l.metric.tree l.readings.kind l.readings.pairs) n)
