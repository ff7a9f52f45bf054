use Rattle.std.proofs.Common.{◌≡◌, ℕ, ◌-◌, get_or}
use Rattle.bp_lemmas.specs.Systems.{is_order}
use Rattle.bp_replay.specs.declared.relation.Relation.TheVariants.{Apart}
use Rattle.bp_replay.specs.Cells.{first_of}
use Rattle.bp_replay.specs.Readings.{order_as}
use Rattle.bp_replay.proofs.ties.first_name.Given as goal

-- none before is the same
abbrev pub invariant-loop-earlier : goal.invariant-loop-earlier
invariant-loop-earlier l =
    let same = λ (m : ℕ). is_order (order_as (get_or l.orders m (Apart 0 0 0))) (order_as (get_or l.orders l.name (Apart 0 0 0))) in
    first_of same (l.name - l.earlier) l.earlier ≡ first_of same l.name 0
