use Rattle.std.proofs.Common.{◌≡◌, ℕ, ◌<◌, length, get_or}
use Rattle.bp_mirror.specs.Systems.{mirror_order}
use Rattle.bp_replay.specs.Cells.{first_name}
use Rattle.bp_replay.proofs.ties.first_names.Given as goal

abbrev pub invariant-loop-name : goal.invariant-loop-name
invariant-loop-name l =
    (length l.first.items ≡ l.name) × ((n : ℕ) → n < l.name → get_or l.first.items n 0 ≡ first_name l.metric.tree (mirror_order l.metric.tree l.readings.kind l.readings.pairs) n)
