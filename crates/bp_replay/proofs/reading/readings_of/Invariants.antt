use Rattle.std.proofs.Common.{◌≡◌, ℕ, ◌<◌, length, get_or}
use Rattle.bp_lemmas.specs.Trees.{axis_of, leaf_of}
use Rattle.bp_mirror.specs.Readings.{reading}
use Rattle.bp_mirror.specs.Systems.{variable_of}
use Rattle.bp_replay.specs.declared.reading.Reading.{Reading}
use Rattle.bp_replay.specs.Cells.{places}
use Rattle.bp_replay.specs.Readings.{reading_as}
use Rattle.bp_replay.proofs.reading.readings_of.Given as goal

-- each that is there is that of its place
abbrev pub invariant-loop-at : goal.invariant-loop-at
invariant-loop-at l =
    (length l.table.items ≡ l.at) × ((u : ℕ) (d : Reading) → u < l.at → (reading_as (get_or l.table.items u d) ≡ reading l.kind l.mirror (axis_of u) (leaf_of u)) × (variable_of (reading_as (get_or l.table.items u d)) < places))
