-- The ties of a task as they are kept: of a mirror with the first name of each order.
use Rattle.std.specs.Prelude.{◌≡◌, ℕ, ◌<◌, List, length, slice_index_or}
use Rattle.bp_base.specs.declared.point.Axis.{Axis}
use Rattle.bp_base.specs.Tree.{TreeValue}
use Rattle.bp_lemmas.specs.Systems.{Order}
use Rattle.bp_mirror.specs.Systems.{mirror_order}
use Rattle.bp_replay.specs.declared.ties.Ties.{Ties}
use Rattle.bp_replay.specs.declared.ties.Ties.TheVariants.{Corner, Mirror}
use Rattle.bp_replay.specs.Cells.{names, first_name}
use Rattle.bp_replay.specs.Readings.{HavePlaces}
use Rattle.bp_replay.specs.Tasks.{Ties as AnyTies, cornered, mirrored}

-- the first name of the order of each name
abbrev pub AreFirst : TreeValue → (Axis → ℕ → ℕ → Order) → List ℕ → Type 0
AreFirst T order table = (length table ≡ names) × ((n : ℕ) → n < names → slice_index_or table n 0 ≡ first_name T order n)

abbrev pub ties_of : Ties → AnyTies
ties_of (Corner corner) = cornered corner
ties_of (Mirror readings first) = mirrored readings.kind readings.pairs

abbrev pub HaveTables : TreeValue → Ties → Type 0
HaveTables T (Corner corner) = Unit {0}
HaveTables T (Mirror readings first) = HavePlaces readings.pairs × AreFirst T (mirror_order T readings.kind readings.pairs) first.items
