-- How readings and orders are kept, and the table of how each coordinate reads.
use Rattle.std.specs.Prelude.{◌≡◌, ℕ, ◌*◌, ◌<◌, ◌≤◌, List, length, slice_index_or, All}
use Rattle.bp_base.specs.declared.path.Pair.{Pair}
use Rattle.bp_metric.specs.Distance.{most_distance}
use Rattle.bp_lemmas.specs.Systems.{Order, apart, facing, facing_itself, never}
use Rattle.bp_lemmas.specs.Trees.{axis_of, leaf_of}
use Rattle.bp_mirror.specs.declared.kind.MirrorKind.{MirrorKind}
use Rattle.bp_mirror.specs.Readings.{Part, left, right_of, middle, Reading, plain, turned, half, reading}
use Rattle.bp_mirror.specs.Systems.{variable_of}
use Rattle.bp_replay.specs.declared.reading.Part.{Part as KeptPart}
use Rattle.bp_replay.specs.declared.reading.Part.TheVariants.{Left, Right, Middle}
use Rattle.bp_replay.specs.declared.reading.Reading.{Reading as Kept}
use Rattle.bp_replay.specs.declared.reading.Reading.TheVariants.{Plain, Turned, Half}
use Rattle.bp_replay.specs.declared.relation.Relation.{Relation}
use Rattle.bp_replay.specs.declared.relation.Relation.TheVariants.{Apart, Facing, FacingItself, Never}
use Rattle.bp_replay.specs.Cells.{places, rows}

abbrev pub reading_as : Kept → Reading
reading_as (Plain variable) = plain variable
reading_as (Turned variable) = turned variable
reading_as Half = half

abbrev pub order_as : Relation → Order
order_as (Apart u v w) = apart u v w
order_as (Facing u v w) = facing u v w
order_as (FacingItself u w) = facing_itself u w
order_as Never = never

abbrev pub part_as : KeptPart → Part
part_as Left = left
part_as (Right i) = right_of i
part_as Middle = middle

abbrev pub IsPartWithin : KeptPart → Type 0
IsPartWithin Left = Unit {0}
IsPartWithin (Right i) = i < rows
IsPartWithin Middle = Unit {0}

-- in half units, and twice where it faces the line
abbrev pub most_weight : ℕ
most_weight = 4 * most_distance

-- its coordinates have places, and its weight is small
abbrev pub Fits : Order → Type 0
Fits (apart u v w) = (u < places) × (v < places) × (w ≤ most_weight)
Fits (facing u v w) = (u < places) × (v < places) × (w ≤ most_weight)
Fits (facing_itself u w) = (u < places) × (w ≤ most_weight)
Fits never = Unit {0}

-- pairs of leaves that have places
abbrev pub HavePlaces : List Pair → Type 0
HavePlaces pairs = All (λ p. (p.i < rows) × (p.j < rows)) pairs

pub record MirrorValue : Type 0 where
  pub kind : MirrorKind
  pub pairs : List Pair

-- the coordinate at each place
pub record AreReadings (kind : MirrorKind) (pairs : List Pair) (table : List Kept) : Type 0 where
  pub few : HavePlaces pairs
  pub each : length table ≡ places
  pub read : (u : ℕ) → (d : Kept) → u < places → reading_as (slice_index_or table u d) ≡ reading kind pairs (axis_of u) (leaf_of u)
  pub within : (u : ℕ) → (d : Kept) → u < places → variable_of (reading_as (slice_index_or table u d)) < places
