-- The orders that hold for good between two leaves, by where they come from: a corner, a pair of a mirror, the head of a swap.
use Rattle.std.specs.Prelude.{ℕ, ◌<◌, List, [], ◌∷◌, Option, None, Some, if◌then◌else◌}
use Rattle.std.specs.List.{list_any, flat_map}
use Rattle.bp_base.specs.declared.path.Pair.{Pair}
use Rattle.bp_base.specs.declared.point.Axis.TheVariants.{X}
use Rattle.bp_base.specs.declared.point.Sheet.{Sheet}
use Rattle.bp_lemmas.specs.Systems.{Lasting}
use Rattle.bp_lemmas.specs.Trees.{lies_no_farther, corner_lasting, is_corner_pair, is_head}
use Rattle.bp_mirror.specs.declared.kind.MirrorKind.TheVariants.{Book, Diagonal}
use Rattle.bp_mirror.specs.Readings.{reading}
use Rattle.bp_mirror.specs.Systems.{lasting_by, pair_lasting}
use Rattle.bp_replay.specs.declared.lean.Lean.{Lean}
use Rattle.bp_replay.specs.Cells.{places}
use Rattle.bp_replay.specs.Tasks.{Ties, cornered, mirrored}

abbrev pub corner_of : Ties → Option Pair
corner_of (cornered corner) = Some corner
corner_of (mirrored kind mirror) = None

-- the pairs whose leaves lean on one another
abbrev pub leaning_pairs : Ties → List Pair
leaning_pairs (cornered corner) = []
leaning_pairs (mirrored Book mirror) = []
leaning_pairs (mirrored Diagonal mirror) = mirror

abbrev pub at_corner : Option Pair → Sheet → ℕ → ℕ → List Lasting
at_corner None G i j = []
at_corner (Some corner) G i j = if is_corner_pair corner.i corner.j i j then corner_lasting G corner.i corner.j else []

abbrev pub at_pairs : List Pair → ℕ → ℕ → List Lasting
at_pairs pairs i j = flat_map (pair_lasting Diagonal i j) pairs

-- between the leaves of a head
abbrev pub of_head : Ties → ℕ → ℕ → List Lasting
of_head (cornered corner) i j = lies_no_farther X i j ∷ []
of_head (mirrored kind mirror) i j = lasting_by (reading kind mirror X i) (reading kind mirror X j)

abbrev pub at_head : Ties → List Pair → ℕ → ℕ → List Lasting
at_head ties heads i j = if list_any (is_head i j) heads then of_head ties i j else []

abbrev pub lasting_of : Lean → Lasting
lasting_of l = record { earlier = l.earlier; later = l.later }

abbrev pub lastings : Option Lean → List Lasting
lastings None = []
lastings (Some l) = lasting_of l ∷ []

abbrev pub LeansWithin : Option Lean → Type 0
LeansWithin None = Unit {0}
LeansWithin (Some l) = (l.earlier < places) × (l.later < places)
