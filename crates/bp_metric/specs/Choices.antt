-- How the tips of a pair can lie, which of these choices hold for points, and which a search needs to try.
use Rattle.std.specs.Prelude.{ℕ, ◌+◌, ◌*◌, ◌≤◌, ◌==◌, nat_le, List, [], ◌∷◌, Bool, ◌&&◌, if◌then◌else◌}
use Rattle.bp_base.specs.declared.path.Choice.{Choice}
use Rattle.bp_base.specs.declared.path.Choice.TheVariants.{Left, Right, Below, Above}
use Rattle.bp_base.specs.declared.path.Pair.{Pair}
use Rattle.bp_base.specs.declared.point.Point.{Point}
use Rattle.bp_base.specs.declared.point.Sheet.{Sheet}
use Rattle.bp_base.specs.declared.point.Sheet.TheVariants.{Square, Strip}
use Rattle.bp_base.specs.Tree.{TreeValue, parent, length_of, leaf_node}
use Rattle.bp_base.specs.Point.{point_at}
use Rattle.bp_metric.specs.Distance.{leaf_dist}

-- the choice holds for the pair's points, on a grid q times finer
abbrev pub Holds : TreeValue → ℕ → List Point → Pair → Choice → Type 0
Holds T q P p Left = (point_at P p.i).x + q * leaf_dist T p.i p.j ≤ (point_at P p.j).x
Holds T q P p Right = (point_at P p.j).x + q * leaf_dist T p.i p.j ≤ (point_at P p.i).x
Holds T q P p Below = (point_at P p.i).y + q * leaf_dist T p.i p.j ≤ (point_at P p.j).y
Holds T q P p Above = (point_at P p.j).y + q * leaf_dist T p.i p.j ≤ (point_at P p.i).y

-- leaves with one parent and equal lengths
unfoldable pub are_twins : TreeValue → ℕ → ℕ → Bool
are_twins T i j =
    (parent T (leaf_node T i) == parent T (leaf_node T j)) && (length_of T (leaf_node T i) == length_of T (leaf_node T j))

-- the pair is that of leaves i and j
abbrev pub is_pair_of : ℕ → ℕ → Pair → Bool
is_pair_of i j p = (p.i == i) && (p.j == j)

-- two twins that are both numbered 4 or more
abbrev pub are_late_twins : TreeValue → Pair → Bool
are_late_twins T p = nat_le 4 p.i && nat_le 4 p.j && are_twins T p.i p.j

abbrev pub allowed_later : TreeValue → Pair → List Choice
allowed_later T p = if are_late_twins T p then Left ∷ Below ∷ [] else Left ∷ Right ∷ Below ∷ Above ∷ []

-- the choices that a pair allows, in the order of a split's children
unfoldable pub allowed : TreeValue → Sheet → Pair → List Choice
allowed T Square p =
    if is_pair_of 1 2 p then Left ∷ [] else (if is_pair_of 1 3 p then Left ∷ Right ∷ Below ∷ [] else allowed_later T p)
allowed T (Strip width) p = if is_pair_of 1 2 p then Left ∷ Below ∷ [] else allowed_later T p
