-- The system of a mirror, below a bound, with the heads of swaps. Its bound, codes and weights are told in the units of the mirror's kind.
use Rattle.std.specs.Prelude.{ℕ, ◌*◌, ◌==◌, ◌&&◌, ◌||◌, ◌++◌, nat_le, nat_lt, List, [], ◌∷◌, map, Bool, true, false, if◌then◌else◌}
use Rattle.std.specs.List.{list_any, flat_map}
use Rattle.bp_base.specs.declared.path.Pair.{Pair}
use Rattle.bp_base.specs.declared.point.Axis.{Axis}
use Rattle.bp_base.specs.declared.point.Axis.TheVariants.{X, Y}
use Rattle.bp_base.specs.Tree.{TreeValue}
use Rattle.bp_metric.specs.Distance.{leaf_dist}
use Rattle.bp_lemmas.specs.Systems.{Order, apart, facing, facing_itself, never, Lasting, System}
use Rattle.bp_lemmas.specs.Trees.{number, leaf_of, is_leaf, are_two_leaves, is_pair, is_head}
use Rattle.bp_mirror.specs.declared.kind.MirrorKind.{MirrorKind}
use Rattle.bp_mirror.specs.declared.kind.MirrorKind.TheVariants.{Book, Diagonal}
use Rattle.bp_mirror.specs.Mirrored.{units}
use Rattle.bp_mirror.specs.Readings.{Reading, plain, turned, half, reading}

-- Variable u lies before v by a weight. None lies before itself, and on the diagonal, where x is at most y, no leaf's y before its x.
unfoldable pub variable_before : ℕ → ℕ → ℕ → Order
variable_before u v w = if (leaf_of u == leaf_of v) && nat_le v u then never else apart u v w

-- Variable u lies before the side minus v by a weight.
unfoldable pub variables_face : ℕ → ℕ → ℕ → Order
variables_face u v w = if u == v then facing_itself u w else (if nat_lt u v then facing u v w else facing v u w)

-- What reads so lies before the other by a weight. What is turned or half isn't less than half the side, a variable beside it not more.
abbrev pub order_by : Reading → Reading → ℕ → Order
order_by (plain u) (plain v) w = variable_before u v w
order_by (plain u) (turned v) w = variables_face u v w
order_by (plain u) half w = facing_itself u (2 * w)
order_by (turned u) (plain v) w = never
order_by (turned u) (turned v) w = variable_before v u w
order_by (turned u) half w = never
order_by half (plain v) w = never
order_by half (turned v) w = facing_itself v (2 * w)
order_by half half w = never

-- leaf i lies before leaf j by their distance
unfoldable pub mirror_order : TreeValue → MirrorKind → List Pair → Axis → ℕ → ℕ → Order
mirror_order T kind mirror axis i j = order_by (reading kind mirror axis i) (reading kind mirror axis j) (units kind * leaf_dist T i j)

abbrev pub is_variable : Reading → Bool
is_variable (plain u) = true
is_variable (turned u) = false
is_variable half = false

-- the variable by which it reads, where there is one
abbrev pub variable_of : Reading → ℕ
variable_of (plain u) = u
variable_of (turned u) = u
variable_of half = 0

-- the two leaves are those of the pair
abbrev pub are_both : ℕ → ℕ → Pair → Bool
are_both i j p = ((p.i == i) && (p.j == j)) || ((p.i == j) && (p.j == i))

-- on the diagonal the x of a left leaf is at most its y
abbrev pub pair_lasting : MirrorKind → ℕ → ℕ → Pair → List Lasting
pair_lasting Book i j p = []
pair_lasting Diagonal i j p = if are_both i j p then record { earlier = number X p.i; later = number Y p.i } ∷ [] else []

-- what reads so is at most the other
abbrev pub lasting_by : Reading → Reading → List Lasting
lasting_by (plain u) (plain v) = record { earlier = u; later = v } ∷ []
lasting_by (plain u) (turned v) = []
lasting_by (plain u) half = []
lasting_by (turned u) (plain v) = []
lasting_by (turned u) (turned v) = record { earlier = v; later = u } ∷ []
lasting_by (turned u) half = []
lasting_by half (plain v) = []
lasting_by half (turned v) = []
lasting_by half half = []

abbrev pub mirror_lasting : MirrorKind → List Pair → List Pair → ℕ → ℕ → List Lasting
mirror_lasting kind mirror heads i j =
    flat_map (pair_lasting kind i j) mirror
    ++ (if list_any (is_head i j) heads then lasting_by (reading kind mirror X i) (reading kind mirror X j) else [])

-- the second leaf of a head doesn't lie before the first
abbrev pub head_turned : TreeValue → MirrorKind → List Pair → Pair → Order
head_turned T kind mirror h = mirror_order T kind mirror X h.j h.i

unfoldable pub mirror_system : TreeValue → MirrorKind → List Pair → ℕ → List Pair → System
mirror_system T kind mirror bound heads = record {
  bound = bound;
  has_coordinate = λ (axis : Axis) (i : ℕ). is_leaf T i && is_variable (reading kind mirror axis i);
  coordinate = λ (axis : Axis) (i : ℕ). variable_of (reading kind mirror axis i);
  has_order = λ (axis : Axis) (i j : ℕ). are_two_leaves T i j;
  order = mirror_order T kind mirror;
  has_pair = is_pair T;
  lasting = mirror_lasting kind mirror heads;
  upper = λ (u : ℕ). 2 * bound;
  known = [];
  known_not = never ∷ map (head_turned T kind mirror) heads;
}
