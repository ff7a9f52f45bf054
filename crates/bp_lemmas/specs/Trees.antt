-- The system of a tree on a sheet, below a bound, with a corner and the heads of swaps. Coordinate 2i is the x of leaf i, and 2i + 1 its y.
use Rattle.std.specs.Prelude.{ℕ, ◌+◌, ◌*◌, ◌/◌, ◌%◌, ◌==◌, ◌&&◌, ◌||◌, ◌++◌, nat_le, nat_lt, not, List, [], ◌∷◌, map, Bool, if◌then◌else◌}
use Rattle.std.specs.List.{list_any}
use Rattle.bp_base.specs.declared.path.Pair.{Pair}
use Rattle.bp_base.specs.declared.point.Axis.{Axis}
use Rattle.bp_base.specs.declared.point.Axis.TheVariants.{X, Y}
use Rattle.bp_base.specs.declared.point.Point.{Point}
use Rattle.bp_base.specs.declared.point.Sheet.{Sheet}
use Rattle.bp_base.specs.declared.point.Sheet.TheVariants.{Square, Strip}
use Rattle.bp_base.specs.Tree.{TreeValue, leaf_count}
use Rattle.bp_metric.specs.Distance.{leaf_dist}
use Rattle.bp_arrangement.specs.Facts.{coordinate}
use Rattle.bp_lemmas.specs.Systems.{Order, apart, Lasting, System}

unfoldable pub number : Axis → ℕ → ℕ
number X leaf = 2 * leaf
number Y leaf = 2 * leaf + 1

unfoldable pub axis_of : ℕ → Axis
axis_of u = if u % 2 == 0 then X else Y

unfoldable pub leaf_of : ℕ → ℕ
leaf_of u = u / 2

-- the coordinates of a placement
abbrev pub coordinates : List Point → ℕ → ℕ
coordinates P u = coordinate P (axis_of u) (leaf_of u)

abbrev pub is_leaf : TreeValue → ℕ → Bool
is_leaf T i = nat_le 1 i && nat_le i (leaf_count T)

abbrev pub are_two_leaves : TreeValue → ℕ → ℕ → Bool
are_two_leaves T i j = is_leaf T i && is_leaf T j && not (i == j)

abbrev pub is_pair : TreeValue → ℕ → ℕ → Bool
is_pair T i j = nat_le 1 i && nat_lt i j && nat_le j (leaf_count T)

-- leaf i lies before leaf j by their distance
unfoldable pub order_of : TreeValue → Axis → ℕ → ℕ → Order
order_of T axis i j = apart (number axis i) (number axis j) (leaf_dist T i j)

-- all lie below the bound, but x of a strip at most at its width
abbrev pub first_upper : Sheet → ℕ → Axis → ℕ
first_upper Square bound axis = 2 * bound
first_upper (Strip width) bound X = 2 * width + 1
first_upper (Strip width) bound Y = 2 * bound

abbrev pub lies_no_farther : Axis → ℕ → ℕ → Lasting
lies_no_farther axis i j = record { earlier = number axis i; later = number axis j }

-- the orders that hold for good between the leaves of the corner
abbrev pub corner_lasting : Sheet → ℕ → ℕ → List Lasting
corner_lasting Square a b = lies_no_farther Y a b ∷ []
corner_lasting (Strip width) a b = lies_no_farther X a b ∷ lies_no_farther Y a b ∷ []

-- the two are the leaves of the corner
abbrev pub is_corner_pair : ℕ → ℕ → ℕ → ℕ → Bool
is_corner_pair a b i j = ((a == i) && (b == j)) || ((a == j) && (b == i))

-- the head is (i, j)
abbrev pub is_head : ℕ → ℕ → Pair → Bool
is_head i j h = (h.i == i) && (h.j == j)

abbrev pub tree_lasting : Sheet → ℕ → ℕ → List Pair → ℕ → ℕ → List Lasting
tree_lasting G a b heads i j =
    (if is_corner_pair a b i j then corner_lasting G a b else [])
    ++ (if list_any (is_head i j) heads then lies_no_farther X i j ∷ [] else [])

abbrev pub corner_known : TreeValue → Sheet → ℕ → ℕ → List Order
corner_known T Square a b = order_of T X a b ∷ []
corner_known T (Strip width) a b = []

abbrev pub corner_known_not : TreeValue → Sheet → ℕ → ℕ → List Order
corner_known_not T Square a b = []
corner_known_not T (Strip width) a b = order_of T X b a ∷ order_of T Y b a ∷ []

-- the second leaf of a head doesn't lie before the first
abbrev pub turned_head : TreeValue → Pair → Order
turned_head T h = order_of T X h.j h.i

unfoldable pub tree_system : TreeValue → Sheet → ℕ → ℕ → ℕ → List Pair → System
tree_system T G bound a b heads = record {
  bound = bound;
  has_coordinate = λ (axis : Axis) (i : ℕ). is_leaf T i;
  coordinate = number;
  has_order = λ (axis : Axis) (i j : ℕ). are_two_leaves T i j;
  order = order_of T;
  has_pair = is_pair T;
  lasting = tree_lasting G a b heads;
  upper = λ (u : ℕ). first_upper G bound (axis_of u);
  known = corner_known T G a b;
  known_not = corner_known_not T G a b ++ map (turned_head T) heads;
}
