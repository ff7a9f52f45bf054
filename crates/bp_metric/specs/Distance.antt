-- The tree metric: the distance of two nodes is the sum of the lengths of the edges that separate them.
use Rattle.std.specs.Prelude.{ℕ, zero, suc, ◌==◌, ◌||◌, List, Bool, not, sum_by, slice_index, if◌then◌else◌}
use Rattle.bp_base.specs.Tree.{TreeValue, edges, parent, length_of, leaf_node}

-- Node a is below edge e where a is e's lower node or a's parent is below e. A parent is a smaller number, so a steps up suffice.
abbrev pub below_within : ℕ → List ℕ → ℕ → ℕ → Bool
below_within zero parents a e = a == e
below_within (suc steps) parents a e = (a == e) || below_within steps parents (slice_index parents a) e

unfoldable pub is_below : TreeValue → ℕ → ℕ → Bool
is_below T a e = below_within a T.parents a e

-- exactly one of the two is true
abbrev pub differ : Bool → Bool → Bool
differ b c = if b then not c else c

-- the length of edge e where it has exactly one of a and b below it, else 0
unfoldable pub share : TreeValue → ℕ → ℕ → ℕ → ℕ
share T a b e = if differ (is_below T a e) (is_below T b e) then length_of T e else 0

-- the distance of two nodes
unfoldable pub dist : TreeValue → ℕ → ℕ → ℕ
dist T a b = sum_by (share T a b) (edges T)

-- the distance of two leaves
abbrev pub leaf_dist : TreeValue → ℕ → ℕ → ℕ
leaf_dist T i j = dist T (leaf_node T i) (leaf_node T j)

-- whether leaf i lies below edge e
abbrev pub leaf_below : TreeValue → ℕ → ℕ → Bool
leaf_below T i e = is_below T (leaf_node T i) e

-- the distance of leaf i and the upper node of edge e
abbrev pub radius : TreeValue → ℕ → ℕ → ℕ
radius T i e = dist T (leaf_node T i) (parent T e)

-- no two leaves are further apart: 63 edges of length 1,000
abbrev pub most_distance : ℕ
most_distance = 63000

-- no chain weighs more, and no opening and no floor needs a greater side: 31 times that
abbrev pub most_side : ℕ
most_side = 1953000
