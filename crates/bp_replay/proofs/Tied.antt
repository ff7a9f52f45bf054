-- Systems of trees and of mirrors: what they have in common, and that orders of two leaves are kept at one cell exactly where they are equal.
use Rattle.std.proofs.Common.{◌≡◌, ◌≢◌, ◌⊎◌, ℕ, ◌*◌, ◌<◌, ◌==◌, ◌&&◌, nat_le, nat_lt, not, Bool, true, false, if◌then◌else◌, IsTrue, List, [], ◌∷◌, ◌++◌, flat_map, Some, refl, sym, ◌∙◌, ap, subst, arith, inl, inr}
use Rattle.std.proofs.lemmas.Bool.{cases_Bool, and_parts, and_from, eqb-true, eq-eqb, ne_eqb, le-leb, false≢true}
use Rattle.std.proofs.lemmas.List.{append-nil}
use Rattle.bp_base.specs.declared.path.Pair.{Pair}
use Rattle.bp_base.specs.declared.point.Axis.{Axis}
use Rattle.bp_base.specs.declared.point.Sheet.{Sheet}
use Rattle.bp_base.specs.Tree.{TreeValue, IsTree, IsLeaf, leaf_count, leaf_node}
use Rattle.bp_metric.specs.Distance.{leaf_dist}
use Rattle.bp_metric.specs.Valid.{IsPair}
use Rattle.bp_metric.proofs.Distances.{dist_comm}
use Rattle.bp_lemmas.specs.Systems.{Order, apart, facing, facing_itself, never, is_order, Lasting, System}
use Rattle.bp_lemmas.specs.Trees.{number, axis_of, leaf_of, is_leaf, are_two_leaves, is_pair, order_of, tree_system}
use Rattle.bp_lemmas.proofs.Told.{same_order}
use Rattle.bp_lemmas.proofs.Trees.{is_leaf_leaf, axis_number, leaf_number, two_leaves, pair_pair}
use Rattle.bp_mirror.specs.declared.kind.MirrorKind.{MirrorKind}
use Rattle.bp_mirror.specs.declared.kind.MirrorKind.TheVariants.{Book, Diagonal}
use Rattle.bp_mirror.specs.Mirrored.{units}
use Rattle.bp_mirror.specs.Readings.{Reading, plain, turned, half, reading}
use Rattle.bp_mirror.specs.Systems.{variable_before, variables_face, order_by, mirror_order, is_variable, pair_lasting, mirror_system}
use Rattle.bp_replay.specs.declared.cell.Cell.{Cell}
use Rattle.bp_replay.specs.Cells.{rows, name_number, order_named, first_name, cell_at, cell_by}
use Rattle.bp_replay.specs.Kept.{AreTwoLeaves}
use Rattle.bp_replay.specs.Leanings.{corner_of, leaning_pairs, at_corner, at_pairs, at_head}
use Rattle.bp_replay.specs.Tasks.{Ties, cornered, mirrored, Task, system_by, system_of}
use Rattle.bp_replay.proofs.Breaks.{order_itself}
use Rattle.bp_replay.proofs.Cells.{first_no_later, same_first, first_tells, named_order, cell_numbers}

-- orders of the same numbers are of the same leaves on the same axis
pub order_names : (T : TreeValue) (a axis : Axis) (k l i j : ℕ) → IsTrue (is_order (order_of T a k l) (order_of T axis i j)) → (a ≡ axis) × (k ≡ i) × (l ≡ j)
unfolding order_of
order_names T a axis k l i j same =
    let parts = and_parts ((number a k == number axis i) && (number a l == number axis j)) (leaf_dist T k l == leaf_dist T i j) same in
    let ends = and_parts (number a k == number axis i) (number a l == number axis j) parts.0 in
    let one : number a k ≡ number axis i = eqb-true (number a k) (number axis i) ends.0 in
    let two : number a l ≡ number axis j = eqb-true (number a l) (number axis j) ends.1 in (
      sym (axis_number a k) ∙ ap axis_of one ∙ axis_number axis i,
      sym (leaf_number a k) ∙ ap leaf_of one ∙ leaf_number axis i,
      sym (leaf_number a l) ∙ ap leaf_of two ∙ leaf_number axis j,
    )

same_names : (T : TreeValue) (a axis : Axis) (k l i j : ℕ) → order_of T a k l ≡ order_of T axis i j → (a ≡ axis) × (k ≡ i) × (l ≡ j)
same_names T a axis k l i j same = order_names T a axis k l i j (subst (λ (o : Order). IsTrue (is_order (order_of T a k l) o)) same (order_itself (order_of T a k l)))

-- two leaves by their test
pub leaves_two : (T : TreeValue) (i j : ℕ) → IsLeaf T i → IsLeaf T j → i ≢ j → IsTrue (are_two_leaves T i j)
leaves_two T i j first second differ =
    and_from (is_leaf T i && is_leaf T j) (not (i == j))
    (and_from (is_leaf T i) (is_leaf T j)
    (and_from (nat_le 1 i) (nat_le i (leaf_count T)) (le-leb 1 i first.0) (le-leb i (leaf_count T) first.1))
    (and_from (nat_le 1 j) (nat_le j (leaf_count T)) (le-leb 1 j second.0) (le-leb j (leaf_count T) second.1)))
    (ap not (ne_eqb i j differ))

pub pair_two : (T : TreeValue) (i j : ℕ) → IsPair T i j → AreTwoLeaves T i j
pair_two T i j pair = ((pair.0, omega (arith, pair.1, pair.2)), (omega (arith, pair.0, pair.1), pair.2), λ same. omega (arith, same, pair.1))

pub two_back : (T : TreeValue) (i j : ℕ) → AreTwoLeaves T i j → AreTwoLeaves T j i
two_back T i j two = (two.1, two.0, λ same. two.2 (sym same))

-- the order of a mirror by which the second lies before the first, from that by which the first lies before the second
turned_order : Order → Order
turned_order (apart u v w) = variable_before v u w
turned_order (facing u v w) = never
turned_order (facing_itself u w) = never
turned_order never = never

abbrev IsBack : Order → Order → Type 0
IsBack o back = (o ≡ never) ⊎ (back ≡ turned_order o)

before_back : (u v w : ℕ) → IsBack (variable_before u v w) (variable_before v u w)
unfolding variable_before turned_order
before_back u v w = either ((leaf_of u == leaf_of v) && nat_le v u)
  where
    either : (b : Bool) → IsBack (if b then never else apart u v w) (if (leaf_of v == leaf_of u) && nat_le u v then never else apart v u w)
    either true = inl refl
    either false = inr refl

face_back : (u v w : ℕ) → never ≡ turned_order (variables_face u v w)
unfolding variables_face turned_order
face_back u v w = either (u == v) (nat_lt u v)
  where
    either : (b d : Bool) → never ≡ turned_order (if b then facing_itself u w else (if d then facing u v w else facing v u w))
    either true d = refl
    either false true = refl
    either false false = refl

by_back : (r s : Reading) (w : ℕ) → IsBack (order_by r s w) (order_by s r w)
unfolding turned_order
by_back (plain u) (plain v) w = before_back u v w
by_back (plain u) (turned v) w = inr (face_back u v w)
by_back (plain u) half w = inr refl
by_back (turned u) (plain v) w = inl refl
by_back (turned u) (turned v) w = before_back v u w
by_back (turned u) half w = inl refl
by_back half (plain v) w = inl refl
by_back half (turned v) w = inr refl
by_back half half w = inl refl

mirror_back : (T : TreeValue) → IsTree T → (kind : MirrorKind) (mirror : List Pair) (axis : Axis) (i j : ℕ) → IsBack (mirror_order T kind mirror axis i j) (mirror_order T kind mirror axis j i)
unfolding mirror_order
mirror_back T t kind mirror axis i j =
    let r = reading kind mirror axis i in
    let s = reading kind mirror axis j in
    let same : leaf_dist T i j ≡ leaf_dist T j i = dist_comm T t (leaf_node T i) (leaf_node T j) in
    subst (λ (far : ℕ). IsBack (order_by r s (units kind * leaf_dist T i j)) (order_by s r (units kind * far))) same (by_back r s (units kind * leaf_dist T i j))

-- an order that is its own turned one is never met
is_apart : Order → Bool
is_apart (apart u v w) = true
is_apart (facing u v w) = false
is_apart (facing_itself u w) = false
is_apart never = false

from_of : Order → ℕ
from_of (apart u v w) = u
from_of (facing u v w) = u
from_of (facing_itself u w) = u
from_of never = 0

itself_turned : (o : Order) → o ≡ turned_order o → o ≡ never
unfolding turned_order variable_before is_apart from_of
itself_turned (apart u v w) same = either ((leaf_of v == leaf_of u) && nat_le u v) refl same
  where
    either : (b : Bool) → ((leaf_of v == leaf_of u) && nat_le u v) ≡ b → apart u v w ≡ (if b then never else apart v u w) → apart u v w ≡ never
    either true is back = back
    either false isnt back =
        let one : u ≡ v = ap from_of back in
        absurd (false≢true (sym isnt ∙ and_from (leaf_of v == leaf_of u) (nat_le u v) (eq-eqb (leaf_of v) (leaf_of u) (ap leaf_of (sym one))) (le-leb u v (omega (arith, one)))))
itself_turned (facing u v w) same = same
itself_turned (facing_itself u w) same = same
itself_turned never same = refl

apart_met : (T : TreeValue) (axis : Axis) (i j : ℕ) → order_of T axis i j ≡ never → ⊥
unfolding order_of is_apart
apart_met T axis i j same = false≢true (sym (ap is_apart same))

abbrev pub Sys : Ties → TreeValue → Sheet → ℕ → List Pair → System
Sys ties T G bound heads = system_by ties T G bound heads

pub has_order_is : (ties : Ties) (T : TreeValue) (G : Sheet) (bound : ℕ) (heads : List Pair) (axis : Axis) (i j : ℕ) → (Sys ties T G bound heads).has_order axis i j ≡ are_two_leaves T i j
unfolding tree_system mirror_system
has_order_is (cornered corner) T G bound heads axis i j = refl
has_order_is (mirrored kind mirror) T G bound heads axis i j = refl

pub has_pair_is : (ties : Ties) (T : TreeValue) (G : Sheet) (bound : ℕ) (heads : List Pair) (i j : ℕ) → (Sys ties T G bound heads).has_pair i j ≡ is_pair T i j
unfolding tree_system mirror_system
has_pair_is (cornered corner) T G bound heads i j = refl
has_pair_is (mirrored kind mirror) T G bound heads i j = refl

pub bound_is : (ties : Ties) (T : TreeValue) (G : Sheet) (bound : ℕ) (heads : List Pair) → (Sys ties T G bound heads).bound ≡ bound
unfolding tree_system mirror_system
bound_is (cornered corner) T G bound heads = refl
bound_is (mirrored kind mirror) T G bound heads = refl

pub coordinate_leaf : (ties : Ties) (T : TreeValue) (G : Sheet) (bound : ℕ) (heads : List Pair) (axis : Axis) (i : ℕ) → IsTrue ((Sys ties T G bound heads).has_coordinate axis i) → IsLeaf T i
unfolding tree_system mirror_system
coordinate_leaf (cornered corner) T G bound heads axis i named = is_leaf_leaf T i named
coordinate_leaf (mirrored kind mirror) T G bound heads axis i named = is_leaf_leaf T i (and_parts (is_leaf T i) (is_variable (reading kind mirror axis i)) named).0

no_pairs : (i j : ℕ) (mirror : List Pair) → flat_map (pair_lasting Book i j) mirror ≡ []
no_pairs i j [] = refl
no_pairs i j (p ∷ mirror) = no_pairs i j mirror

pub lasting_is : (ties : Ties) (T : TreeValue) (G : Sheet) (bound : ℕ) (heads : List Pair) (i j : ℕ) → (Sys ties T G bound heads).lasting i j ≡ (at_corner (corner_of ties) G i j ++ at_pairs (leaning_pairs ties) i j) ++ at_head ties heads i j
unfolding tree_system mirror_system
lasting_is (cornered corner) T G bound heads i j = ap (λ (xs : List Lasting). xs ++ at_head (cornered corner) heads i j) (sym (append-nil (at_corner (Some corner) G i j)))
lasting_is (mirrored Book mirror) T G bound heads i j = ap (λ (xs : List Lasting). xs ++ at_head (mirrored Book mirror) heads i j) (no_pairs i j mirror)
lasting_is (mirrored Diagonal mirror) T G bound heads i j = refl

-- orders of two leaves are kept at one cell exactly where they are equal
pub same_cell : (ties : Ties) (T : TreeValue) (G : Sheet) (bound : ℕ) (heads : List Pair) → leaf_count T < rows → (a axis : Axis) (k l i j : ℕ) → AreTwoLeaves T k l → AreTwoLeaves T i j → (Sys ties T G bound heads).order a k l ≡ (Sys ties T G bound heads).order axis i j → cell_by ties T a k l ≡ cell_by ties T axis i j
unfolding tree_system mirror_system
same_cell (cornered corner) T G bound heads few a axis k l i j one other same =
    let names = same_names T a axis k l i j same in
    let row : number a k ≡ number axis i = ap (λ (b : Axis). number b k) names.0 ∙ ap (number axis) names.1 in
    ap (λ (u : ℕ). record { row = u; column = l }) row ∙ ap (λ (m : ℕ). record { row = number axis i; column = m }) names.2
same_cell (mirrored kind mirror) T G bound heads few a axis k l i j one other same =
    let order = mirror_order T kind mirror in
    let first = named_order T order a k l (omega (arith, one.1, few)) (leaves_two T k l one.0 one.1 one.2) in
    let second = named_order T order axis i j (omega (arith, other.1, few)) (leaves_two T i j other.0 other.1 other.2) in
    ap cell_at (same_first T order (name_number a k l) (name_number axis i j) (first ∙ same ∙ sym second))

pub cell_order : (ties : Ties) (T : TreeValue) (G : Sheet) (bound : ℕ) (heads : List Pair) → leaf_count T < rows → (a axis : Axis) (k l i j : ℕ) → AreTwoLeaves T k l → AreTwoLeaves T i j → cell_by ties T a k l ≡ cell_by ties T axis i j → (Sys ties T G bound heads).order a k l ≡ (Sys ties T G bound heads).order axis i j
unfolding tree_system mirror_system
cell_order (cornered corner) T G bound heads few a axis k l i j one other same =
    let row : number a k ≡ number axis i = ap (λ (c : Cell). c.row) same in
    let column : l ≡ j = ap (λ (c : Cell). c.column) same in
    let axes : a ≡ axis = sym (axis_number a k) ∙ ap axis_of row ∙ axis_number axis i in
    let leaves : k ≡ i = sym (leaf_number a k) ∙ ap leaf_of row ∙ leaf_number axis i in
    ap (λ (b : Axis). order_of T b k l) axes ∙ ap (λ (m : ℕ). order_of T axis m l) leaves ∙ ap (order_of T axis i) column
cell_order (mirrored kind mirror) T G bound heads few a axis k l i j one other same =
    let order = mirror_order T kind mirror in
    let first = named_order T order a k l (omega (arith, one.1, few)) (leaves_two T k l one.0 one.1 one.2) in
    let second = named_order T order axis i j (omega (arith, other.1, few)) (leaves_two T i j other.0 other.1 other.2) in
    sym first ∙ first_tells T order (name_number a k l) (name_number axis i j) (cell_numbers (first_name T order (name_number a k l)) (first_name T order (name_number axis i j)) same) ∙ second

-- so a test of the cells tests the orders
pub cells_test : (ties : Ties) (T : TreeValue) (G : Sheet) (bound : ℕ) (heads : List Pair) → leaf_count T < rows → (a axis : Axis) (k l i j : ℕ) → AreTwoLeaves T k l → AreTwoLeaves T i j → (first second : Cell) → first ≡ cell_by ties T a k l → second ≡ cell_by ties T axis i j → (b : Bool) → (IsTrue b → first ≡ second) → (first ≡ second → IsTrue b) → b ≡ is_order ((Sys ties T G bound heads).order a k l) ((Sys ties T G bound heads).order axis i j)
cells_test ties T G bound heads few a axis k l i j one other first second here there b to from = either b refl (cases_Bool (is_order o p))
  where
    o : Order
    o = (Sys ties T G bound heads).order a k l

    p : Order
    p = (Sys ties T G bound heads).order axis i j

    either : (d : Bool) → b ≡ d → (is_order o p ≡ true) ⊎ (is_order o p ≡ false) → d ≡ is_order o p
    either true is tested = sym (subst (λ (r : Order). IsTrue (is_order o r)) (cell_order ties T G bound heads few a axis k l i j one other (sym here ∙ to is ∙ there)) (order_itself o))
    either false isnt (inl same) = absurd (false≢true (sym isnt ∙ from (here ∙ same_cell ties T G bound heads few a axis k l i j one other (same_order o p same) ∙ sym there)))
    either false isnt (inr not) = sym not

-- and one that none meet at the first cell
abbrev pub first_cell : Cell
first_cell = record { row = 0; column = 0 }

never_first : (T : TreeValue) (order : Axis → ℕ → ℕ → Order) → order_named T order 0 ≡ never
unfolding order_named leaf_of
never_first T order = refl

zero_first : (T : TreeValue) (order : Axis → ℕ → ℕ → Order) → first_name T order 0 ≡ 0
zero_first T order = omega (arith, first_no_later T order 0)

pub never_cell : (T : TreeValue) (kind : MirrorKind) (mirror : List Pair) → leaf_count T < rows → (axis : Axis) (i j : ℕ) → AreTwoLeaves T i j → mirror_order T kind mirror axis i j ≡ never → cell_by (mirrored kind mirror) T axis i j ≡ first_cell
never_cell T kind mirror few axis i j two same =
    let order = mirror_order T kind mirror in
    let named = named_order T order axis i j (omega (arith, two.1, few)) (leaves_two T i j two.0 two.1 two.2) in
    ap cell_at (same_first T order (name_number axis i j) 0 (named ∙ same ∙ sym (never_first T order)) ∙ zero_first T order)

pub first_cell_never : (T : TreeValue) (kind : MirrorKind) (mirror : List Pair) → leaf_count T < rows → (axis : Axis) (i j : ℕ) → AreTwoLeaves T i j → cell_by (mirrored kind mirror) T axis i j ≡ first_cell → mirror_order T kind mirror axis i j ≡ never
first_cell_never T kind mirror few axis i j two same =
    let order = mirror_order T kind mirror in
    let n = name_number axis i j in
    let named = named_order T order axis i j (omega (arith, two.1, few)) (leaves_two T i j two.0 two.1 two.2) in
    sym named ∙ first_tells T order n 0 (cell_numbers (first_name T order n) 0 same ∙ sym (zero_first T order)) ∙ never_first T order

-- the turned order of one that some meet is the same by all its names, and another one
pub turned_same : (ties : Ties) (T : TreeValue) (G : Sheet) (bound : ℕ) (heads : List Pair) → IsTree T → (a axis : Axis) (k l i j : ℕ) → ((Sys ties T G bound heads).order axis i j ≡ never → ⊥) → (Sys ties T G bound heads).order a k l ≡ (Sys ties T G bound heads).order axis i j → (Sys ties T G bound heads).order a l k ≡ (Sys ties T G bound heads).order axis j i
unfolding tree_system mirror_system
turned_same (cornered corner) T G bound heads t a axis k l i j met same =
    let names = same_names T a axis k l i j same in
    ap (λ (b : Axis). order_of T b l k) names.0 ∙ ap (λ (m : ℕ). order_of T axis m k) names.2 ∙ ap (order_of T axis j) names.1
turned_same (mirrored kind mirror) T G bound heads t a axis k l i j met same = elim (mirror_back T t kind mirror a k l) [
  | inl is ↦ absurd (met (sym same ∙ is))
  | inr one ↦ elim (mirror_back T t kind mirror axis i j) [
    | inl is ↦ absurd (met is)
    | inr other ↦ one ∙ ap turned_order same ∙ sym other
  ]
]

pub turned_other : (ties : Ties) (T : TreeValue) (G : Sheet) (bound : ℕ) (heads : List Pair) → IsTree T → (axis : Axis) (i j : ℕ) → i ≢ j → ((Sys ties T G bound heads).order axis i j ≡ never → ⊥) → (Sys ties T G bound heads).order axis i j ≡ (Sys ties T G bound heads).order axis j i → ⊥
unfolding tree_system mirror_system
turned_other (cornered corner) T G bound heads t axis i j differ met same = differ (same_names T axis axis i j j i same).1
turned_other (mirrored kind mirror) T G bound heads t axis i j differ met same = elim (mirror_back T t kind mirror axis i j) [
  | inl is ↦ met is
  | inr back ↦ met (itself_turned (mirror_order T kind mirror axis i j) (same ∙ back))
]

pub corner_met : (corner : Pair) (T : TreeValue) (G : Sheet) (bound : ℕ) (heads : List Pair) (axis : Axis) (i j : ℕ) → (Sys (cornered corner) T G bound heads).order axis i j ≡ never → ⊥
unfolding tree_system
corner_met corner T G bound heads axis i j same = apart_met T axis i j same

-- what facts and hints name
module _ (t : Task) where
  pub named_two : (axis : Axis) (i j : ℕ) → IsTrue ((system_of t).has_order axis i j) → AreTwoLeaves t.tree i j
  named_two axis i j named = two_leaves t.tree i j (sym (has_order_is t.ties t.tree t.sheet t.bound t.heads axis i j) ∙ named)

  pub two_named : (axis : Axis) (i j : ℕ) → AreTwoLeaves t.tree i j → IsTrue ((system_of t).has_order axis i j)
  two_named axis i j two = has_order_is t.ties t.tree t.sheet t.bound t.heads axis i j ∙ leaves_two t.tree i j two.0 two.1 two.2

  pub named_leaf : (axis : Axis) (i : ℕ) → IsTrue ((system_of t).has_coordinate axis i) → IsLeaf t.tree i
  named_leaf axis i named = coordinate_leaf t.ties t.tree t.sheet t.bound t.heads axis i named

  pub named_pair : (i j : ℕ) → IsTrue ((system_of t).has_pair i j) → IsPair t.tree i j
  named_pair i j named = pair_pair t.tree i j (sym (has_pair_is t.ties t.tree t.sheet t.bound t.heads i j) ∙ named)
