-- The coordinates of a valid arranged placement meet the system of the tree.
use Rattle.std.proofs.Common.{◌≡◌, ◌≢◌, ℕ, zero, suc, ◌+◌, ◌-◌, ◌*◌, ◌%◌, ◌<◌, ◌≤◌, ◌==◌, ◌&&◌, nat_le, nat_lt, not, Bool, true, false, if◌then◌else◌, IsTrue, List, [], ◌∷◌, map, get_or, All, AllPairs, refl, sym, subst, ap, arith, inl, inr}
use Rattle.std.specs.List.{list_any}
use Rattle.std.proofs.Math.Nat.{mul-pos}
use Rattle.std.proofs.lemmas.Bool.{and_parts, or_cases, cases_lt, cases_eq, eqb-true, eq-eqb, ne_eqb, leb-true, ltb-true, false≢true}
use Rattle.std.proofs.lemmas.List.{get_or_past}
use Rattle.std.proofs.lemmas.List.Elements.{All-append, All-cons}
use Rattle.bp_base.specs.declared.path.Pair.{Pair}
use Rattle.bp_base.specs.declared.point.Axis.{Axis}
use Rattle.bp_base.specs.declared.point.Axis.TheVariants.{X, Y}
use Rattle.bp_base.specs.declared.point.Point.{Point}
use Rattle.bp_base.specs.declared.point.Sheet.{Sheet}
use Rattle.bp_base.specs.declared.point.Sheet.TheVariants.{Square, Strip}
use Rattle.bp_base.specs.Point.{origin, point_at}
use Rattle.bp_base.specs.Tree.{TreeValue, IsTree, IsLeaf, leaf_count, leaf_node}
use Rattle.bp_metric.specs.Distance.{leaf_dist}
use Rattle.bp_metric.specs.Valid.{Lies, IsPair, Valid, NoneBelow}
use Rattle.bp_metric.proofs.Distances.{dist_comm}
use Rattle.bp_metric.proofs.Leaves.{leaves_apart}
use Rattle.bp_arrangement.specs.Facts.{coordinate, mark}
use Rattle.bp_arrangement.specs.Swaps.{IsCorner, IsAdmissible, leaves_of, least, sent, head}
use Rattle.bp_arrangement.specs.Arranged.{Arranged, CornerLies, IsInOrder}
use Rattle.bp_arrangement.proofs.Marks.{mark_even, mark_odd}
use Rattle.bp_arrangement.proofs.Goings.{sent_has, least_has}
use Rattle.bp_arrangement.proofs.Arranging.{arranging}
use Rattle.bp_lemmas.specs.Systems.{Order, Lasting, IsMet, OneIsMet, Meets}
use Rattle.bp_lemmas.specs.Standing.{Lemma}
use Rattle.bp_lemmas.specs.Trees.{number, axis_of, leaf_of, coordinates, is_leaf, are_two_leaves, is_pair, order_of, first_upper, lies_no_farther, corner_lasting, is_corner_pair, is_head, corner_known, corner_known_not, turned_head, tree_system}
use Rattle.bp_lemmas.specs.Proves.{Proves}
use Rattle.bp_lemmas.proofs.Law.{systems_law}

pub axis_number : (axis : Axis) (i : ℕ) → axis_of (number axis i) ≡ axis
unfolding axis_of number
axis_number X i = rw (eq-eqb ((2 * i) % 2) 0 (omega arith)) refl
axis_number Y i =
    let odd : (2 * i + 1) % 2 ≡ 1 = omega arith in
    rw odd refl

pub leaf_number : (axis : Axis) (i : ℕ) → leaf_of (number axis i) ≡ i
unfolding leaf_of number
leaf_number X i = omega arith
leaf_number Y i = omega arith

-- the coordinate of a number is that of its leaf on its axis
pub at_number : (P : List Point) (axis : Axis) (i : ℕ) → coordinates P (number axis i) ≡ coordinate P axis i
at_number P axis i = rw (axis_number axis i) (rw (leaf_number axis i) refl)

-- different leaves are apart
pub leaves_far : (T : TreeValue) → IsTree T → (i j : ℕ) → IsLeaf T i → IsLeaf T j → i ≢ j → 1 ≤ leaf_dist T i j
leaves_far T t i j first second differ = elim (cases_lt i j) [
  | inl less ↦ omega (arith, leaves_apart T t i j first.0 less second.1)
  | inr not ↦ elim (cases_eq i j) [
    | inl same ↦ absurd (differ same)
    | inr other ↦
        let more : j < i = omega (arith, not, other) in
        omega (arith, leaves_apart T t j i second.0 more first.1, dist_comm T t (leaf_node T i) (leaf_node T j))
  ]
]

pub is_leaf_leaf : (T : TreeValue) (i : ℕ) → IsTrue (is_leaf T i) → IsLeaf T i
is_leaf_leaf T i is =
    let parts = and_parts (nat_le 1 i) (nat_le i (leaf_count T)) is in
    (leb-true 1 i parts.0, leb-true i (leaf_count T) parts.1)

not_equal : (b : Bool) → IsTrue (not b) → IsTrue b → ⊥
not_equal true is so = false≢true is
not_equal false is so = false≢true so

pub two_leaves : (T : TreeValue) (i j : ℕ) → IsTrue (are_two_leaves T i j) → IsLeaf T i × IsLeaf T j × (i ≢ j)
two_leaves T i j is =
    let parts = and_parts (is_leaf T i && is_leaf T j) (not (i == j)) is in
    let leaves = and_parts (is_leaf T i) (is_leaf T j) parts.0 in
    (is_leaf_leaf T i leaves.0, is_leaf_leaf T j leaves.1, λ same. not_equal (i == j) parts.1 (eq-eqb i j same))

pub pair_pair : (T : TreeValue) (i j : ℕ) → IsTrue (is_pair T i j) → IsPair T i j
pair_pair T i j is =
    let parts = and_parts (nat_le 1 i && nat_lt i j) (nat_le j (leaf_count T)) is in
    let ends = and_parts (nat_le 1 i) (nat_lt i j) parts.0 in
    (leb-true 1 i ends.0, ltb-true i j ends.1, leb-true j (leaf_count T) parts.1)

-- a swap moves each leaf that it names
sent_moves : (swap : List Pair) → AllPairs (λ i j. i ≢ j) (leaves_of swap) → All (λ k. sent swap k ≢ k) (leaves_of swap)
unfolding sent
sent_moves [] differ = λ k d within. absurd (omega (arith, within))
sent_moves (p ∷ rest) differ =
    let C : ℕ → Type 0 = λ k. sent (p ∷ rest) k ≢ k in
    let apart_first : p.i ≢ p.j = differ 0 1 0 (omega arith) (omega arith) in
    let first : C p.i = rw (eq-eqb p.i p.i refl) (λ same. apart_first (sym same)) in
    let second : C p.j = rw (ne_eqb p.j p.i (λ same. apart_first (sym same))) (rw (eq-eqb p.j p.j refl) apart_first) in
    let others : AllPairs (λ i j. i ≢ j) (leaves_of rest) = λ i j d less within. differ (suc (suc i)) (suc (suc j)) d (omega (arith, less)) (omega (arith, within)) in
    let later : All C (leaves_of rest) = λ k d within.
    let x = get_or (leaves_of rest) k d in
    let not_i : x ≢ p.i = λ same. differ 0 (suc (suc k)) d (omega arith) (omega (arith, within)) (sym same) in
    let not_j : x ≢ p.j = λ same. differ 1 (suc (suc k)) d (omega arith) (omega (arith, within)) (sym same) in
    rw (ne_eqb x p.i not_i) (rw (ne_eqb x p.j not_j) (sent_moves rest others k d within)) in
    All-cons C p.i (p.j ∷ leaves_of rest) first (All-cons C p.j (leaves_of rest) second later)

-- the head of an admissible swap names two leaves
module _ (T : TreeValue) (a b : ℕ) (swap : List Pair) (is : IsAdmissible T a b swap) where
  abbrev IsHeadLeaf : ℕ → Type 0
  IsHeadLeaf k = IsLeaf T k × (sent swap k ≢ k)

  least_named : IsHeadLeaf (least swap)
  least_named = least_has IsHeadLeaf swap is.swaps.some (λ k d within. (is.swaps.leaves k d within, sent_moves swap is.swaps.differ k d within))

  pub head_first : IsLeaf T (head swap).i
  head_first = least_named.0

  pub head_second : IsLeaf T (head swap).j
  head_second = sent_has (IsLeaf T) swap (least swap) is.swaps.leaves least_named.0

  pub head_differs : (head swap).i ≢ (head swap).j
  head_differs same = least_named.1 (sym same)

module _ (T : TreeValue) (t : IsTree T) (G : Sheet) (q s : ℕ) (finer : 1 ≤ q) (P : List Point) (v : Valid T G q s P) where
  abbrev c : ℕ → ℕ
  c = coordinates P

  met : (axis : Axis) (i j : ℕ) → coordinate P axis i + q * leaf_dist T i j ≤ coordinate P axis j → IsMet q s c (order_of T axis i j)
  unfolding order_of
  met axis i j before = omega (arith, before, at_number P axis i, at_number P axis j)

  met_back : (axis : Axis) (i j : ℕ) → IsMet q s c (order_of T axis i j) → coordinate P axis i + q * leaf_dist T i j ≤ coordinate P axis j
  unfolding order_of
  met_back axis i j is = omega (arith, is, at_number P axis i, at_number P axis j)

  origin_lies : (H : Sheet) → Lies H q s origin
  origin_lies Square = (omega arith, omega arith)
  origin_lies (Strip width) = (omega arith, omega arith)

  -- the point of each number lies on the sheet: where there is no leaf of that number it is leaf 1's, or the origin
  pub all_inside : (i : ℕ) → Lies G q s (point_at P i)
  all_inside zero = v.inside 1 (omega arith, omega (arith, t.leaves_enough))
  all_inside (suc i) = elim (cases_lt (leaf_count T) (suc i)) [
    | inl past ↦ subst (Lies G q s) (sym (get_or_past P (suc i - 1) origin (omega (arith, past, v.each)))) (origin_lies G)
    | inr within ↦ v.inside (suc i) (omega arith, within)
  ]

  inside_below : (H : Sheet) (bound : ℕ) → s < q * bound → (axis : Axis) (i : ℕ) → Lies H q s (point_at P i) → coordinate P axis i < mark q (first_upper H bound axis)
  inside_below Square bound low X i lies = omega (arith, lies.0, low, mark_even q bound)
  inside_below Square bound low Y i lies = omega (arith, lies.1, low, mark_even q bound)
  inside_below (Strip width) bound low X i lies = omega (arith, lies.0, mark_odd q width)
  inside_below (Strip width) bound low Y i lies = omega (arith, lies.1, low, mark_even q bound)

  -- of leaves in order the second doesn't lie before the first
  not_back : (axis : Axis) (i j : ℕ) → IsLeaf T i → IsLeaf T j → i ≢ j → coordinate P axis i ≤ coordinate P axis j → IsMet q s c (order_of T axis j i) → ⊥
  not_back axis i j first second differ kept is =
      let long : 1 ≤ q * leaf_dist T j i = mul-pos finer (leaves_far T t j i second first (λ same. differ (sym same))) in
      omega (arith, kept, long, met_back axis j i is)

  not_both : (axis : Axis) (i j : ℕ) → IsTrue (are_two_leaves T i j) → IsMet q s c (order_of T axis i j) → IsMet q s c (order_of T axis j i) → ⊥
  not_both axis i j is one other =
      let two = two_leaves T i j is in
      not_back axis i j two.0 two.1 two.2 (omega (arith, met_back axis i j one)) other

  -- a pair of a valid placement lies in some order
  some_order : (i j : ℕ) → IsPair T i j → OneIsMet q s c (order_of T X i j ∷ order_of T X j i ∷ order_of T Y i j ∷ order_of T Y j i ∷ [])
  some_order i j pair =
      let back : q * leaf_dist T i j ≡ q * leaf_dist T j i = ap (λ (d : ℕ). q * d) (dist_comm T t (leaf_node T i) (leaf_node T j)) in
      elim (cases_lt (coordinate P X j) (coordinate P X i + q * leaf_dist T i j)) [
        | inr one ↦ inl (met X i j one)
        | inl not_one ↦ elim (cases_lt (coordinate P X i) (coordinate P X j + q * leaf_dist T j i)) [
          | inr two ↦ inr (inl (met X j i two))
          | inl not_two ↦ elim (cases_lt (coordinate P Y j) (coordinate P Y i + q * leaf_dist T i j)) [
            | inr three ↦ inr (inr (inl (met Y i j three)))
            | inl not_three ↦ inr (inr (inr (inl (met Y j i (omega (arith, v.far i j pair, not_one, not_two, not_three, back))))))
          ]
        ]
      ]

  abbrev IsMissed : Order → Type 0
  IsMissed o = IsMet q s c o → ⊥

  abbrev IsKept : Lasting → Type 0
  IsKept l = c l.earlier ≤ c l.later

  kept : (axis : Axis) (i j : ℕ) → coordinate P axis i ≤ coordinate P axis j → IsKept (lies_no_farther axis i j)
  kept axis i j le = omega (arith, le, at_number P axis i, at_number P axis j)

  no_orders : (C : Order → Type 0) → All C []
  no_orders C k d within = absurd (omega (arith, within))

  no_lasting : All IsKept []
  no_lasting k d within = absurd (omega (arith, within))

  module _ (a b : ℕ) (corner : IsCorner T a b) where
    known_met : (H : Sheet) → CornerLies T H q a b P → All (IsMet q s c) (corner_known T H a b)
    known_met Square lies = All-cons (IsMet q s c) (order_of T X a b) [] (met X a b lies.0) (no_orders (IsMet q s c))
    known_met (Strip width) lies = no_orders (IsMet q s c)

    known_missed : (H : Sheet) → CornerLies T H q a b P → All IsMissed (corner_known_not T H a b)
    known_missed Square lies = no_orders IsMissed
    known_missed (Strip width) lies =
        All-cons IsMissed (order_of T X b a) (order_of T Y b a ∷ []) (not_back X a b corner.0 corner.1 corner.2 lies.0)
        (All-cons IsMissed (order_of T Y b a) [] (not_back Y a b corner.0 corner.1 corner.2 lies.1) (no_orders IsMissed))

    heads_missed : (swaps : List (List Pair)) → All (IsAdmissible T a b) swaps → All (IsInOrder P) swaps → All IsMissed (map (turned_head T) (map head swaps))
    heads_missed [] each ordered = no_orders IsMissed
    heads_missed (swap ∷ swaps) each ordered =
        let is : IsAdmissible T a b swap = each 0 swap (omega arith) in
        let before : IsInOrder P swap = ordered 0 swap (omega arith) in
        All-cons IsMissed (turned_head T (head swap)) (map (turned_head T) (map head swaps))
        (not_back X (head swap).i (head swap).j (head_first T a b swap is) (head_second T a b swap is) (head_differs T a b swap is) before)
        (heads_missed swaps (λ k d within. each (suc k) d (omega (arith, within))) (λ k d within. ordered (suc k) d (omega (arith, within))))

    corner_kept : (H : Sheet) → CornerLies T H q a b P → (is : Bool) → All IsKept (if is then corner_lasting H a b else [])
    corner_kept H lies false = no_lasting
    corner_kept Square lies true = All-cons IsKept (lies_no_farther Y a b) [] (kept Y a b lies.1) no_lasting
    corner_kept (Strip width) lies true =
        All-cons IsKept (lies_no_farther X a b) (lies_no_farther Y a b ∷ []) (kept X a b lies.0)
        (All-cons IsKept (lies_no_farther Y a b) [] (kept Y a b lies.1) no_lasting)

  head_kept : (i j : ℕ) (is : Bool) → (IsTrue is → coordinate P X i ≤ coordinate P X j) → All IsKept (if is then lies_no_farther X i j ∷ [] else [])
  head_kept i j false le = no_lasting
  head_kept i j true le = All-cons IsKept (lies_no_farther X i j) [] (kept X i j (le refl)) no_lasting

  some_head : (i j : ℕ) (swaps : List (List Pair)) → All (IsInOrder P) swaps → IsTrue (list_any (is_head i j) (map head swaps)) → coordinate P X i ≤ coordinate P X j
  some_head i j [] ordered is = absurd (false≢true is)
  some_head i j (swap ∷ swaps) ordered is = elim (or_cases (is_head i j (head swap)) (list_any (is_head i j) (map head swaps)) is) [
    | inl here ↦
        let ends = and_parts ((head swap).i == i) ((head swap).j == j) here in
        subst (λ (k : ℕ). coordinate P X k ≤ coordinate P X j) (eqb-true (head swap).i i ends.0)
        (subst (λ (k : ℕ). coordinate P X (head swap).i ≤ coordinate P X k) (eqb-true (head swap).j j ends.1) (ordered 0 swap (omega arith)))
    | inr later ↦ some_head i j swaps (λ k d within. ordered (suc k) d (omega (arith, within))) later
  ]

  pub tree_meets : (bound a b : ℕ) (swaps : List (List Pair)) → IsCorner T a b → All (IsAdmissible T a b) swaps → s < q * bound → Arranged T G q a b swaps P → Meets (tree_system T G bound a b (map head swaps)) q s c
  unfolding tree_system
  tree_meets bound a b swaps corner each low arranged = record {
    below = λ u. inside_below G bound low (axis_of u) (leaf_of u) (all_inside (leaf_of u));
    known = known_met a b corner G arranged.corner;
    known_not = All-append IsMissed (corner_known_not T G a b) (map (turned_head T) (map head swaps)) (known_missed a b corner G arranged.corner) (heads_missed a b corner swaps each arranged.ordered);
    lasting = λ i j.
        All-append IsKept (if is_corner_pair a b i j then corner_lasting G a b else []) (if list_any (is_head i j) (map head swaps) then lies_no_farther X i j ∷ [] else [])
        (corner_kept a b corner G arranged.corner (is_corner_pair a b i j))
        (head_kept i j (list_any (is_head i j) (map head swaps)) (some_head i j swaps arranged.ordered));
    one = λ i j is. some_order i j (pair_pair T i j is);
    not_both = not_both;
  }

pub lemmas_law : (T : TreeValue) → IsTree T → (G : Sheet) (bound a b : ℕ) (swaps : List (List Pair)) (lemmas : List Lemma) → Proves T G bound a b swaps lemmas → NoneBelow T G bound
unfolding tree_system
lemmas_law T t G bound a b swaps lemmas proves q s P finer low valid =
    let turned = arranging T t G q s a b swaps P proves.corner proves.admissible valid in
    systems_law (tree_system T G bound a b (map head swaps)) lemmas proves.stand proves.ends q s (coordinates turned.0) finer low
    (tree_meets T t G q s finer turned.0 turned.1.0 bound a b swaps proves.corner proves.admissible low turned.1.1)
