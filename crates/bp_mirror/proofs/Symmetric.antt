-- The coordinates of a symmetric placement whose heads are in order meet the system of the mirror.
use Rattle.std.proofs.Common.{◌≡◌, ◌≢◌, ◌↔◌, ℕ, ◌+◌, ◌*◌, ◌<◌, ◌≤◌, ◌==◌, Bool, true, false, if◌then◌else◌, IsTrue, List, [], ◌∷◌, map, All, refl, sym, ap, subst, arith, inl, inr}
use Rattle.std.specs.List.{list_any, flat_map}
use Rattle.std.proofs.Math.Nat.{mul-pos, mul_assoc}
use Rattle.std.proofs.lemmas.Bool.{and_parts, or_cases, cases_lt, eqb-true, false≢true}
use Rattle.std.proofs.lemmas.List.Elements.{All-nil, All-append, All-cons, All-head, All-tail}
use Rattle.bp_base.specs.declared.path.Pair.{Pair}
use Rattle.bp_base.specs.declared.point.Axis.{Axis}
use Rattle.bp_base.specs.declared.point.Axis.TheVariants.{X, Y}
use Rattle.bp_base.specs.declared.point.Point.{Point}
use Rattle.bp_base.specs.declared.point.Sheet.TheVariants.{Square}
use Rattle.bp_base.specs.Point.{point_at}
use Rattle.bp_base.specs.Tree.{TreeValue, IsTree, IsLeaf, leaf_node}
use Rattle.bp_metric.specs.Distance.{leaf_dist}
use Rattle.bp_metric.specs.Valid.{IsPair}
use Rattle.bp_metric.proofs.Distances.{dist_comm}
use Rattle.bp_arrangement.specs.Facts.{coordinate, mark}
use Rattle.bp_arrangement.specs.Swaps.{IsSwap, IsAdmissible, head}
use Rattle.bp_arrangement.specs.Arranged.{IsInOrder}
use Rattle.bp_arrangement.proofs.Marks.{mark_even}
use Rattle.bp_lemmas.specs.Systems.{Order, never, Lasting, IsMet, OneIsMet, System, Meets}
use Rattle.bp_lemmas.specs.Trees.{number, axis_of, leaf_of, coordinates, is_leaf, are_two_leaves, is_head}
use Rattle.bp_lemmas.proofs.Trees.{at_number, all_inside, leaves_far, is_leaf_leaf, two_leaves, pair_pair, head_first, head_second, head_differs}
use Rattle.bp_mirror.specs.declared.kind.MirrorKind.{MirrorKind}
use Rattle.bp_mirror.specs.declared.kind.MirrorKind.TheVariants.{Book, Diagonal}
use Rattle.bp_mirror.specs.Mirrored.{units, TiesPair, Mirrored}
use Rattle.bp_mirror.specs.Readings.{Reading, plain, turned, half, reading, part_of}
use Rattle.bp_mirror.specs.Swaps.{IsMirrorSwap}
use Rattle.bp_mirror.specs.Systems.{mirror_order, is_variable, variable_of, are_both, pair_lasting, lasting_by, head_turned, mirror_system}
use Rattle.bp_mirror.proofs.Read.{IsRead, stands, reads}
use Rattle.bp_mirror.proofs.Orders.{read_met, read_back}

-- no swap of leaves moves the leaf 0
pub no_corner : (T : TreeValue) (swap : List Pair) → IsSwap T swap → IsAdmissible T 0 0 swap
no_corner T swap is = record {
  swaps = is;
  corner = λ k d within.
      let leaf = is.leaves k d within in
      ((λ same. omega (arith, leaf.0, same)), (λ same. omega (arith, leaf.0, same)));
}

some_units : (kind : MirrorKind) → 1 ≤ units kind
some_units Book = omega arith
some_units Diagonal = omega arith

module _ (T : TreeValue) (t : IsTree T) (kind : MirrorKind) (mirror : List Pair) (q s : ℕ) (finer : 1 ≤ q) (P : List Point) (m : Mirrored T kind mirror (q * units kind) s P) where
  abbrev c : ℕ → ℕ
  c = coordinates P

  -- the distance in the units of the kind
  abbrev far : ℕ → ℕ → ℕ
  far i j = units kind * leaf_dist T i j

  is_read : (axis : Axis) (i : ℕ) → IsLeaf T i → IsRead s P (reading kind mirror axis i) kind axis (coordinate P axis i)
  unfolding reading
  is_read axis i leaf = reads s P kind axis i (part_of mirror i) (stands s P kind mirror i m.pairs (m.axis i leaf))

  far_enough : (i j : ℕ) → IsLeaf T i → IsLeaf T j → i ≢ j → 1 ≤ q * far i j
  far_enough i j first second differ = mul-pos finer (mul-pos (some_units kind) (leaves_far T t i j first second differ))

  met : (axis : Axis) (i j : ℕ) → IsLeaf T i → IsLeaf T j → i ≢ j → coordinate P axis i + q * far i j ≤ coordinate P axis j → IsMet q s c (mirror_order T kind mirror axis i j)
  unfolding mirror_order
  met axis i j first second differ before =
      read_met q s P kind axis (coordinate P axis i) (coordinate P axis j) (far i j) (reading kind mirror axis i) (reading kind mirror axis j) (is_read axis i first) (is_read axis j second) (far_enough i j first second differ) before

  met_back : (axis : Axis) (i j : ℕ) → IsLeaf T i → IsLeaf T j → IsMet q s c (mirror_order T kind mirror axis i j) → coordinate P axis i + q * far i j ≤ coordinate P axis j
  unfolding mirror_order
  met_back axis i j first second is =
      read_back q s P kind axis (coordinate P axis i) (coordinate P axis j) (far i j) (reading kind mirror axis i) (reading kind mirror axis j) (is_read axis i first) (is_read axis j second) is

  variable_told : (axis : Axis) (r : Reading) (x : ℕ) → IsRead s P r kind axis x → IsTrue (is_variable r) → c (variable_of r) ≡ x
  variable_told axis (plain u) x a is = sym a.1
  variable_told axis (turned u) x a is = absurd (false≢true is)
  variable_told axis half x a is = absurd (false≢true is)

  module _ (bound : ℕ) (heads : List Pair) where
    abbrev system : System
    system = mirror_system T kind mirror bound heads

    pub orders_told : (axis : Axis) (i j : ℕ) → IsLeaf T i → IsLeaf T j → i ≢ j → IsMet q s c (system.order axis i j) ↔ (coordinate P axis i + q * far i j ≤ coordinate P axis j)
    unfolding mirror_system
    orders_told axis i j first second differ = (met_back axis i j first second, met axis i j first second differ)

    pub coordinates_told : (axis : Axis) (i : ℕ) → IsTrue (system.has_coordinate axis i) → c (system.coordinate axis i) ≡ coordinate P axis i
    unfolding mirror_system
    coordinates_told axis i is =
        let parts = and_parts (is_leaf T i) (is_variable (reading kind mirror axis i)) is in
        variable_told axis (reading kind mirror axis i) (coordinate P axis i) (is_read axis i (is_leaf_leaf T i parts.0)) parts.1

  not_back : (axis : Axis) (i j : ℕ) → IsLeaf T i → IsLeaf T j → i ≢ j → coordinate P axis i ≤ coordinate P axis j → IsMet q s c (mirror_order T kind mirror axis j i) → ⊥
  not_back axis i j first second differ kept is = omega (arith, kept, far_enough j i second first (λ same. differ (sym same)), met_back axis j i second first is)

  not_both : (axis : Axis) (i j : ℕ) → IsTrue (are_two_leaves T i j) → IsMet q s c (mirror_order T kind mirror axis i j) → IsMet q s c (mirror_order T kind mirror axis j i) → ⊥
  not_both axis i j is one other =
      let two = two_leaves T i j is in
      not_back axis i j two.0 two.1 two.2 (omega (arith, met_back axis i j two.0 two.1 one)) other

  -- a pair lies in some order
  some_order : (i j : ℕ) → IsPair T i j → OneIsMet q s c (mirror_order T kind mirror X i j ∷ mirror_order T kind mirror X j i ∷ mirror_order T kind mirror Y i j ∷ mirror_order T kind mirror Y j i ∷ [])
  some_order i j pair =
      let i_leaf : IsLeaf T i = (pair.0, omega (arith, pair.1, pair.2)) in
      let j_leaf : IsLeaf T j = (omega (arith, pair.0, pair.1), pair.2) in
      let differ : i ≢ j = λ same. omega (arith, same, pair.1) in
      let back : q * far i j ≡ q * far j i = ap (λ (d : ℕ). q * (units kind * d)) (dist_comm T t (leaf_node T i) (leaf_node T j)) in
      let wide = mul_assoc q (units kind) (leaf_dist T i j) in
      elim (cases_lt (coordinate P X j) (coordinate P X i + q * far i j)) [
        | inr one ↦ inl (met X i j i_leaf j_leaf differ one)
        | inl not_one ↦ elim (cases_lt (coordinate P X i) (coordinate P X j + q * far j i)) [
          | inr two ↦ inr (inl (met X j i j_leaf i_leaf (λ same. differ (sym same)) two))
          | inl not_two ↦ elim (cases_lt (coordinate P Y j) (coordinate P Y i + q * far i j)) [
            | inr three ↦ inr (inr (inl (met Y i j i_leaf j_leaf differ three)))
            | inl not_three ↦ inr (inr (inr (inl (met Y j i j_leaf i_leaf (λ same. differ (sym same)) (omega (arith, m.valid.far i j pair, wide, not_one, not_two, not_three, back))))))
          ]
        ]
      ]

  below : (bound : ℕ) → s < q * bound → (u : ℕ) → c u < mark q (2 * bound)
  below bound low u = below_on (axis_of u) (leaf_of u)
    where
      below_on : (axis : Axis) (i : ℕ) → coordinate P axis i < mark q (2 * bound)
      below_on X i = let lies = all_inside T t Square (q * units kind) s (mul-pos finer (some_units kind)) P m.valid i in omega (arith, lies.0, low, mark_even q bound)
      below_on Y i = let lies = all_inside T t Square (q * units kind) s (mul-pos finer (some_units kind)) P m.valid i in omega (arith, lies.1, low, mark_even q bound)

  abbrev IsMissed : Order → Type 0
  IsMissed o = IsMet q s c o → ⊥

  abbrev IsKept : Lasting → Type 0
  IsKept l = c l.earlier ≤ c l.later

  heads_missed : (swaps : List (List Pair)) → All (IsMirrorSwap T mirror) swaps → All (IsInOrder P) swaps → All IsMissed (map (head_turned T kind mirror) (map head swaps))
  heads_missed [] each ordered = All-nil IsMissed
  heads_missed (swap ∷ swaps) each ordered =
      let is = no_corner T swap (All-head (IsMirrorSwap T mirror) swap swaps each).swaps in
      All-cons IsMissed (head_turned T kind mirror (head swap)) (map (head_turned T kind mirror) (map head swaps))
      (not_back X (head swap).i (head swap).j (head_first T 0 0 swap is) (head_second T 0 0 swap is) (head_differs T 0 0 swap is) (All-head (IsInOrder P) swap swaps ordered))
      (heads_missed swaps (All-tail (IsMirrorSwap T mirror) swap swaps each) (All-tail (IsInOrder P) swap swaps ordered))

  -- on the diagonal
  pair_kept : (b : Bool) (p : Pair) → (point_at P p.i).x ≤ (point_at P p.i).y → All IsKept (if b then record { earlier = number X p.i; later = number Y p.i } ∷ [] else [])
  pair_kept true p low = All-cons IsKept (record { earlier = number X p.i; later = number Y p.i }) [] (omega (arith, low, at_number P X p.i, at_number P Y p.i)) (All-nil IsKept)
  pair_kept false p low = All-nil IsKept

  pairs_kept : (k : MirrorKind) (i j : ℕ) (pairs : List Pair) → All (TiesPair k s P) pairs → All IsKept (flat_map (pair_lasting k i j) pairs)
  pairs_kept k i j [] ties = All-nil IsKept
  pairs_kept Book i j (p ∷ pairs) ties = pairs_kept Book i j pairs (All-tail (TiesPair Book s P) p pairs ties)
  pairs_kept Diagonal i j (p ∷ pairs) ties =
      All-append IsKept (pair_lasting Diagonal i j p) (flat_map (pair_lasting Diagonal i j) pairs)
      (pair_kept (are_both i j p) p (All-head (TiesPair Diagonal s P) p pairs ties).2)
      (pairs_kept Diagonal i j pairs (All-tail (TiesPair Diagonal s P) p pairs ties))

  -- of coordinates that read so and are in order
  read_kept : (r o : Reading) (x y : ℕ) → IsRead s P r kind X x → IsRead s P o kind X y → x ≤ y → All IsKept (lasting_by r o)
  read_kept (plain u) (plain v) x y a b le = All-cons IsKept (record { earlier = u; later = v }) [] (omega (arith, a.1, b.1, le)) (All-nil IsKept)
  read_kept (plain u) (turned v) x y a b le = All-nil IsKept
  read_kept (plain u) half x y a b le = All-nil IsKept
  read_kept (turned u) (plain v) x y a b le = All-nil IsKept
  read_kept (turned u) (turned v) x y a b le = All-cons IsKept (record { earlier = v; later = u }) [] (omega (arith, a.1.1, b.1.1, le)) (All-nil IsKept)
  read_kept (turned u) half x y a b le = All-nil IsKept
  read_kept half (plain v) x y a b le = All-nil IsKept
  read_kept half (turned v) x y a b le = All-nil IsKept
  read_kept half half x y a b le = All-nil IsKept

  abbrev IsOrdered : ℕ → ℕ → Type 0
  IsOrdered i j = IsLeaf T i × IsLeaf T j × (coordinate P X i ≤ coordinate P X j)

  some_head : (i j : ℕ) (swaps : List (List Pair)) → All (IsMirrorSwap T mirror) swaps → All (IsInOrder P) swaps → IsTrue (list_any (is_head i j) (map head swaps)) → IsOrdered i j
  some_head i j [] each ordered is = absurd (false≢true is)
  some_head i j (swap ∷ swaps) each ordered is = elim (or_cases (is_head i j (head swap)) (list_any (is_head i j) (map head swaps)) is) [
    | inl here ↦
        let ends = and_parts ((head swap).i == i) ((head swap).j == j) here in
        let is_swap = no_corner T swap (All-head (IsMirrorSwap T mirror) swap swaps each).swaps in
        subst (λ (k : ℕ). IsOrdered k j) (eqb-true (head swap).i i ends.0)
        (subst (λ (k : ℕ). IsOrdered (head swap).i k) (eqb-true (head swap).j j ends.1)
        (head_first T 0 0 swap is_swap, head_second T 0 0 swap is_swap, All-head (IsInOrder P) swap swaps ordered))
    | inr later ↦ some_head i j swaps (All-tail (IsMirrorSwap T mirror) swap swaps each) (All-tail (IsInOrder P) swap swaps ordered) later
  ]

  head_kept : (i j : ℕ) (is : Bool) → (IsTrue is → IsOrdered i j) → All IsKept (if is then lasting_by (reading kind mirror X i) (reading kind mirror X j) else [])
  head_kept i j false ordered = All-nil IsKept
  head_kept i j true ordered =
      let o = ordered refl in
      read_kept (reading kind mirror X i) (reading kind mirror X j) (coordinate P X i) (coordinate P X j) (is_read X i o.0) (is_read X j o.1) o.2

  pub mirror_meets : (bound : ℕ) (swaps : List (List Pair)) → All (IsMirrorSwap T mirror) swaps → s < q * bound → All (IsInOrder P) swaps → Meets (mirror_system T kind mirror bound (map head swaps)) q s c
  unfolding mirror_system
  mirror_meets bound swaps each low ordered = record {
    below = below bound low;
    known = All-nil (IsMet q s c);
    known_not = All-cons IsMissed never (map (head_turned T kind mirror) (map head swaps)) (λ met. met) (heads_missed swaps each ordered);
    lasting = λ i j.
        All-append IsKept (flat_map (pair_lasting kind i j) mirror) (if list_any (is_head i j) (map head swaps) then lasting_by (reading kind mirror X i) (reading kind mirror X j) else [])
        (pairs_kept kind i j mirror m.pairs)
        (head_kept i j (list_any (is_head i j) (map head swaps)) (some_head i j swaps each ordered));
    one = λ i j is. some_order i j (pair_pair T i j is);
    not_both = not_both;
  }
