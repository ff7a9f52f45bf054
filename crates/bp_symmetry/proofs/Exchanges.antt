-- Two late twins may exchange their points: the placement stays valid, and each class keeps its points.
use Rattle.std.proofs.Common.{◌≡◌, ◌≢◌, ℕ, zero, suc, ◌+◌, ◌*◌, ◌≤◌, Bool, cond, List, [], ◌∷◌, filter, refl, sym, ◌∙◌, ap, subst, arith, inl, inr}
use Rattle.std.specs.List.{range_with_len, sum_by}
use Rattle.std.proofs.lemmas.Bool.{cases_eq, cases_order, cases_Bool, eq-eqb, ne_eqb}
use Rattle.std.proofs.lemmas.List.Sums.{sum_by-cons}
use Rattle.bp_base.specs.declared.point.Point.{Point}
use Rattle.bp_base.specs.declared.point.Sheet.{Sheet}
use Rattle.bp_base.specs.Bags.{AreSame}
use Rattle.bp_base.specs.Tree.{TreeValue, IsTree, IsLeaf, leaf_count, leaf_node}
use Rattle.bp_base.specs.Point.{point_at, gap}
use Rattle.bp_base.proofs.Bags.{sum_by-map, sum_by-plus}
use Rattle.bp_metric.specs.Choices.{are_late_twins}
use Rattle.bp_metric.specs.Distance.{leaf_dist}
use Rattle.bp_metric.specs.Valid.{Lies, Valid}
use Rattle.bp_metric.proofs.Distances.{dist_comm}
use Rattle.bp_metric.proofs.Leaves.{twins_alike}
use Rattle.bp_metric.proofs.Ranges.{only_at, sum_only_at}
use Rattle.bp_symmetry.specs.Twins.{pair_of, late_class, points_of}
use Rattle.bp_symmetry.specs.Exchanges.{IsExchanged}
use Rattle.bp_symmetry.proofs.LateTwins.{AreLate, both_in_class}

gap_comm : (p r : Point) → gap p r ≡ gap r p
gap_comm p r = omega arith

-- Validity.
module _ (T : TreeValue) (t : IsTree T) (G : Sheet) (q s : ℕ) (P : List Point) (v : Valid T G q s P) where
  -- the distance of two leaves, in whatever order they are named
  far_both_ways : (a b : ℕ) → IsLeaf T a → IsLeaf T b → a ≢ b → q * leaf_dist T a b ≤ gap (point_at P a) (point_at P b)
  far_both_ways a b a_leaf b_leaf apart = elim (cases_order a b) [
    | inl same ↦ absurd (apart same)
    | inr (inl less) ↦ v.far a b (a_leaf.0, less, b_leaf.1)
    | inr (inr more) ↦
        let d : q * leaf_dist T a b ≡ q * leaf_dist T b a = ap (λ (x : ℕ). q * x) (dist_comm T t (leaf_node T a) (leaf_node T b)) in
        omega (arith, v.far b a (b_leaf.0, more, a_leaf.1), d, gap_comm (point_at P a) (point_at P b))
  ]

  module _ (Q : List Point) (i j : ℕ) (i_leaf : IsLeaf T i) (j_leaf : IsLeaf T j) (apart : i ≢ j) (late : AreLate T i j) (e : IsExchanged i j P Q) where
    -- as far as the points that Q's points a and b were
    far_from : (a b : ℕ) (p r : Point) (d : ℕ) → point_at Q a ≡ p → point_at Q b ≡ r → q * d ≤ gap p r → leaf_dist T a b ≡ d → q * leaf_dist T a b ≤ gap (point_at Q a) (point_at Q b)
    far_from a b p r d is also far same =
        let g : gap (point_at Q a) (point_at Q b) ≡ gap p r = λ k. gap (is k) (also k) in
        let scaled : q * leaf_dist T a b ≡ q * d = ap (λ (x : ℕ). q * x) same in
        omega (arith, g, scaled, far)

    alike : (k : ℕ) → IsLeaf T k → k ≢ i → k ≢ j → leaf_dist T i k ≡ leaf_dist T j k
    alike k k_leaf not_i not_j = twins_alike T t i j k late.twins i_leaf j_leaf k_leaf not_i not_j

    comm : (a b : ℕ) → leaf_dist T a b ≡ leaf_dist T b a
    comm a b = dist_comm T t (leaf_node T a) (leaf_node T b)

    -- by the first leaf: i, j or another one
    far_i : (b : ℕ) → IsLeaf T b → i ≢ b → q * leaf_dist T i b ≤ gap (point_at Q i) (point_at Q b)
    far_i b b_leaf other = elim (cases_eq b j) [
      | inl is ↦ far_from i b (point_at P j) (point_at P i) (leaf_dist T j i) e.first (ap (point_at Q) is ∙ e.second) (far_both_ways j i j_leaf i_leaf (λ x. apart (sym x))) (ap (leaf_dist T i) is ∙ comm i j)
      | inr not ↦ far_from i b (point_at P j) (point_at P b) (leaf_dist T j b) e.first (e.others b b_leaf.0 (λ x. other (sym x)) not) (far_both_ways j b j_leaf b_leaf (λ x. not (sym x))) (alike b b_leaf (λ x. other (sym x)) not)
    ]

    far_j : (b : ℕ) → IsLeaf T b → j ≢ b → q * leaf_dist T j b ≤ gap (point_at Q j) (point_at Q b)
    far_j b b_leaf other = elim (cases_eq b i) [
      | inl is ↦ far_from j b (point_at P i) (point_at P j) (leaf_dist T i j) e.second (ap (point_at Q) is ∙ e.first) (far_both_ways i j i_leaf j_leaf apart) (ap (leaf_dist T j) is ∙ comm j i)
      | inr not ↦ far_from j b (point_at P i) (point_at P b) (leaf_dist T i b) e.second (e.others b b_leaf.0 not (λ x. other (sym x))) (far_both_ways i b i_leaf b_leaf (λ x. not (sym x))) (sym (alike b b_leaf not (λ x. other (sym x))))
    ]

    far_other : (a b : ℕ) → IsLeaf T a → IsLeaf T b → a ≢ b → a ≢ i → a ≢ j → q * leaf_dist T a b ≤ gap (point_at Q a) (point_at Q b)
    far_other a b a_leaf b_leaf other not_i not_j = elim (cases_eq b i) [
      | inl is ↦ far_from a b (point_at P a) (point_at P j) (leaf_dist T a j) (e.others a a_leaf.0 not_i not_j) (ap (point_at Q) is ∙ e.first) (far_both_ways a j a_leaf j_leaf not_j) (ap (leaf_dist T a) is ∙ comm a i ∙ alike a a_leaf not_i not_j ∙ comm j a)
      | inr b_not_i ↦ elim (cases_eq b j) [
        | inl is ↦ far_from a b (point_at P a) (point_at P i) (leaf_dist T a i) (e.others a a_leaf.0 not_i not_j) (ap (point_at Q) is ∙ e.second) (far_both_ways a i a_leaf i_leaf not_i) (ap (leaf_dist T a) is ∙ comm a j ∙ sym (alike a a_leaf not_i not_j) ∙ comm i a)
        | inr b_not_j ↦ far_from a b (point_at P a) (point_at P b) (leaf_dist T a b) (e.others a a_leaf.0 not_i not_j) (e.others b b_leaf.0 b_not_i b_not_j) (far_both_ways a b a_leaf b_leaf other) refl
      ]
    ]

    inside : (k : ℕ) → IsLeaf T k → Lies G q s (point_at Q k)
    inside k leaf = elim (cases_eq k i) [
      | inl is ↦ subst (Lies G q s) (sym (ap (point_at Q) is ∙ e.first)) (v.inside j j_leaf)
      | inr not_i ↦ elim (cases_eq k j) [
        | inl is ↦ subst (Lies G q s) (sym (ap (point_at Q) is ∙ e.second)) (v.inside i i_leaf)
        | inr not_j ↦ subst (Lies G q s) (sym (e.others k leaf.0 not_i not_j)) (v.inside k leaf)
      ]
    ]

    far : (a b : ℕ) → IsLeaf T a → IsLeaf T b → a ≢ b → q * leaf_dist T a b ≤ gap (point_at Q a) (point_at Q b)
    far a b a_leaf b_leaf other = elim (cases_eq a i) [
      | inl is ↦ subst (λ (x : ℕ). q * leaf_dist T x b ≤ gap (point_at Q x) (point_at Q b)) (sym is) (far_i b b_leaf (λ x. other (is ∙ x)))
      | inr not_i ↦ elim (cases_eq a j) [
        | inl is ↦ subst (λ (x : ℕ). q * leaf_dist T x b ≤ gap (point_at Q x) (point_at Q b)) (sym is) (far_j b b_leaf (λ x. other (is ∙ x)))
        | inr not_j ↦ far_other a b a_leaf b_leaf other not_i not_j
      ]
    ]

    -- twins may exchange their points
    pub valid_exchange : Valid T G q s Q
    valid_exchange = record {
      each = e.each ∙ v.each;
      inside = inside;
      far = λ a b pair. let differ : a ≢ b = λ same. omega (arith, same, pair.1) in far a b (pair.0, omega (arith, pair.1, pair.2)) (omega (arith, pair.0, pair.1), pair.2) differ;
    }

-- Points of classes.
sum_filter : (f : ℕ → ℕ) (c : ℕ → Bool) (xs : List ℕ) → sum_by f (filter c xs) ≡ sum_by (λ k. cond (c k) (f k) 0) xs
sum_filter f c [] = refl
sum_filter f c (x ∷ xs) = elim (cases_Bool (c x)) [
  | inl is_so ↦
      let here : cond (c x) (f x) 0 ≡ f x = rw is_so in
      let kept : filter c (x ∷ xs) ≡ x ∷ filter c xs = rw is_so in
      omega (arith, ap (sum_by f) kept, sum_by-cons f x (filter c xs), sum_by-cons (λ k. cond (c k) (f k) 0) x xs, here, sum_filter f c xs)
  | inr isnt ↦
      let here : cond (c x) (f x) 0 ≡ 0 = rw isnt in
      let kept : filter c (x ∷ xs) ≡ filter c xs = rw isnt in
      omega (arith, ap (sum_by f) kept, sum_by-cons (λ k. cond (c k) (f k) 0) x xs, here, sum_filter f c xs)
]

same_sums : (f g : ℕ → ℕ) (s n : ℕ) → ((k : ℕ) → s ≤ k → f k ≡ g k) → sum_by f (range_with_len s n) ≡ sum_by g (range_with_len s n)
same_sums f g s zero each = refl
same_sums f g s (suc n) each =
    let rest = range_with_len (s + 1) n in
    omega (arith, sum_by-cons f s rest, sum_by-cons g s rest, each s (omega arith), same_sums f g (s + 1) n (λ k from. each k (omega (arith, from))))

only_here : (a L k : ℕ) → k ≡ a → only_at a L k ≡ L
only_here a L k same = rw (eq-eqb k a same)

only_elsewhere : (a L k : ℕ) → k ≢ a → only_at a L k ≡ 0
only_elsewhere a L k other = rw (ne_eqb k a other)

-- two functions that differ in that their values at i and j are exchanged
module _ (f g : ℕ → ℕ) (i j n : ℕ) (i_from : 1 ≤ i) (i_to : i ≤ n) (j_from : 1 ≤ j) (j_to : j ≤ n) (apart : i ≢ j) (at_i : g i ≡ f j) (at_j : g j ≡ f i) (others : (k : ℕ) → 1 ≤ k → k ≢ i → k ≢ j → g k ≡ f k) where
  abbrev left : ℕ → ℕ
  left k = g k + (only_at i (f i) k + only_at j (f j) k)

  abbrev right : ℕ → ℕ
  right k = f k + (only_at i (f j) k + only_at j (f i) k)

  each : (k : ℕ) → 1 ≤ k → left k ≡ right k
  each k from = elim (cases_eq k i) [
    | inl is ↦
        let not_j : k ≢ j = λ x. apart (sym is ∙ x) in
        omega (arith, only_here i (f i) k is, only_here i (f j) k is, only_elsewhere j (f j) k not_j, only_elsewhere j (f i) k not_j, ap g is, ap f is, at_i)
    | inr not_i ↦ elim (cases_eq k j) [
      | inl is ↦
          omega (arith, only_here j (f j) k is, only_here j (f i) k is, only_elsewhere i (f i) k not_i, only_elsewhere i (f j) k not_i, ap g is, ap f is, at_j)
      | inr not_j ↦
          omega (arith, only_elsewhere i (f i) k not_i, only_elsewhere i (f j) k not_i, only_elsewhere j (f j) k not_j, only_elsewhere j (f i) k not_j, others k from not_i not_j)
    ]
  ]

  exchanged_sum : sum_by f (range_with_len 1 n) ≡ sum_by g (range_with_len 1 n)
  exchanged_sum =
      let xs = range_with_len 1 n in
      let ii = sum_only_at i (f i) 1 n i_from (omega arith) in
      let ij = sum_only_at i (f j) 1 n i_from (omega arith) in
      let ji = sum_only_at j (f i) 1 n j_from (omega arith) in
      let jj = sum_only_at j (f j) 1 n j_from (omega arith) in
      let l1 = sum_by-plus g (λ k. only_at i (f i) k + only_at j (f j) k) xs in
      let l2 = sum_by-plus (only_at i (f i)) (only_at j (f j)) xs in
      let r1 = sum_by-plus f (λ k. only_at i (f j) k + only_at j (f i) k) xs in
      let r2 = sum_by-plus (only_at i (f j)) (only_at j (f i)) xs in
      omega (arith, same_sums left right 1 n each, ii, ij, ji, jj, l1, l2, r1, r2)

-- each class keeps its points where two late twins exchange theirs
pub same_exchange : (T : TreeValue) (P Q : List Point) (i j m : ℕ) → IsLeaf T i → IsLeaf T j → i ≢ j → AreLate T i j → IsExchanged i j P Q → AreSame (points_of P (late_class T m)) (points_of Q (late_class T m))
same_exchange T P Q i j m i_leaf j_leaf apart late e h =
    let c : ℕ → Bool = λ k. are_late_twins T (pair_of m k) in
    let in_class : c i ≡ c j = both_in_class T m i j late in
    let before : ℕ → ℕ = λ k. cond (c k) (h (point_at P k)) 0 in
    let after : ℕ → ℕ = λ k. cond (c k) (h (point_at Q k)) 0 in
    let range = range_with_len 1 (leaf_count T) in
    let at_i : after i ≡ before j = (λ k. cond (in_class k) (h (e.first k)) 0) in
    let at_j : after j ≡ before i = (λ k. cond (sym in_class k) (h (e.second k)) 0) in
    let others : (k : ℕ) → 1 ≤ k → k ≢ i → k ≢ j → after k ≡ before k = λ k from not_i not_j. ap (λ (p : Point). cond (c k) (h p) 0) (e.others k from not_i not_j) in
    let sums : sum_by before range ≡ sum_by after range = exchanged_sum before after i j (leaf_count T) i_leaf.0 i_leaf.1 j_leaf.0 j_leaf.1 apart at_i at_j others in
    sum_by-map h (point_at P) (filter c range) ∙ sum_filter (λ k. h (point_at P k)) c range ∙ sums ∙ sym (sum_filter (λ k. h (point_at Q k)) c range) ∙ sym (sum_by-map h (point_at Q) (filter c range))
