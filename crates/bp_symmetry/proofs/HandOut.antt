-- Handing out the points of late twins: one pair after the other is put in order.
use Rattle.std.proofs.Common.{◌≡◌, ◌≢◌, ℕ, zero, suc, ◌+◌, ◌-◌, ◌<◌, ◌≤◌, IsTrue, List, length, refl, sym, ◌∙◌, ap, subst, arith, inl, inr}
use Rattle.std.specs.List.{swap}
use Rattle.std.proofs.lemmas.Bool.{cases_eq, cases_Bool, false≢true}
use Rattle.std.proofs.lemmas.List.Edits.{swapped_from_swap, length-swap}
use Rattle.bp_base.specs.declared.path.Pair.{Pair}
use Rattle.bp_base.specs.declared.point.Point.{Point}
use Rattle.bp_base.specs.declared.point.Sheet.{Sheet}
use Rattle.bp_base.specs.Bags.{AreSame}
use Rattle.bp_base.specs.Path.{IsPairOf}
use Rattle.bp_base.specs.Tree.{TreeValue, IsTree, IsLeaf, leaf_count}
use Rattle.bp_base.specs.Point.{origin, point_at}
use Rattle.bp_metric.specs.Choices.{are_late_twins}
use Rattle.bp_metric.specs.Next.{IsEarlier}
use Rattle.bp_metric.specs.Valid.{Valid}
use Rattle.bp_pairs.specs.Numbers.{pair_number, pair_count}
use Rattle.bp_pairs.proofs.PairNumbers.{numbers_rise, number_below, pairs_ordered, pair_of_number}
use Rattle.bp_symmetry.specs.Twins.{IsAfter, IsHandedOut, pair_of, late_class, points_of}
use Rattle.bp_symmetry.specs.Exchanges.{IsExchanged, PutsInOrder}
use Rattle.bp_symmetry.proofs.LateTwins.{AreLate, late_parts, late_from, late_sym, late_trans}
use Rattle.bp_symmetry.proofs.Exchanges.{valid_exchange, same_exchange}
use Rattle.bp_symmetry.proofs.Orders.{after_one_way, after_lower, after_or_not}

-- leaves i and j, where they are late twins, are in order
abbrev pub AreOrdered : TreeValue → List Point → ℕ → ℕ → Type 0
AreOrdered T P i j = IsTrue (are_late_twins T (pair_of i j)) → IsAfter (point_at P i) (point_at P j) → ⊥

-- the pairs before p are in order
abbrev pub AreOrderedTo : TreeValue → List Point → Pair → Type 0
AreOrderedTo T P p = (r : Pair) → IsPairOf (leaf_count T) r → IsEarlier r p → AreOrdered T P r.i r.j

-- Q is P handed out anew as far as the first k pairs go.
pub record IsHanding (T : TreeValue) (P Q : List Point) (k : ℕ) : Type 0 where
  pub each : length Q ≡ length P
  pub early : (i : ℕ) → IsLeaf T i → i < 4 → point_at Q i ≡ point_at P i
  pub same : (i : ℕ) → IsLeaf T i → AreSame (points_of P (late_class T i)) (points_of Q (late_class T i))
  pub keeps : (G : Sheet) (q s : ℕ) → Valid T G q s P → Valid T G q s Q
  pub ordered : (r : Pair) → IsPairOf (leaf_count T) r → pair_number (leaf_count T) r < k → AreOrdered T Q r.i r.j

pub hand_start : (T : TreeValue) (P : List Point) → IsHanding T P P 0
hand_start T P = record {
  each = refl;
  early = λ i leaf less. refl;
  same = λ i leaf h. refl;
  keeps = λ G q s v. v;
  ordered = λ r pair less. absurd (omega (arith, less));
}

-- An exchange of two late twins that aren't in order keeps earlier pairs in order.
module _ (T : TreeValue) (P Q : List Point) (i j : ℕ) (pair : IsPairOf (leaf_count T) (pair_of i j)) (late : AreLate T i j) (after : IsAfter (point_at P i) (point_at P j)) (e : IsExchanged i j P Q) (before : AreOrderedTo T P (pair_of i j)) where
  -- the pair (k,l) in Q, by the points that were those of two leaves in P
  ordered_from : (k l : ℕ) (p r : Point) → point_at Q k ≡ p → point_at Q l ≡ r → (IsAfter p r → ⊥) → IsAfter (point_at Q k) (point_at Q l) → ⊥
  ordered_from k l p r is also not now = not (subst (λ (t : Point). IsAfter t r) is (subst (λ (t : Point). IsAfter (point_at Q k) t) also now))

  -- k stands before i, so its point stayed
  earlier_row : (k l : ℕ) → IsPairOf (leaf_count T) (pair_of k l) → k < i → AreOrdered T Q k l
  earlier_row k l named less twins =
      let kl : AreLate T k l = late_parts T k l twins in
      let not_i : k ≢ i = λ same. omega (arith, same, less) in
      let not_j : k ≢ j = λ same. omega (arith, same, less, pair.1) in
      let stays : point_at Q k ≡ point_at P k = e.others k named.0 not_i not_j in
      elim (cases_eq l i) [
        | inl is ↦
            let k_late : AreLate T k i = subst (AreLate T k) is kl in
            let there = before (pair_of k j) (named.0, omega (arith, less, pair.1), pair.2) (inl less) (late_from T k j (late_trans T k i j k_late late)) in
            ordered_from k l (point_at P k) (point_at P j) stays (ap (point_at Q) is ∙ e.first) there
        | inr l_not_i ↦ elim (cases_eq l j) [
          | inl is ↦
              let k_late : AreLate T k j = subst (AreLate T k) is kl in
              let there = before (pair_of k i) (named.0, less, omega (arith, pair.1, pair.2)) (inl less) (late_from T k i (late_trans T k j i k_late (late_sym T i j late))) in
              ordered_from k l (point_at P k) (point_at P i) stays (ap (point_at Q) is ∙ e.second) there
          | inr l_not_j ↦
              ordered_from k l (point_at P k) (point_at P l) stays (e.others l (omega (arith, named.1)) l_not_i l_not_j) (before (pair_of k l) named (inl less) twins)
        ]
      ]

  -- the row of i, before j
  this_row : (l : ℕ) → IsPairOf (leaf_count T) (pair_of i l) → l < j → AreOrdered T Q i l
  this_row l named less twins =
      let not_i : l ≢ i = λ same. omega (arith, same, named.1) in
      let not_j : l ≢ j = λ same. omega (arith, same, less) in
      ordered_from i l (point_at P j) (point_at P l) e.first (e.others l (omega (arith, named.1)) not_i not_j) (after_lower (point_at P i) (point_at P j) (point_at P l) after (before (pair_of i l) named (inr (refl, less)) twins))

  earlier_pairs : (r : Pair) → IsPairOf (leaf_count T) r → IsEarlier r (pair_of i j) → AreOrdered T Q r.i r.j
  earlier_pairs r named (inl less) = earlier_row r.i r.j named less
  earlier_pairs r named (inr (same, less)) =
      let here : IsPairOf (leaf_count T) (pair_of i r.j) = subst (λ (k : ℕ). IsPairOf (leaf_count T) (pair_of k r.j)) same named in
      subst (λ (k : ℕ). AreOrdered T Q k r.j) (sym same) (this_row r.j here less)

  this_pair : AreOrdered T Q i j
  this_pair twins = ordered_from i j (point_at P j) (point_at P i) e.first e.second (after_one_way (point_at P i) (point_at P j) after)

module _ (T : TreeValue) (t : IsTree T) (P Q R : List Point) (p : Pair) (k : ℕ) (h : IsHanding T P Q k) (pair : IsPairOf (leaf_count T) p) (number : pair_number (leaf_count T) p ≡ k) where
  before : AreOrderedTo T Q p
  before r named earlier = h.ordered r named (omega (arith, (numbers_rise (leaf_count T) r p named pair).0 earlier, number))

  -- the next pair comes to those that are in order
  ordered_more : ((r : Pair) → IsPairOf (leaf_count T) r → IsEarlier r p → AreOrdered T R r.i r.j) → AreOrdered T R p.i p.j → (r : Pair) → IsPairOf (leaf_count T) r → pair_number (leaf_count T) r < k + 1 → AreOrdered T R r.i r.j
  ordered_more earlier here r named less = elim (pairs_ordered r p) [
    | inl is ↦ subst (λ (x : Pair). AreOrdered T R x.i x.j) (sym is) here
    | inr (inl is) ↦ earlier r named is
    | inr (inr later) ↦ absurd (omega (arith, (numbers_rise (leaf_count T) p r pair named).0 later, number, less))
  ]

  step_exchange : IsTrue (are_late_twins T p) → IsAfter (point_at Q p.i) (point_at Q p.j) → IsExchanged p.i p.j Q R → IsHanding T P R (k + 1)
  step_exchange twins after e =
      let late : AreLate T p.i p.j = late_parts T p.i p.j twins in
      let i_leaf : IsLeaf T p.i = (pair.0, omega (arith, pair.1, pair.2)) in
      let j_leaf : IsLeaf T p.j = (omega (arith, pair.0, pair.1), pair.2) in
      let apart : p.i ≢ p.j = λ same. omega (arith, same, pair.1) in
      record {
        each = e.each ∙ h.each;
        early = λ i leaf less.
            let not_i : i ≢ p.i = λ same. omega (arith, same, less, late.first) in
            let not_j : i ≢ p.j = λ same. omega (arith, same, less, late.second) in
            e.others i leaf.0 not_i not_j ∙ h.early i leaf less;
        same = λ i leaf w. h.same i leaf w ∙ same_exchange T Q R p.i p.j i i_leaf j_leaf apart late e w;
        keeps = λ G q s v. valid_exchange T t G q s Q (h.keeps G q s v) R p.i p.j i_leaf j_leaf apart late e;
        ordered = ordered_more (earlier_pairs T Q R p.i p.j pair late after e before) (this_pair T Q R p.i p.j pair late after e before);
      }

  step_keep : (IsTrue (are_late_twins T p) → IsAfter (point_at Q p.i) (point_at Q p.j) → ⊥) → R ≡ Q → IsHanding T P R (k + 1)
  step_keep in_order is =
      let whole : IsHanding T P Q (k + 1) = record {
        each = h.each;
        early = h.early;
        same = h.same;
        keeps = h.keeps;
        ordered = subst (λ (X : List Point). (r : Pair) → IsPairOf (leaf_count T) r → pair_number (leaf_count T) r < k + 1 → AreOrdered T X r.i r.j) is (ordered_more (λ r named earlier. subst (λ (X : List Point). AreOrdered T X r.i r.j) (sym is) (before r named earlier)) (subst (λ (X : List Point). AreOrdered T X p.i p.j) (sym is) in_order));
      } in
      subst (λ (X : List Point). IsHanding T P X (k + 1)) (sym is) whole

  pub hand_step : PutsInOrder T p Q R → IsHanding T P R (k + 1)
  hand_step (inl (twins, after, e)) = step_exchange twins after e
  hand_step (inr (in_order, is)) = step_keep in_order is

pub hand_end : (T : TreeValue) (P Q : List Point) → IsHanding T P Q (pair_count (leaf_count T)) → IsHandedOut T P Q
hand_end T P Q h = record {
  each = h.each;
  early = h.early;
  same = h.same;
  sorted = λ p pair. h.ordered p pair (number_below (leaf_count T) p pair);
}

-- Such points exist for each list of points.
swap_exchanges : (Q : List Point) (i j : ℕ) → 1 ≤ i → i ≤ length Q → 1 ≤ j → j ≤ length Q → IsExchanged i j Q (swap Q (i - 1) (j - 1))
swap_exchanges Q i j i_from i_to j_from j_to =
    let s = swapped_from_swap Q (swap Q (i - 1) (j - 1)) (i - 1) (j - 1) origin (omega arith) (omega arith) refl in
    record {
      each = length-swap Q (i - 1) (j - 1);
      first = s.0;
      second = s.1;
      others = λ k from not_i not_j. s.2 (k - 1) (λ same. not_i (omega (arith, same, from, i_from))) (λ same. not_j (omega (arith, same, from, j_from)));
    }

can_order : (T : TreeValue) (Q : List Point) (p : Pair) → length Q ≡ leaf_count T → IsPairOf (leaf_count T) p → (R : List Point) × PutsInOrder T p Q R
can_order T Q p each pair = elim (cases_Bool (are_late_twins T p)) [
  | inr apart ↦ (Q, inr (λ twins. absurd (false≢true (sym apart ∙ twins)), refl))
  | inl twins ↦ elim (after_or_not (point_at Q p.i) (point_at Q p.j)) [
    | inr ordered ↦ (Q, inr (λ _. ordered, refl))
    | inl after ↦ (swap Q (p.i - 1) (p.j - 1), inl (twins, after, swap_exchanges Q p.i p.j pair.0 (omega (arith, pair.1, pair.2, each)) (omega (arith, pair.0, pair.1)) (omega (arith, pair.2, each))))
  ]
]

can_hand : (T : TreeValue) → IsTree T → (P : List Point) → length P ≡ leaf_count T → (k : ℕ) → k ≤ pair_count (leaf_count T) → (Q : List Point) × IsHanding T P Q k
can_hand T t P each zero le = (P, hand_start T P)
can_hand T t P each (suc k) le =
    let so_far = can_hand T t P each k (omega (arith, le)) in
    let named = pair_of_number (leaf_count T) k (omega (arith, le)) in
    let next = can_order T so_far.0 named.0 (so_far.1.each ∙ each) named.1 in
    let one : k + 1 ≡ suc k = omega arith in
    (next.0, subst (IsHanding T P next.0) one (hand_step T t P so_far.0 next.0 named.0 k so_far.1 named.1 named.2 next.1))

pub record CanHandOut (T : TreeValue) (P : List Point) : Type 0 where
  pub points : List Point
  pub handed : IsHandedOut T P points
  pub keeps : (G : Sheet) (q s : ℕ) → Valid T G q s P → Valid T G q s points

pub can_hand_out : (T : TreeValue) → IsTree T → (P : List Point) → length P ≡ leaf_count T → CanHandOut T P
can_hand_out T t P each =
    let all = can_hand T t P each (pair_count (leaf_count T)) (omega arith) in
    record { points = all.0; handed = hand_end T P all.0 all.1; keeps = all.1.keeps }

-- as the code has the number of leaves
module _ (T : TreeValue) (t : IsTree T) (P Q : List Point) (n : ℕ) (counted : n ≡ leaf_count T) where
  pub read_step : (R : List Point) (p : Pair) (k : ℕ) → IsHanding T P Q k → IsPairOf n p → pair_number n p ≡ k → PutsInOrder T p Q R → IsHanding T P R (k + 1)
  read_step R p k h pair number order =
      hand_step T t P Q R p k h (subst (λ (m : ℕ). IsPairOf m p) counted pair) (subst (λ (m : ℕ). pair_number m p ≡ k) counted number) order

  pub read_end : (k : ℕ) → IsHanding T P Q k → k ≡ pair_count n → IsHandedOut T P Q
  read_end k h all = hand_end T P Q (subst (IsHanding T P Q) (all ∙ ap pair_count counted) h)
