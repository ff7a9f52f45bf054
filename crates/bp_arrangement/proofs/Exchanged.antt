-- A placement whose leaves take the points of the leaves to which a swap sends them: valid as before, the corner where it was.
use Rattle.std.proofs.Common.{◌≡◌, ℕ, ◌-◌, ◌*◌, ◌≤◌, List, length, map, sym, ◌∙◌, ap, subst, arith, inl, inr}
use Rattle.std.specs.List.{range_with_len}
use Rattle.std.proofs.lemmas.Bool.{cases_order}
use Rattle.std.proofs.lemmas.List.FromFn.{length-map-range_with_len, get_or-map-range_with_len}
use Rattle.bp_base.specs.declared.path.Pair.{Pair}
use Rattle.bp_base.specs.declared.point.Point.{Point}
use Rattle.bp_base.specs.declared.point.Sheet.{Sheet}
use Rattle.bp_base.specs.Tree.{TreeValue, IsTree, IsLeaf, leaf_count, leaf_node}
use Rattle.bp_base.specs.Point.{origin, point_at, gap}
use Rattle.bp_metric.specs.Distance.{leaf_dist}
use Rattle.bp_metric.specs.Valid.{Lies, Valid}
use Rattle.bp_metric.proofs.Distances.{dist_comm, dist_same}
use Rattle.bp_arrangement.specs.Swaps.{IsSwap, IsAdmissible, sent, least}
use Rattle.bp_arrangement.proofs.Goings.{sent_has, sent_other, least_has}

gap_comm : (p r : Point) → gap p r ≡ gap r p
gap_comm p r = omega arith

-- each leaf takes the point of the leaf to which the swap sends it
pub exchanged_by : TreeValue → List Pair → List Point → List Point
exchanged_by T swap P = map (λ k. point_at P (sent swap k)) (range_with_len 1 (leaf_count T))

pub at_exchanged : (T : TreeValue) (swap : List Pair) (P : List Point) (k : ℕ) → IsLeaf T k → point_at (exchanged_by T swap P) k ≡ point_at P (sent swap k)
unfolding exchanged_by
at_exchanged T swap P k leaf = get_or-map-range_with_len (λ k. point_at P (sent swap k)) 1 (leaf_count T) (k - 1) k origin (omega (arith, leaf.0, leaf.1)) (omega (arith, leaf.0))

length_exchanged : (T : TreeValue) (swap : List Pair) (P : List Point) → length (exchanged_by T swap P) ≡ leaf_count T
unfolding exchanged_by
length_exchanged T swap P = length-map-range_with_len (λ k. point_at P (sent swap k)) 1 (leaf_count T)

pub sent_A : (T : TreeValue) (A B : ℕ) (swap : List Pair) → IsAdmissible T A B swap → sent swap A ≡ A
sent_A T A B swap a = sent_other swap A (λ k d less. (a.corner k d less).0)

pub sent_B : (T : TreeValue) (A B : ℕ) (swap : List Pair) → IsAdmissible T A B swap → sent swap B ≡ B
sent_B T A B swap a = sent_other swap B (λ k d less. (a.corner k d less).1)

module _ (T : TreeValue) (t : IsTree T) (swap : List Pair) (h : IsSwap T swap) where
  pub sent_leaf : (k : ℕ) → IsLeaf T k → IsLeaf T (sent swap k)
  sent_leaf k leaf = sent_has (IsLeaf T) swap k h.leaves leaf

  pub least_leaf : IsLeaf T (least swap)
  least_leaf = least_has (IsLeaf T) swap h.some h.leaves

  module _ (G : Sheet) (q s : ℕ) (P : List Point) (v : Valid T G q s P) where
    -- the distance of two leaves, in whatever order they are named, be they one or two
    far_any : (a b : ℕ) → IsLeaf T a → IsLeaf T b → q * leaf_dist T a b ≤ gap (point_at P a) (point_at P b)
    far_any a b a_leaf b_leaf = elim (cases_order a b) [
      | inl same ↦
          let none : leaf_dist T a b ≡ 0 = ap (λ (x : ℕ). leaf_dist T a x) (sym same) ∙ dist_same T t (leaf_node T a) in
          let scaled : q * leaf_dist T a b ≡ q * 0 = ap (λ (x : ℕ). q * x) none in
          omega (arith, scaled)
      | inr (inl less) ↦ v.far a b (a_leaf.0, less, b_leaf.1)
      | inr (inr more) ↦
          let d : q * leaf_dist T a b ≡ q * leaf_dist T b a = ap (λ (x : ℕ). q * x) (dist_comm T t (leaf_node T a) (leaf_node T b)) in
          omega (arith, v.far b a (b_leaf.0, more, a_leaf.1), d, gap_comm (point_at P a) (point_at P b))
    ]

    pub valid_exchanged_by : Valid T G q s (exchanged_by T swap P)
    valid_exchanged_by = record {
      each = length_exchanged T swap P;
      inside = λ i leaf. subst (Lies G q s) (sym (at_exchanged T swap P i leaf)) (v.inside (sent swap i) (sent_leaf i leaf));
      far = λ i j pair.
          let i_leaf : IsLeaf T i = (pair.0, omega (arith, pair.1, pair.2)) in
          let j_leaf : IsLeaf T j = (omega (arith, pair.0, pair.1), pair.2) in
          let a = at_exchanged T swap P i i_leaf in
          let b = at_exchanged T swap P j j_leaf in
          let both : gap (point_at (exchanged_by T swap P) i) (point_at (exchanged_by T swap P) j) ≡ gap (point_at P (sent swap i)) (point_at P (sent swap j)) = λ k. gap (a k) (b k) in
          let scaled : q * leaf_dist T (sent swap i) (sent swap j) ≡ q * leaf_dist T i j = ap (λ (x : ℕ). q * x) (h.keeps i j i_leaf j_leaf) in
          omega (arith, both, scaled, far_any (sent swap i) (sent swap j) (sent_leaf i i_leaf) (sent_leaf j j_leaf));
    }
