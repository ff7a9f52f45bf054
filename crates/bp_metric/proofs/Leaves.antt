-- Nodes without children, and what this says of the distances of leaves.
use Rattle.std.proofs.Common.{◌≡◌, ◌≢◌, ℕ, zero, suc, ◌+◌, ◌-◌, ◌<◌, ◌≤◌, Bool, true, false, not, ◌==◌, IsTrue, drop, get_or, refl, sym, ◌∙◌, ap, arith, inl, inr, length-drop}
use Rattle.std.specs.List.{range_with_len}
use Rattle.std.proofs.lemmas.Bool.{cases_eq, cases_order, eq-eqb, ne_eqb, eqb-true, and_parts, false≢true}
use Rattle.std.proofs.lemmas.Grind.{get_or_after_one}
use Rattle.std.proofs.lemmas.List.Elements.{filter_passes}
use Rattle.std.proofs.lemmas.List.Folds.{list_any_at}
use Rattle.bp_base.specs.Tree.{TreeValue, IsTree, IsLeaf, parent, length_of, node_count, leaf_count, leaf_node, has_child}
use Rattle.bp_metric.specs.Choices.{are_twins}
use Rattle.bp_metric.specs.Distance.{below_within, is_below, dist, leaf_dist}
use Rattle.bp_metric.proofs.Distances.{parent_falls, dist_up, dist_up_right, dist_off, leaf_node_within, leaf_nodes_rise}

false_from_not : (b : Bool) → not b ≡ true → b ≡ false
false_from_not true e = sym e
false_from_not false e = refl

module _ (T : TreeValue) (t : IsTree T) where
  pub parent_has_child : (b k : ℕ) → 0 < b → b < node_count T → parent T b ≡ k → has_child T k ≡ true
  parent_has_child b k above within is =
      let place : 1 + (b - 1) ≡ b = omega arith in
      let here : get_or (drop 1 T.parents) (b - 1) 0 ≡ k = get_or_after_one T.parents (b - 1) 0 ∙ ap (λ (x : ℕ). get_or T.parents x 0) place ∙ is in
      list_any_at (λ p. p == k) (drop 1 T.parents) (b - 1) 0 (omega (arith, length-drop 1 T.parents)) (eq-eqb (get_or (drop 1 T.parents) (b - 1) 0) k here)

  pub leaf_childless : (i : ℕ) → IsLeaf T i → has_child T (leaf_node T i) ≡ false
  leaf_childless i is =
      false_from_not (has_child T (leaf_node T i)) (filter_passes (λ k. not (has_child T k)) (range_with_len 0 (node_count T)) (i - 1) 0 (omega (arith, is.0, is.1)))

  pub parent_apart : (a b : ℕ) → has_child T a ≡ false → 0 < b → b < node_count T → parent T b ≢ a
  parent_apart a b childless above within is = false≢true (sym childless ∙ parent_has_child b a above within is)

  childless_within : (k a c : ℕ) → has_child T a ≡ false → c ≢ a → c < node_count T → below_within k T.parents c a ≡ false
  childless_within zero a c childless apart within = ne_eqb c a apart
  childless_within (suc k) a c childless apart within =
      let up : parent T c ≢ a = elim (cases_eq c 0) [
        | inl none ↦ λ is. apart (none ∙ sym t.root_parent ∙ ap (parent T) (sym none) ∙ is)
        | inr some ↦ parent_apart a c childless (omega arith) within
      ] in
      let rest = childless_within k a (parent T c) childless up (omega (arith, parent_falls T t c)) in
      rw (ne_eqb c a apart) rest

  -- nothing but itself is below a node without children
  pub childless_below : (a c : ℕ) → has_child T a ≡ false → c ≢ a → c < node_count T → is_below T c a ≡ false
  unfolding is_below
  childless_below a c childless apart within = childless_within c a c childless apart within

  -- every way from a node without children begins with the edge above it
  pub dist_childless : (a c : ℕ) → has_child T a ≡ false → 0 < a → a < node_count T → c ≢ a → c < node_count T → dist T a c ≡ length_of T a + dist T (parent T a) c
  dist_childless a c childless above within apart c_within = dist_off T t a c above within (childless_below a c childless apart c_within)

  pub dist_positive : (a b : ℕ) → a ≢ b → a < node_count T → b < node_count T → 1 ≤ dist T a b
  dist_positive a b apart a_within b_within = elim (cases_order a b) [
    | inl same ↦ absurd (apart same)
    | inr (inl less) ↦ omega (arith, dist_up_right T t a b less b_within, t.lengths_positive b (omega arith) b_within)
    | inr (inr more) ↦ omega (arith, dist_up T t a b more a_within, t.lengths_positive a (omega arith) a_within)
  ]

  -- between two leaves lie at least two edges
  pub leaves_apart : (i j : ℕ) → 1 ≤ i → i < j → j ≤ leaf_count T → 2 ≤ leaf_dist T i j
  leaves_apart i j from less to =
      let a = leaf_node T i in
      let b = leaf_node T j in
      let rise = leaf_nodes_rise T t i j from less to in
      let i_leaf : IsLeaf T i = (from, omega arith) in
      let a_within : a < node_count T = leaf_node_within T t i i_leaf in
      let b_within : b < node_count T = leaf_node_within T t j (omega arith, to) in
      let apart = parent_apart a b (leaf_childless i i_leaf) (omega (arith, rise)) b_within in
      let up : parent T b < node_count T = omega (arith, parent_falls T t b, b_within) in
      omega (arith, dist_up_right T t a b rise b_within, t.lengths_positive b (omega (arith, rise)) b_within, dist_positive a (parent T b) (λ is. apart (sym is)) a_within up)

  pub leaf_nodes_differ : (i j : ℕ) → IsLeaf T i → IsLeaf T j → i ≢ j → leaf_node T i ≢ leaf_node T j
  leaf_nodes_differ i j i_leaf j_leaf apart = elim (cases_order i j) [
    | inl same ↦ absurd (apart same)
    | inr (inl less) ↦ λ is. omega (arith, is, leaf_nodes_rise T t i j i_leaf.0 less j_leaf.1)
    | inr (inr more) ↦ λ is. omega (arith, is, leaf_nodes_rise T t j i j_leaf.0 more i_leaf.1)
  ]

  pub leaf_above : (i : ℕ) → IsLeaf T i → 0 < leaf_node T i
  leaf_above i is = elim (cases_eq (leaf_node T i) 0) [
    | inr some ↦ omega (arith, some)
    | inl none ↦
        let two = leaf_node_within T t 2 (omega arith, t.leaves_enough) in
        let rise = leaf_nodes_rise T t 1 2 (omega arith) (omega arith) t.leaves_enough in
        let within : 1 < node_count T = omega (arith, two, rise) in
        let root : parent T 1 ≡ 0 = omega (arith, t.parents_before 1 (omega arith) within) in
        absurd (false≢true (sym (leaf_childless i is) ∙ ap (has_child T) none ∙ parent_has_child 1 0 (omega arith) within root))
  ]

  -- the way from a leaf to another one begins with the edge above it
  pub leaf_dist_up : (i k : ℕ) → IsLeaf T i → IsLeaf T k → k ≢ i → leaf_dist T i k ≡ length_of T (leaf_node T i) + dist T (parent T (leaf_node T i)) (leaf_node T k)
  leaf_dist_up i k i_leaf k_leaf apart =
      dist_childless (leaf_node T i) (leaf_node T k) (leaf_childless i i_leaf) (leaf_above i i_leaf) (leaf_node_within T t i i_leaf) (leaf_nodes_differ k i k_leaf i_leaf apart) (leaf_node_within T t k k_leaf)

  -- twins are equally far from every other leaf
  pub twins_alike : (i j k : ℕ) → IsTrue (are_twins T i j) → IsLeaf T i → IsLeaf T j → IsLeaf T k → k ≢ i → k ≢ j → leaf_dist T i k ≡ leaf_dist T j k
  unfolding are_twins
  twins_alike i j k twins i_leaf j_leaf k_leaf not_i not_j =
      let a = leaf_node T i in
      let b = leaf_node T j in
      let parts = and_parts (parent T a == parent T b) (length_of T a == length_of T b) twins in
      let parents : parent T a ≡ parent T b = eqb-true (parent T a) (parent T b) parts.0 in
      let lengths : length_of T a ≡ length_of T b = eqb-true (length_of T a) (length_of T b) parts.1 in
      let ways : dist T (parent T a) (leaf_node T k) ≡ dist T (parent T b) (leaf_node T k) = ap (λ (p : ℕ). dist T p (leaf_node T k)) parents in
      omega (arith, leaf_dist_up i k i_leaf k_leaf not_i, leaf_dist_up j k j_leaf k_leaf not_j, lengths, ways)
