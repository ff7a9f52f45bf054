-- Laws of the tree metric.
use Rattle.std.proofs.Common.{◌≡◌, ℕ, zero, suc, ◌+◌, ◌-◌, ◌<◌, ◌≤◌, Bool, true, false, not, ◌||◌, ◌==◌, List, length, get_or, All, refl, sym, ◌∙◌, ap, subst, arith, inl, inr}
use Rattle.std.specs.List.{range_with_len}
use Rattle.std.proofs.lemmas.List.{get_or_past, get_or_default}
use Rattle.std.proofs.lemmas.List.FromFn.{length-range_with_len, get_or-range_with_len}
use Rattle.std.proofs.lemmas.List.Elements.{All-filter}
use Rattle.std.proofs.lemmas.List.Kept.{AllPairs-from_increasing, IsStrictlyIncreasing-filter}
use Rattle.std.specs.List.Sorted.{IsStrictlyIncreasing}
use Rattle.std.proofs.lemmas.Bool.{cases_eq, cases_lt, cases_Bool, eq-eqb, ne_eqb, eqb-true, or_cases, false_from_ne_true}
use Rattle.bp_base.specs.Tree.{TreeValue, IsTree, IsLeaf, edges, parent, length_of, node_count, leaf_count, leaf_node, leaf_nodes, has_child}
use Rattle.bp_base.specs.Limits.{most_length}
use Rattle.bp_metric.specs.Distance.{below_within, is_below, differ, share, dist, leaf_dist, most_distance}
use Rattle.bp_metric.proofs.Ranges.{sum_of_sums, sums_at_most, sum_at_most, sum_none, only_at, sum_only_at}

or_same : (b : Bool) → (b || b) ≡ b
or_same true = refl
or_same false = refl

-- each leaf is a node
pub leaf_nodes_within : (T : TreeValue) → All (λ k. k < node_count T) (leaf_nodes T)
leaf_nodes_within T =
    let all : All (λ k. k < node_count T) (range_with_len 0 (node_count T)) = λ k d in_range. omega (arith, get_or-range_with_len 0 (node_count T) k d (omega (arith, length-range_with_len 0 (node_count T))), length-range_with_len 0 (node_count T)) in
    All-filter (λ k. not (has_child T k)) (λ k. k < node_count T) (range_with_len 0 (node_count T)) all

module _ (T : TreeValue) (t : IsTree T) where
  pub parent_falls : (a : ℕ) → parent T a ≤ a - 1
  parent_falls zero = omega (arith, t.root_parent)
  parent_falls (suc a) = elim (cases_lt (suc a) (length T.parents)) [
    | inl within ↦ omega (arith, t.parents_before (suc a) (omega arith) within)
    | inr outside ↦ omega (arith, get_or_past T.parents (suc a) 0 outside)
  ]

  -- any bound serves that is large enough
  same_within : (k l a e : ℕ) → a ≤ k → a ≤ l → below_within k T.parents a e ≡ below_within l T.parents a e
  same_within zero zero a e ak al = refl
  same_within zero (suc l) a e ak al =
      let none : a ≡ 0 = omega arith in
      let up : parent T a ≡ a = omega (arith, parent_falls a) in
      let rest : below_within l T.parents (parent T a) e ≡ (a == e) = ap (λ (x : ℕ). below_within l T.parents x e) up ∙ sym (same_within zero l a e ak (omega arith)) in
      sym (ap (λ (b : Bool). (a == e) || b) rest ∙ or_same (a == e))
  same_within (suc k) zero a e ak al =
      let up : parent T a ≡ a = omega (arith, parent_falls a) in
      let rest : below_within k T.parents (parent T a) e ≡ (a == e) = ap (λ (x : ℕ). below_within k T.parents x e) up ∙ same_within k zero a e (omega arith) al in
      ap (λ (b : Bool). (a == e) || b) rest ∙ or_same (a == e)
  same_within (suc k) (suc l) a e ak al =
      ap (λ (b : Bool). (a == e) || b) (same_within k l (parent T a) e (omega (arith, parent_falls a)) (omega (arith, parent_falls a)))

  -- a is below e where it is e's lower node or its parent is below e
  pub is_below-up : (a e : ℕ) → 0 < a → is_below T a e ≡ ((a == e) || is_below T (parent T a) e)
  unfolding is_below
  is_below-up zero e above = absurd (omega arith)
  is_below-up (suc a) e above =
      ap (λ (b : Bool). (suc a == e) || b) (same_within a (parent T (suc a)) (parent T (suc a)) e (omega (arith, parent_falls (suc a))) (omega arith))

  le_within : (k a e : ℕ) → below_within k T.parents a e ≡ true → e ≤ a
  le_within zero a e is = omega (arith, eqb-true a e is)
  le_within (suc k) a e is = elim (or_cases (a == e) (below_within k T.parents (parent T a) e) is) [
    | inl here ↦ omega (arith, eqb-true a e here)
    | inr up ↦ omega (arith, le_within k (parent T a) e up, parent_falls a)
  ]

  pub le_from_below : (a e : ℕ) → is_below T a e ≡ true → e ≤ a
  unfolding is_below
  le_from_below a e is = le_within a a e is

  pub not_below : (a e : ℕ) → a < e → is_below T a e ≡ false
  not_below a e less = false_from_ne_true (is_below T a e) (λ is. omega (arith, le_from_below a e is))

  pub is_below-same : (a : ℕ) → 0 < a → is_below T a a ≡ true
  is_below-same a above = is_below-up a a above ∙ ap (λ (b : Bool). b || is_below T (parent T a) a) (eq-eqb a a refl)

  -- the edge above a separates it from a node that isn't below it
  share_off : (a b e : ℕ) → 0 < a → is_below T b a ≡ false → share T a b e ≡ only_at a (length_of T a) e + share T (parent T a) b e
  unfolding share
  share_off a b e above off = elim (cases_eq e a) [
    | inl same ↦
        let here : is_below T a e ≡ true = ap (λ (x : ℕ). is_below T a x) same ∙ is_below-same a above in
        let other : is_below T b e ≡ false = ap (λ (x : ℕ). is_below T b x) same ∙ off in
        let up : is_below T (parent T a) e ≡ false = not_below (parent T a) e (omega (arith, parent_falls a)) in
        let long : length_of T e ≡ length_of T a = ap (length_of T) same in
        rw (eq-eqb e a same, here, other, up) (omega (arith, long))
    | inr apart ↦
        let here : is_below T a e ≡ is_below T (parent T a) e = is_below-up a e above ∙ ap (λ (b : Bool). b || is_below T (parent T a) e) (ne_eqb a e (λ is. apart (sym is))) in
        rw (ne_eqb e a apart, here) (omega arith)
  ]

  -- the way from a to a node that isn't below it begins with the edge above a
  pub dist_off : (a b : ℕ) → 0 < a → a < node_count T → is_below T b a ≡ false → dist T a b ≡ length_of T a + dist T (parent T a) b
  unfolding dist
  dist_off a b above within off =
      let parts = sum_of_sums (share T a b) (only_at a (length_of T a)) (share T (parent T a) b) (edges T) (λ e. share_off a b e above off) in
      omega (arith, parts, sum_only_at a (length_of T a) 1 (node_count T - 1) (omega arith) (omega arith))

  -- so does the way from the greater of two nodes
  pub dist_up : (a b : ℕ) → b < a → a < node_count T → dist T a b ≡ length_of T a + dist T (parent T a) b
  dist_up a b less within = dist_off a b (omega arith) within (not_below b a less)

  share_comm : (a b e : ℕ) → share T a b e ≡ share T b a e
  unfolding share
  share_comm a b e = elim (cases_Bool (is_below T a e)) [
    | inl x ↦ elim (cases_Bool (is_below T b e)) [ inl y ↦ rw (x, y) | inr y ↦ rw (x, y) ]
    | inr x ↦ elim (cases_Bool (is_below T b e)) [ inl y ↦ rw (x, y) | inr y ↦ rw (x, y) ]
  ]

  pub dist_comm : (a b : ℕ) → dist T a b ≡ dist T b a
  unfolding dist
  dist_comm a b =
      let parts = sum_of_sums (share T a b) (share T b a) (λ _. 0) (edges T) (λ e. omega (arith, share_comm a b e)) in
      omega (arith, parts, sum_none (λ _. 0) (edges T) (λ _. refl))

  share_same : (a e : ℕ) → share T a a e ≡ 0
  unfolding share
  share_same a e = elim (cases_Bool (is_below T a e)) [ inl x ↦ rw x | inr x ↦ rw x ]

  pub dist_same : (a : ℕ) → dist T a a ≡ 0
  unfolding dist
  dist_same a = sum_none (share T a a) (edges T) (share_same a)

  share_triangle : (a b c e : ℕ) → share T a c e ≤ share T a b e + share T b c e
  unfolding share
  share_triangle a b c e = elim (cases_Bool (is_below T a e)) [
    | inl x ↦ elim (cases_Bool (is_below T b e)) [
      | inl y ↦ elim (cases_Bool (is_below T c e)) [ inl z ↦ rw (x, y, z) (omega arith) | inr z ↦ rw (x, y, z) (omega arith) ]
      | inr y ↦ elim (cases_Bool (is_below T c e)) [ inl z ↦ rw (x, y, z) (omega arith) | inr z ↦ rw (x, y, z) (omega arith) ]
    ]
    | inr x ↦ elim (cases_Bool (is_below T b e)) [
      | inl y ↦ elim (cases_Bool (is_below T c e)) [ inl z ↦ rw (x, y, z) (omega arith) | inr z ↦ rw (x, y, z) (omega arith) ]
      | inr y ↦ elim (cases_Bool (is_below T c e)) [ inl z ↦ rw (x, y, z) (omega arith) | inr z ↦ rw (x, y, z) (omega arith) ]
    ]
  ]

  -- a way over a third node is no shorter
  pub triangle : (a b c : ℕ) → dist T a c ≤ dist T a b + dist T b c
  unfolding dist
  triangle a b c = sums_at_most (share T a c) (share T a b) (share T b c) (edges T) (share_triangle a b c)

  share_small : (a b e : ℕ) → share T a b e ≤ most_length
  unfolding share
  share_small a b e = elim (cases_Bool (differ (is_below T a e) (is_below T b e))) [
    | inl x ↦ rw x (t.lengths_small e)
    | inr x ↦ rw x (omega arith)
  ]

  pub dist_small : (a b : ℕ) → dist T a b ≤ most_distance
  unfolding dist
  dist_small a b =
      omega (arith, sum_at_most (share T a b) most_length (edges T) (share_small a b), length-range_with_len 1 (node_count T - 1), t.nodes)

  -- a step up from the other node
  pub dist_up_right : (a b : ℕ) → a < b → b < node_count T → dist T a b ≡ length_of T b + dist T a (parent T b)
  dist_up_right a b less within = omega (arith, dist_comm a b, dist_up b a less within, dist_comm (parent T b) a)

  -- one step of a climb, with the lists as the code has them
  pub climb_left : (parents lengths : List ℕ) → parents ≡ T.parents → lengths ≡ T.lengths → (a b sum whole : ℕ) → b < a → a < node_count T → sum + dist T a b ≡ whole → sum + get_or lengths a 0 + dist T (get_or parents a 0) b ≡ whole
  climb_left parents lengths ps ls a b sum whole less within so_far =
      rw (ps, ls) (omega (arith, dist_up a b less within))

  pub climb_right : (parents lengths : List ℕ) → parents ≡ T.parents → lengths ≡ T.lengths → (a b sum whole : ℕ) → a < b → b < node_count T → sum + dist T a b ≡ whole → sum + get_or lengths b 0 + dist T a (get_or parents b 0) ≡ whole
  climb_right parents lengths ps ls a b sum whole less within so_far =
      rw (ps, ls) (omega (arith, dist_up_right a b less within))

  pub parent_within : (parents : List ℕ) → parents ≡ T.parents → (a : ℕ) → a < node_count T → get_or parents a 0 < node_count T
  parent_within parents ps a within = rw ps (omega (arith, parent_falls a))

  pub leaf_node_within : (i : ℕ) → IsLeaf T i → leaf_node T i < node_count T
  leaf_node_within i is =
      leaf_nodes_within T (i - 1) 0 (omega (arith, is.0, is.1))

  -- later leaves are later nodes
  pub leaf_nodes_rise : (i j : ℕ) → 1 ≤ i → i < j → j ≤ leaf_count T → leaf_node T i < leaf_node T j
  leaf_nodes_rise i j from less to =
      let all = range_with_len 0 (node_count T) in
      let range : IsStrictlyIncreasing all = λ k short. omega (arith, get_or-range_with_len 0 (node_count T) k 0 (omega (arith, length-range_with_len 0 (node_count T))), get_or-range_with_len 0 (node_count T) (k + 1) 0 (omega (arith, length-range_with_len 0 (node_count T)))) in
      AllPairs-from_increasing (leaf_nodes T) (IsStrictlyIncreasing-filter (λ k. not (has_child T k)) all range) (i - 1) (j - 1) 0 (omega arith) (omega arith)

  -- two leaves are apart
  pub leaf_dist_positive : (i j : ℕ) → 1 ≤ i → i < j → j ≤ leaf_count T → 1 ≤ leaf_dist T i j
  leaf_dist_positive i j from less to =
      let rise = leaf_nodes_rise i j from less to in
      let within = leaf_node_within j (omega arith, to) in
      let up = dist_up_right (leaf_node T i) (leaf_node T j) rise within in
      omega (arith, up, t.lengths_positive (leaf_node T j) (omega arith) within)

  -- the length of an edge, with the list as the code has it
  pub length_small : (lengths : List ℕ) → lengths ≡ T.lengths → (a : ℕ) → get_or lengths a 0 ≤ most_length
  length_small lengths ls a = rw ls (t.lengths_small a)

  pub below_step : (parents : List ℕ) → parents ≡ T.parents → (a start e : ℕ) → e < a → is_below T a e ≡ is_below T start e → is_below T (get_or parents a 0) e ≡ is_below T start e
  below_step parents ps a start e less so_far =
      let up : is_below T a e ≡ is_below T (parent T a) e = is_below-up a e (omega arith) ∙ ap (λ (b : Bool). b || is_below T (parent T a) e) (ne_eqb a e (λ same. omega (arith, same, less))) in
      rw ps (sym up ∙ so_far)

  pub below_here : (a start e : ℕ) → 1 ≤ e → a ≤ e → is_below T a e ≡ is_below T start e → (a == e) ≡ is_below T start e
  below_here a start e above least so_far = elim (cases_eq a e) [
    | inl same ↦ eq-eqb a e same ∙ sym (ap (λ (x : ℕ). is_below T a x) (sym same) ∙ is_below-same a (omega (arith, same, above))) ∙ so_far
    | inr apart ↦ ne_eqb a e apart ∙ sym (not_below a e (omega (arith, apart, least))) ∙ so_far
  ]

-- a leaf's node as the code reads it
pub read_leaf_within : (T : TreeValue) → IsTree T → (leaves : List ℕ) (U : TreeValue) (i r : ℕ) → leaves ≡ leaf_nodes T → T ≡ U → IsLeaf U i → r ≡ get_or leaves (i - 1) r → r < node_count U
read_leaf_within T t leaves U i r ls same leaf is =
    let leaf_here : IsLeaf T i = subst (λ (V : TreeValue). IsLeaf V i) (sym same) leaf in
    let short : i - 1 < length leaves = omega (arith, leaf_here.0, leaf_here.1, ap length ls) in
    let value : r ≡ leaf_node T i = is ∙ get_or_default leaves (i - 1) r 0 short ∙ ap (λ (l : List ℕ). get_or l (i - 1) 0) ls in
    subst (λ (V : TreeValue). r < node_count V) same (subst (λ (n : ℕ). n < node_count T) (sym value) (leaf_node_within T t i leaf_here))
