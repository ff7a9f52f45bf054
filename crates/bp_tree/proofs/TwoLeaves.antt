-- A tree whose root has two children has two leaves: fewer nodes are parents than there are edges.
use Rattle.std.proofs.Common.{◌≡◌, inl, inr, ℕ, zero, suc, ◌+◌, ◌<◌, ◌≤◌, Bool, true, false, cond, ◌==◌, ◌||◌, not, List, [], ◌∷◌, length, get_or, drop, filter, sum_by, count_by, refl, sym, ◌∙◌, ap, arith}
use Rattle.std.specs.List.{list_any, range_with_len}
use Rattle.std.proofs.lemmas.Bool.{cases_eq, eq-eqb, ne_eqb}
use Rattle.std.proofs.lemmas.List.{get_or-drop, length-drop}
use Rattle.std.proofs.lemmas.List.Sums.{sum_by-cons, length-filter}
use Rattle.std.proofs.lemmas.List.Filters.{length-filter_both}
use Rattle.std.proofs.lemmas.List.FromFn.{length-range_with_len}
use Rattle.bp_base.specs.Tree.{TreeValue, IsTree, parent, has_child, leaf_count}
use Rattle.bp_base.specs.Limits.{most_leaves}
use Rattle.bp_tree.specs.Edges.{IsGrowing, root_children, leaves_of}

sum_of_sums : (f g h : ℕ → ℕ) (xs : List ℕ) → ((x : ℕ) → f x ≡ g x + h x) → sum_by f xs ≡ sum_by g xs + sum_by h xs
sum_of_sums f g h [] each = refl
sum_of_sums f g h (x ∷ xs) each =
    omega (arith, sum_by-cons f x xs, sum_by-cons g x xs, sum_by-cons h x xs, each x, sum_of_sums f g h xs each)

sum_none : (f : ℕ → ℕ) (xs : List ℕ) → ((x : ℕ) → f x ≡ 0) → sum_by f xs ≡ 0
sum_none f [] each = refl
sum_none f (x ∷ xs) each = omega (arith, sum_by-cons f x xs, each x, sum_none f xs each)

sum_at_most : (f g : ℕ → ℕ) (xs : List ℕ) → ((x : ℕ) → f x ≤ g x) → sum_by f xs ≤ sum_by g xs
sum_at_most f g [] each = omega arith
sum_at_most f g (x ∷ xs) each = let ih = sum_at_most f g xs each in omega (arith, sum_by-cons f x xs, sum_by-cons g x xs, each x, ih)

-- 1 at p, and 0 elsewhere
abbrev at : ℕ → ℕ → ℕ
at p k = cond (p == k) 1 0

past : (p s n : ℕ) → p < s → sum_by (at p) (range_with_len s n) ≡ 0
past p s zero less = refl
past p s (suc n) less =
    let here : at p s ≡ 0 = rw (ne_eqb p s (omega arith)) in
    omega (arith, sum_by-cons (at p) s (range_with_len (s + 1) n), here, past p (s + 1) n (omega arith))

once : (p s n : ℕ) → s ≤ p → p < s + n → sum_by (at p) (range_with_len s n) ≡ 1
once p s zero from to = absurd (omega arith)
once p s (suc n) from to = elim (cases_eq p s) [
  | inl same ↦
      let here : at p s ≡ 1 = rw (eq-eqb p s same) in
      omega (arith, sum_by-cons (at p) s (range_with_len (s + 1) n), here, past p (s + 1) n (omega arith))
  | inr other ↦
      let here : at p s ≡ 0 = rw (ne_eqb p s other) in
      omega (arith, sum_by-cons (at p) s (range_with_len (s + 1) n), here, once p (s + 1) n (omega arith) (omega arith))
]

-- how often k stands in the list
abbrev often : List ℕ → ℕ → ℕ
often ps k = count_by (λ p. p == k) ps

all_counted : (n : ℕ) (ps : List ℕ) → ((k : ℕ) → k < length ps → get_or ps k 0 < n) → sum_by (often ps) (range_with_len 0 n) ≡ length ps
all_counted n [] small = sum_none (often []) (range_with_len 0 n) (λ k. refl)
all_counted n (p ∷ ps) small =
    let split = sum_of_sums (often (p ∷ ps)) (at p) (often ps) (range_with_len 0 n) (λ k. sum_by-cons (λ q. cond (q == k) 1 0) p ps) in
    let first : p < n = small 0 (omega arith) in
    let rest = all_counted n ps (λ k less. small (suc k) (omega arith)) in
    omega (arith, split, once p 0 n (omega arith) (omega (arith, first)), rest)

-- 1 where k stands in the list
abbrev once_if : List ℕ → ℕ → ℕ
once_if ps k = cond (list_any (λ p. p == k) ps) 1 0

abbrev bit : Bool → ℕ
bit b = cond b 1 0

stands : (q : ℕ → Bool) (ps : List ℕ) → cond (list_any q ps) 1 0 ≤ count_by q ps
stands q [] = omega arith
stands q (p ∷ ps) = go (q p) refl (stands q ps)
  where
    go : (b : Bool) → q p ≡ b → cond (list_any q ps) 1 0 ≤ count_by q ps → cond (q p || list_any q ps) 1 0 ≤ count_by q (p ∷ ps)
    go true is rest =
        let one : bit (q p) ≡ 1 = ap bit is in
        let left : bit (q p || list_any q ps) ≡ 1 = ap (λ (x : Bool). bit (x || list_any q ps)) is in
        omega (arith, sum_by-cons (λ x. cond (q x) 1 0) p ps, one, left)
    go false is rest =
        let none : bit (q p) ≡ 0 = ap bit is in
        let left : bit (q p || list_any q ps) ≡ bit (list_any q ps) = ap (λ (x : Bool). bit (x || list_any q ps)) is in
        omega (arith, sum_by-cons (λ x. cond (q x) 1 0) p ps, none, left, rest)

at_most_one : (b : Bool) → cond b 1 0 ≤ 1
at_most_one true = omega arith
at_most_one false = omega arith

-- how many numbers below n stand in a list in which 0 stands twice
few_parents : (n : ℕ) (ps : List ℕ) → ((k : ℕ) → k < length ps → get_or ps k 0 < n) → 2 ≤ often ps 0 → 0 < n → sum_by (once_if ps) (range_with_len 0 n) + 1 ≤ length ps
few_parents zero ps small twice some = absurd (omega arith)
few_parents (suc n) ps small twice some =
    let all = all_counted (suc n) ps small in
    let rest = sum_at_most (once_if ps) (often ps) (range_with_len 1 n) (λ k. stands (λ p. p == k) ps) in
    omega (arith, all, rest, sum_by-cons (often ps) 0 (range_with_len 1 n), sum_by-cons (once_if ps) 0 (range_with_len 1 n), at_most_one (list_any (λ p. p == 0) ps), twice)

module _ (T : TreeValue) (t : IsGrowing T) where
  below : (k : ℕ) → k < length (drop 1 T.parents) → get_or (drop 1 T.parents) k 0 < length T.parents
  below k less =
      let falls = t.parents_before (1 + k) (omega arith) (omega (arith, length-drop 1 T.parents)) in
      omega (arith, get_or-drop 1 T.parents k 0, falls, length-drop 1 T.parents)

  pub two_leaves : 2 ≤ root_children T → 2 ≤ leaf_count T
  two_leaves twice =
      let some : 0 < length T.parents = more_than_none T.parents twice in
      let few = few_parents (length T.parents) (drop 1 T.parents) below twice some in
      let both = length-filter_both (has_child T) (λ k. not (has_child T k)) (λ k. refl) (range_with_len 0 (length T.parents)) in
      let parents : length (filter (has_child T) (range_with_len 0 (length T.parents))) ≡ sum_by (once_if (drop 1 T.parents)) (range_with_len 0 (length T.parents)) = length-filter (has_child T) (range_with_len 0 (length T.parents)) in
      omega (arith, few, both, parents, length-range_with_len 0 (length T.parents), length-drop 1 T.parents)
    where
      more_than_none : (ps : List ℕ) → 2 ≤ often (drop 1 ps) 0 → 0 < length ps
      more_than_none [] two = absurd (omega arith)
      more_than_none (p ∷ ps) two = omega arith

  -- where there is an edge, the root has a child
  pub one_child : 2 ≤ length T.parents → 1 ≤ root_children T
  one_child some = go (drop 1 T.parents) (omega (arith, length-drop 1 T.parents)) first
    where
      first : get_or (drop 1 T.parents) 0 0 ≡ 0
      first = let falls : parent T 1 < 1 = t.parents_before 1 (omega arith) (omega (arith, some)) in omega (arith, get_or-drop 1 T.parents 0 0, falls)

      go : (ps : List ℕ) → 1 ≤ length ps → get_or ps 0 0 ≡ 0 → 1 ≤ often ps 0
      go [] more is = absurd (omega arith)
      go (p ∷ ps) more is =
          let one : at p 0 ≡ 1 = ap (λ (x : Bool). cond x 1 0) (eq-eqb p 0 is) in
          omega (arith, sum_by-cons (λ q. cond (q == 0) 1 0) p ps, one)

  -- what is grown is a tree where its root has two children and its leaves are few
  pub tree_grown : 2 ≤ root_children T → leaf_count T ≤ most_leaves → IsTree T
  tree_grown twice few = record {
    lengths_as_parents = t.lengths_as_parents;
    names_as_parents = t.names_as_parents;
    root_parent = t.root_parent;
    root_length = t.root_length;
    parents_before = t.parents_before;
    lengths_positive = t.lengths_positive;
    lengths_small = t.lengths_small;
    names_spelled = t.names_spelled;
    names_differ = t.names_differ;
    nodes = t.nodes;
    root_children = twice;
    leaves_enough = two_leaves twice;
    leaves_few = few;
  }

pub growing_tree : (T : TreeValue) → IsTree T → IsGrowing T
growing_tree T t = record {
  lengths_as_parents = t.lengths_as_parents;
  names_as_parents = t.names_as_parents;
  root_parent = t.root_parent;
  root_length = t.root_length;
  parents_before = t.parents_before;
  lengths_positive = t.lengths_positive;
  lengths_small = t.lengths_small;
  names_spelled = t.names_spelled;
  names_differ = t.names_differ;
  nodes = t.nodes;
}

-- the same, with the lists as the code has them
pub one_is : (T U : TreeValue) → U ≡ T → IsGrowing U → (ps : List ℕ) → ps ≡ U.parents → (n : ℕ) → n ≡ count_by (λ p. p == 0) (drop 1 ps) → n < 2 → 1 < length U.parents → root_children T ≡ 1
one_is T U view t ps is n counted few some =
    let here : n ≡ root_children U = counted ∙ ap (λ (qs : List ℕ). count_by (λ p. p == 0) (drop 1 qs)) is in
    let one : root_children U ≡ 1 = omega (arith, here, few, one_child U t (omega arith)) in
    ap root_children (sym view) ∙ one

pub tree_is : (U : TreeValue) → IsGrowing U → (ps qs : List ℕ) → ps ≡ U.parents → qs ≡ U.parents → (n m : ℕ) → n ≡ count_by (λ p. p == 0) (drop 1 ps) → m ≡ leaves_of qs → 2 ≤ n → m ≤ most_leaves → IsTree U
tree_is U t ps qs p_is q_is n m counted leaves more few =
    let here : n ≡ root_children U = counted ∙ ap (λ (rs : List ℕ). count_by (λ p. p == 0) (drop 1 rs)) p_is in
    let there : m ≡ leaf_count U = leaves ∙ ap leaves_of q_is in
    tree_grown U t (omega (arith, here, more)) (omega (arith, there, few))

pub some_nodes : (T : TreeValue) → IsTree T → 2 ≤ length T.parents
some_nodes T t = many T.parents t.root_children
  where
    many : (ps : List ℕ) → 2 ≤ often (drop 1 ps) 0 → 2 ≤ length ps
    many [] two = absurd (omega (arith, two))
    many (p ∷ []) two = absurd (omega (arith, two))
    many (p ∷ q ∷ ps) two = omega arith
