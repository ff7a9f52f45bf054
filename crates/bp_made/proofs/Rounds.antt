-- What each round keeps, and how many leaves stand after it.
use Rattle.std.proofs.Common.{◌≡◌, ◌≢◌, inl, inr, ℕ, zero, suc, ◌+◌, ◌-◌, ◌*◌, ◌%◌, ◌^◌, ◌<◌, ◌≤◌, Bool, true, false, ◌==◌, List, [], ◌∷◌, ◌++◌, length, map, get_or, drop, All, AllPairs, refl, sym, ◌∙◌, ap, subst, cond, arith, length-append}
use Rattle.std.specs.Prelude.{count_by, if◌then◌else◌}
use Rattle.std.specs.List.{range_with_len}
use Rattle.std.proofs.Math.Nat.{mod-lt}
use Rattle.std.proofs.Math.Seq.{get_or-append_seam}
use Rattle.std.proofs.lemmas.Bool.{cases_eq, cases_lt}
use Rattle.std.proofs.lemmas.List.{drop-append-le, get_or_append_left, get_or_past}
use Rattle.std.proofs.lemmas.List.FromFn.{length-map-range_with_len, map-range_with_len_more}
use Rattle.std.proofs.lemmas.List.Sums.{sum_by-append}
use Rattle.bp_base.specs.Generator.{drawn, next_state}
use Rattle.bp_base.specs.Name.{IsName}
use Rattle.bp_base.specs.Tree.{IsTree, TreeValue, has_child, leaf_count}
use Rattle.bp_made.specs.Made.{CanGrow, Growing, IsMade, after_rounds, grown, node_name, with_child, with_children}
use Rattle.bp_made.proofs.Leaves.{first_child, has_child_now, second_child}
use Rattle.bp_made.proofs.Names.{names_differ, names_spelled}

record Fine (T : TreeValue) : Type 0 where
  some : 0 < length T.parents
  lengths_too : length T.lengths ≡ length T.parents
  names_are : T.names ≡ map node_name (range_with_len 0 (length T.parents))
  root_parent : get_or T.parents 0 0 ≡ 0
  root_length : get_or T.lengths 0 0 ≡ 0
  before : (k : ℕ) → 0 < k → k < length T.parents → get_or T.parents k 0 < k
  positive : (k : ℕ) → 0 < k → k < length T.parents → 1 ≤ get_or T.lengths k 0
  small : (k : ℕ) → get_or T.lengths k 0 ≤ 9

at_end : (xs : List ℕ) (y k : ℕ) → k ≡ length xs → get_or (xs ++ y ∷ []) k 0 ≡ y
at_end xs y k e = ap (λ (n : ℕ). get_or (xs ++ y ∷ []) n 0) e ∙ get_or-append_seam xs y [] 0

abbrev with_node : TreeValue → ℕ → ℕ → TreeValue
with_node T v l = record {
  parents = T.parents ++ v ∷ [];
  lengths = T.lengths ++ l ∷ [];
  names = T.names ++ node_name (length T.parents) ∷ [];
}

module _ (T : TreeValue) (v l : ℕ) (f : Fine T) (there : v < length T.parents) (low : 1 ≤ l) (high : l ≤ 9) where
  long : length (T.parents ++ v ∷ []) ≡ length T.parents + 1
  long = length-append T.parents (v ∷ [])

  lengths_long : length (T.lengths ++ l ∷ []) ≡ length T.lengths + 1
  lengths_long = length-append T.lengths (l ∷ [])

  names_more : T.names ++ node_name (length T.parents) ∷ [] ≡ map node_name (range_with_len 0 (length (T.parents ++ v ∷ [])))
  names_more =
      ap (λ (ns : List (List ℕ)). ns ++ node_name (length T.parents) ∷ []) f.names_are ∙ sym (map-range_with_len_more node_name 0 (length T.parents) (length T.parents) (omega arith)) ∙ ap (λ (n : ℕ). map node_name (range_with_len 0 n)) (sym long)

  node_fine : Fine (with_node T v l)
  node_fine = record {
    some = omega (arith, long);
    lengths_too = omega (arith, long, lengths_long, f.lengths_too);
    names_are = names_more;
    root_parent = get_or_append_left T.parents (v ∷ []) 0 0 f.some ∙ f.root_parent;
    root_length = get_or_append_left T.lengths (l ∷ []) 0 0 (omega (arith, f.some, f.lengths_too)) ∙ f.root_length;
    before = λ k above within. elim (cases_lt k (length T.parents)) [
      | inl less ↦ omega (arith, get_or_append_left T.parents (v ∷ []) 0 k less, f.before k above less)
      | inr past ↦ omega (arith, at_end T.parents v k (omega (arith, long)), there)
    ];
    positive = λ k above within. elim (cases_lt k (length T.parents)) [
      | inl less ↦ omega (arith, get_or_append_left T.lengths (l ∷ []) 0 k (omega (arith, less, f.lengths_too)), f.positive k above less)
      | inr past ↦ omega (arith, at_end T.lengths l k (omega (arith, long, f.lengths_too)))
    ];
    small = λ k. elim (cases_lt k (length T.lengths)) [
      | inl less ↦ omega (arith, get_or_append_left T.lengths (l ∷ []) 0 k less, f.small k)
      | inr past ↦ elim (cases_eq k (length T.lengths)) [
        | inl is ↦ omega (arith, at_end T.lengths l k is)
        | inr apart ↦ omega (arith, get_or_past (T.lengths ++ l ∷ []) k 0 (omega (arith, lengths_long)))
      ]
    ];
  }

abbrev root_children : List ℕ → ℕ
root_children ps = count_by (λ p. p == 0) (drop 1 ps)

more_children : (ps : List ℕ) (v : ℕ) → 0 < length ps → root_children ps ≤ root_children (ps ++ v ∷ [])
more_children ps v some =
    let e : drop 1 (ps ++ v ∷ []) ≡ drop 1 ps ++ v ∷ [] = drop-append-le 1 ps (v ∷ []) (omega arith) in
    let f = sum_by-append (λ (p : ℕ). cond (p == 0) 1 0) (drop 1 ps) (v ∷ []) in
    omega (arith, ap (count_by (λ p. p == 0)) e, f)

-- what stands after k rounds
pub record IsRound (k : ℕ) (T : TreeValue) : Type 0 where
  fine : Fine T
  low : 3 ≤ length T.parents
  high : length T.parents ≤ 3 + 2 * k
  children : 2 ≤ root_children T.parents
  leaves : leaf_count T ≡ k + 2

below : (T : TreeValue) → Fine T → (k : ℕ) → 0 < k → k < length T.parents → get_or T.parents k 0 < length T.parents
below T f k above within = omega (arith, f.before k above within)

module _ (k : ℕ) (T : TreeValue) (v l m : ℕ) (r : IsRound k T) (there : v < length T.parents) (low : 1 ≤ l) (high : l ≤ 9) (low' : 1 ≤ m) (high' : m ≤ 9) where
  one_more : has_child T v ≡ true → IsRound (suc k) (with_node T v l)
  one_more held = record {
    fine = node_fine T v l r.fine there low high;
    low = omega (arith, r.low, length-append T.parents (v ∷ []));
    high = omega (arith, r.high, length-append T.parents (v ∷ []));
    children = omega (arith, r.children, more_children T.parents v r.fine.some);
    leaves = omega (arith, r.leaves, second_child T.parents v r.fine.some (below T r.fine) there held);
  }

  two_more : has_child T v ≡ false → IsRound (suc k) (with_node (with_node T v l) v m)
  two_more lost =
      let U : TreeValue = with_node T v l in
      let u : Fine U = node_fine T v l r.fine there low high in
      let long = length-append T.parents (v ∷ []) in
      let there' : v < length U.parents = omega (arith, long) in
      let longer = length-append U.parents (v ∷ []) in
      let one = first_child T.parents v r.fine.some (below T r.fine) there lost in
      let held = has_child_now T.parents v r.fine.some (below T r.fine) there in
      record {
        fine = node_fine U v m u there' low' high';
        low = omega (arith, r.low, long, longer);
        high = omega (arith, r.high, long, longer);
        children = omega (arith, r.children, more_children T.parents v r.fine.some, more_children U.parents v u.some);
        leaves = omega (arith, r.leaves, one, second_child U.parents v u.some (below U u) there' held);
      }

length_low : (s : ℕ) → 1 ≤ drawn s % 9 + 1
length_low s = omega arith

length_high : (s : ℕ) → drawn s % 9 + 1 ≤ 9
length_high s = omega (arith, mod-lt (drawn s) {m = 9} (omega arith))

pub round_kept : (k : ℕ) (g : Growing) → IsRound k g.tree → IsRound (suc k) (grown g).tree
unfolding grown
round_kept k g r = by_child (has_child g.tree v) refl
  where
    v : ℕ
    v = drawn g.state % length g.tree.parents

    h : Growing
    h = record { tree = g.tree; state = next_state g.state }

    there : v < length g.tree.parents
    there = mod-lt (drawn g.state) r.fine.some

    by_child : (b : Bool) → has_child g.tree v ≡ b → IsRound (suc k) (if b then with_child v h else with_children v h).tree
    by_child true e = one_more k g.tree v (drawn h.state % 9 + 1) 1 r there (length_low h.state) (length_high h.state) (omega arith) (omega arith) e
    by_child false e = two_more k g.tree v (drawn h.state % 9 + 1) (drawn (next_state h.state) % 9 + 1) r there (length_low h.state) (length_high h.state) (length_low (next_state h.state)) (length_high (next_state h.state)) e

begun : (seed : ℕ) → IsRound 0 (after_rounds seed 0).tree
unfolding after_rounds
begun seed =
    let T : TreeValue = record { parents = 0 ∷ []; lengths = 0 ∷ []; names = node_name 0 ∷ [] } in
    let f : Fine T = record {
      some = omega arith;
      lengths_too = refl;
      names_are = refl;
      root_parent = refl;
      root_length = refl;
      before = λ k above within. absurd (omega arith);
      positive = λ k above within. absurd (omega arith);
      small = small_root;
    } in
    let a : ℕ = drawn seed % 9 + 1 in
    let b : ℕ = drawn (next_state seed) % 9 + 1 in
    let one = node_fine T 0 a f (omega arith) (length_low seed) (length_high seed) in
    record {
      fine = node_fine (with_node T 0 a) 0 b one (omega arith) (length_low (next_state seed)) (length_high (next_state seed));
      low = omega arith;
      high = omega arith;
      children = omega arith;
      leaves = refl;
    }
  where
    small_root : (k : ℕ) → get_or (0 ∷ []) k 0 ≤ 9
    small_root zero = omega arith
    small_root (suc k) = omega (arith, get_or_past {X = ℕ} [] k 0 (omega arith))

pub round : (seed k : ℕ) → IsRound k (after_rounds seed k).tree
unfolding after_rounds
round seed zero = begun seed
round seed (suc k) = round_kept k (after_rounds seed k) (round seed k)

state_grown : (g : Growing) → (grown g).state < 2 ^ 32
unfolding grown
state_grown g = by_child (has_child g.tree v)
  where
    v : ℕ
    v = drawn g.state % length g.tree.parents

    h : Growing
    h = record { tree = g.tree; state = next_state g.state }

    small : (s : ℕ) → next_state s < 2 ^ 32
    small s = omega (arith, mod-lt (s * 1103515245 + 12345) {m = 2147483648} (omega arith))

    by_child : (b : Bool) → (if b then with_child v h else with_children v h).state < 2 ^ 32
    by_child true = small h.state
    by_child false = small (next_state h.state)

pub can_grow : (seed k : ℕ) → CanGrow (after_rounds seed k)
unfolding after_rounds
can_grow seed zero = record {
  some = (round seed zero).fine.some;
  state = omega (arith, mod-lt (next_state seed * 1103515245 + 12345) {m = 2147483648} (omega arith));
}
can_grow seed (suc k) = record {
  some = (round seed (suc k)).fine.some;
  state = state_grown (after_rounds seed k);
}

pub is_tree : (k : ℕ) (T : TreeValue) → k ≤ 14 → IsRound k T → IsTree T
is_tree k T few r =
    let f = r.fine in
    let n : ℕ = length T.parents in
    let small : n < 2 ^ 64 = omega (arith, r.high) in
    record {
      lengths_as_parents = f.lengths_too;
      names_as_parents = ap length f.names_are ∙ length-map-range_with_len node_name 0 n;
      root_parent = f.root_parent;
      root_length = f.root_length;
      parents_before = f.before;
      lengths_positive = f.positive;
      lengths_small = λ j. omega (arith, f.small j);
      names_spelled = subst (All IsName) (sym f.names_are) (names_spelled n small);
      names_differ = subst (AllPairs (λ a b. a ≢ b)) (sym f.names_are) (names_differ n small);
      nodes = omega (arith, r.high);
      root_children = r.children;
      leaves_enough = omega (arith, r.leaves);
      leaves_few = omega (arith, r.leaves);
    }

pub made : (leaves seed k : ℕ) → k + 2 ≡ leaves → IsMade leaves seed (after_rounds seed k).tree
made leaves seed k e = record {
  rounds = k;
  tree = refl;
  enough = omega (arith, (round seed k).leaves);
  before = λ j less. omega (arith, (round seed j).leaves);
}

pub some_made : (leaves seed : ℕ) → 2 ≤ leaves → (T : TreeValue) × IsMade leaves seed T
some_made leaves seed low =
    ((after_rounds seed (leaves - 2)).tree, made leaves seed (leaves - 2) (omega arith))

same_rounds : (leaves seed : ℕ) (T U : TreeValue) (m : IsMade leaves seed T) (n : IsMade leaves seed U) → m.rounds ≡ n.rounds
same_rounds leaves seed T U m n = elim (cases_lt m.rounds n.rounds) [
  | inl less ↦ absurd (omega (arith, n.before m.rounds less, m.enough, ap leaf_count m.tree))
  | inr more ↦ elim (cases_eq m.rounds n.rounds) [
    | inl is ↦ is
    | inr apart ↦ absurd (omega (arith, m.before n.rounds (omega (arith, more, apart)), n.enough, ap leaf_count n.tree))
  ]
]

pub one_made : (leaves seed : ℕ) (T U : TreeValue) → IsMade leaves seed T → IsMade leaves seed U → T ≡ U
one_made leaves seed T U m n =
    m.tree ∙ ap (λ (k : ℕ). (after_rounds seed k).tree) (same_rounds leaves seed T U m n) ∙ sym n.tree

pub made_leaves : (leaves seed : ℕ) (T : TreeValue) → 2 ≤ leaves → IsMade leaves seed T → leaf_count T ≡ leaves
made_leaves leaves seed T low m =
    let e = one_made leaves seed T (after_rounds seed (leaves - 2)).tree m (made leaves seed (leaves - 2) (omega arith)) in
    omega (arith, ap leaf_count e, (round seed (leaves - 2)).leaves)
