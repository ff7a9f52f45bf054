-- Lists that are built from the back of a table, and the cycles and chains that they are.
use Rattle.std.proofs.Common.{◌≡◌, ◌≢◌, ℕ, zero, suc, ◌+◌, ◌-◌, ◌<◌, ◌≤◌, List, [], ◌∷◌, ◌++◌, length, get_or, set, take, drop, refl, sym, ◌∙◌, ap, subst, arith}
use Rattle.std.specs.List.{All}
use Rattle.std.proofs.lemmas.List.{length-append, take-append-drop, length-take-le, length-drop, length-set, take_all, drop_more, drop-set, get_or_append_left, get_or-drop, get_or-take, get_or-set_same}
use Rattle.std.proofs.lemmas.List.Elements.{All-cons}
use Rattle.std.proofs.lemmas.List.Kept.{AllPairs-cons}
use Rattle.bp_base.specs.declared.point.Axis.{Axis}
use Rattle.bp_base.specs.declared.path.Step.{Step}
use Rattle.bp_base.specs.Chain.{IsChainList}
use Rattle.bp_base.specs.Limits.{most_number}
use Rattle.bp_base.specs.Tree.{TreeValue, IsTree, IsLeaf, leaf_count}
use Rattle.bp_metric.specs.Distance.{leaf_dist}
use Rattle.bp_metric.specs.Chains.{Places, IsChain, IsCycle, HasPairsOf, first_of, last_of}
use Rattle.bp_metric.specs.Coordinates.{IsLoop, IsLow, AreShown}
use Rattle.bp_metric.proofs.Lows.{AreLows, placed_leaves, few_leaves, chain_from_placed, last_more}
use Rattle.bp_metric.proofs.Cycles.{cycle_turned, all_turned, chain_front}
use Rattle.bp_metric.proofs.Shown.{shown_before, begins_zero}
use Rattle.bp_walks.specs.Lows.{places, ShowsLeaf}

abbrev at_leaf : List ℕ → ℕ → ℕ
at_leaf xs i = get_or xs i 0

-- Chains and cycles.

pub turned_list : (xs ys : List ℕ) (k : ℕ) → IsChainList xs → ys ≡ drop k xs ++ take k xs → IsChainList ys
turned_list xs ys k list is =
    let whole : take k xs ++ drop k xs ≡ xs = take-append-drop k xs in
    let all : All (λ i. i ≤ most_number) (drop k xs ++ take k xs) =
    all_turned (λ i. i ≤ most_number) (take k xs) (drop k xs) (subst (All (λ i. i ≤ most_number)) (sym whole) list.small) in
    let long : length ys ≡ length xs =
    omega (arith, ap length is, length-append (drop k xs) (take k xs), length-append (take k xs) (drop k xs), ap length whole) in
    record {
      some = omega (arith, long, list.some);
      short = omega (arith, long, list.short);
      small = subst (All (λ i. i ≤ most_number)) (sym is) all;
    }

module _ (n : ℕ) (path : List Step) (axis : Axis) where
  -- what a chain of few leaves can be kept as
  pub kept_chain : (xs : List ℕ) → n < places → IsChain n path axis xs → IsChainList xs
  kept_chain xs few c =
      record {
        some = c.some;
        short = omega (arith, few_leaves n xs c.are_leaves c.differ);
        small = λ k d less. omega (arith, (c.are_leaves k d less).1);
      }

  -- the part of a table from one place to another
  pub slice_cycle : (xs : List ℕ) (at q : ℕ) → IsCycle n path axis (take (q + 1) xs) → IsCycle n path axis (take (at + q + 1 - at) xs)
  slice_cycle xs at q cycle =
      let e : q + 1 ≡ at + q + 1 - at = omega arith in
      subst (λ (k : ℕ). IsCycle n path axis (take k xs)) e cycle

  pub turned_loop : (xs ys : List ℕ) (k : ℕ) → IsCycle n path axis xs → k < length xs → All (λ i. get_or xs k 0 ≤ i) xs → ys ≡ drop k xs ++ take k xs → IsLoop n path axis ys
  turned_loop xs ys k cycle within least is =
      let whole : take k xs ++ drop k xs ≡ xs = take-append-drop k xs in
      let there : IsCycle n path axis (drop k xs ++ take k xs) =
      cycle_turned n path axis (take k xs) (drop k xs) (subst (IsCycle n path axis) (sym whole) cycle) in
      let all : All (λ i. get_or xs k 0 ≤ i) (drop k xs ++ take k xs) =
      all_turned (λ i. get_or xs k 0 ≤ i) (take k xs) (drop k xs) (subst (All (λ i. get_or xs k 0 ≤ i)) (sym whole) least) in
      let none : k + 0 ≡ k = omega arith in
      let begins : get_or (drop k xs ++ take k xs) 0 0 ≡ get_or xs k 0 =
      get_or_append_left (drop k xs) (take k xs) 0 0 (omega (arith, length-drop k xs)) ∙ get_or-drop k xs 0 0 ∙ ap (λ (m : ℕ). get_or xs m 0) none in
      let loop : IsLoop n path axis (drop k xs ++ take k xs) =
      record { cycle = there; first = λ m d less. omega (arith, begins, all m d less) } in
      subst (IsLoop n path axis) (sym is) loop

  -- the chain grows by a leaf that isn't in it and is placed before its first
  chain_grows : (p x : ℕ) (xs : List ℕ) → (1 ≤ p) × (p ≤ n) → Places path axis p x → ((k : ℕ) → k < length (x ∷ xs) → get_or (x ∷ xs) k 0 ≡ p → ⊥) → IsChain n path axis (x ∷ xs) → IsChain n path axis (p ∷ x ∷ xs)
  chain_grows p x xs leaf placed new c =
      let apart : All (λ i. p ≢ i) (x ∷ xs) =
      λ k d less same. new k less (get_or_is (x ∷ xs) k d less ∙ sym same) in
      record {
        some = omega arith;
        are_leaves = All-cons (λ i. (1 ≤ i) × (i ≤ n)) p (x ∷ xs) leaf c.are_leaves;
        differ = AllPairs-cons (λ a b. a ≢ b) p (x ∷ xs) apart c.differ;
        placed = (placed, c.placed);
      }
    where
      get_or_is : (ys : List ℕ) (k d : ℕ) → k < length ys → get_or ys k 0 ≡ get_or ys k d
      get_or_is [] k d less = absurd (omega arith)
      get_or_is (y ∷ ys) zero d less = refl
      get_or_is (y ∷ ys) (suc k) d less = get_or_is ys k d (omega arith)

  front_cycle : (x : ℕ) (xs ys : List ℕ) (p : ℕ) → HasPairsOf n path → IsChain n path axis ((x ∷ xs) ++ ys) → last_of (x ∷ xs) ≡ p → Places path axis p x → IsCycle n path axis (x ∷ xs)
  front_cycle x [] ys p pairs c ends placed =
      let l = placed_leaves n path axis p x pairs placed in
      absurd (l.4 (sym ends))
  front_cycle x (y ∷ more) ys p pairs c ends placed =
      record {
        chain = chain_front n path axis x (y ∷ more) ys c;
        two = omega arith;
        closed = subst (λ (l : ℕ). Places path axis l x) (sym ends) placed;
      }

  -- a list from its front to the place of a leaf that is placed before its first
  pub cut_cycle : (xs : List ℕ) (q p : ℕ) → HasPairsOf n path → IsChain n path axis xs → q < length xs → get_or xs q 0 ≡ p → Places path axis p (get_or xs 0 0) → IsCycle n path axis (take (q + 1) xs)
  cut_cycle [] q p pairs c within is placed = absurd (omega arith)
  cut_cycle (x ∷ xs) q p pairs c within is placed =
      let whole : take (q + 1) (x ∷ xs) ++ drop (q + 1) (x ∷ xs) ≡ x ∷ xs = take-append-drop (q + 1) (x ∷ xs) in
      let next : q + 1 ≡ suc q = omega arith in
      let front : take (q + 1) (x ∷ xs) ≡ x ∷ take q xs = rw next refl in
      let long : length (x ∷ take q xs) - 1 ≡ q = omega (arith, length-take-le q xs (omega arith)) in
      let ends : last_of (x ∷ take q xs) ≡ p =
      ap (λ (m : ℕ). get_or (x ∷ take q xs) m 0) long
      ∙ ap (λ (l : List ℕ). get_or l q 0) (sym front)
      ∙ get_or-take (q + 1) (x ∷ xs) q 0 (omega arith)
      ∙ is in
      let c_too : IsChain n path axis ((x ∷ take q xs) ++ drop (q + 1) (x ∷ xs)) =
      subst (IsChain n path axis) (sym whole ∙ ap (λ (l : List ℕ). l ++ drop (q + 1) (x ∷ xs)) front) c in
      subst (IsCycle n path axis) (sym front) (front_cycle x (take q xs) (drop (q + 1) (x ∷ xs)) p pairs c_too ends placed)

-- what the table holds from place `at` on
pub head_of : (trail : List ℕ) (at : ℕ) → at < length trail → drop at trail ≡ get_or trail at 0 ∷ drop (at + 1) trail
head_of trail at within = drop_more trail at 0 within

pub pushed : (trail : List ℕ) (at p : ℕ) → 1 ≤ at → at ≤ length trail → drop (at - 1) (set trail (at - 1) p) ≡ p ∷ drop at trail
pushed trail at p from within =
    let next : at - 1 + 1 ≡ at = omega arith in
    drop-set trail (at - 1) p (omega arith) ∙ ap (λ (k : ℕ). p ∷ drop k trail) next

-- a chain of leaves at the back of the table, whose first is open
pub record IsTrail (n : ℕ) (path : List Step) (axis : Axis) (marks trail : List ℕ) (at : ℕ) : Type 0 where
  pub long : length trail ≡ places
  pub within : at < places
  pub chain : IsChain n path axis (drop at trail)
  pub is_open : 1 ≤ get_or marks (get_or trail at 0) 0

module _ (n : ℕ) (path : List Step) (axis : Axis) (marks : List ℕ) where
  one_chain : (i : ℕ) → (1 ≤ i) × (i ≤ n) → IsChain n path axis (i ∷ [])
  one_chain i leaf =
      record {
        some = omega arith;
        are_leaves = All-cons (λ k. (1 ≤ k) × (k ≤ n)) i [] leaf (λ k d less. absurd (omega arith));
        differ = λ k l d less within. absurd (omega arith);
        placed = tt;
      }

  pub trail_start : (trail : List ℕ) (start : ℕ) → length trail ≡ places → (1 ≤ start) × (start ≤ n) → 1 ≤ get_or marks start 0 → IsTrail n path axis marks (set trail 32 start) 32
  trail_start trail start long leaf is_open =
      let at_start : get_or (set trail 32 start) 32 0 ≡ start = get_or-set_same trail 32 start 0 (omega arith) in
      let none : drop 33 trail ≡ [] = nothing_left trail 33 (omega arith) in
      let one : drop 32 (set trail 32 start) ≡ start ∷ [] = drop-set trail 32 start (omega arith) ∙ ap (λ (l : List ℕ). start ∷ l) none in
      record {
        long = omega (arith, length-set trail 32 start);
        within = omega arith;
        chain = subst (IsChain n path axis) (sym one) (one_chain start leaf);
        is_open = subst (λ (i : ℕ). 1 ≤ get_or marks i 0) (sym at_start) is_open;
      }
    where
      nothing_left : (xs : List ℕ) (k : ℕ) → length xs ≤ k → drop k xs ≡ []
      nothing_left [] zero less = refl
      nothing_left [] (suc k) less = refl
      nothing_left (x ∷ xs) zero less = absurd (omega arith)
      nothing_left (x ∷ xs) (suc k) less = nothing_left xs k (omega arith)

  -- the first of the table's list is a leaf
  pub trail_leaf : (trail : List ℕ) (at : ℕ) → IsTrail n path axis marks trail at → (1 ≤ get_or trail at 0) × (get_or trail at 0 ≤ n)
  trail_leaf trail at is =
      let all = subst (All (λ i. (1 ≤ i) × (i ≤ n))) (head_of trail at (omega (arith, is.long, is.within))) is.chain.are_leaves in
      all 0 0 (omega arith)

  trail_part : (trail : List ℕ) (at : ℕ) → IsTrail n path axis marks trail at → take (33 - at) (drop at trail) ≡ drop at trail
  trail_part trail at is = take_all (33 - at) (drop at trail) (omega (arith, length-drop at trail, is.long))

  -- where the leaf that is placed before the first stands in the list, the list up to there is a cycle
  pub trail_cycle : (trail : List ℕ) (at q p : ℕ) → HasPairsOf n path → IsTrail n path axis marks trail at → Places path axis p (get_or trail at 0) → q < length (take (33 - at) (drop at trail)) → get_or (take (33 - at) (drop at trail)) q 0 ≡ p → IsCycle n path axis (take (at + q + 1 - at) (drop at trail))
  trail_cycle trail at q p pairs is placed within there =
      let first : get_or trail at 0 ≡ get_or (drop at trail) 0 0 =
      ap (λ (xs : List ℕ). get_or xs 0 0) (sym (head_of trail at (omega (arith, is.long, is.within)))) in
      slice_cycle n path axis (drop at trail) at q (cut_cycle n path axis (drop at trail) q p pairs is.chain (omega (arith, within, ap length (trail_part trail at is))) (ap (λ (xs : List ℕ). get_or xs q 0) (sym (trail_part trail at is)) ∙ there) (subst (λ (i : ℕ). Places path axis p i) first placed))

  -- a list that isn't whole has room in the table
  pub trail_more : (trail : List ℕ) (at p : ℕ) → n < places → HasPairsOf n path → IsTrail n path axis marks trail at → Places path axis p (get_or trail at 0) → 1 ≤ get_or marks p 0 → ((k : ℕ) → k < length (take (33 - at) (drop at trail)) → get_or (take (33 - at) (drop at trail)) k 0 ≡ p → ⊥) → (1 ≤ at) × IsTrail n path axis marks (set trail (at - 1) p) (at - 1)
  trail_more trail at p few pairs is placed is_open new_here =
      let new : (k : ℕ) → k < length (drop at trail) → get_or (drop at trail) k 0 ≡ p → ⊥ =
      λ k less same. new_here k (subst (λ (xs : List ℕ). k < length xs) (sym (trail_part trail at is)) less) (ap (λ (xs : List ℕ). get_or xs k 0) (trail_part trail at is) ∙ same) in
      let head = head_of trail at (omega (arith, is.long, is.within)) in
      let l = placed_leaves n path axis p (get_or trail at 0) pairs placed in
      let c : IsChain n path axis (p ∷ drop at trail) =
      subst (λ (xs : List ℕ). IsChain n path axis (p ∷ xs)) (sym head) (chain_grows n path axis p (get_or trail at 0) (drop (at + 1) trail) (l.0, l.1) placed (λ k less same. new k (subst (λ (xs : List ℕ). k < length xs) (sym head) less) (ap (λ (xs : List ℕ). get_or xs k 0) head ∙ same)) (subst (IsChain n path axis) head is.chain)) in
      let room : 1 ≤ at = omega (arith, few_leaves n (p ∷ drop at trail) c.are_leaves c.differ, length-drop at trail, is.long) in
      let at_p : get_or (set trail (at - 1) p) (at - 1) 0 ≡ p = get_or-set_same trail (at - 1) p 0 (omega (arith, is.long, is.within)) in (
        room,
        record {
          long = omega (arith, length-set trail (at - 1) p, is.long);
          within = omega (arith, is.within);
          chain = subst (IsChain n path axis) (sym (pushed trail at p room (omega (arith, is.long, is.within)))) c;
          is_open = subst (λ (i : ℕ). 1 ≤ get_or marks i 0) (sym at_p) is_open;
        },
      )

-- a chain at the back of the table that is shown for its last leaf
pub record IsShownTrail (T : TreeValue) (path : List Step) (axis : Axis) (last : ℕ) (trail : List ℕ) (at : ℕ) : Type 0 where
  pub long : length trail ≡ places
  pub within : at < places
  pub chain : IsChain (leaf_count T) path axis (drop at trail)
  pub ends : last_of (drop at trail) ≡ last
  pub shown : AreShown T path axis (drop at trail)

module _ (T : TreeValue) (t : IsTree T) (path : List Step) (pairs : HasPairsOf (leaf_count T) path) (axis : Axis) (f : ℕ → ℕ) (exact : AreLows T path axis f) where
  pub shown_start : (trail : List ℕ) (last : ℕ) → length trail ≡ places → IsLeaf T last → IsShownTrail T path axis last (set trail 32 last) 32
  shown_start trail last long leaf =
      let none : drop 33 trail ≡ [] = nothing_left trail 33 (omega arith) in
      let one : drop 32 (set trail 32 last) ≡ last ∷ [] = drop-set trail 32 last (omega arith) ∙ ap (λ (l : List ℕ). last ∷ l) none in
      record {
        long = omega (arith, length-set trail 32 last);
        within = omega arith;
        chain = subst (IsChain (leaf_count T) path axis) (sym one) (one_chain (leaf_count T) path axis [] last leaf);
        ends = ap last_of one;
        shown = subst (AreShown T path axis) (sym one) tt;
      }
    where
      nothing_left : (xs : List ℕ) (k : ℕ) → length xs ≤ k → drop k xs ≡ []
      nothing_left [] zero less = refl
      nothing_left [] (suc k) less = refl
      nothing_left (x ∷ xs) zero less = absurd (omega arith)
      nothing_left (x ∷ xs) (suc k) less = nothing_left xs k (omega arith)

  pub shown_leaf : (trail : List ℕ) (at last : ℕ) → IsShownTrail T path axis last trail at → IsLeaf T (get_or trail at 0)
  shown_leaf trail at last is =
      let all = subst (All (λ i. (1 ≤ i) × (i ≤ leaf_count T))) (head_of trail at (omega (arith, is.long, is.within))) is.chain.are_leaves in
      all 0 0 (omega arith)

  pub shown_more : (trail : List ℕ) (at last p : ℕ) → IsShownTrail T path axis last trail at → Places path axis p (get_or trail at 0) → f p + leaf_dist T p (get_or trail at 0) ≡ f (get_or trail at 0) → ((c : ℕ) → c < p → Places path axis c (get_or trail at 0) → f c + leaf_dist T c (get_or trail at 0) ≡ f (get_or trail at 0) → ⊥) → (1 ≤ at) × IsShownTrail T path axis last (set trail (at - 1) p) (at - 1)
  shown_more trail at last p is placed makes first =
      let x : ℕ = get_or trail at 0 in
      let rest : List ℕ = drop (at + 1) trail in
      let head : drop at trail ≡ x ∷ rest = head_of trail at (omega (arith, is.long, is.within)) in
      let l = placed_leaves (leaf_count T) path axis p x pairs placed in
      let old : IsChain (leaf_count T) path axis (x ∷ rest) = subst (IsChain (leaf_count T) path axis) head is.chain in
      let c_head : IsChain (leaf_count T) path axis (p ∷ x ∷ rest) =
      chain_from_placed T t path pairs axis f exact.meets p (x ∷ rest) (l.0, l.1) (placed, old.placed) in
      let c : IsChain (leaf_count T) path axis (p ∷ drop at trail) =
      subst (λ (xs : List ℕ). IsChain (leaf_count T) path axis (p ∷ xs)) (sym head) c_head in
      let room : 1 ≤ at = omega (arith, few_leaves (leaf_count T) (p ∷ drop at trail) c.are_leaves c.differ, length-drop at trail, is.long, t.leaves_few) in
      let whole = pushed trail at p room (omega (arith, is.long, is.within)) in
      let shown_old : AreShown T path axis (x ∷ rest) = subst (AreShown T path axis) head is.shown in
      let shown_new : AreShown T path axis (p ∷ x ∷ rest) = (shown_before T t path pairs axis f exact p x placed makes first, shown_old) in
      let ends_new : last_of (p ∷ x ∷ rest) ≡ last = last_more p x rest ∙ ap last_of (sym head) ∙ is.ends in (
        room,
        record {
          long = omega (arith, length-set trail (at - 1) p, is.long);
          within = omega (arith, is.within);
          chain = subst (IsChain (leaf_count T) path axis) (sym whole) c;
          ends = ap last_of whole ∙ ap (λ (xs : List ℕ). last_of (p ∷ xs)) head ∙ ends_new;
          shown = subst (AreShown T path axis) (sym whole) (subst (λ (xs : List ℕ). AreShown T path axis (p ∷ xs)) (sym head) shown_new);
        },
      )

  pub shown_whole : (trail : List ℕ) (at last : ℕ) (leaves : List ℕ) → IsShownTrail T path axis last trail at → leaves ≡ take (33 - at) (drop at trail) → ((a : ℕ) → Places path axis a (get_or trail at 0) → f a + leaf_dist T a (get_or trail at 0) ≡ f (get_or trail at 0) → ⊥) → ShowsLeaf T path axis last leaves
  shown_whole trail at last leaves is same none =
      let first : get_or (drop at trail) 0 0 ≡ get_or trail at 0 = ap (λ (xs : List ℕ). get_or xs 0 0) (head_of trail at (omega (arith, is.long, is.within))) in
      let begins : IsLow T path axis (first_of (drop at trail)) 0 =
      subst (λ (i : ℕ). IsLow T path axis i 0) (sym first) (begins_zero T t path pairs axis f exact (get_or trail at 0) (shown_leaf trail at last is) none) in
      let all : take (33 - at) (drop at trail) ≡ drop at trail = take_all (33 - at) (drop at trail) (omega (arith, length-drop at trail, is.long)) in
      let whole : ShowsLeaf T path axis last (drop at trail) = record { chain = is.chain; ends = is.ends; shown = is.shown; begins = begins } in
      subst (ShowsLeaf T path axis last) (sym (same ∙ all)) whole
