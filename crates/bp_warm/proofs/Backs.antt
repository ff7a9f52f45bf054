-- Back from the first leaf over the leaves that raised one another to the second.
use Rattle.std.proofs.Common.{◌≡◌, ◌≢◌, ℕ, zero, suc, ◌+◌, ◌-◌, ◌<◌, ◌≤◌, List, [], ◌∷◌, ◌++◌, length, get_or, set, take, drop, refl, sym, ◌∙◌, ap, subst, arith, inl}
use Rattle.std.specs.List.{All}
use Rattle.std.proofs.lemmas.List.{length-drop, length-set, take_all, drop-set, get_or-set_same}
use Rattle.bp_base.specs.declared.point.Axis.{Axis}
use Rattle.bp_base.specs.declared.path.Step.{Step}
use Rattle.bp_base.specs.Chain.{IsChainList}
use Rattle.bp_base.specs.Tree.{TreeValue, IsTree, IsLeaf, leaf_count}
use Rattle.bp_metric.specs.Chains.{PlacesBy, Places, ArePlaced, IsChain, IsCycle, HasPairsOf, first_of, last_of}
use Rattle.bp_metric.specs.Coordinates.{IsLoop}
use Rattle.bp_metric.proofs.Chains.{places_left, places_right}
use Rattle.bp_metric.proofs.Lows.{placed_leaves, few_leaves, chain_from_placed, last_more}
use Rattle.bp_walks.proofs.Trails.{head_of, pushed, kept_chain, turned_loop}
use Rattle.bp_warm.specs.Raising.{low_in, WorkValue, IsExact, IsWorking}

placed_longer : (path more : List Step) (axis : Axis) (xs : List ℕ) → ArePlaced path axis xs → ArePlaced (path ++ more) axis xs
placed_longer path more axis [] placed = tt
placed_longer path more axis (x ∷ []) placed = tt
placed_longer path more axis (x ∷ y ∷ xs) placed = (places_left path more axis x y placed.0, placed_longer path more axis (y ∷ xs) placed.1)

pub record IsBack (n : ℕ) (path : List Step) (axis : Axis) (a : ℕ) (work : WorkValue) (trail : List ℕ) (at : ℕ) : Type 0 where
  pub long : length trail ≡ 33
  pub within : at < 33
  pub chain : IsChain n path axis (drop at trail)
  pub ends : last_of (drop at trail) ≡ a
  pub moved : (k : ℕ) × (k < work.count) × (get_or work.moved k 0 ≡ get_or trail at 0)

module _ (T : TreeValue) (t : IsTree T) (path : List Step) (pairs : HasPairsOf (leaf_count T) path) (axis : Axis) (old : List ℕ) (exact : IsExact T path axis old) (a b : ℕ) (lows : List ℕ) (work : WorkValue) (is : IsWorking T path axis old a b lows work) where
  pub back_start : (trail : List ℕ) (last : ℕ) → length trail ≡ 33 → IsLeaf T a → ((k : ℕ) × (k < work.count) × (get_or work.moved k 0 ≡ last)) → Places path axis last a → IsBack (leaf_count T) path axis a work (set (set trail 32 a) 31 last) 31
  back_start trail last long leaf there placed =
      let l = placed_leaves (leaf_count T) path axis last a pairs placed in
      let none : drop 33 trail ≡ [] = nothing_left trail 33 (omega arith) in
      let one : drop 32 (set trail 32 a) ≡ a ∷ [] = drop-set trail 32 a (omega arith) ∙ ap (λ (xs : List ℕ). a ∷ xs) none in
      let two : drop 31 (set (set trail 32 a) 31 last) ≡ last ∷ a ∷ [] =
      drop-set (set trail 32 a) 31 last (omega (arith, length-set trail 32 a)) ∙ ap (λ (xs : List ℕ). last ∷ xs) one in
      let head : get_or (set (set trail 32 a) 31 last) 31 0 ≡ last = get_or-set_same (set trail 32 a) 31 last 0 (omega (arith, length-set trail 32 a)) in
      record {
        long = omega (arith, length-set (set trail 32 a) 31 last, length-set trail 32 a, long);
        within = omega arith;
        chain = subst (IsChain (leaf_count T) path axis) (sym two) (chain_from_placed T t path pairs axis (low_in old) exact.meets last (a ∷ []) (l.0, l.1) (placed, tt));
        ends = ap last_of two;
        moved = (there.0, there.1, there.2 ∙ sym head);
      }
    where
      nothing_left : (xs : List ℕ) (k : ℕ) → length xs ≤ k → drop k xs ≡ []
      nothing_left [] zero less = refl
      nothing_left [] (suc k) less = refl
      nothing_left (x ∷ xs) zero less = absurd (omega arith)
      nothing_left (x ∷ xs) (suc k) less = nothing_left xs k (omega arith)

  module _ (trail : List ℕ) (at : ℕ) (back : IsBack (leaf_count T) path axis a work trail at) where
    abbrev head : ℕ
    head = get_or trail at 0

    pub back_leaf : IsLeaf T head
    back_leaf = subst (IsLeaf T) back.moved.2 (is.leaf back.moved.0 back.moved.1)

    pub back_more : head ≢ b → (1 ≤ at) × IsBack (leaf_count T) path axis a work (set trail (at - 1) (get_or work.by head 0)) (at - 1)
    back_more differ =
        let p : ℕ = get_or work.by head 0 in
        let not_b : get_or work.moved back.moved.0 0 ≢ b = λ e. differ (sym back.moved.2 ∙ e) in
        let by_same : get_or work.by (get_or work.moved back.moved.0 0) 0 ≡ p = ap (λ (i : ℕ). get_or work.by i 0) back.moved.2 in
        let placed : Places path axis p head =
        subst (λ (i : ℕ). Places path axis p i) back.moved.2 (subst (λ (q : ℕ). Places path axis q (get_or work.moved back.moved.0 0)) by_same (is.placed back.moved.0 back.moved.1 not_b)) in
        let maker = is.maker back.moved.0 back.moved.1 not_b in
        let l = placed_leaves (leaf_count T) path axis p head pairs placed in
        let rest : List ℕ = drop (at + 1) trail in
        let whole : drop at trail ≡ head ∷ rest = head_of trail at (omega (arith, back.long, back.within)) in
        let old_chain : IsChain (leaf_count T) path axis (head ∷ rest) = subst (IsChain (leaf_count T) path axis) whole back.chain in
        let c_head : IsChain (leaf_count T) path axis (p ∷ head ∷ rest) =
        chain_from_placed T t path pairs axis (low_in old) exact.meets p (head ∷ rest) (l.0, l.1) (placed, old_chain.placed) in
        let c : IsChain (leaf_count T) path axis (p ∷ drop at trail) = subst (λ (xs : List ℕ). IsChain (leaf_count T) path axis (p ∷ xs)) (sym whole) c_head in
        let room : 1 ≤ at = omega (arith, few_leaves (leaf_count T) (p ∷ drop at trail) c.are_leaves c.differ, length-drop at trail, back.long, t.leaves_few) in
        let new = pushed trail at p room (omega (arith, back.long, back.within)) in
        let at_p : get_or (set trail (at - 1) p) (at - 1) 0 ≡ p = get_or-set_same trail (at - 1) p 0 (omega (arith, back.long, back.within)) in
        let ends : last_of (p ∷ drop at trail) ≡ a = ap (λ (xs : List ℕ). last_of (p ∷ xs)) whole ∙ last_more p head rest ∙ ap last_of (sym whole) ∙ back.ends in (
          room,
          record {
            long = omega (arith, length-set trail (at - 1) p, back.long);
            within = omega (arith, back.within);
            chain = subst (IsChain (leaf_count T) path axis) (sym new) c;
            ends = ap last_of new ∙ ends;
            moved = (maker.0, maker.1, maker.2 ∙ by_same ∙ sym at_p);
          },
        )

    -- at the second leaf the list is a cycle of the path with the step
    pub back_cycle : (s : Step) → head ≡ b → a ≢ b → PlacesBy axis a b s.pair s.choice → IsCycle (leaf_count T) (path ++ s ∷ []) axis (drop at trail)
    back_cycle s same differ by =
        let whole : drop at trail ≡ head ∷ drop (at + 1) trail = head_of trail at (omega (arith, back.long, back.within)) in
        let first : first_of (drop at trail) ≡ b = ap first_of whole ∙ same in
        let c = back.chain in
        let two : 2 ≤ length (drop at trail) = long_enough (drop at trail) c.some (λ e. differ (sym back.ends ∙ e ∙ first)) in
        record {
          chain = record { some = c.some; are_leaves = c.are_leaves; differ = c.differ; placed = placed_longer path (s ∷ []) axis (drop at trail) c.placed };
          two = two;
          closed = subst (λ (x : ℕ). Places (path ++ s ∷ []) axis x (first_of (drop at trail))) (sym back.ends) (subst (λ (y : ℕ). Places (path ++ s ∷ []) axis a y) (sym first) (places_right path (s ∷ []) axis a b (inl by)));
        }
      where
        long_enough : (xs : List ℕ) → 1 ≤ length xs → (last_of xs ≡ first_of xs → ⊥) → 2 ≤ length xs
        long_enough [] some apart = absurd (omega arith)
        long_enough (x ∷ []) some apart = absurd (apart refl)
        long_enough (x ∷ y ∷ xs) some apart = omega arith

    pub back_part : take (33 - at) (drop at trail) ≡ drop at trail
    back_part = take_all (33 - at) (drop at trail) (omega (arith, length-drop at trail, back.long))

    pub back_list : IsChainList (take (33 - at) (drop at trail))
    back_list = subst IsChainList (sym back_part) (kept_chain (leaf_count T) path axis (drop at trail) (omega (arith, t.leaves_few)) back.chain)

    pub back_loop : (s : Step) (result : List ℕ) (k : ℕ) → head ≡ b → a ≢ b → PlacesBy axis a b s.pair s.choice → k < length (take (33 - at) (drop at trail)) → result ≡ drop k (take (33 - at) (drop at trail)) ++ take k (take (33 - at) (drop at trail)) → All (λ i. get_or (take (33 - at) (drop at trail)) k 0 ≤ i) (take (33 - at) (drop at trail)) → IsLoop (leaf_count T) (path ++ s ∷ []) axis result
    back_loop s result k same differ by within is_turned least =
        turned_loop (leaf_count T) (path ++ s ∷ []) axis (take (33 - at) (drop at trail)) result k (subst (IsCycle (leaf_count T) (path ++ s ∷ []) axis) (sym back_part) (back_cycle s same differ by)) within least is_turned
