-- How a row is raised leaf by leaf, and that it is exact in the end.
use Rattle.std.proofs.Common.{◌≡◌, ◌≢◌, ℕ, zero, suc, ◌+◌, ◌-◌, ◌<◌, ◌≤◌, ◌⊎◌, List, [], ◌∷◌, ◌++◌, length, get_or, set, sum, take, refl, sym, ◌∙◌, ap, subst, arith, inl, inr}
use Rattle.std.specs.List.{All, AllPairs}
use Rattle.std.proofs.lemmas.List.{length-set, length-take-le, get_or-set_same, get_or-set_other, get_or-take, get_or_default}
use Rattle.std.proofs.lemmas.List.Elements.{All-from_get_or}
use Rattle.std.proofs.lemmas.List.Sums.{sum_by-set}
use Rattle.std.proofs.lemmas.Bool.{cases_eq}
use Rattle.bp_base.specs.declared.point.Axis.{Axis}
use Rattle.bp_base.specs.declared.path.Step.{Step}
use Rattle.bp_base.specs.Tree.{TreeValue, IsTree, IsLeaf, leaf_count}
use Rattle.bp_metric.specs.Distance.{leaf_dist}
use Rattle.bp_metric.specs.Chains.{PlacesBy, Places, HasPairsOf}
use Rattle.bp_metric.proofs.Chains.{places_left, places_right, places_cases, places_one}
use Rattle.bp_metric.proofs.Lows.{AreLows, placed_leaves, few_leaves}
use Rattle.bp_warm.specs.Raising.{low_in, IsRaising, IsRelaxed}
use Rattle.bp_walks.specs.Lows.{places}

-- one of the first numbers of a list is this one, or none is
pub find : (xs : List ℕ) (i count : ℕ) → ((k : ℕ) × (k < count) × (get_or xs k 0 ≡ i)) ⊎ ((k : ℕ) → k < count → get_or xs k 0 ≢ i)
find xs i zero = inr (λ k less. absurd (omega arith))
find xs i (suc n) = elim (cases_eq (get_or xs n 0) i) [
  | inl same ↦ inl (n, omega arith, same)
  | inr apart ↦ elim (find xs i n) [
    | inl there ↦ inl (there.0, omega (arith, there.1), there.2)
    | inr none ↦ inr (λ k less. elim (cases_eq k n) [
      | inl last ↦ λ same. apart (ap (λ (p : ℕ). get_or xs p 0) (sym last) ∙ same)
      | inr before ↦ none k (omega arith)
    ])
  ]
]

module _ (T : TreeValue) (t : IsTree T) (path : List Step) (pairs : HasPairsOf (leaf_count T) path) (axis : Axis) (old : List ℕ) (exact : AreLows T path axis (low_in old)) (a b : ℕ) where
  -- a row with one coordinate changed
  low_same : (lows : List ℕ) (w r : ℕ) → length lows ≡ leaf_count T → IsLeaf T w → low_in (set lows (w - 1) r) w ≡ r
  low_same lows w r each leaf = get_or-set_same lows (w - 1) r 0 (omega (arith, leaf.0, leaf.1))

  low_other : (lows : List ℕ) (w r i : ℕ) → IsLeaf T w → 1 ≤ i → i ≢ w → low_in (set lows (w - 1) r) i ≡ low_in lows i
  low_other lows w r i leaf from apart = get_or-set_other lows (w - 1) (i - 1) r 0 (λ same. apart (omega (arith, leaf.0)))

  pub begin : (by moved : List ℕ) (d : ℕ) → length old ≡ leaf_count T → length by ≡ places → length moved ≡ places → IsLeaf T a → IsLeaf T b → a ≢ b → d ≡ leaf_dist T a b → low_in old b < low_in old a + d → IsRaising T path axis old a b (set old (b - 1) (low_in old a + d)) by (set moved 0 b) 1
  begin by moved d each each_by each_moved leaf_a leaf_b differ is more =
      let one : get_or (set moved 0 b) 0 0 ≡ b = get_or-set_same moved 0 b 0 (omega arith) in
      let at_k : (k : ℕ) → k < 1 → get_or (set moved 0 b) k 0 ≡ b =
      λ k less. let e : k ≡ 0 = omega arith in ap (λ (p : ℕ). get_or (set moved 0 b) p 0) e ∙ one in
      let low_b : low_in (set old (b - 1) (low_in old a + d)) b ≡ low_in old a + d = low_same old b (low_in old a + d) each leaf_b in
      record {
        each_old = each;
        each = omega (arith, length-set old (b - 1) (low_in old a + d), each);
        each_by = each_by;
        each_moved = omega (arith, length-set moved 0 b, each_moved);
        some = omega arith;
        leaf = λ k less. subst (IsLeaf T) (sym (at_k k less)) leaf_b;
        apart = λ k l less within. absurd (omega arith);
        not_first = λ k less same. differ (sym same ∙ at_k k less);
        higher = λ k less. omega (arith, ap (low_in old) (at_k k less), ap (low_in (set old (b - 1) (low_in old a + d))) (at_k k less), low_b, more);
        still = λ i leaf none. low_other old b (low_in old a + d) i leaf_b leaf.0 (λ same. none 0 (omega arith) (one ∙ sym same));
        second = (0, omega arith, one);
        second_low = low_b ∙ ap (λ (x : ℕ). low_in old a + x) is;
        maker = λ k less apart. absurd (apart (at_k k less));
        placed = λ k less apart. absurd (apart (at_k k less));
        made = λ k less apart. absurd (apart (at_k k less));
        small = λ k less. omega (arith, ap (low_in old) (at_k k less), ap (low_in (set old (b - 1) (low_in old a + d))) (at_k k less), low_b, is);
      }

  module _ (lows by moved : List ℕ) (count : ℕ) (is : IsRaising T path axis old a b lows by moved count) where
    abbrev low : ℕ → ℕ
    low i = low_in lows i

    abbrev was : ℕ → ℕ
    was i = low_in old i

    abbrev at : ℕ → ℕ
    at k = get_or moved k 0

    -- no leaf falls
    pub no_lower : (i : ℕ) → IsLeaf T i → was i ≤ low i
    no_lower i leaf = elim (find moved i count) [
      | inl there ↦ omega (arith, is.higher there.0 there.1, ap low there.2, ap was there.2)
      | inr none ↦ omega (arith, is.still i leaf none)
    ]

    -- there are at most 32 moved leaves
    pub few_moved : count ≤ 33 → count < 33
    few_moved room =
        let leaves : All (λ i. (1 ≤ i) × (i ≤ leaf_count T)) (take count moved) = All-from_get_or (λ i. (1 ≤ i) × (i ≤ leaf_count T)) (take count moved) 0 (λ k less. let within : k < count = omega (arith, length-take-le count moved (omega (arith, is.each_moved))) in subst (λ (i : ℕ). (1 ≤ i) × (i ≤ leaf_count T)) (sym (get_or-take count moved k 0 within)) (is.leaf k within)) in
        let differ : AllPairs (λ x y. x ≢ y) (take count moved) = λ k l d less within same.
        let long = length-take-le count moved (omega (arith, is.each_moved)) in
        is.apart k l less (omega (arith, long)) (sym (get_or-take count moved k 0 (omega (arith, long))) ∙ get_or_default (take count moved) k 0 d (omega arith) ∙ same ∙ get_or_default (take count moved) l d 0 within ∙ get_or-take count moved l 0 (omega (arith, long))) in
        omega (arith, few_leaves (leaf_count T) (take count moved) leaves differ, length-take-le count moved (omega (arith, is.each_moved)), t.leaves_few)

    -- b isn't raised again, and raising stays small
    raised_small : (k w : ℕ) → k < count → Places path axis (at k) w → low (at k) + leaf_dist T (at k) w + was b ≤ was w + was a + leaf_dist T a b
    raised_small k w less placed = omega (arith, is.small k less, exact.meets (at k) w placed)

    pub not_second : (k w : ℕ) → k < count → Places path axis (at k) w → low w < low (at k) + leaf_dist T (at k) w → w ≢ b
    not_second k w less placed more same =
        omega (arith, raised_small k w less placed, ap was same, ap low same, is.second_low)

    module _ (u w r : ℕ) (k_u : ℕ) (u_less : k_u < count) (u_is : at k_u ≡ u) (placed_w : Places path axis u w) (r_is : r ≡ low u + leaf_dist T u w) (more : low w < r) (w_not_first : w ≢ a) where
      u_leaves : (1 ≤ u) × (u ≤ leaf_count T) × (1 ≤ w) × (w ≤ leaf_count T) × (u ≢ w)
      u_leaves = placed_leaves (leaf_count T) path axis u w pairs placed_w

      w_leaf : IsLeaf T w
      w_leaf = (u_leaves.2, u_leaves.3)

      placed_here : Places path axis (at k_u) w
      placed_here = subst (λ (i : ℕ). Places path axis i w) (sym u_is) placed_w

      w_not_second : w ≢ b
      w_not_second = not_second k_u w u_less placed_here (omega (arith, more, r_is, ap low u_is, ap (λ (i : ℕ). leaf_dist T i w) u_is))

      r_small : r + was b ≤ was w + was a + leaf_dist T a b
      r_small = omega (arith, raised_small k_u w u_less placed_here, r_is, ap low u_is, ap (λ (i : ℕ). leaf_dist T i w) u_is)

      abbrev new : List ℕ
      new = set lows (w - 1) r

      new_w : low_in new w ≡ r
      new_w = low_same lows w r is.each w_leaf

      new_other : (i : ℕ) → 1 ≤ i → i ≢ w → low_in new i ≡ low i
      new_other i from apart = low_other lows w r i w_leaf from apart

      pub new_more : (i : ℕ) → 1 ≤ i → low i ≤ low_in new i
      new_more i from = elim (cases_eq i w) [
        | inl same ↦ omega (arith, ap (low_in new) same, ap low same, new_w, more)
        | inr apart ↦ omega (arith, new_other i from apart)
      ]

      pub risen_sum : sum lows < sum new
      risen_sum =
          omega (arith, sum_by-set (λ (x : ℕ). x) lows (w - 1) r 0 (omega (arith, is.each, u_leaves.2, u_leaves.3)), more)

      pub u_same : low_in new u ≡ low u
      u_same = new_other u u_leaves.0 u_leaves.4

      pub met_here : low_in new u + leaf_dist T u w ≤ low_in new w
      met_here = omega (arith, new_w, r_is, new_other u u_leaves.0 u_leaves.4)

      by_w : get_or (set by w u) w 0 ≡ u
      by_w = get_or-set_same by w u 0 (omega (arith, is.each_by, u_leaves.3, t.leaves_few))

      by_other : (i : ℕ) → i ≢ w → get_or (set by w u) i 0 ≡ get_or by i 0
      by_other i apart = get_or-set_other by w i u 0 apart

      -- what is said of each moved leaf, where w is one of them, or is added
      module _ (moved' : List ℕ) (count' : ℕ) (each_moved' : length moved' ≡ places) (from_old : (k : ℕ) → k < count → (k < count') × (get_or moved' k 0 ≡ at k)) (to_old : (k : ℕ) → k < count' → (get_or moved' k 0 ≡ w) ⊎ ((k < count) × (get_or moved' k 0 ≡ at k))) (apart' : (k l : ℕ) → k < l → l < count' → get_or moved' k 0 ≢ get_or moved' l 0) (w_there : (k : ℕ) × (k < count') × (get_or moved' k 0 ≡ w)) where
        abbrev at' : ℕ → ℕ
        at' k = get_or moved' k 0

        maker_at : (i : ℕ) → ((l : ℕ) × (l < count) × (at l ≡ i)) → (l : ℕ) × (l < count') × (at' l ≡ i)
        maker_at i l = let f = from_old l.0 l.1 in (l.0, f.0, f.1 ∙ l.2)

        -- a fact of each leaf that is moved now: of w, and of those moved before
        each_moved_leaf : (P : ℕ → Type 0) → P w → ((k : ℕ) → k < count → at k ≢ w → P (at k)) → (k : ℕ) → k < count' → P (at' k)
        each_moved_leaf P here before k less = elim (cases_eq (at' k) w) [
          | inl same ↦ subst P (sym same) here
          | inr apart ↦ elim (to_old k less) [
            | inl same ↦ absurd (apart same)
            | inr there ↦ subst P (sym there.1) (before k there.0 (λ same. apart (there.1 ∙ same)))
          ]
        ]

        pub raised : IsRaising T path axis old a b new (set by w u) moved' count'
        raised =
            record {
              each_old = is.each_old;
              each = omega (arith, length-set lows (w - 1) r, is.each);
              each_by = omega (arith, length-set by w u, is.each_by);
              each_moved = each_moved';
              some = omega (arith, w_there.1);
              leaf = each_moved_leaf (IsLeaf T) w_leaf (λ k less apart. is.leaf k less);
              apart = apart';
              not_first = each_moved_leaf (λ i. i ≢ a) w_not_first (λ k less apart. is.not_first k less);
              higher = each_moved_leaf (λ i. was i < low_in new i) (omega (arith, new_w, more, no_lower w w_leaf)) (λ k less apart. omega (arith, is.higher k less, new_other (at k) (is.leaf k less).0 apart));
              still = λ i leaf none.
                  let apart : i ≢ w = λ same. none w_there.0 w_there.1 (w_there.2 ∙ sym same) in
                  new_other i leaf.0 apart ∙ is.still i leaf (λ k less same. let f = from_old k less in none k f.0 (f.1 ∙ same));
              second = maker_at b is.second;
              second_low =
                  let leaf_b : IsLeaf T b = subst (IsLeaf T) is.second.2 (is.leaf is.second.0 is.second.1) in
                  new_other b leaf_b.0 (λ same. w_not_second (sym same)) ∙ is.second_low;
              maker = λ k less apart.
                  each_moved_leaf (λ i. i ≢ b → (l : ℕ) × (l < count') × (at' l ≡ get_or (set by w u) i 0))
                  (λ apart. let m = maker_at u (k_u, u_less, u_is) in (m.0, m.1, m.2 ∙ sym by_w))
                  (λ k less not_w apart. let m = maker_at (get_or by (at k) 0) (is.maker k less apart) in (m.0, m.1, m.2 ∙ sym (by_other (at k) not_w)))
                  k less apart;
              placed = λ k less apart.
                  each_moved_leaf (λ i. i ≢ b → Places path axis (get_or (set by w u) i 0) i)
                  (λ apart. subst (λ (p : ℕ). Places path axis p w) (sym by_w) placed_w)
                  (λ k less not_w apart. subst (λ (p : ℕ). Places path axis p (at k)) (sym (by_other (at k) not_w)) (is.placed k less apart))
                  k less apart;
              made = λ k less apart.
                  each_moved_leaf (λ i. i ≢ b → low_in new i ≤ low_in new (get_or (set by w u) i 0) + leaf_dist T (get_or (set by w u) i 0) i)
                  (λ apart. omega (arith, new_w, r_is, new_other u u_leaves.0 u_leaves.4, ap (low_in new) by_w, ap (λ (p : ℕ). leaf_dist T p w) by_w))
                  (λ k less not_w apart.
                  let m = is.maker k less apart in
                  let from : 1 ≤ get_or by (at k) 0 = omega (arith, (is.leaf m.0 m.1).0, m.2) in
                  omega (arith, is.made k less apart, new_other (at k) (is.leaf k less).0 not_w, new_more (get_or by (at k) 0) from, ap (low_in new) (by_other (at k) not_w), ap (λ (p : ℕ). leaf_dist T p (at k)) (by_other (at k) not_w)))
                  k less apart;
              small = each_moved_leaf (λ i. low_in new i + was b ≤ was i + was a + leaf_dist T a b) (omega (arith, new_w, r_small)) (λ k less apart. omega (arith, is.small k less, new_other (at k) (is.leaf k less).0 apart));
            }

        -- steps from leaves before w in the list that were met are still met
        pub still_relaxed : (done : ℕ) → done ≤ count → IsRelaxed T path axis lows moved done → ((k : ℕ) → k < done → at k ≢ w) → IsRelaxed T path axis new moved' done
        still_relaxed done most relaxed apart k x less placed =
            let f = from_old k (omega arith) in
            let placed_too : Places path axis (at k) x = subst (λ (i : ℕ). Places path axis i x) f.1 placed in
            let l = placed_leaves (leaf_count T) path axis (at k) x pairs placed_too in
            omega (arith, relaxed k x less placed_too, new_other (at k) l.0 (apart k less), new_more x l.2, ap (low_in new) f.1, ap (λ (i : ℕ). leaf_dist T i x) f.1)

      -- w was moved before
      pub raised_again : was w ≢ low w → IsRaising T path axis old a b new (set by w u) moved count
      raised_again differ = elim (find moved w count) [
        | inl there ↦ raised moved count is.each_moved (λ k less. (less, refl)) (λ k less. inr (less, refl)) is.apart there
        | inr none ↦ absurd (differ (sym (is.still w w_leaf none)))
      ]

      -- w is moved for the first time
      not_yet : was w ≡ low w → (k : ℕ) → k < count → at k ≢ w
      not_yet same k less there = omega (arith, is.higher k less, ap low there, ap was there, same)

      pub raised_first : was w ≡ low w → count < places → IsRaising T path axis old a b new (set by w u) (set moved count w) (count + 1)
      raised_first same room =
          let last : get_or (set moved count w) count 0 ≡ w = get_or-set_same moved count w 0 (omega (arith, is.each_moved)) in
          let before : (k : ℕ) → k < count → get_or (set moved count w) k 0 ≡ at k =
          λ k less. get_or-set_other moved count k w 0 (λ e. omega arith) in
          raised (set moved count w) (count + 1) (omega (arith, length-set moved count w, is.each_moved))
          (λ k less. (omega arith, before k less))
          (λ k less. elim (cases_eq k count) [
            | inl end ↦ inl (ap (λ (p : ℕ). get_or (set moved count w) p 0) end ∙ last)
            | inr early ↦ let within : k < count = omega arith in inr (within, before k within)
          ])
          (λ k l less within both. elim (cases_eq l count) [
            | inl end ↦
                let k_less : k < count = omega arith in
                not_yet same k k_less (sym (before k k_less) ∙ both ∙ ap (λ (p : ℕ). get_or (set moved count w) p 0) end ∙ last)
            | inr early ↦
                let l_less : l < count = omega arith in
                is.apart k l less l_less (sym (before k (omega arith)) ∙ both ∙ before l l_less)
          ])
          (count, omega arith, last)

      pub relaxed_first : was w ≡ low w → count < places → (done : ℕ) → done ≤ count → IsRelaxed T path axis lows moved done → IsRelaxed T path axis new (set moved count w) done
      relaxed_first same room done most relaxed k x less placed =
          let before : get_or (set moved count w) k 0 ≡ at k = get_or-set_other moved count k w 0 (λ e. omega arith) in
          let placed_too : Places path axis (at k) x = subst (λ (i : ℕ). Places path axis i x) before placed in
          let l = placed_leaves (leaf_count T) path axis (at k) x pairs placed_too in
          omega (arith, relaxed k x less placed_too, new_other (at k) l.0 (not_yet same k (omega arith)), new_more x l.2, ap (low_in new) before, ap (λ (i : ℕ). leaf_dist T i x) before)

    -- in the end the row is exact for the path with the step
    module _ (s : Step) (step_by : PlacesBy axis a b s.pair s.choice) (step_alone : (x y : ℕ) → PlacesBy axis x y s.pair s.choice → (x ≡ a) × (y ≡ b)) (relaxed : IsRelaxed T path axis lows moved count) where
      first_low : IsLeaf T a → low a ≡ was a
      first_low leaf = is.still a leaf is.not_first

      old_met : (x y : ℕ) → Places path axis x y → low x + leaf_dist T x y ≤ low y
      old_met x y placed = elim (find moved x count) [
        | inl there ↦
            omega (arith, relaxed there.0 y there.1 (subst (λ (i : ℕ). Places path axis i y) (sym there.2) placed), ap low there.2, ap (λ (i : ℕ). leaf_dist T i y) there.2)
        | inr none ↦
            let l = placed_leaves (leaf_count T) path axis x y pairs placed in
            omega (arith, is.still x (l.0, l.1) none, exact.meets x y placed, no_lower y (l.2, l.3))
      ]

      pub ends : IsLeaf T a → AreLows T (path ++ s ∷ []) axis low
      ends leaf_a =
          record {
            meets = λ x y placed. elim (places_cases path (s ∷ []) axis x y placed) [
              | inl front ↦ old_met x y front
              | inr back ↦
                  let p = step_alone x y (places_one s axis x y back) in
                  let way : leaf_dist T x y ≡ leaf_dist T a b = λ i. leaf_dist T (p.0 i) (p.1 i) in
                  omega (arith, ap low p.0, ap low p.1, first_low leaf_a, is.second_low, way)
            ];
            made_up = λ i leaf. elim (find moved i count) [
              | inl there ↦ elim (cases_eq i b) [
                | inl same ↦
                    inr (a, subst (λ (y : ℕ). Places (path ++ s ∷ []) axis a y) (sym same) (places_right path (s ∷ []) axis a b (inl step_by)), omega (arith, first_low leaf_a, is.second_low, ap low same, ap (λ (y : ℕ). leaf_dist T a y) same))
                | inr apart ↦
                    let not_b : at there.0 ≢ b = λ e. apart (sym there.2 ∙ e) in
                    let by_i : get_or by (at there.0) 0 ≡ get_or by i 0 = ap (λ (x : ℕ). get_or by x 0) there.2 in
                    let placed : Places path axis (get_or by i 0) i = subst (λ (y : ℕ). Places path axis (get_or by i 0) y) there.2 (subst (λ (x : ℕ). Places path axis x (at there.0)) by_i (is.placed there.0 there.1 not_b)) in
                    let made : low i ≤ low (get_or by i 0) + leaf_dist T (get_or by i 0) i =
                    subst (λ (y : ℕ). low y ≤ low (get_or by y 0) + leaf_dist T (get_or by y 0) y) there.2 (is.made there.0 there.1 not_b) in
                    inr (get_or by i 0, places_left path (s ∷ []) axis (get_or by i 0) i placed, omega (arith, made, old_met (get_or by i 0) i placed))
              ]
              | inr none ↦ elim (exact.made_up i leaf) [
                | inl zero_is ↦ inl (is.still i leaf none ∙ zero_is)
                | inr p ↦ elim (find moved p.0 count) [
                  | inl there ↦
                      absurd (omega (arith, is.higher there.0 there.1, ap was there.2, ap low there.2, old_met p.0 i p.1, p.2, is.still i leaf none))
                  | inr still ↦
                      let l = placed_leaves (leaf_count T) path axis p.0 i pairs p.1 in
                      inr (p.0, places_left path (s ∷ []) axis p.0 i p.1, omega (arith, p.2, is.still i leaf none, is.still p.0 (l.0, l.1) still))
                ]
              ]
            ];
          }
