-- Pairs in order: one more at its place, from row to row, and that the first near one is the next pair.
use Rattle.std.proofs.Common.{◌≡◌, ◌⊎◌, inl, inr, ℕ, ◌+◌, ◌-◌, ◌<◌, ◌≤◌, List, [], length, get_or, All, AllPairs, None, Some, refl, sym, ◌∙◌, ap, subst, arith}
use Rattle.std.specs.List.{Contains, insert}
use Rattle.std.proofs.lemmas.Bool.{cases_eq, cases_lt}
use Rattle.std.proofs.lemmas.List.{get_or_default}
use Rattle.std.proofs.lemmas.List.Edits.{get_or-insert_at, get_or-insert_below, get_or-insert_above, length-insert}
use Rattle.bp_base.specs.declared.path.Pair.{Pair}
use Rattle.bp_base.specs.Path.{IsPairOf}
use Rattle.bp_base.specs.Tree.{TreeValue, leaf_count}
use Rattle.bp_metric.specs.Distance.{leaf_dist}
use Rattle.bp_metric.specs.Valid.{IsPair}
use Rattle.bp_branch.specs.Nearest.{AreNear, IsPast, IsBest}
use Rattle.bp_branch.specs.Orders.{AreOrdered, ComesFirst, IsPairOrder}

-- An element at a place of a list.

module _ {X : Type 0} (xs : List X) (k : ℕ) (x : X) (within : k ≤ length xs) where
  all_insert : (P : X → Type 0) → All P xs → P x → All P (insert xs k x)
  all_insert P all here i d less = elim (cases_lt i k) [
    | inl below ↦ subst P (sym (get_or-insert_below xs k x d i below within)) (all i d (omega arith))
    | inr from ↦ elim (cases_eq i k) [
      | inl at ↦ subst P (sym (ap (λ (m : ℕ). get_or (insert xs k x) m d) at ∙ get_or-insert_at xs k x d within)) here
      | inr other ↦
          let m : ℕ = i - 1 in
          let step : i ≡ m + 1 = omega arith in
          subst P (sym (ap (λ (n : ℕ). get_or (insert xs k x) n d) step ∙ get_or-insert_above xs k x d m (omega arith) within)) (all m d (omega (arith, length-insert xs k x within)))
    ]
  ]

  contains_there : Contains (insert xs k x) x
  contains_there = (k, omega (arith, length-insert xs k x within), get_or-insert_at xs k x x within)

  contains_insert : (q : X) → Contains xs q → Contains (insert xs k x) q
  contains_insert q (m, less, at) = elim (cases_lt m k) [
    | inl below ↦ (m, omega (arith, length-insert xs k x within, less), get_or-insert_below xs k x q m below within ∙ at)
    | inr from ↦ (m + 1, omega (arith, length-insert xs k x within, less), get_or-insert_above xs k x q m from within ∙ at)
  ]

  sorted_insert : (R : X → X → Type 0) → AllPairs R xs → ((i : ℕ) (d : X) → i < k → R (get_or xs i d) x) → ((i : ℕ) (d : X) → k ≤ i → i < length xs → R x (get_or xs i d)) → AllPairs R (insert xs k x)
  sorted_insert R sorted before after i j d less in_list =
      let ys : List X = insert xs k x in
      let long : length ys ≡ length xs + 1 = length-insert xs k x within in
      let back : ℕ → ℕ = λ m. m - 1 in
      elim (cases_lt j k) [
        | inl j_below ↦
            subst (λ (a : X). R a (get_or ys j d)) (sym (get_or-insert_below xs k x d i (omega arith) within)) (subst (R (get_or xs i d)) (sym (get_or-insert_below xs k x d j j_below within)) (sorted i j d less (omega arith)))
        | inr j_from ↦ elim (cases_eq j k) [
          | inl j_at ↦
              let at : get_or ys j d ≡ x = ap (λ (m : ℕ). get_or ys m d) j_at ∙ get_or-insert_at xs k x d within in
              subst (λ (a : X). R a (get_or ys j d)) (sym (get_or-insert_below xs k x d i (omega arith) within)) (subst (R (get_or xs i d)) (sym at) (before i d (omega arith)))
          | inr j_other ↦
              let j_step : j ≡ (j - 1) + 1 = omega arith in
              let j_is : get_or ys j d ≡ get_or xs (j - 1) d =
              ap (λ (m : ℕ). get_or ys m d) j_step ∙ get_or-insert_above xs k x d (j - 1) (omega arith) within in
              let j_less : j - 1 < length xs = omega (arith, long) in
              elim (cases_lt i k) [
                | inl i_below ↦
                    subst (λ (a : X). R a (get_or ys j d)) (sym (get_or-insert_below xs k x d i i_below within)) (subst (R (get_or xs i d)) (sym j_is) (sorted i (j - 1) d (omega arith) j_less))
                | inr i_from ↦ elim (cases_eq i k) [
                  | inl i_at ↦
                      let at : get_or ys i d ≡ x = ap (λ (m : ℕ). get_or ys m d) i_at ∙ get_or-insert_at xs k x d within in
                      subst (λ (a : X). R a (get_or ys j d)) (sym at) (subst (R x) (sym j_is) (after (j - 1) d (omega arith) j_less))
                  | inr i_other ↦
                      let i_step : i ≡ (i - 1) + 1 = omega arith in
                      let i_is : get_or ys i d ≡ get_or xs (i - 1) d =
                      ap (λ (m : ℕ). get_or ys m d) i_step ∙ get_or-insert_above xs k x d (i - 1) (omega arith) within in
                      subst (λ (a : X). R a (get_or ys j d)) (sym i_is) (subst (R (get_or xs (i - 1) d)) (sym j_is) (sorted (i - 1) (j - 1) d (omega arith) j_less))
                ]
              ]
        ]
      ]

module _ (T : TreeValue) where
  abbrev apart : Pair → ℕ
  apart p = leaf_dist T p.i p.j

  abbrev Is : ℕ → ℕ → Pair → Type 0
  Is i j p = IsPairOf (leaf_count T) p × IsPast i j p.i p.j

  pub none_ordered : (pairs : List Pair) → pairs ≡ [] → AreOrdered T 1 0 pairs
  none_ordered pairs none = subst (AreOrdered T 1 0) (sym none) (record {
    each = λ k d less. absurd (omega (arith, less));
    all = λ p pair before. absurd (no_row p pair before);
    sorted = λ i j d less within. absurd (omega (arith, within));
  })
    where
      no_row : (p : Pair) → IsPairOf (leaf_count T) p → IsPast 1 0 p.i p.j → ⊥
      no_row p pair (inl less) = omega (arith, pair.0, less)
      no_row p pair (inr (same, less)) = omega (arith, less)

  -- the same pairs stand before another place
  moved : (i j k l : ℕ) (pairs : List Pair) → ((p : Pair) → IsPairOf (leaf_count T) p → IsPast i j p.i p.j → IsPast k l p.i p.j) → ((p : Pair) → IsPairOf (leaf_count T) p → IsPast k l p.i p.j → IsPast i j p.i p.j) → AreOrdered T i j pairs → AreOrdered T k l pairs
  moved i j k l pairs to from ordered = record {
    each = λ m d less. let is = ordered.each m d less in (is.0, to (get_or pairs m d) is.0 is.1);
    all = λ p pair before. ordered.all p pair (from p pair before);
    sorted = ordered.sorted;
  }

  -- no pair stands between (i, 0) and (i, i + 1)
  pub order_row_begins : (i : ℕ) (pairs : List Pair) → AreOrdered T i 0 pairs → AreOrdered T i (i + 1) pairs
  order_row_begins i pairs ordered = moved i 0 i (i + 1) pairs to from ordered
    where
      to : (p : Pair) → IsPairOf (leaf_count T) p → IsPast i 0 p.i p.j → IsPast i (i + 1) p.i p.j
      to p pair (inl less) = inl less
      to p pair (inr (same, less)) = absurd (omega (arith, less))

      from : (p : Pair) → IsPairOf (leaf_count T) p → IsPast i (i + 1) p.i p.j → IsPast i 0 p.i p.j
      from p pair (inl less) = inl less
      from p pair (inr (same, less)) = absurd (omega (arith, pair.1, same, less))

  -- after the last pair of a row the next row begins
  pub order_row_ends : (i j : ℕ) (pairs : List Pair) → leaf_count T < j → AreOrdered T i j pairs → AreOrdered T (i + 1) 0 pairs
  order_row_ends i j pairs past ordered = moved i j (i + 1) 0 pairs to from ordered
    where
      to : (p : Pair) → IsPairOf (leaf_count T) p → IsPast i j p.i p.j → IsPast (i + 1) 0 p.i p.j
      to p pair (inl less) = inl (omega (arith, less))
      to p pair (inr (same, less)) = inl (omega (arith, same))

      from : (p : Pair) → IsPairOf (leaf_count T) p → IsPast (i + 1) 0 p.i p.j → IsPast i j p.i p.j
      from p pair (inl less) = elim (cases_lt p.i i) [
        | inl below ↦ inl below
        | inr above ↦ inr (omega (arith, less, above), omega (arith, past, pair.2))
      ]
      from p pair (inr (same, less)) = absurd (omega (arith, less))

  -- the next pair in number at the place of the first of lesser distance
  pub order_more : (pairs new : List Pair) (p : Pair) (k : ℕ) → IsPairOf (leaf_count T) p → AreOrdered T p.i p.j pairs → k ≤ length pairs → ((m : ℕ) (d : Pair) → m < k → apart p ≤ apart (get_or pairs m d)) → ((d : Pair) → k < length pairs → apart (get_or pairs k d) < apart p) → new ≡ insert pairs k p → AreOrdered T p.i (p.j + 1) new
  order_more pairs new p k pair ordered within before there is = subst (AreOrdered T p.i (p.j + 1)) (sym is) (record {
    each = all_insert pairs k p within (Is p.i (p.j + 1)) (λ m d less. let old = ordered.each m d less in (old.0, later (get_or pairs m d) old.1)) (pair, inr (refl, omega arith));
    all = λ q q_pair q_before. found q q_pair q_before;
    sorted = sorted_insert pairs k p within (ComesFirst T) ordered.sorted (λ m d less. first m d less) (λ m d from less. inl (lesser m d from less));
  })
    where
      later : (q : Pair) → IsPast p.i p.j q.i q.j → IsPast p.i (p.j + 1) q.i q.j
      later q (inl less) = inl less
      later q (inr (same, less)) = inr (same, omega (arith, less))

      same_pair : (q : Pair) → q.i ≡ p.i → q.j ≡ p.j → q ≡ p
      same_pair q i_same j_same = λ n. record { i = i_same n; j = j_same n }

      found : (q : Pair) → IsPairOf (leaf_count T) q → IsPast p.i (p.j + 1) q.i q.j → Contains (insert pairs k p) q
      found q q_pair (inl less) = contains_insert pairs k p within q (ordered.all q q_pair (inl less))
      found q q_pair (inr (same, less)) = elim (cases_eq q.j p.j) [
        | inl at ↦ subst (Contains (insert pairs k p)) (sym (same_pair q same at)) (contains_there pairs k p within)
        | inr other ↦ contains_insert pairs k p within q (ordered.all q q_pair (inr (same, omega (arith, less, other))))
      ]

      first : (m : ℕ) (d : Pair) → m < k → ComesFirst T (get_or pairs m d) p
      first m d less = elim (cases_lt (apart p) (apart (get_or pairs m d))) [
        | inl greater ↦ inl greater
        | inr most ↦ inr (omega (arith, most, before m d less), (ordered.each m d (omega arith)).1)
      ]

      no_more : (a b : Pair) → ComesFirst T a b → apart b ≤ apart a
      no_more a b (inl less) = omega (arith, less)
      no_more a b (inr (same, earlier)) = omega (arith, same)

      lesser : (m : ℕ) (d : Pair) → k ≤ m → m < length pairs → apart (get_or pairs m d) < apart p
      lesser m d from less = elim (cases_eq m k) [
        | inl at ↦ subst (λ (n : ℕ). apart (get_or pairs n d) < apart p) (sym at) (there d (omega arith))
        | inr other ↦ omega (arith, there d (omega arith), no_more (get_or pairs k d) (get_or pairs m d) (ordered.sorted k m d (omega arith) less))
      ]

  module _ (xs ys : List ℕ) (pairs : List Pair) (order : IsPairOrder T pairs) where
    abbrev Near : Pair → Type 0
    Near p = AreNear T xs ys p.i p.j

    abbrev AreFar : ℕ → Type 0
    AreFar k = (m : ℕ) (d : Pair) → m < k → Near (get_or pairs m d) → ⊥

    in_order : (i j : ℕ) → IsPair T i j → Contains pairs (record { i = i; j = j })
    in_order i j pair = order.all (record { i = i; j = j }) pair (inl (omega (arith, pair.1, pair.2)))

    -- where no pair is near there is no best one
    pub none_near : AreFar (length pairs) → IsBest T xs ys (leaf_count T) 0 None
    none_near far i j pair before near =
        let c = in_order i j pair in
        far c.0 (record { i = i; j = j }) c.1 (subst Near (sym c.2) near)

    -- the first near pair is the best
    pub first_near : (k : ℕ) (p : Pair) → k < length pairs → get_or pairs k p ≡ p → AreFar k → Near p → IsBest T xs ys (leaf_count T) 0 (Some p)
    first_near k p less at far near = record {
      pair = is_pair;
      before = inl (omega (arith, is_pair.1, is_pair.2));
      near = near;
      most = λ i j pair before is_near. no_more (record { i = i; j = j }) (placed i j pair is_near);
      first = λ i j pair is_near same before. not_earlier (record { i = i; j = j }) same before (placed i j pair is_near);
    }
      where
        is_pair : IsPairOf (leaf_count T) p
        is_pair = subst (IsPairOf (leaf_count T)) at (order.each k p less).0

        -- another near pair is p or comes later
        placed : (i j : ℕ) → IsPair T i j → AreNear T xs ys i j → (p ≡ record { i = i; j = j }) ⊎ ComesFirst T p (record { i = i; j = j })
        placed i j pair is_near =
            let q : Pair = record { i = i; j = j } in
            let c = in_order i j pair in
            let here : get_or pairs k q ≡ p = default_free k q less in
            elim (cases_lt c.0 k) [
              | inl below ↦ absurd (far c.0 q below (subst Near (sym c.2) is_near))
              | inr from ↦ elim (cases_eq c.0 k) [
                | inl same ↦ inl (sym here ∙ ap (λ (m : ℕ). get_or pairs m q) (sym same) ∙ c.2)
                | inr other ↦
                    inr (subst (λ (a : Pair). ComesFirst T a q) here (subst (ComesFirst T (get_or pairs k q)) c.2 (order.sorted k c.0 q (omega arith) c.1)))
              ]
            ]
          where
            default_free : (m : ℕ) (d : Pair) → m < length pairs → get_or pairs k d ≡ p
            default_free m d in_list = get_or_default pairs k d p less ∙ at

        no_more : (q : Pair) → (p ≡ q) ⊎ ComesFirst T p q → apart q ≤ apart p
        no_more q (inl same) = omega (arith, ap apart same)
        no_more q (inr (inl lesser)) = omega (arith, lesser)
        no_more q (inr (inr (same, earlier))) = omega (arith, same)

        not_earlier : (q : Pair) → apart q ≡ apart p → IsPast p.i p.j q.i q.j → (p ≡ q) ⊎ ComesFirst T p q → ⊥
        not_earlier q equal (inl less) (inl same) = omega (arith, less, ap (λ (a : Pair). a.i) same)
        not_earlier q equal (inr (i_same, less)) (inl same) = omega (arith, less, ap (λ (a : Pair). a.j) same)
        not_earlier q equal before (inr (inl lesser)) = omega (arith, lesser, equal)
        not_earlier q equal (inl less) (inr (inr (same, inl earlier))) = omega (arith, less, earlier)
        not_earlier q equal (inl less) (inr (inr (same, inr (i_same, earlier)))) = omega (arith, less, i_same)
        not_earlier q equal (inr (i_same, less)) (inr (inr (same, inl earlier))) = omega (arith, i_same, earlier)
        not_earlier q equal (inr (i_same, less)) (inr (inr (same, inr (also, earlier)))) = omega (arith, less, earlier)
