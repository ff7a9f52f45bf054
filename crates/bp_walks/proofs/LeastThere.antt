-- A path without a cycle has least coordinates: the greatest weights of longer and longer ways to a leaf come to rest, since else
-- some way would repeat a leaf.
use Rattle.std.proofs.Common.{◌≡◌, ◌≢◌, ◌⊎◌, inl, inr, ℕ, zero, suc, ◌+◌, ◌-◌, ◌<◌, ◌≤◌, List, [], ◌∷◌, length, map, get_or, All, refl, sym, ◌∙◌, ap, subst, arith}
use Rattle.std.specs.List.{range_with_len}
use Rattle.std.proofs.lemmas.Bool.{cases_eq, cases_lt}
use Rattle.std.proofs.lemmas.List.Kept.{AllPairs-cons}
use Rattle.std.proofs.lemmas.List.Elements.{All-cons}
use Rattle.std.proofs.lemmas.List.FromFn.{length-map-range_with_len, get_or-map-range_with_len}
use Rattle.bp_base.specs.declared.path.Choice.{Choice}
use Rattle.bp_base.specs.declared.path.Choice.TheVariants.{Left, Right, Below, Above}
use Rattle.bp_base.specs.declared.path.Step.{Step}
use Rattle.bp_base.specs.declared.point.Axis.{Axis}
use Rattle.bp_base.specs.declared.point.Axis.TheVariants.{X, Y}
use Rattle.bp_base.specs.declared.point.Sheet.{Sheet}
use Rattle.bp_base.specs.declared.point.Sheet.TheVariants.{Square, Strip}
use Rattle.bp_base.specs.declared.record.Least.{Least}
use Rattle.bp_base.specs.Limits.{most_number}
use Rattle.bp_base.specs.Tree.{TreeValue, IsTree, IsLeaf, leaf_count}
use Rattle.bp_metric.specs.Distance.{leaf_dist}
use Rattle.bp_metric.specs.Chains.{PlacesBy, Places, ArePlaced, IsChain, HasPairsOf, HasCycle, HasCycleOn, last_of}
use Rattle.bp_metric.specs.Coordinates.{IsForcedBy, IsLeast, IsShownBefore, AreShown}
use Rattle.bp_metric.proofs.Lows.{AreLows, placed_leaves, placed_apart, few_leaves, last_more, chain_from_placed}
use Rattle.bp_metric.proofs.Shown.{begins_zero, shown_before}
use Rattle.bp_walks.specs.Lows.{ShowsLeaf}
use Rattle.bp_walks.proofs.Fine.{IsKept, IsTop, fine_least}
use Rattle.bp_walks.proofs.Trails.{cut_cycle}

-- the least number below a bound for which E holds
module _ (E : ℕ → Type 0) (decide : (v : ℕ) → E v ⊎ (E v → ⊥)) where
  least_below : (n : ℕ) → ((v : ℕ) × (v < n) × E v × ((u : ℕ) → u < v → E u → ⊥)) ⊎ ((u : ℕ) → u < n → E u → ⊥)
  least_below zero = inr (λ u less. absurd (omega (arith, less)))
  least_below (suc n) = elim (least_below n) [
    | inl v ↦ inl (v.0, omega (arith, v.1), v.2, v.3)
    | inr none ↦ elim (decide n) [
      | inl here ↦ inl (n, omega arith, here, none)
      | inr not ↦ inr (λ u less e. elim (cases_lt u n) [
        | inl below ↦ none u below e
        | inr above ↦ let is : u ≡ n = omega (arith, less, above) in not (subst E is e)
      ])
    ]
  ]

-- the leaf that a step places before this one, where there is any
placed_by : (axis : Axis) (s : Step) (i : ℕ) → ((a : ℕ) × PlacesBy axis a i s.pair s.choice × ((b : ℕ) → PlacesBy axis b i s.pair s.choice → b ≡ a)) ⊎ ((a : ℕ) → PlacesBy axis a i s.pair s.choice → ⊥)
placed_by axis s i = go axis s.choice
  where
    go : (x : Axis) (c : Choice) → ((a : ℕ) × PlacesBy x a i s.pair c × ((b : ℕ) → PlacesBy x b i s.pair c → b ≡ a)) ⊎ ((a : ℕ) → PlacesBy x a i s.pair c → ⊥)
    go X Left = elim (cases_eq i s.pair.j) [
      | inl is ↦ inl (s.pair.i, (refl, is), λ b by. by.0)
      | inr apart ↦ inr (λ a by. apart by.1)
    ]
    go X Right = elim (cases_eq i s.pair.i) [
      | inl is ↦ inl (s.pair.j, (refl, is), λ b by. by.0)
      | inr apart ↦ inr (λ a by. apart by.1)
    ]
    go X Below = inr (λ a by. by)
    go X Above = inr (λ a by. by)
    go Y Left = inr (λ a by. by)
    go Y Right = inr (λ a by. by)
    go Y Below = elim (cases_eq i s.pair.j) [
      | inl is ↦ inl (s.pair.i, (refl, is), λ b by. by.0)
      | inr apart ↦ inr (λ a by. apart by.1)
    ]
    go Y Above = elim (cases_eq i s.pair.i) [
      | inl is ↦ inl (s.pair.j, (refl, is), λ b by. by.0)
      | inr apart ↦ inr (λ a by. apart by.1)
    ]

decides_by : (axis : Axis) (s : Step) (a i : ℕ) → PlacesBy axis a i s.pair s.choice ⊎ (PlacesBy axis a i s.pair s.choice → ⊥)
decides_by axis s a i = elim (placed_by axis s i) [
  | inl b ↦ elim (cases_eq a b.0) [
    | inl same ↦ inl (subst (λ (v : ℕ). PlacesBy axis v i s.pair s.choice) (sym same) b.1)
    | inr apart ↦ inr (λ by. apart (b.2 a by))
  ]
  | inr none ↦ inr (none a)
]

decides_places : (path : List Step) (axis : Axis) (a i : ℕ) → Places path axis a i ⊎ (Places path axis a i → ⊥)
decides_places [] axis a i = inr (λ p. p)
decides_places (s ∷ path) axis a i = elim (decides_by axis s a i) [
  | inl here ↦ inl (inl here)
  | inr not ↦ elim (decides_places path axis a i) [
    | inl later ↦ inl (inr later)
    | inr never ↦ inr (λ p. elim p [
      | inl here ↦ not here
      | inr later ↦ never later
    ])
  ]
]

-- where a number stands in a list
find_in : (x : ℕ) (xs : List ℕ) → ((q : ℕ) × (q < length xs) × (get_or xs q 0 ≡ x)) ⊎ All (λ y. x ≢ y) xs
find_in x [] = inr (λ k d less. absurd (omega (arith, less)))
find_in x (y ∷ ys) = elim (cases_eq x y) [
  | inl same ↦ inl (0, omega arith, sym same)
  | inr apart ↦ elim (find_in x ys) [
    | inl q ↦ inl (suc q.0, omega (arith, q.1), q.2)
    | inr new ↦ inr (All-cons (λ z. x ≢ z) y ys apart new)
  ]
]

module _ (T : TreeValue) (axis : Axis) where
  -- the greatest that the steps of a path ask of leaf i by the numbers of the leaves that they place before it
  record Asked (f : ℕ → ℕ) (path : List Step) (i : ℕ) : Type 0 where
    pub v : ℕ
    pub meets : (a : ℕ) → Places path axis a i → f a + leaf_dist T a i ≤ v
    pub made : (v ≡ 0) ⊎ ((a : ℕ) × Places path axis a i × (f a + leaf_dist T a i ≡ v))

  asked : (f : ℕ → ℕ) (path : List Step) (i : ℕ) → Asked f path i
  asked f [] i = record { v = 0; meets = λ a p. absurd p; made = inl refl }
  asked f (s ∷ path) i = go (placed_by axis s i) (asked f path i)
    where
      made_later : (r : Asked f path i) → (r.v ≡ 0) ⊎ ((a : ℕ) × Places (s ∷ path) axis a i × (f a + leaf_dist T a i ≡ r.v))
      made_later r = elim r.made [
        | inl none ↦ inl none
        | inr p ↦ inr (p.0, inr p.1, p.2)
      ]

      go : ((a : ℕ) × PlacesBy axis a i s.pair s.choice × ((b : ℕ) → PlacesBy axis b i s.pair s.choice → b ≡ a)) ⊎ ((a : ℕ) → PlacesBy axis a i s.pair s.choice → ⊥) → Asked f path i → Asked f (s ∷ path) i
      go (inr none) r = record {
        v = r.v;
        meets = λ a p. elim p [
          | inl here ↦ absurd (none a here)
          | inr later ↦ r.meets a later
        ];
        made = made_later r;
      }
      go (inl b) r = elim (cases_lt r.v (f b.0 + leaf_dist T b.0 i)) [
        | inl less ↦ record {
          v = f b.0 + leaf_dist T b.0 i;
          meets = λ a p. elim p [
            | inl here ↦ omega (arith, ap (λ (m : ℕ). f m + leaf_dist T m i) (b.2 a here))
            | inr later ↦ omega (arith, r.meets a later, less)
          ];
          made = inr (b.0, inl b.1, refl);
        }
        | inr most ↦ record {
          v = r.v;
          meets = λ a p. elim p [
            | inl here ↦ omega (arith, ap (λ (m : ℕ). f m + leaf_dist T m i) (b.2 a here), most)
            | inr later ↦ r.meets a later
          ];
          made = made_later r;
        }
      ]

  -- the greatest weight of a way of at most k steps to leaf i
  abbrev low_within : List Step → ℕ → ℕ → ℕ
  low_within path zero i = 0
  low_within path (suc k) i = (asked (low_within path k) path i).v

  module _ (path : List Step) where
    within_meets : (k a i : ℕ) → Places path axis a i → low_within path k a + leaf_dist T a i ≤ low_within path (suc k) i
    within_meets k a i p = (asked (low_within path k) path i).meets a p

    within_made : (k i : ℕ) → (low_within path (suc k) i ≡ 0) ⊎ ((a : ℕ) × Places path axis a i × (low_within path k a + leaf_dist T a i ≡ low_within path (suc k) i))
    within_made k i = (asked (low_within path k) path i).made

    within_rises : (k i : ℕ) → low_within path k i ≤ low_within path (suc k) i
    within_rises zero i = omega arith
    within_rises (suc k) i = elim (within_made k i) [
      | inl none ↦ omega (arith, none)
      | inr p ↦ omega (arith, p.2, within_rises k p.0, within_meets (suc k) p.0 i p.1)
    ]

    -- where the weights still rise, there is a way of so many steps
    way : (k i : ℕ) (rest : List ℕ) → low_within path k i < low_within path (suc k) i → ArePlaced path axis (i ∷ rest) → (a : ℕ) × (b : ℕ) × (xs : List ℕ) × ArePlaced path axis (a ∷ b ∷ xs) × (length xs ≡ length rest + k)
    way zero i rest less placed = elim (within_made 0 i) [
      | inl none ↦ absurd (omega (arith, less, none))
      | inr p ↦ (p.0, i, rest, (p.1, placed), omega arith)
    ]
    way (suc k) i rest less placed = elim (within_made (suc k) i) [
      | inl none ↦ absurd (omega (arith, less, none))
      | inr p ↦
          let longer = way k p.0 (i ∷ rest) (omega (arith, less, p.2, within_meets k p.0 i p.1)) (p.1, placed) in
          (longer.0, longer.1, longer.2, longer.3, omega (arith, longer.4))
    ]

module _ (T : TreeValue) (t : IsTree T) (path : List Step) (pairs : HasPairsOf (leaf_count T) path) (axis : Axis) where
  -- a way of leaves is a chain, or it goes round
  chain_or_cycle : (x : ℕ) (xs : List ℕ) → IsLeaf T x → ArePlaced path axis (x ∷ xs) → IsChain (leaf_count T) path axis (x ∷ xs) ⊎ HasCycleOn (leaf_count T) path axis
  chain_or_cycle x [] leaf placed = inl (record {
    some = omega arith;
    are_leaves = All-cons (IsLeaf T) x [] leaf (λ k d less. absurd (omega arith));
    differ = AllPairs-cons (λ a b. a ≢ b) x [] (λ k d less. absurd (omega arith)) (λ i j d less within. absurd (omega arith));
    placed = placed;
  })
  chain_or_cycle x (y ∷ more) leaf placed =
      let l = placed_leaves (leaf_count T) path axis x y pairs placed.0 in
      elim (chain_or_cycle y more (l.2, l.3) placed.1) [
        | inl c ↦ elim (find_in x (y ∷ more)) [
          | inl q ↦ inr (_, cut_cycle (leaf_count T) path axis (y ∷ more) q.0 x pairs c q.1 q.2 placed.0)
          | inr new ↦ inl (record {
            some = omega arith;
            are_leaves = All-cons (IsLeaf T) x (y ∷ more) leaf c.are_leaves;
            differ = AllPairs-cons (λ a b. a ≢ b) x (y ∷ more) new c.differ;
            placed = placed;
          })
        ]
        | inr cycle ↦ inr cycle
      ]

  module _ (fine : HasCycleOn (leaf_count T) path axis → ⊥) where
    abbrev low : ℕ → ℕ
    low i = low_within T axis path (leaf_count T) i

    at_rest : (i : ℕ) → low_within T axis path (suc (leaf_count T)) i ≡ low i
    at_rest i = elim (cases_lt (low i) (low_within T axis path (suc (leaf_count T)) i)) [
      | inl less ↦
          let w = way T axis path (leaf_count T) i [] less tt in
          let l = placed_leaves (leaf_count T) path axis w.0 w.1 pairs w.3.0 in
          elim (chain_or_cycle w.0 (w.1 ∷ w.2) (l.0, l.1) w.3) [
            | inl c ↦ absurd (omega (arith, few_leaves (leaf_count T) (w.0 ∷ w.1 ∷ w.2) c.are_leaves c.differ, w.4))
            | inr cycle ↦ absurd (fine cycle)
          ]
      | inr most ↦ omega (arith, most, within_rises T axis path (leaf_count T) i)
    ]

    lows_there : AreLows T path axis low
    lows_there = record {
      meets = λ a b p. omega (arith, within_meets T axis path (leaf_count T) a b p, at_rest b);
      made_up = λ i leaf. elim (within_made T axis path (leaf_count T) i) [
        | inl none ↦ inl (sym (at_rest i) ∙ none)
        | inr p ↦ inr (p.0, p.1, p.2 ∙ at_rest i)
      ];
    }

  -- From coordinates to the chain that is shown for a leaf.
  module _ (f : ℕ → ℕ) (lows : AreLows T path axis f) where
    abbrev MakesUp : ℕ → ℕ → Type 0
    MakesUp i a = Places path axis a i × (f a + leaf_dist T a i ≡ f i)

    decides_made : (i a : ℕ) → MakesUp i a ⊎ (MakesUp i a → ⊥)
    decides_made i a = elim (decides_places path axis a i) [
      | inl p ↦ elim (cases_eq (f a + leaf_dist T a i) (f i)) [
        | inl same ↦ inl (p, same)
        | inr apart ↦ inr (λ m. apart m.1)
      ]
      | inr not ↦ inr (λ m. not m.0)
    ]

    placed_of : (x : ℕ) (xs : List ℕ) → AreShown T path axis (x ∷ xs) → ArePlaced path axis (x ∷ xs)
    placed_of x [] shown = tt
    placed_of x (y ∷ more) shown = (shown.0.placed, placed_of y more shown.1)

    abbrev Search : ℕ → Type 0
    Search i = ((a : ℕ) × (a < leaf_count T + 1) × MakesUp i a × ((u : ℕ) → u < a → MakesUp i u → ⊥)) ⊎ ((u : ℕ) → u < leaf_count T + 1 → MakesUp i u → ⊥)

    search_for : (i : ℕ) → Search i
    search_for i = least_below (MakesUp i) (decides_made i) (leaf_count T + 1)

    shows_from : (k i : ℕ) (rest : List ℕ) → f i ≤ k → IsLeaf T i → AreShown T path axis (i ∷ rest) → Search i → (xs : List ℕ) × ShowsLeaf T path axis (last_of (i ∷ rest)) xs
    shows_from k i rest most leaf shown (inr none) = (
      i ∷ rest,
      record {
        chain = chain_from_placed T t path pairs axis f lows.meets i rest leaf (placed_of i rest shown);
        ends = refl;
        shown = shown;
        begins = begins_zero T t path pairs axis f lows i leaf (λ a p same. let l = placed_leaves (leaf_count T) path axis a i pairs p in none a (omega (arith, l.1)) (p, same));
      },
    )
    shows_from zero i rest most leaf shown (inl a) = absurd (omega (arith, most, a.2.1, placed_apart T t path pairs axis a.0 i a.2.0))
    shows_from (suc k) i rest most leaf shown (inl a) =
        let l = placed_leaves (leaf_count T) path axis a.0 i pairs a.2.0 in
        let before : IsShownBefore T path axis a.0 i = shown_before T t path pairs axis f lows a.0 i a.2.0 a.2.1 (λ c less p same. a.3 c less (p, same)) in
        let longer = shows_from k a.0 (i ∷ rest) (omega (arith, most, a.2.1, placed_apart T t path pairs axis a.0 i a.2.0)) (l.0, l.1) (before, shown) (search_for a.0) in
        (longer.0, subst (λ (m : ℕ). ShowsLeaf T path axis m longer.0) (last_more a.0 i rest) longer.1)

    shows : (r : ℕ) → IsLeaf T r → (xs : List ℕ) × ShowsLeaf T path axis r xs
    shows r leaf = shows_from (f r) r [] (omega arith) leaf tt (search_for r)

-- the least leaf with the greatest number
top_there : (n : ℕ) (f : ℕ → ℕ) → 1 ≤ n → (r : ℕ) × IsTop n f r
top_there zero f some = absurd (omega (arith, some))
top_there (suc zero) f some = (
  1,
  record {
    leaf = (omega arith, omega arith);
    greatest = λ i from to. let is : i ≡ 1 = omega (arith, from, to) in omega (arith, ap f is);
    first = λ i from less. absurd (omega (arith, from, less));
  },
)
top_there (suc (suc n)) f some = go (top_there (suc n) f (omega arith))
  where
    go : (r : ℕ) × IsTop (suc n) f r → (r : ℕ) × IsTop (suc (suc n)) f r
    go (r, top) = elim (cases_lt (f r) (f (suc (suc n)))) [
      | inl less ↦ (
        suc (suc n),
        record {
          leaf = (omega arith, omega arith);
          greatest = λ i from to. elim (cases_eq i (suc (suc n))) [
            | inl is ↦ omega (arith, ap f is)
            | inr apart ↦ omega (arith, top.greatest i from (omega (arith, to, apart)), less)
          ];
          first = λ i from below. omega (arith, top.greatest i from (omega (arith, below)), less);
        },
      )
      | inr most ↦ (
        r,
        record {
          leaf = (top.leaf.0, omega (arith, top.leaf.1));
          greatest = λ i from to. elim (cases_eq i (suc (suc n))) [
            | inl is ↦ omega (arith, ap f is, most)
            | inr apart ↦ top.greatest i from (omega (arith, to, apart))
          ];
          first = top.first;
        },
      )
    ]

kept_there : (n : ℕ) (f : ℕ → ℕ) → IsKept n f (map f (range_with_len 1 n))
kept_there n f = record {
  each = length-map-range_with_len f 1 n;
  is = λ i from to.
      let place : 1 + (i - 1) ≡ i = omega (arith, from) in
      get_or-map-range_with_len f 1 n (i - 1) i 0 (omega (arith, from, to)) place;
}

judged_there : (G : Sheet) (x y : ℕ) → (axis : Axis) × (v : ℕ) × IsForcedBy G x y axis v
judged_there Square x y = elim (cases_lt x y) [
  | inl less ↦ (Y, y, (less, refl))
  | inr most ↦ (X, x, (most, refl))
]
judged_there (Strip width) x y = elim (cases_lt width x) [
  | inl less ↦ (X, most_number, (less, refl))
  | inr most ↦ (Y, y, (most, refl))
]

module _ (T : TreeValue) (t : IsTree T) (G : Sheet) (path : List Step) (pairs : HasPairsOf (leaf_count T) path) (fine : HasCycle (leaf_count T) path → ⊥) where
  pub least_there : (l : Least) × IsLeast T G path l
  least_there = go (judged_there G (f rx.0) (g ry.0))
    where
      f : ℕ → ℕ
      f = low T t path pairs X (λ cycle. fine (X, cycle))

      g : ℕ → ℕ
      g = low T t path pairs Y (λ cycle. fine (Y, cycle))

      on_x : AreLows T path X f
      on_x = lows_there T t path pairs X (λ cycle. fine (X, cycle))

      on_y : AreLows T path Y g
      on_y = lows_there T t path pairs Y (λ cycle. fine (Y, cycle))

      rx : (r : ℕ) × IsTop (leaf_count T) f r
      rx = top_there (leaf_count T) f (omega (arith, t.leaves_enough))

      ry : (r : ℕ) × IsTop (leaf_count T) g r
      ry = top_there (leaf_count T) g (omega (arith, t.leaves_enough))

      go : (axis : Axis) × (v : ℕ) × IsForcedBy G (f rx.0) (g ry.0) axis v → (l : Least) × IsLeast T G path l
      go (X, v, judged) =
          let chain = shows T t path pairs X f on_x rx.0 rx.1.leaf in
          (_, fine_least T t path pairs f g on_x on_y rx.0 ry.0 rx.1 ry.1 G X v (map f (range_with_len 1 (leaf_count T))) (map g (range_with_len 1 (leaf_count T))) chain.0 judged (inl (chain.1, refl)) (kept_there (leaf_count T) f) (kept_there (leaf_count T) g))
      go (Y, v, judged) =
          let chain = shows T t path pairs Y g on_y ry.0 ry.1.leaf in
          (_, fine_least T t path pairs f g on_x on_y rx.0 ry.0 rx.1 ry.1 G Y v (map f (range_with_len 1 (leaf_count T))) (map g (range_with_len 1 (leaf_count T))) chain.0 judged (inr (chain.1, refl)) (kept_there (leaf_count T) f) (kept_there (leaf_count T) g))
