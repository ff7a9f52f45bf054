-- Coordinates that meet every step of a path, each made up by a step or 0, are the greatest weights of its chains.
use Rattle.std.proofs.Common.{◌≡◌, ◌≢◌, ℕ, zero, suc, ◌+◌, ◌-◌, ◌*◌, ◌<◌, ◌≤◌, ◌⊎◌, List, [], ◌∷◌, length, refl, ◌∙◌, ap, subst, arith, inl, inr}
use Rattle.std.specs.List.{All, AllPairs}
use Rattle.std.proofs.lemmas.List.Elements.{All-cons}
use Rattle.std.proofs.lemmas.List.Kept.{AllPairs-cons}
use Rattle.std.proofs.lemmas.Bool.{cases_eq, cases_lt, eqb-true}
use Rattle.std.proofs.lemmas.Bool.Decides.{Decides-eqb}
use Rattle.std.proofs.lemmas.Map.Views.{Contains-from_any}
use Rattle.std.proofs.lemmas.Map.Steps.{length-le_from_distinct_below}
use Rattle.std.proofs.lemmas.Map.Made.{IsDistinct-from_AllPairs}
use Rattle.bp_base.specs.declared.point.Axis.{Axis}
use Rattle.bp_base.specs.declared.point.Axis.TheVariants.{X, Y}
use Rattle.bp_base.specs.declared.path.Choice.{Choice}
use Rattle.bp_base.specs.declared.path.Choice.TheVariants.{Left, Right, Below, Above}
use Rattle.bp_base.specs.declared.path.Step.{Step}
use Rattle.bp_base.specs.Path.{IsPairOf}
use Rattle.bp_base.specs.Tree.{TreeValue, IsTree, IsLeaf, leaf_count, leaf_node}
use Rattle.bp_metric.specs.Distance.{leaf_dist, most_distance, most_side}
use Rattle.bp_metric.specs.Chains.{PlacesBy, Places, ArePlaced, IsChain, IsCycle, HasCycleOn, HasPairsOf, chain_weight, last_of}
use Rattle.bp_metric.specs.Coordinates.{IsLow, IsGreatestOn}
use Rattle.bp_metric.proofs.Distances.{dist_comm, dist_small}
use Rattle.bp_metric.proofs.Leaves.{leaves_apart}

-- the coordinates meet each step of the path on the axis
abbrev pub Meets : TreeValue → List Step → Axis → (ℕ → ℕ) → Type 0
Meets T path axis f = (a b : ℕ) → Places path axis a b → f a + leaf_dist T a b ≤ f b

-- some step makes up the leaf's coordinate, or it is 0
abbrev pub IsMadeUp : TreeValue → List Step → Axis → (ℕ → ℕ) → ℕ → Type 0
IsMadeUp T path axis f i = (f i ≡ 0) ⊎ ((p : ℕ) × Places path axis p i × (f p + leaf_dist T p i ≡ f i))

-- what the code keeps: the coordinates are exact
pub record AreLows (T : TreeValue) (path : List Step) (axis : Axis) (f : ℕ → ℕ) : Type 0 where
  pub meets : Meets T path axis f
  pub made_up : (i : ℕ) → IsLeaf T i → IsMadeUp T path axis f i

places_pair : (n : ℕ) (axis : Axis) (a b : ℕ) (s : Step) → IsPairOf n s.pair → PlacesBy axis a b s.pair s.choice → (1 ≤ a) × (a ≤ n) × (1 ≤ b) × (b ≤ n) × (a ≢ b)
places_pair n axis a b s pair by = go axis s.choice by
  where
    go : (ax : Axis) (c : Choice) → PlacesBy ax a b s.pair c → (1 ≤ a) × (a ≤ n) × (1 ≤ b) × (b ≤ n) × (a ≢ b)
    go X Left by = (omega arith, omega arith, omega arith, omega arith, λ e. omega arith)
    go X Right by = (omega arith, omega arith, omega arith, omega arith, λ e. omega arith)
    go X Below by = absurd by
    go X Above by = absurd by
    go Y Left by = absurd by
    go Y Right by = absurd by
    go Y Below by = (omega arith, omega arith, omega arith, omega arith, λ e. omega arith)
    go Y Above by = (omega arith, omega arith, omega arith, omega arith, λ e. omega arith)

-- what a path places are two different leaves
pub placed_leaves : (n : ℕ) (path : List Step) (axis : Axis) (a b : ℕ) → HasPairsOf n path → Places path axis a b → (1 ≤ a) × (a ≤ n) × (1 ≤ b) × (b ≤ n) × (a ≢ b)
placed_leaves n [] axis a b pairs p = absurd p
placed_leaves n (s ∷ path) axis a b pairs (inl here) = places_pair n axis a b s (pairs 0 s (omega arith)) here
placed_leaves n (s ∷ path) axis a b pairs (inr later) =
    placed_leaves n path axis a b (λ k d less. pairs (suc k) d (omega arith)) later

pub last_more : (a b : ℕ) (more : List ℕ) → last_of (a ∷ b ∷ more) ≡ last_of (b ∷ more)
last_more a b more =
    let e : suc (suc (length more)) - 1 ≡ suc (length more) = omega arith in
    let g : suc (length more) - 1 ≡ length more = omega arith in
    rw (e, g) refl

module _ (T : TreeValue) (t : IsTree T) (path : List Step) (pairs : HasPairsOf (leaf_count T) path) (axis : Axis) where
  pub placed_apart : (a b : ℕ) → Places path axis a b → 1 ≤ leaf_dist T a b
  placed_apart a b p =
      let l = placed_leaves (leaf_count T) path axis a b pairs p in
      elim (cases_lt a b) [
        | inl less ↦ omega (arith, leaves_apart T t a b l.0 less l.3)
        | inr most ↦ omega (arith, leaves_apart T t b a l.2 (elim (cases_eq a b) [ inl same ↦ absurd (l.4 same) | inr apart ↦ omega arith ]) l.1, dist_comm T t (leaf_node T a) (leaf_node T b))
      ]

  module _ (f : ℕ → ℕ) (meets : Meets T path axis f) where
    -- along a chain the coordinates rise by its weight at least
    pub rises_by : (x : ℕ) (xs : List ℕ) → ArePlaced path axis (x ∷ xs) → f x + chain_weight T (x ∷ xs) ≤ f (last_of (x ∷ xs))
    rises_by x [] placed = omega arith
    rises_by x (y ∷ more) placed =
        let e : f (last_of (x ∷ y ∷ more)) ≡ f (last_of (y ∷ more)) = ap f (last_more x y more) in
        omega (arith, meets x y placed.0, rises_by y more placed.1, e)

    rises : (x : ℕ) (xs : List ℕ) → ArePlaced path axis (x ∷ xs) → All (λ y. f x < f y) xs
    rises x [] placed = λ k d less. absurd (omega arith)
    rises x (y ∷ more) placed =
        let one : f x < f y = omega (arith, meets x y placed.0, placed_apart x y placed.0) in
        let rest : All (λ z. f y < f z) more = rises y more placed.1 in
        All-cons (λ z. f x < f z) y more one (λ k d less. omega (arith, rest k d less))

    all_rise : (xs : List ℕ) → ArePlaced path axis xs → AllPairs (λ a b. f a < f b) xs
    all_rise [] placed = λ i j d less within. absurd (omega arith)
    all_rise (x ∷ []) placed = λ i j d less within. absurd (omega arith)
    all_rise (x ∷ y ∷ more) placed =
        AllPairs-cons (λ a b. f a < f b) x (y ∷ more) (rises x (y ∷ more) placed) (all_rise (y ∷ more) placed.1)

    -- so a list of leaves, each placed before the next, repeats none
    pub all_differ : (xs : List ℕ) → ArePlaced path axis xs → AllPairs (λ a b. a ≢ b) xs
    all_differ xs placed i j d less within same = omega (arith, all_rise xs placed i j d less within, ap f same)

    all_leaves : (x : ℕ) (xs : List ℕ) → IsLeaf T x → ArePlaced path axis (x ∷ xs) → All (IsLeaf T) (x ∷ xs)
    all_leaves x [] leaf placed = All-cons (IsLeaf T) x [] leaf (λ k d less. absurd (omega arith))
    all_leaves x (y ∷ more) leaf placed =
        let l = placed_leaves (leaf_count T) path axis x y pairs placed.0 in
        All-cons (IsLeaf T) x (y ∷ more) leaf (all_leaves y more (l.2, l.3) placed.1)

    pub chain_from_placed : (x : ℕ) (xs : List ℕ) → IsLeaf T x → ArePlaced path axis (x ∷ xs) → IsChain (leaf_count T) path axis (x ∷ xs)
    chain_from_placed x xs leaf placed =
        record { some = omega arith; are_leaves = all_leaves x xs leaf placed; differ = all_differ (x ∷ xs) placed; placed = placed }

    -- no chain is a cycle
    pub no_cycle : HasCycleOn (leaf_count T) path axis → ⊥
    no_cycle (leaves, cycle) = go leaves cycle
      where
        go : (xs : List ℕ) → IsCycle (leaf_count T) path axis xs → ⊥
        go [] c = let h = c.two in absurd (omega arith)
        go (x ∷ xs) c =
            let rise = rises_by x xs c.chain.placed in
            let back = meets (last_of (x ∷ xs)) x c.closed in
            let apart = placed_apart (last_of (x ∷ xs)) x c.closed in
            absurd (omega arith)

    -- no chain weighs more than the coordinate where it ends
    pub weighs_most : (xs : List ℕ) → IsChain (leaf_count T) path axis xs → chain_weight T xs ≤ f (last_of xs)
    weighs_most [] c = let h = c.some in absurd (omega arith)
    weighs_most (x ∷ xs) c = omega (arith, rises_by x xs c.placed)

  -- Coordinates that are made up too.
  module _ (f : ℕ → ℕ) (lows : AreLows T path axis f) where
    -- going back from a leaf, a chain that makes up its coordinate
    pub record Traced (i : ℕ) (rest : List ℕ) : Type 0 where
      pub x : ℕ
      pub xs : List ℕ
      pub leaf : IsLeaf T x
      pub placed : ArePlaced path axis (x ∷ xs)
      pub ends : last_of (x ∷ xs) ≡ last_of (i ∷ rest)
      pub weighs : chain_weight T (x ∷ xs) ≡ f i + chain_weight T (i ∷ rest)

    traced : (k i : ℕ) (rest : List ℕ) → f i ≤ k → IsLeaf T i → ArePlaced path axis (i ∷ rest) → Traced i rest
    traced zero i rest most leaf placed =
        record { x = i; xs = rest; leaf = leaf; placed = placed; ends = refl; weighs = omega arith }
    traced (suc k) i rest most leaf placed = elim (lows.made_up i leaf) [
      | inl none ↦
          record { x = i; xs = rest; leaf = leaf; placed = placed; ends = refl; weighs = omega (arith, none) }
      | inr p ↦
          let l = placed_leaves (leaf_count T) path axis p.0 i pairs p.1 in
          let r = traced k p.0 (i ∷ rest) (omega (arith, placed_apart p.0 i p.1, p.2)) (l.0, l.1) (p.1, placed) in
          record {
            x = r.x;
            xs = r.xs;
            leaf = r.leaf;
            placed = r.placed;
            ends = r.ends ∙ last_more p.0 i rest;
            weighs = omega (arith, r.weighs, p.2);
          }
    ]

    pub is_low : (i : ℕ) → IsLeaf T i → IsLow T path axis i (f i)
    is_low i leaf =
        let r = traced (f i) i [] (omega arith) leaf tt in
        record {
          chain = r.x ∷ r.xs;
          is_chain = chain_from_placed f lows.meets r.x r.xs r.leaf r.placed;
          ends = r.ends;
          weighs = omega (arith, r.weighs);
          most = λ other is_chain ends. omega (arith, weighs_most f lows.meets other is_chain, ap f ends);
        }

-- Each leaf has one low coordinate, and each axis one greatest weight.

pub one_low : (T : TreeValue) (path : List Step) (axis : Axis) (i v w : ℕ) → IsLow T path axis i v → IsLow T path axis i w → v ≡ w
one_low T path axis i v w l m =
    omega (arith, l.most m.chain m.is_chain m.ends, m.most l.chain l.is_chain l.ends, l.weighs, m.weighs)

pub one_greatest_on : (T : TreeValue) (path : List Step) (axis : Axis) (v w : ℕ) → IsGreatestOn T path axis v → IsGreatestOn T path axis w → v ≡ w
one_greatest_on T path axis v w l m =
    omega (arith, l.most m.chain m.is_chain, m.most l.chain l.is_chain, l.weighs, m.weighs)

-- Numbers that differ, each from 1 to n, are at most n.
pub few_leaves : (n : ℕ) (xs : List ℕ) → All (λ i. (1 ≤ i) × (i ≤ n)) xs → AllPairs (λ a b. a ≢ b) xs → length xs ≤ n
few_leaves n xs leaves differ =
    let apart : All (λ i. 0 ≢ i) xs = λ k d less same. omega (arith, (leaves k d less).0, same) in
    let distinct = IsDistinct-from_AllPairs Decides-eqb (0 ∷ xs) (AllPairs-cons (λ a b. a ≢ b) 0 xs apart differ) in
    let below : All (λ i. i < n + 1) (0 ∷ xs) = All-cons (λ i. i < n + 1) 0 xs (omega arith) (λ k d less. omega (arith, (leaves k d less).1)) in
    let few : length (0 ∷ xs) ≤ n + 1 =
    length-le_from_distinct_below (0 ∷ xs) (n + 1) distinct (λ q there. let c = Contains-from_any (λ x y e. eqb-true x y e) q (0 ∷ xs) there in subst (λ (i : ℕ). i < n + 1) c.2 (below c.0 q c.1)) in
    omega (arith, few)

module _ (T : TreeValue) (t : IsTree T) where
  pub weight_small : (xs : List ℕ) → chain_weight T xs ≤ most_distance * (length xs - 1)
  weight_small [] = omega arith
  weight_small (x ∷ []) = omega arith
  weight_small (x ∷ y ∷ more) =
      omega (arith, dist_small T t (leaf_node T x) (leaf_node T y), weight_small (y ∷ more))

  pub chain_few : (path : List Step) (axis : Axis) (xs : List ℕ) → IsChain (leaf_count T) path axis xs → length xs ≤ 32
  chain_few path axis xs c = omega (arith, few_leaves (leaf_count T) xs c.are_leaves c.differ, t.leaves_few)

  -- no chain weighs more than 31 times the greatest distance
  pub chain_small : (path : List Step) (axis : Axis) (xs : List ℕ) → IsChain (leaf_count T) path axis xs → chain_weight T xs ≤ most_side
  chain_small path axis xs c = omega (arith, weight_small xs, chain_few path axis xs c)

  pub low_small : (path : List Step) (axis : Axis) (i v : ℕ) → IsLow T path axis i v → v ≤ most_side
  low_small path axis i v l = omega (arith, l.weighs, chain_small path axis l.chain l.is_chain)
