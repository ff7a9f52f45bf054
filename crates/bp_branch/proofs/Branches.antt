-- What holds of a path without a cycle: it places no leaf before itself, its low coordinates meet its steps, and its next pair isn't on it.
use Rattle.std.proofs.Common.{◌≡◌, ◌≢◌, ℕ, ◌+◌, ◌-◌, ◌<◌, ◌≤◌, ◌⊎◌, max, List, [], ◌∷◌, ◌++◌, length, get_or, Some, refl, sym, ◌∙◌, ap, subst, arith, inl, inr}
use Rattle.std.specs.List.{All, AllPairs, slice_get}
use Rattle.std.specs.Int.{abs_diff}
use Rattle.std.proofs.lemmas.List.{length-append, get_or_append_left, get_or-append-add}
use Rattle.std.proofs.lemmas.List.Elements.{All-cons}
use Rattle.std.proofs.lemmas.List.Kept.{AllPairs-cons}
use Rattle.std.proofs.lemmas.Bool.{cases_eq}
use Rattle.std.proofs.lemmas.Option.{slice_get-get_or}
use Rattle.bp_base.specs.declared.point.Axis.{Axis}
use Rattle.bp_base.specs.declared.point.Axis.TheVariants.{X, Y}
use Rattle.bp_base.specs.declared.path.Choice.{Choice}
use Rattle.bp_base.specs.declared.path.Choice.TheVariants.{Left, Right, Below, Above}
use Rattle.bp_base.specs.declared.path.Pair.{Pair}
use Rattle.bp_base.specs.declared.path.Step.{Step}
use Rattle.bp_base.specs.Path.{IsPairOf}
use Rattle.bp_base.specs.Tree.{TreeValue, IsTree, IsLeaf, leaf_count, leaf_node}
use Rattle.bp_metric.specs.Distance.{leaf_dist}
use Rattle.bp_metric.specs.Chains.{PlacesBy, Places, ArePlaced, IsChain, IsCycle, HasCycle, HasCycleOn, HasPairsOf, chain_weight, last_of}
use Rattle.bp_metric.specs.Coordinates.{IsLow}
use Rattle.bp_metric.specs.Next.{IsNear, IsNextPair}
use Rattle.bp_metric.specs.Refutation.{CanSplit}
use Rattle.bp_metric.proofs.Chains.{places_cases, places_one, places_at}
use Rattle.bp_metric.proofs.Cycles.{last_join, placed_join, placed_front, placed_between, cycle_turned}
use Rattle.bp_metric.proofs.Distances.{dist_comm, dist_same, triangle}
use Rattle.bp_metric.proofs.Lows.{placed_leaves, last_more}

-- b isn't in the list, or the list is cut at its first b
pub record IsCutAt (b : ℕ) (xs : List ℕ) : Type 0 where
  pub front : List ℕ
  pub back : List ℕ
  pub is : xs ≡ front ++ b ∷ back
  pub new : All (λ (x : ℕ). x ≢ b) front

pub cases_in : (b : ℕ) (xs : List ℕ) → All (λ (x : ℕ). x ≢ b) xs ⊎ IsCutAt b xs
cases_in b [] = inl (λ k d less. absurd (omega arith))
cases_in b (x ∷ xs) = elim (cases_eq x b) [
  | inl same ↦ inr (record { front = []; back = xs; is = ap (λ (v : ℕ). v ∷ xs) same; new = λ k d less. absurd (omega arith) })
  | inr other ↦ elim (cases_in b xs) [
    | inl none ↦ inl (All-cons (λ (x : ℕ). x ≢ b) x xs other none)
    | inr cut ↦ inr (record { front = x ∷ cut.front; back = cut.back; is = ap (λ (v : List ℕ). x ∷ v) cut.is; new = All-cons (λ (x : ℕ). x ≢ b) x cut.front other cut.new })
  ]
]

-- the front of numbers that differ
pub differ_front : (xs ys : List ℕ) → AllPairs (λ a b. a ≢ b) (xs ++ ys) → AllPairs (λ a b. a ≢ b) xs
differ_front xs ys differ i j d less within same =
    differ i j d less (omega (arith, length-append xs ys)) (get_or_append_left xs ys d i (omega arith) ∙ same ∙ sym (get_or_append_left xs ys d j within))

pub leaves_front : (n : ℕ) (xs ys : List ℕ) → All (λ i. (1 ≤ i) × (i ≤ n)) (xs ++ ys) → All (λ i. (1 ≤ i) × (i ≤ n)) xs
leaves_front n xs ys all k d less =
    subst (λ (i : ℕ). (1 ≤ i) × (i ≤ n)) (get_or_append_left xs ys d k less) (all k d (omega (arith, length-append xs ys)))

module _ (T : TreeValue) (t : IsTree T) where
  -- no chain is lighter than the distance of its ends
  pub weight_apart : (x : ℕ) (xs : List ℕ) → leaf_dist T x (last_of (x ∷ xs)) ≤ chain_weight T (x ∷ xs)
  weight_apart x [] = omega (arith, dist_same T t (leaf_node T x))
  weight_apart x (y ∷ more) =
      let rest = weight_apart y more in
      let e : leaf_dist T x (last_of (x ∷ y ∷ more)) ≡ leaf_dist T x (last_of (y ∷ more)) = ap (leaf_dist T x) (last_more x y more) in
      omega (arith, rest, e, triangle T t (leaf_node T x) (leaf_node T y) (leaf_node T (last_of (y ∷ more))))

  module _ (path : List Step) (pairs : HasPairsOf (leaf_count T) path) (axis : Axis) (free : HasCycleOn (leaf_count T) path axis → ⊥) where
    placed_all : (x : ℕ) (xs : List ℕ) → IsLeaf T x → ArePlaced path axis (x ∷ xs) → All (λ i. (1 ≤ i) × (i ≤ leaf_count T)) (x ∷ xs)
    placed_all x [] leaf placed = All-cons (λ i. (1 ≤ i) × (i ≤ leaf_count T)) x [] leaf (λ k d less. absurd (omega arith))
    placed_all x (y ∷ more) leaf placed =
        let l = placed_leaves (leaf_count T) path axis x y pairs placed.0 in
        All-cons (λ i. (1 ≤ i) × (i ≤ leaf_count T)) x (y ∷ more) leaf (placed_all y more (l.2, l.3) placed.1)

    -- where leaves differ up to a return to the first, there is a cycle
    returns : (x : ℕ) (front back : List ℕ) → IsLeaf T x → AllPairs (λ a b. a ≢ b) (front ++ x ∷ back) → All (λ (y : ℕ). y ≢ x) front → ArePlaced path axis (x ∷ (front ++ x ∷ back)) → ⊥
    returns x [] back leaf differ new placed =
        let l = placed_leaves (leaf_count T) path axis x x pairs placed.0 in absurd (l.4 refl)
    returns x (y ∷ more) back leaf differ new placed =
        let round = placed_front path axis (x ∷ y ∷ more) (x ∷ back) placed in
        free (
          x ∷ y ∷ more,
          record {
            chain = record {
              some = omega arith;
              are_leaves = placed_all x (y ∷ more) leaf round;
              differ = AllPairs-cons (λ a b. a ≢ b) x (y ∷ more) (λ k d less same. new k d less (sym same)) (differ_front (y ∷ more) (x ∷ back) differ);
              placed = round;
            };
            two = omega arith;
            closed = placed_between path axis x (y ∷ more) x back placed;
          },
        )

    -- leaves of which each is placed before the next differ
    pub placed_differ : (x : ℕ) (xs : List ℕ) → IsLeaf T x → ArePlaced path axis (x ∷ xs) → AllPairs (λ a b. a ≢ b) (x ∷ xs)
    placed_differ x [] leaf placed = λ i j d less within. absurd (omega arith)
    placed_differ x (y ∷ more) leaf placed =
        let l = placed_leaves (leaf_count T) path axis x y pairs placed.0 in
        let rest = placed_differ y more (l.2, l.3) placed.1 in
        elim (cases_in x (y ∷ more)) [
          | inl none ↦ AllPairs-cons (λ a b. a ≢ b) x (y ∷ more) (λ k d less same. none k d less (sym same)) rest
          | inr cut ↦ absurd (returns x cut.front cut.back leaf (subst (AllPairs (λ a b. a ≢ b)) cut.is rest) cut.new (subst (λ (v : List ℕ). ArePlaced path axis (x ∷ v)) cut.is placed))
        ]

    pub placed_chain : (x : ℕ) (xs : List ℕ) → IsLeaf T x → ArePlaced path axis (x ∷ xs) → IsChain (leaf_count T) path axis (x ∷ xs)
    placed_chain x xs leaf placed = record {
      some = omega arith;
      are_leaves = placed_all x xs leaf placed;
      differ = placed_differ x xs leaf placed;
      placed = placed;
    }

    -- low coordinates rise along placed leaves, by the distance of the ends at least
    pub lows_apart : (x y : ℕ) (ys : List ℕ) (v w : ℕ) → ArePlaced path axis (x ∷ y ∷ ys) → IsLow T path axis x v → IsLow T path axis (last_of (y ∷ ys)) w → v + leaf_dist T x (last_of (y ∷ ys)) ≤ w
    lows_apart x y ys v w placed low_x low_end = go low_x.chain low_x.is_chain low_x.ends low_x.weighs
      where
        go : (c : List ℕ) → IsChain (leaf_count T) path axis c → last_of c ≡ x → chain_weight T c ≡ v → v + leaf_dist T x (last_of (y ∷ ys)) ≤ w
        go [] c ends weighs = let h = c.some in absurd (omega arith)
        go (a ∷ more) c ends weighs =
            let between : Places path axis (last_of (a ∷ more)) y = subst (λ (l : ℕ). Places path axis l y) (sym ends) placed.0 in
            let all = placed_join path axis a more y ys c.placed placed.1 between in
            let first = c.are_leaves 0 a (omega arith) in
            let chain = placed_chain a (more ++ y ∷ ys) first all in
            let most = low_end.most (a ∷ (more ++ y ∷ ys)) chain (last_join (a ∷ more) y ys) in
            omega (arith, most, joined a more ends, weighs, weight_apart x (y ∷ ys), far)
          where
            far : leaf_dist T x (last_of (x ∷ y ∷ ys)) ≡ leaf_dist T x (last_of (y ∷ ys))
            far = ap (leaf_dist T x) (last_more x y ys)

            joined : (a : ℕ) (more : List ℕ) → last_of (a ∷ more) ≡ x → chain_weight T ((a ∷ more) ++ y ∷ ys) ≡ chain_weight T (a ∷ more) + chain_weight T (x ∷ y ∷ ys)
            joined a [] ends = let e : a ≡ x = ends in rw e (omega arith)
            joined a (b ∷ more) ends = omega (arith, joined b more (sym (last_more a b more) ∙ ends))

-- numbers that are d apart, on one axis or the other, are not nearer
apart_x : (a b c d m : ℕ) → a + m ≤ b → max (abs_diff a b) (abs_diff c d) < m → ⊥
apart_x a b c d m apart near = omega (arith, near, apart)

apart_y : (a b c d m : ℕ) → c + m ≤ d → max (abs_diff a b) (abs_diff c d) < m → ⊥
apart_y a b c d m apart near = omega (arith, near, apart)

apart_x_back : (a b c d m : ℕ) → b + m ≤ a → max (abs_diff a b) (abs_diff c d) < m → ⊥
apart_x_back a b c d m apart near = omega (arith, near, apart)

apart_y_back : (a b c d m : ℕ) → d + m ≤ c → max (abs_diff a b) (abs_diff c d) < m → ⊥
apart_y_back a b c d m apart near = omega (arith, near, apart)

-- the two ends of a list of leaves, each placed before the next, aren't near
pub record Leads (path : List Step) (axis : Axis) (a b : ℕ) : Type 0 where
  pub next : ℕ
  pub rest : List ℕ
  pub placed : ArePlaced path axis (a ∷ next ∷ rest)
  pub ends : last_of (next ∷ rest) ≡ b

pub leads_one : (path : List Step) (axis : Axis) (a b : ℕ) → Places path axis a b → Leads path axis a b
leads_one path axis a b p = record { next = b; rest = []; placed = (p, tt); ends = refl }

module _ (T : TreeValue) (t : IsTree T) (path : List Step) (pairs : HasPairsOf (leaf_count T) path) (free : HasCycle (leaf_count T) path → ⊥) where
  pub leads_apart : (axis : Axis) (a b v w : ℕ) → Leads path axis a b → IsLow T path axis a v → IsLow T path axis b w → v + leaf_dist T a b ≤ w
  leads_apart axis a b v w l low_a low_b =
      let at_end : IsLow T path axis (last_of (l.next ∷ l.rest)) w = subst (λ (i : ℕ). IsLow T path axis i w) (sym l.ends) low_b in
      let most = lows_apart T t path pairs axis (λ c. free (axis, c)) a l.next l.rest v w l.placed low_a at_end in
      subst (λ (i : ℕ). v + leaf_dist T a i ≤ w) l.ends most

  pub near_free : (axis : Axis) (p : Pair) → Leads path axis p.i p.j → IsNear T path p → ⊥
  near_free X p l near = apart_x near.x_i near.x_j near.y_i near.y_j (leaf_dist T p.i p.j) (leads_apart X p.i p.j near.x_i near.x_j l near.is_x_i near.is_x_j) near.near
  near_free Y p l near = apart_y near.x_i near.x_j near.y_i near.y_j (leaf_dist T p.i p.j) (leads_apart Y p.i p.j near.y_i near.y_j l near.is_y_i near.is_y_j) near.near

  pub near_free_back : (axis : Axis) (p : Pair) → Leads path axis p.j p.i → IsNear T path p → ⊥
  near_free_back X p l near =
      let most = leads_apart X p.j p.i near.x_j near.x_i l near.is_x_j near.is_x_i in
      apart_x_back near.x_i near.x_j near.y_i near.y_j (leaf_dist T p.i p.j) (omega (arith, most, dist_comm T t (leaf_node T p.i) (leaf_node T p.j))) near.near
  near_free_back Y p l near =
      let most = leads_apart Y p.j p.i near.y_j near.y_i l near.is_y_j near.is_y_i in
      apart_y_back near.x_i near.x_j near.y_i near.y_j (leaf_dist T p.i p.j) (omega (arith, most, dist_comm T t (leaf_node T p.i) (leaf_node T p.j))) near.near

  -- whatever a step's choice, no list of leaves leads from its later leaf back to its earlier one where its pair is near
  pub near_turns : (axis : Axis) (a b : ℕ) (p : Pair) (c : Choice) → PlacesBy axis a b p c → Leads path axis b a → IsNear T path p → ⊥
  near_turns X a b p Left by l near = near_free_back X p (subst (λ (i : ℕ). Leads path X p.j i) by.0 (subst (λ (i : ℕ). Leads path X i a) by.1 l)) near
  near_turns X a b p Right by l near = near_free X p (subst (λ (i : ℕ). Leads path X p.i i) by.0 (subst (λ (i : ℕ). Leads path X i a) by.1 l)) near
  near_turns X a b p Below by l near = absurd by
  near_turns X a b p Above by l near = absurd by
  near_turns Y a b p Left by l near = absurd by
  near_turns Y a b p Right by l near = absurd by
  near_turns Y a b p Below by l near = near_free_back Y p (subst (λ (i : ℕ). Leads path Y p.j i) by.0 (subst (λ (i : ℕ). Leads path Y i a) by.1 l)) near
  near_turns Y a b p Above by l near = near_free Y p (subst (λ (i : ℕ). Leads path Y p.i i) by.0 (subst (λ (i : ℕ). Leads path Y i a) by.1 l)) near

  on_axis : (axis : Axis) (k : ℕ) (s : Step) → slice_get path k ≡ Some s → (a b : ℕ) → PlacesBy axis a b s.pair s.choice → Leads path axis a b
  on_axis axis k s at a b by = leads_one path axis a b (places_at path axis a b k s at by)

  -- the pair of a step isn't near
  pub step_far : (k : ℕ) (s : Step) → slice_get path k ≡ Some s → IsNear T path s.pair → ⊥
  step_far k s at near = go s.choice refl
    where
      go : (c : Choice) → s.choice ≡ c → ⊥
      go Left e = near_free X s.pair (on_axis X k s at s.pair.i s.pair.j (subst (PlacesBy X s.pair.i s.pair.j s.pair) (sym e) (refl, refl))) near
      go Right e = near_free_back X s.pair (on_axis X k s at s.pair.j s.pair.i (subst (PlacesBy X s.pair.j s.pair.i s.pair) (sym e) (refl, refl))) near
      go Below e = near_free Y s.pair (on_axis Y k s at s.pair.i s.pair.j (subst (PlacesBy Y s.pair.i s.pair.j s.pair) (sym e) (refl, refl))) near
      go Above e = near_free_back Y s.pair (on_axis Y k s at s.pair.j s.pair.i (subst (PlacesBy Y s.pair.j s.pair.i s.pair) (sym e) (refl, refl))) near

  -- so the next pair isn't on the path
  pub next_new : (p : Pair) → IsNextPair T path p → CanSplit T path p
  next_new p next = record {
    pair = next.pair;
    new = λ on. step_far on.0 on.1 (slice_get-get_or path on.0 on.1 on.2 ∙ ap Some on.3) (subst (IsNear T path) (sym on.4) next.near);
  }

-- the list is placed by the path, or cut at the first use of the last step
pub record IsCutBy (path : List Step) (s : Step) (axis : Axis) (xs : List ℕ) : Type 0 where
  pub x : ℕ
  pub front : List ℕ
  pub y : ℕ
  pub back : List ℕ
  pub is : xs ≡ (x ∷ front) ++ y ∷ back
  pub by : PlacesBy axis (last_of (x ∷ front)) y s.pair s.choice

module _ (path : List Step) (s : Step) (axis : Axis) where
  one_step : (a b : ℕ) → Places (path ++ s ∷ []) axis a b → Places path axis a b ⊎ PlacesBy axis a b s.pair s.choice
  one_step a b p = elim (places_cases path (s ∷ []) axis a b p) [
    | inl front ↦ inl front
    | inr back ↦ inr (places_one s axis a b back)
  ]

  pub cases_used : (xs : List ℕ) → ArePlaced (path ++ s ∷ []) axis xs → ArePlaced path axis xs ⊎ IsCutBy path s axis xs
  cases_used [] placed = inl tt
  cases_used (x ∷ []) placed = inl tt
  cases_used (x ∷ y ∷ more) placed = elim (one_step x y placed.0) [
    | inr new ↦ inr (record { x = x; front = []; y = y; back = more; is = refl; by = new })
    | inl old ↦ elim (cases_used (y ∷ more) placed.1) [
      | inl rest ↦ inl (old, rest)
      | inr cut ↦ inr (record {
        x = x;
        front = cut.x ∷ cut.front;
        y = cut.y;
        back = cut.back;
        is = ap (λ (v : List ℕ). x ∷ v) cut.is;
        by = subst (λ (l : ℕ). PlacesBy axis l cut.y s.pair s.choice) (sym (last_more x cut.x cut.front)) cut.by;
      })
    ]
  ]

-- which leaf a step places first, and which after it
one_first : (axis : Axis) (a b c d : ℕ) (p : Pair) (k : Choice) → PlacesBy axis a b p k → PlacesBy axis c d p k → a ≡ c
one_first X a b c d p Left one two = one.0 ∙ sym two.0
one_first X a b c d p Right one two = one.0 ∙ sym two.0
one_first X a b c d p Below one two = absurd one
one_first X a b c d p Above one two = absurd one
one_first Y a b c d p Left one two = absurd one
one_first Y a b c d p Right one two = absurd one
one_first Y a b c d p Below one two = one.0 ∙ sym two.0
one_first Y a b c d p Above one two = one.0 ∙ sym two.0

-- numbers that differ: none before the last is the last
last_new : (x : ℕ) (front : List ℕ) (y : ℕ) (back : List ℕ) → AllPairs (λ a b. a ≢ b) ((x ∷ front) ++ y ∷ back) → last_of (x ∷ front) ≢ last_of (y ∷ back)
last_new x front y back differ same =
    let long : length ((x ∷ front) ++ y ∷ back) ≡ length (x ∷ front) + length (y ∷ back) = length-append (x ∷ front) (y ∷ back) in
    let whole = length (x ∷ front) + length back in
    let is_whole : length (x ∷ front) + length back ≡ length ((x ∷ front) ++ y ∷ back) - 1 = omega (arith, long) in
    let left : get_or ((x ∷ front) ++ y ∷ back) (length front) 0 ≡ get_or (x ∷ front) (length front) 0 = get_or_append_left (x ∷ front) (y ∷ back) 0 (length front) (omega arith) in
    let right : get_or ((x ∷ front) ++ y ∷ back) (length (x ∷ front) + length back) 0 ≡ get_or (y ∷ back) (length back) 0 = get_or-append-add (x ∷ front) (y ∷ back) (length back) 0 in
    let first_end : length (x ∷ front) - 1 ≡ length front = omega arith in
    let last_end : length (y ∷ back) - 1 ≡ length back = omega arith in
    let a : last_of (x ∷ front) ≡ get_or (x ∷ front) (length front) 0 = ap (λ (k : ℕ). get_or (x ∷ front) k 0) first_end in
    let b : last_of (y ∷ back) ≡ get_or (y ∷ back) (length back) 0 = ap (λ (k : ℕ). get_or (y ∷ back) k 0) last_end in
    differ (length front) (length (x ∷ front) + length back) 0 (omega arith) (omega (arith, long)) (left ∙ sym a ∙ same ∙ b ∙ sym right)

module _ (T : TreeValue) (t : IsTree T) (path : List Step) (s : Step) (pairs : HasPairsOf (leaf_count T) path) (pair : IsPairOf (leaf_count T) s.pair) (free : HasCycle (leaf_count T) path → ⊥) (near : IsNear T path s.pair) (axis : Axis) where
  -- a cycle that is closed by the last step uses it nowhere else
  closed_by : (y : ℕ) (ys : List ℕ) → IsChain (leaf_count T) (path ++ s ∷ []) axis (y ∷ ys) → 2 ≤ length (y ∷ ys) → PlacesBy axis (last_of (y ∷ ys)) y s.pair s.choice → ⊥
  closed_by y ys c two by = elim (cases_used path s axis (y ∷ ys) c.placed) [
    | inr cut ↦
        let split : AllPairs (λ a b. a ≢ b) ((cut.x ∷ cut.front) ++ cut.y ∷ cut.back) = subst (AllPairs (λ a b. a ≢ b)) cut.is c.differ in
        let same : last_of (cut.x ∷ cut.front) ≡ last_of (y ∷ ys) = one_first axis (last_of (cut.x ∷ cut.front)) cut.y (last_of (y ∷ ys)) y s.pair s.choice cut.by by in
        last_new cut.x cut.front cut.y cut.back split (same ∙ ap last_of cut.is ∙ last_join (cut.x ∷ cut.front) cut.y cut.back)
    | inl old ↦ go ys old two by
  ]
    where
      go : (zs : List ℕ) → ArePlaced path axis (y ∷ zs) → 2 ≤ length (y ∷ zs) → PlacesBy axis (last_of (y ∷ zs)) y s.pair s.choice → ⊥
      go [] placed two by = absurd (omega (arith, two))
      go (z ∷ more) placed two by =
          near_turns T t path pairs free axis (last_of (y ∷ z ∷ more)) y s.pair s.choice by (record { next = z; rest = more; placed = placed; ends = sym (last_more y z more) }) near

  -- with a step for a near pair a path gets no cycle
  pub no_new_cycle : (xs : List ℕ) → IsCycle (leaf_count T) (path ++ s ∷ []) axis xs → ⊥
  no_new_cycle [] cycle = let h = cycle.two in absurd (omega (arith, h))
  no_new_cycle (x ∷ xs) cycle = elim (cases_used path s axis (x ∷ xs) cycle.chain.placed) [
    | inr cut ↦
        let turned = cycle_turned (leaf_count T) (path ++ s ∷ []) axis (cut.x ∷ cut.front) (cut.y ∷ cut.back) (subst (IsCycle (leaf_count T) (path ++ s ∷ []) axis) cut.is cycle) in
        closed_by cut.y (cut.back ++ cut.x ∷ cut.front) turned.chain turned.two (subst (λ (l : ℕ). PlacesBy axis l cut.y s.pair s.choice) (sym (last_join (cut.y ∷ cut.back) cut.x cut.front)) cut.by)
    | inl old ↦ elim (one_step path s axis (last_of (x ∷ xs)) x cycle.closed) [
      | inl back ↦ free (
        axis,
        (
          x ∷ xs,
          record {
            chain = record { some = cycle.chain.some; are_leaves = cycle.chain.are_leaves; differ = cycle.chain.differ; placed = old };
            two = cycle.two;
            closed = back;
          },
        ),
      )
      | inr by ↦ closed_by x xs cycle.chain cycle.two by
    ]
  ]
