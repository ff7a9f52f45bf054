-- Raising a row by one step, and by all steps in turn.
use Rattle.std.proofs.Common.{◌≡◌, ◌≢◌, ◌⊎◌, inl, inr, ℕ, ◌+◌, ◌*◌, ◌<◌, ◌≤◌, List, [], ◌∷◌, Some, length, get_or, set, sum, take, refl, sym, ◌∙◌, ap, subst, arith}
use Rattle.std.specs.List.{slice_get}
use Rattle.std.proofs.lemmas.List.{get_or-set_same, get_or-set_other, take_all}
use Rattle.std.proofs.lemmas.List.Sums.{sum_by-set}
use Rattle.std.proofs.lemmas.Bool.{cases_eq}
use Rattle.bp_base.specs.declared.path.Choice.{Choice}
use Rattle.bp_base.specs.declared.path.Choice.TheVariants.{Left, Right, Below, Above}
use Rattle.bp_base.specs.declared.path.Pair.{Pair}
use Rattle.bp_base.specs.declared.path.Step.{Step}
use Rattle.bp_base.specs.declared.point.Axis.{Axis}
use Rattle.bp_base.specs.declared.point.Axis.TheVariants.{X, Y}
use Rattle.bp_base.specs.Limits.{most_number}
use Rattle.bp_base.specs.Path.{IsPairOf}
use Rattle.bp_base.specs.Tree.{TreeValue, IsTree, IsLeaf, leaf_count}
use Rattle.bp_metric.specs.Chains.{PlacesBy, Places}
use Rattle.bp_metric.specs.Distance.{leaf_dist}
use Rattle.bp_metric.proofs.Chains.{places_cases, places_one, take_step}
use Rattle.bp_steady.specs.Bounds.{BoundsValue, place, of_leaf, low_of, high_of}
use Rattle.bp_steady.specs.Searching.{AreBounds, IsOrderOf, IsPassed, IsPulled, IsRising, KeepsTo, MeetsAll, MeetsStep, NoneMeets}
use Rattle.bp_steady.specs.declared.orders.Order.{Order}
use Rattle.bp_steady.specs.declared.rising.Pulled.{Pulled}
use Rattle.bp_steady.specs.declared.rising.Pulled.TheVariants.{Met, Risen, Above as TooHigh}

-- two coordinates that stand at one place are one
pub place_one : (ax ay : Axis) (i j : ℕ) → 1 ≤ i → 1 ≤ j → place ax i ≡ place ay j → (ax ≡ ay) × (i ≡ j)
place_one X X i j from_i from_j same = (refl, omega arith)
place_one X Y i j from_i from_j same = absurd (omega arith)
place_one Y X i j from_i from_j same = absurd (omega arith)
place_one Y Y i j from_i from_j same = (refl, omega arith)

pub place_within : (axis : Axis) (n i : ℕ) → 1 ≤ i → i ≤ n → place axis i < 2 * n
place_within X n i from to = omega arith
place_within Y n i from to = omega arith

-- what a choice places, and that it places nothing else
record Ordered (T : TreeValue) (n : ℕ) (p : Pair) (c : Choice) (o : Order) : Type 0 where
  pub axis : Axis
  pub a : ℕ
  pub b : ℕ
  pub by : PlacesBy axis a b p c
  pub from : o.from ≡ place axis a
  pub to : o.to ≡ place axis b
  pub weight : o.weight ≡ leaf_dist T a b
  pub leaf_a : (1 ≤ a) × (a ≤ n)
  pub leaf_b : (1 ≤ b) × (b ≤ n)
  pub apart : a ≢ b
  pub only : (ax : Axis) (i j : ℕ) → PlacesBy ax i j p c → (ax ≡ axis) × (i ≡ a) × (j ≡ b)

pub only_left : (p : Pair) (ax : Axis) (i j : ℕ) → PlacesBy ax i j p Left → (ax ≡ X) × (i ≡ p.i) × (j ≡ p.j)
only_left p X i j by = (refl, by.0, by.1)
only_left p Y i j by = absurd by

pub only_right : (p : Pair) (ax : Axis) (i j : ℕ) → PlacesBy ax i j p Right → (ax ≡ X) × (i ≡ p.j) × (j ≡ p.i)
only_right p X i j by = (refl, by.0, by.1)
only_right p Y i j by = absurd by

pub only_below : (p : Pair) (ax : Axis) (i j : ℕ) → PlacesBy ax i j p Below → (ax ≡ Y) × (i ≡ p.i) × (j ≡ p.j)
only_below p X i j by = absurd by
only_below p Y i j by = (refl, by.0, by.1)

pub only_above : (p : Pair) (ax : Axis) (i j : ℕ) → PlacesBy ax i j p Above → (ax ≡ Y) × (i ≡ p.j) × (j ≡ p.i)
only_above p X i j by = absurd by
only_above p Y i j by = (refl, by.0, by.1)

ordered : (T : TreeValue) (n : ℕ) (p : Pair) (c : Choice) (o : Order) → IsPairOf n p → IsOrderOf T p c o → Ordered T n p c o
ordered T n p Left o pair is = record {
  axis = X;
  a = p.i;
  b = p.j;
  by = (refl, refl);
  from = is.0;
  to = is.1;
  weight = is.2;
  leaf_a = (pair.0, omega (arith, pair.1, pair.2));
  leaf_b = (omega (arith, pair.0, pair.1), pair.2);
  apart = λ e. omega (arith, pair.1, e);
  only = only_left p;
}
ordered T n p Right o pair is = record {
  axis = X;
  a = p.j;
  b = p.i;
  by = (refl, refl);
  from = is.0;
  to = is.1;
  weight = is.2;
  leaf_a = (omega (arith, pair.0, pair.1), pair.2);
  leaf_b = (pair.0, omega (arith, pair.1, pair.2));
  apart = λ e. omega (arith, pair.1, e);
  only = only_right p;
}
ordered T n p Below o pair is = record {
  axis = Y;
  a = p.i;
  b = p.j;
  by = (refl, refl);
  from = is.0;
  to = is.1;
  weight = is.2;
  leaf_a = (pair.0, omega (arith, pair.1, pair.2));
  leaf_b = (omega (arith, pair.0, pair.1), pair.2);
  apart = λ e. omega (arith, pair.1, e);
  only = only_below p;
}
ordered T n p Above o pair is = record {
  axis = Y;
  a = p.j;
  b = p.i;
  by = (refl, refl);
  from = is.0;
  to = is.1;
  weight = is.2;
  leaf_a = (omega (arith, pair.0, pair.1), pair.2);
  leaf_b = (pair.0, omega (arith, pair.1, pair.2));
  apart = λ e. omega (arith, pair.1, e);
  only = only_above p;
}

module _ (T : TreeValue) (t : IsTree T) (path : List Step) (b : BoundsValue) (bounds : AreBounds T b) (row : List ℕ) (each : length row ≡ 64) (is : IsRising T path b row) where
  module _ (axis : Axis) (a c : ℕ) (leaf_a : IsLeaf T a) (leaf_c : IsLeaf T c) (placed : Places path axis a c) (asked : ℕ) (asked_is : asked ≡ of_leaf row axis a + leaf_dist T a c) where
    too_high : high_of b axis c < asked → NoneMeets T path b
    too_high above f keeps meets =
        omega (arith, meets axis a c placed, (keeps axis c leaf_c).1, is.least f keeps meets axis a leaf_a, asked_is, above)

    module _ (more : of_leaf row axis c < asked) (within : asked ≤ high_of b axis c) where
      abbrev new : List ℕ
      new = set row (place axis c) asked

      room : place axis c < length row
      room = omega (arith, place_within axis (leaf_count T) c leaf_c.0 leaf_c.1, t.leaves_few, each)

      here : get_or new (place axis c) 0 ≡ asked
      here = get_or-set_same row (place axis c) asked 0 room

      there : (k : ℕ) → k ≢ place axis c → get_or new k 0 ≡ get_or row k 0
      there k other = get_or-set_other row (place axis c) k asked 0 other

      at_place : (k : ℕ) → k ≡ place axis c → get_or new k 0 ≡ asked
      at_place k same = ap (λ (m : ℕ). get_or new m 0) same ∙ here

      grown : (k : ℕ) → get_or row k 0 ≤ get_or new k 0
      grown k = elim (cases_eq k (place axis c)) [
        | inl same ↦ omega (arith, at_place k same, more, ap (λ (m : ℕ). get_or row m 0) same)
        | inr other ↦ omega (arith, there k other)
      ]

      keeps_to : (ay : Axis) (i : ℕ) → IsLeaf T i → (low_of b ay i ≤ of_leaf new ay i) × (of_leaf new ay i ≤ high_of b ay i)
      keeps_to ay i leaf = elim (cases_eq (place ay i) (place axis c)) [
        | inl same ↦ (
          omega (arith, (is.keeps ay i leaf).0, grown (place ay i)),
          omega (arith, at_place (place ay i) same, within, ap (λ (m : ℕ). get_or b.high m 0) same),
        )
        | inr other ↦ (
          omega (arith, (is.keeps ay i leaf).0, there (place ay i) other),
          omega (arith, (is.keeps ay i leaf).1, there (place ay i) other),
        )
      ]

      made_by : (ay : Axis) (i : ℕ) → IsLeaf T i → (of_leaf new ay i ≡ low_of b ay i) ⊎ ((p : ℕ) × Places path ay p i × (of_leaf new ay i ≤ of_leaf new ay p + leaf_dist T p i))
      made_by ay i leaf = elim (cases_eq (place ay i) (place axis c)) [
        | inl same ↦
            let e = place_one ay axis i c leaf.0 leaf_c.0 same in
            let old : of_leaf row ay a ≡ of_leaf row axis a = ap (λ (ax : Axis). of_leaf row ax a) e.0 in
            let far : leaf_dist T a i ≡ leaf_dist T a c = ap (λ (m : ℕ). leaf_dist T a m) e.1 in
            inr (a, subst (λ (ax : Axis). Places path ax a i) (sym e.0) (subst (λ (m : ℕ). Places path axis a m) (sym e.1) placed), omega (arith, at_place (place ay i) same, grown (place ay a), old, far, asked_is))
        | inr other ↦ elim (is.made ay i leaf) [
          | inl low ↦ inl (there (place ay i) other ∙ low)
          | inr p ↦ inr (p.0, p.1, omega (arith, there (place ay i) other, grown (place ay p.0), p.2))
        ]
      ]

      least_too : (f : Axis → ℕ → ℕ) → KeepsTo T b f → MeetsAll T path f → (ay : Axis) (i : ℕ) → IsLeaf T i → of_leaf new ay i ≤ f ay i
      least_too f keeps meets ay i leaf = elim (cases_eq (place ay i) (place axis c)) [
        | inl same ↦
            let e = place_one ay axis i c leaf.0 leaf_c.0 same in
            let as_c : f ay i ≡ f axis c = λ k. f (e.0 k) (e.1 k) in
            omega (arith, at_place (place ay i) same, as_c, meets axis a c placed, is.least f keeps meets axis a leaf_a, asked_is)
        | inr other ↦ omega (arith, there (place ay i) other, is.least f keeps meets ay i leaf)
      ]

      small_too : (k : ℕ) → get_or new k 0 ≤ most_number
      small_too k = elim (cases_eq k (place axis c)) [
        | inl same ↦ omega (arith, at_place k same, within, bounds.small (place axis c))
        | inr other ↦ omega (arith, there k other, is.small k)
      ]

      raised : IsRising T path b new × (sum row < sum new)
      raised =
          let sums : sum new + get_or row (place axis c) 0 ≡ sum row + asked = sum_by-set (λ (x : ℕ). x) row (place axis c) asked 0 room in (
            record { keeps = keeps_to; small = small_too; made = made_by; least = least_too },
            omega (arith, sums, more),
          )

  -- one step
  module _ (s : Step) (pair : IsPairOf (leaf_count T) s.pair) (holds : (axis : Axis) (i j : ℕ) → PlacesBy axis i j s.pair s.choice → Places path axis i j) (o : Order) (order : IsOrderOf T s.pair s.choice o) (asked : ℕ) (asked_is : asked ≡ get_or row o.from 0 + o.weight) where
    is_ordered : Ordered T (leaf_count T) s.pair s.choice o
    is_ordered = ordered T (leaf_count T) s.pair s.choice o pair order

    asked_of : (d : Ordered T (leaf_count T) s.pair s.choice o) → asked ≡ of_leaf row d.axis d.a + leaf_dist T d.a d.b
    asked_of d = omega (arith, asked_is, d.weight, ap (λ (k : ℕ). get_or row k 0) d.from)

    pub pulled_met : (new : List ℕ) → new ≡ row → asked ≤ get_or row o.to 0 → IsPulled T path b s row new Met
    pulled_met new same met = (same, met_by is_ordered)
      where
        met_by : Ordered T (leaf_count T) s.pair s.choice o → MeetsStep T s row
        met_by d = λ ax i j placed.
            let e = d.only ax i j (places_one s ax i j placed) in
            let first : of_leaf row ax i ≡ of_leaf row d.axis d.a = λ k. of_leaf row (e.0 k) (e.1 k) in
            let second : of_leaf row ax j ≡ of_leaf row d.axis d.b = λ k. of_leaf row (e.0 k) (e.2 k) in
            let far : leaf_dist T i j ≡ leaf_dist T d.a d.b = λ k. leaf_dist T (e.1 k) (e.2 k) in
            omega (arith, first, second, far, asked_of d, met, ap (λ (k : ℕ). get_or row k 0) d.to)

    pub pulled_above : (new : List ℕ) → get_or b.high o.to 0 < asked → IsPulled T path b s row new TooHigh
    pulled_above new above = go is_ordered
      where
        go : Ordered T (leaf_count T) s.pair s.choice o → NoneMeets T path b
        go d = too_high d.axis d.a d.b d.leaf_a d.leaf_b (holds d.axis d.a d.b d.by) asked (asked_of d) (omega (arith, above, ap (λ (k : ℕ). get_or b.high k 0) d.to))

    pub pulled_risen : (new : List ℕ) → new ≡ set row o.to asked → get_or row o.to 0 < asked → asked ≤ get_or b.high o.to 0 → IsPulled T path b s row new Risen
    pulled_risen new new_is more within = go is_ordered
      where
        go : Ordered T (leaf_count T) s.pair s.choice o → IsRising T path b new × (sum row < sum new)
        go d =
            let there : new ≡ set row (place d.axis d.b) asked = new_is ∙ ap (λ (k : ℕ). set row k asked) d.to in
            subst (λ (r : List ℕ). IsRising T path b r × (sum row < sum r)) (sym there)
            (raised d.axis d.a d.b d.leaf_a d.leaf_b (holds d.axis d.a d.b d.by) asked (asked_of d)
            (omega (arith, more, ap (λ (k : ℕ). get_or row k 0) d.to))
            (omega (arith, within, ap (λ (k : ℕ). get_or b.high k 0) d.to)))

-- All steps in turn.

abbrev pub SoFar : TreeValue → List Step → List ℕ → List ℕ → ℕ → Pulled → Type 0
SoFar T path old next k Met = (next ≡ old) × MeetsAll T (take k path) (of_leaf next)
SoFar T path old next k Risen = sum old < sum next
SoFar T path old next k TooHigh = ⊥

module _ (T : TreeValue) (path : List Step) (old row : List ℕ) (k : ℕ) where
  pub meets_more : (s : Step) → slice_get path k ≡ Some s → MeetsAll T (take k path) (of_leaf row) → MeetsStep T s row → MeetsAll T (take (k + 1) path) (of_leaf row)
  meets_more s at so_far here axis i j placed =
      elim (places_cases (take k path) (s ∷ []) axis i j (subst (λ (q : List Step). Places q axis i j) (take_step path k s at) placed)) [
        | inl front ↦ so_far axis i j front
        | inr back ↦ here axis i j back
      ]

  pub so_far_met : (s : Step) (all : Pulled) (new : List ℕ) → slice_get path k ≡ Some s → SoFar T path old row k all → (new ≡ row) × MeetsStep T s row → SoFar T path old new (k + 1) all
  so_far_met s Met new at so_far met =
      (met.0 ∙ so_far.0, subst (λ (r : List ℕ). MeetsAll T (take (k + 1) path) (of_leaf r)) (sym met.0) (meets_more s at so_far.1 met.1))
  so_far_met s Risen new at so_far met = omega (arith, so_far, ap sum met.0)
  so_far_met s TooHigh new at so_far met = so_far

  pub so_far_risen : (all : Pulled) (new : List ℕ) → SoFar T path old row k all → sum row < sum new → sum old < sum new
  so_far_risen Met new so_far more = omega (arith, ap sum so_far.0, more)
  so_far_risen Risen new so_far more = omega (arith, so_far, more)
  so_far_risen TooHigh new so_far more = absurd so_far

  pub passed : (b : BoundsValue) (all : Pulled) → length path ≤ k → IsRising T path b row → SoFar T path old row k all → IsPassed T path b old row all
  passed b Met past rising so_far =
      record { rising = rising; meets = subst (λ (q : List Step). MeetsAll T q (of_leaf row)) (take_all k path past) so_far.1 }
  passed b Risen past rising so_far = (rising, so_far)
  passed b TooHigh past rising so_far = absurd so_far
