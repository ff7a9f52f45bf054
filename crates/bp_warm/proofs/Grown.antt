-- A row that is exact for the longer path.
use Rattle.std.proofs.Common.{◌≡◌, ℕ, ◌+◌, ◌-◌, ◌≤◌, ◌⊎◌, List, [], ◌∷◌, ◌++◌, length, get_or, ap, arith, inl, inr}
use Rattle.std.proofs.lemmas.List.{get_or_past}
use Rattle.std.proofs.lemmas.List.Elements.{All-append, All-cons}
use Rattle.std.proofs.lemmas.Bool.{cases_lt}
use Rattle.bp_base.specs.declared.point.Axis.{Axis}
use Rattle.bp_base.specs.declared.path.Step.{Step}
use Rattle.bp_base.specs.Path.{IsPairOf}
use Rattle.bp_base.specs.Tree.{TreeValue, IsTree, IsLeaf, leaf_count}
use Rattle.bp_metric.specs.Distance.{leaf_dist, most_side}
use Rattle.bp_metric.specs.Chains.{Places, HasPairsOf}
use Rattle.bp_metric.proofs.Chains.{places_left, places_cases, places_one}
use Rattle.bp_metric.proofs.Lows.{AreLows, is_low, low_small}
use Rattle.bp_warm.specs.Links.{IsOrder, other}
use Rattle.bp_warm.specs.Raising.{low_in, WorkValue, IsExact, IsWorking, IsRelaxed}
use Rattle.bp_warm.proofs.Ordering.{order_by, order_alone, order_none}
use Rattle.bp_warm.proofs.Pulling.{exact_lows}
use Rattle.bp_warm.proofs.RowRaised.{ends}

pub longer_pairs : (n : ℕ) (path : List Step) (s : Step) → HasPairsOf n path → IsPairOf n s.pair → HasPairsOf n (path ++ s ∷ [])
longer_pairs n path s pairs pair =
    All-append (λ (r : Step). IsPairOf n r.pair) path (s ∷ []) pairs (All-cons (λ (r : Step). IsPairOf n r.pair) s [] pair (λ k d less. absurd (omega arith)))

-- the coordinates of leaves are small
pub small_from : (T : TreeValue) (t : IsTree T) (path : List Step) (pairs : HasPairsOf (leaf_count T) path) (axis : Axis) (row : List ℕ) → length row ≡ leaf_count T → AreLows T path axis (low_in row) → (i : ℕ) → low_in row i ≤ most_side
small_from T t path pairs axis row each lows i = elim (cases_lt (i - 1) (length row)) [
  | inr past ↦ omega (arith, get_or_past row (i - 1) 0 past)
  | inl within ↦
      let leaf : IsLeaf T (i - 1 + 1) = (omega arith, omega (arith, each, within)) in
      let e : i - 1 + 1 - 1 ≡ i - 1 = omega arith in
      let same : low_in row (i - 1 + 1) ≡ low_in row i = ap (λ (k : ℕ). get_or row k 0) e in
      omega (arith, same, low_small T t path axis (i - 1 + 1) (low_in row (i - 1 + 1)) (is_low T t path pairs axis (low_in row) lows (i - 1 + 1) leaf))
]

exact_from : (T : TreeValue) (t : IsTree T) (path : List Step) (pairs : HasPairsOf (leaf_count T) path) (axis : Axis) (row : List ℕ) → length row ≡ leaf_count T → AreLows T path axis (low_in row) → IsExact T path axis row
exact_from T t path pairs axis row each lows =
    record { each = each; small = small_from T t path pairs axis row each lows; meets = lows.meets; made_up = lows.made_up }

made_longer : (T : TreeValue) (path : List Step) (s : Step) (axis : Axis) (row : List ℕ) (i : ℕ) → (low_in row i ≡ 0) ⊎ ((p : ℕ) × Places path axis p i × (low_in row p + leaf_dist T p i ≡ low_in row i)) → (low_in row i ≡ 0) ⊎ ((p : ℕ) × Places (path ++ s ∷ []) axis p i × (low_in row p + leaf_dist T p i ≡ low_in row i))
made_longer T path s axis row i (inl none) = inl none
made_longer T path s axis row i (inr p) = inr (p.0, places_left path (s ∷ []) axis p.0 i p.1, p.2)

module _ (T : TreeValue) (t : IsTree T) (path : List Step) (pairs : HasPairsOf (leaf_count T) path) (s : Step) (pair : IsPairOf (leaf_count T) s.pair) (axis : Axis) (a b : ℕ) (order : IsOrder s.pair s.choice axis a b) where
  -- the row meets the step already
  pub kept_exact : (row : List ℕ) → IsExact T path axis row → low_in row a + leaf_dist T a b ≤ low_in row b → IsExact T (path ++ s ∷ []) axis row
  kept_exact row e met =
      record {
        each = e.each;
        small = e.small;
        meets = λ x y placed. elim (places_cases path (s ∷ []) axis x y placed) [
          | inl front ↦ e.meets x y front
          | inr back ↦
              let p = order_alone s.pair s.choice axis a b x y order (places_one s axis x y back) in
              let way : leaf_dist T x y ≡ leaf_dist T a b = λ i. leaf_dist T (p.0 i) (p.1 i) in
              omega (arith, met, ap (low_in row) p.0, ap (low_in row) p.1, way)
        ];
        made_up = λ i leaf. made_longer T path s axis row i (e.made_up i leaf);
      }

  -- the step is of the other axis
  pub other_exact : (row : List ℕ) → IsExact T path (other axis) row → IsExact T (path ++ s ∷ []) (other axis) row
  other_exact row e =
      record {
        each = e.each;
        small = e.small;
        meets = λ x y placed. elim (places_cases path (s ∷ []) (other axis) x y placed) [
          | inl front ↦ e.meets x y front
          | inr back ↦ absurd (order_none s.pair s.choice axis a b x y order (places_one s (other axis) x y back))
        ];
        made_up = λ i leaf. made_longer T path s (other axis) row i (e.made_up i leaf);
      }

  pub raised_exact : (old lows : List ℕ) (work : WorkValue) → IsExact T path axis old → IsLeaf T a → IsWorking T path axis old a b lows work → IsRelaxed T path axis lows work.moved work.count → IsExact T (path ++ s ∷ []) axis lows
  raised_exact old lows work e leaf working relaxed =
      let lows_are = ends T t path pairs axis old (exact_lows T path axis old e) a b lows work.by work.moved work.count working s (order_by s.pair s.choice axis a b order) (λ x y by. order_alone s.pair s.choice axis a b x y order by) relaxed leaf in
      exact_from T t (path ++ s ∷ []) (longer_pairs (leaf_count T) path s pairs pair) axis lows working.each lows_are
