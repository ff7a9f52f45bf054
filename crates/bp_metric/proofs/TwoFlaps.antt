-- The worked tree c p 3/c q 4/: its opening, which is valid at side 7, and its floor, which the opening meets.
use Rattle.std.proofs.Common.{◌≡◌, inl, inr, ℕ, zero, suc, ◌*◌, ◌<◌, ◌≤◌, List, [], ◌∷◌, length, slice_index, refl, arith}
use Rattle.bp_base.specs.declared.point.Point.{Point}
use Rattle.bp_base.specs.declared.point.Floor.{Floor}
use Rattle.bp_base.specs.declared.point.Sheet.TheVariants.{Square}
use Rattle.bp_base.specs.Tree.{TreeValue, IsLeaf}
use Rattle.bp_base.specs.Point.{point_at, gap}
use Rattle.bp_metric.specs.Distance.{is_below, share, dist, leaf_dist}
use Rattle.bp_metric.specs.Valid.{Valid, IsPair, Lies}
use Rattle.bp_metric.specs.Floor.{FloorHolds, IsFloor, floor_at, rows_for, taken}
use Rattle.bp_metric.specs.Opening.{Precedes, IsFree, IsFirst, IsOpening}

abbrev pub two : TreeValue
two = record { parents = 0 ∷ 0 ∷ 0 ∷ []; lengths = 0 ∷ 3 ∷ 4 ∷ []; names = [] }

abbrev pub at : ℕ → ℕ → Point
at x y = record { x = x; y = y }

abbrev pub points : List Point
points = at 0 0 ∷ at 0 7 ∷ []

abbrev pub floor : Floor
floor = record { m = 7; leaves = 1 ∷ 2 ∷ []; side = 7 }

pub apart : leaf_dist two 1 2 ≡ 7
unfolding dist share is_below
apart = refl

-- the pair of the two leaves is the only one
pub only_pair : (P : ℕ → ℕ → Type 0) → P 1 2 → (i j : ℕ) → IsPair two i j → P i j
only_pair P p zero j is = absurd (omega (arith, is.0))
only_pair P p (suc zero) zero is = absurd (omega (arith, is.1))
only_pair P p (suc zero) (suc zero) is = absurd (omega (arith, is.1))
only_pair P p (suc zero) (suc (suc zero)) is = p
only_pair P p (suc zero) (suc (suc (suc j))) is = absurd (omega (arith, is.2))
only_pair P p (suc (suc i)) j is = absurd (omega (arith, is.1, is.2))

pub valid : Valid two Square 1 7 points
valid = record { each = refl; inside = inside; far = only_pair (λ i j. 1 * leaf_dist two i j ≤ gap (point_at points i) (point_at points j)) (omega (arith, apart)) }
  where
    inside : (i : ℕ) → IsLeaf two i → Lies Square 1 7 (point_at points i)
    inside zero is = absurd (omega (arith, is.0))
    inside (suc zero) is = (omega arith, omega arith)
    inside (suc (suc zero)) is = (omega arith, omega arith)
    inside (suc (suc (suc i))) is = absurd (omega (arith, is.1))

pub floor_holds : FloorHolds two Square floor
unfolding rows_for
floor_holds = record {
  apart = omega arith;
  some = omega arith;
  leaf = leaf;
  rising = λ k l less within. rising k l less within;
  far = far;
  side = refl;
}
  where
    leaf : (k : ℕ) → k < 2 → IsLeaf two (slice_index floor.leaves k)
    leaf zero less = (omega arith, omega arith)
    leaf (suc zero) less = (omega arith, omega arith)
    leaf (suc (suc k)) less = absurd (omega (arith, less))

    rising : (k l : ℕ) → k < l → l < 2 → slice_index floor.leaves k < slice_index floor.leaves l
    rising zero zero less within = absurd (omega (arith, less))
    rising zero (suc zero) less within = omega arith
    rising zero (suc (suc l)) less within = absurd (omega (arith, within))
    rising (suc k) l less within = absurd (omega (arith, less, within))

    far : (k l : ℕ) → k < l → l < 2 → 7 ≤ leaf_dist two (slice_index floor.leaves k) (slice_index floor.leaves l)
    far zero zero less within = absurd (omega (arith, less))
    far zero (suc zero) less within = omega (arith, apart)
    far zero (suc (suc l)) less within = absurd (omega (arith, within))
    far (suc k) l less within = absurd (omega (arith, less, within))

pub floor_is : IsFloor two Square floor
unfolding taken rows_for dist share is_below
floor_is = record {
  i = 1;
  j = 2;
  pair = (omega arith, omega arith, omega arith);
  is = refl;
  greatest = only_pair (λ k l. (floor_at two Square (leaf_dist two k l)).side ≤ 7) (omega arith);
  least = only_pair (λ k l. (floor_at two Square (leaf_dist two k l)).side ≡ 7 → 7 ≤ leaf_dist two k l) (λ same. omega arith);
}

-- no point comes before the origin
none_before : (r : Point) → Precedes Square r (at 0 0) → ⊥
none_before r (inl less) = omega (arith, less)
none_before r (inr (same, inl less)) = omega (arith, less)
none_before r (inr (same, inr (x, less))) = omega (arith, less)

-- each point before (0, 7) is less than 7 from the origin
near_before : (r : Point) → Precedes Square r (at 0 7) → leaf_dist two 1 2 ≤ gap (at 0 0) r → ⊥
near_before r (inl less) far = omega (arith, less, far, apart)
near_before r (inr (same, inl less)) far = omega (arith, less)
near_before r (inr (same, inr (x, less))) far = omega (arith, same, x, less, far, apart)

pub opening : IsOpening two Square points
opening = record { each = refl; first = first }
  where
    free : IsFree two points 2 (at 0 7)
    free zero low less = absurd (omega (arith, low))
    free (suc zero) low less = omega (arith, apart)
    free (suc (suc j)) low less = absurd (omega (arith, less))

    first : (k : ℕ) → IsLeaf two k → IsFirst two Square points k (point_at points k)
    first zero is = absurd (omega (arith, is.0))
    first (suc zero) is = record { within = tt; free = λ j low less. absurd (omega (arith, low, less)); least = λ r before within others. none_before r before }
    first (suc (suc zero)) is = record { within = tt; free = free; least = λ r before within others. near_before r before (others 1 (omega arith) (omega arith)) }
    first (suc (suc (suc k))) is = absurd (omega (arith, is.1))
