-- The low points of a path without a next pair are a valid placement.
use Rattle.std.proofs.Common.{◌≡◌, ℕ, zero, suc, ◌+◌, ◌-◌, ◌*◌, ◌<◌, ◌≤◌, max, List, [], ◌∷◌, ◌++◌, length, get_or, take, None, refl, sym, ap, subst, arith, inl, inr}
use Rattle.std.specs.Int.{abs_diff}
use Rattle.std.proofs.lemmas.Bool.{cases_lt}
use Rattle.bp_base.specs.declared.point.Axis.TheVariants.{X, Y}
use Rattle.bp_base.specs.declared.point.Point.{Point}
use Rattle.bp_base.specs.declared.point.Sheet.{Sheet}
use Rattle.bp_base.specs.declared.point.Sheet.TheVariants.{Square, Strip}
use Rattle.bp_base.specs.declared.path.Step.{Step}
use Rattle.bp_base.specs.declared.record.Least.{Least}
use Rattle.bp_base.specs.Limits.{most_number}
use Rattle.bp_base.specs.Point.{point_at, gap, origin}
use Rattle.bp_base.specs.Tree.{TreeValue}
use Rattle.bp_metric.specs.Coordinates.{IsLow, IsForced, IsLeast}
use Rattle.bp_metric.specs.Distance.{leaf_dist}
use Rattle.bp_metric.specs.Next.{IsNext}
use Rattle.bp_metric.specs.Valid.{Valid, Lies, IsPair}
use Rattle.bp_branch.specs.Branches.{points_of, low_points}

pub points_long : (xs ys : List ℕ) → length xs ≡ length ys → length (points_of xs ys) ≡ length xs
points_long [] ys same = refl
points_long (x ∷ xs) [] same = absurd (omega (arith, same))
points_long (x ∷ xs) (y ∷ ys) same = omega (arith, points_long xs ys (omega (arith, same)))

-- the point at a place is that of the two coordinates there
point_there : (xs ys : List ℕ) (k : ℕ) → length xs ≡ length ys → get_or (points_of xs ys) k origin ≡ record { x = get_or xs k 0; y = get_or ys k 0 }
point_there [] [] k same = refl
point_there [] (y ∷ ys) k same = absurd (omega (arith, same))
point_there (x ∷ xs) [] k same = absurd (omega (arith, same))
point_there (x ∷ xs) (y ∷ ys) zero same = refl
point_there (x ∷ xs) (y ∷ ys) (suc k) same = point_there xs ys k (omega (arith, same))

module _ (T : TreeValue) (path : List Step) where
  within : (G : Sheet) (v : ℕ) (i x y : ℕ) → IsForced T G path v → v < most_number → IsLow T path X i x → IsLow T path Y i y → Lies G 1 v (record { x = x; y = y })
  within Square v i x y forced small low_x low_y =
      (omega (arith, low_x.weighs, forced.most X low_x.chain low_x.is_chain), omega (arith, low_y.weighs, forced.most Y low_y.chain low_y.is_chain))
  within (Strip width) v i x y (inl wide) small low_x low_y = absurd (omega (arith, wide.1, small))
  within (Strip width) v i x y (inr fits) small low_x low_y = (narrow, omega (arith, low_y.weighs, fits.1.most low_y.chain low_y.is_chain))
    where
      narrow : x ≤ 1 * width
      narrow = elim (cases_lt width x) [
        | inl wide ↦ absurd (fits.0 (record { chain = low_x.chain; is_chain = low_x.is_chain; heavy = omega (arith, low_x.weighs, wide) }))
        | inr fine ↦ omega (arith, fine)
      ]

  module _ (G : Sheet) (l : Least) (least : IsLeast T G path l) where
    -- the low point of a leaf
    pub at_leaf : (i : ℕ) → point_at (low_points l) i ≡ record { x = get_or l.xs (i - 1) 0; y = get_or l.ys (i - 1) 0 }
    at_leaf i = point_there l.xs l.ys (i - 1) (omega (arith, least.xs_each, least.ys_each))

    pub solved_valid : IsNext T path None → l.forced < most_number → Valid T G 1 l.forced (low_points l)
    solved_valid none small = record {
      each = omega (arith, points_long l.xs l.ys (omega (arith, least.xs_each, least.ys_each)), least.xs_each);
      inside = λ i leaf. subst (Lies G 1 l.forced) (sym (at_leaf i)) (within G l.forced i (get_or l.xs (i - 1) 0) (get_or l.ys (i - 1) 0) least.forced small (least.xs i leaf) (least.ys i leaf));
      far = λ i j pair. far i j pair;
    }
      where
        far : (i j : ℕ) → IsPair T i j → 1 * leaf_dist T i j ≤ gap (point_at (low_points l) i) (point_at (low_points l) j)
        far i j pair =
            let e : gap (point_at (low_points l) i) (point_at (low_points l) j) ≡ max (abs_diff (get_or l.xs (i - 1) 0) (get_or l.xs (j - 1) 0)) (abs_diff (get_or l.ys (i - 1) 0) (get_or l.ys (j - 1) 0)) =
            λ k. gap (at_leaf i k) (at_leaf j k) in
            elim (cases_lt (max (abs_diff (get_or l.xs (i - 1) 0) (get_or l.xs (j - 1) 0)) (abs_diff (get_or l.ys (i - 1) 0) (get_or l.ys (j - 1) 0))) (leaf_dist T i j)) [
              | inl near ↦ absurd (none (record { i = i; j = j }) pair (record {
                x_i = get_or l.xs (i - 1) 0;
                y_i = get_or l.ys (i - 1) 0;
                x_j = get_or l.xs (j - 1) 0;
                y_j = get_or l.ys (j - 1) 0;
                is_x_i = least.xs i (pair.0, omega (arith, pair.1, pair.2));
                is_y_i = least.ys i (pair.0, omega (arith, pair.1, pair.2));
                is_x_j = least.xs j (omega (arith, pair.0, pair.1), pair.2);
                is_y_j = least.ys j (omega (arith, pair.0, pair.1), pair.2);
                near = near;
              }))
              | inr apart ↦ omega (arith, apart, e)
            ]

-- the points of one more leaf
pub points_more : (xs ys : List ℕ) (k : ℕ) → k < length xs → k < length ys → points_of (take (k + 1) xs) (take (k + 1) ys) ≡ points_of (take k xs) (take k ys) ++ (record { x = get_or xs k 0; y = get_or ys k 0 }) ∷ []
points_more [] ys k in_x in_y = absurd (omega (arith, in_x))
points_more (x ∷ xs) [] k in_x in_y = absurd (omega (arith, in_y))
points_more (x ∷ xs) (y ∷ ys) zero in_x in_y = refl
points_more (x ∷ xs) (y ∷ ys) (suc k) in_x in_y =
    let next : suc k + 1 ≡ suc (k + 1) = omega arith in
    rw next (ap (λ (P : List Point). (record { x = x; y = y }) ∷ P) (points_more xs ys k (omega (arith, in_x)) (omega (arith, in_y))))
