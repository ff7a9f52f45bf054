-- The list of coordinates of points, where its numbers stand, and the order of such lists.
use Rattle.std.proofs.Common.{◌≡◌, inl, inr, ℕ, zero, suc, ◌+◌, ◌-◌, ◌*◌, ◌<◌, ◌≤◌, List, [], ◌∷◌, length, get_or, refl, sym, ◌∙◌, subst, arith}
use Rattle.bp_base.specs.declared.point.Axis.{Axis}
use Rattle.bp_base.specs.declared.point.Axis.TheVariants.{X, Y}
use Rattle.bp_base.specs.declared.point.Point.{Point}
use Rattle.bp_base.specs.declared.point.Sheet.{Sheet}
use Rattle.bp_base.specs.declared.point.Sheet.TheVariants.{Square, Strip}
use Rattle.bp_base.specs.Limits.{most_number}
use Rattle.bp_base.specs.Point.{origin, point_at}
use Rattle.bp_metric.specs.Metric.{IsSheet}
use Rattle.bp_metric.specs.Steady.{IsNotAfter}
use Rattle.bp_metric.specs.Valid.{Lies}
use Rattle.bp_steady.specs.Bounds.{of_leaf, place}
use Rattle.bp_steady.specs.Questions.{coordinates, end_of, ends}

double : (k : ℕ) → 2 * suc k ≡ suc (suc (2 * k))
double k = omega arith

pub coordinates_each : (P : List Point) → length (coordinates P) ≡ 2 * length P
coordinates_each [] = refl
coordinates_each (p ∷ P) = omega (arith, coordinates_each P)

coordinate_x : (P : List Point) (k : ℕ) → get_or (coordinates P) (2 * k) 0 ≡ (get_or P k origin).x
coordinate_x [] k = refl
coordinate_x (p ∷ P) zero = refl
coordinate_x (p ∷ P) (suc k) =
    subst (λ (m : ℕ). get_or (p.x ∷ p.y ∷ coordinates P) m 0 ≡ (get_or P k origin).x) (sym (double k)) (coordinate_x P k)

coordinate_y : (P : List Point) (k : ℕ) → get_or (coordinates P) (2 * k + 1) 0 ≡ (get_or P k origin).y
coordinate_y [] k = refl
coordinate_y (p ∷ P) zero = refl
coordinate_y (p ∷ P) (suc k) =
    let e : 2 * suc k + 1 ≡ suc (suc (2 * k + 1)) = omega arith in
    subst (λ (m : ℕ). get_or (p.x ∷ p.y ∷ coordinates P) m 0 ≡ (get_or P k origin).y) (sym e) (coordinate_y P k)

-- the coordinate of a point
abbrev pub of_point : Axis → Point → ℕ
of_point X p = p.x
of_point Y p = p.y

pub coordinate_at : (P : List Point) (axis : Axis) (i : ℕ) → of_leaf (coordinates P) axis i ≡ of_point axis (point_at P i)
coordinate_at P X i = coordinate_x P (i - 1)
coordinate_at P Y i = coordinate_y P (i - 1)

pub ends_each : (G : Sheet) (S n : ℕ) → length (ends G S n) ≡ 2 * n
ends_each G S zero = refl
ends_each G S (suc n) = omega (arith, ends_each G S n)

ends_x : (G : Sheet) (S n k : ℕ) → k < n → get_or (ends G S n) (2 * k) 0 ≡ end_of G S X
ends_x G S zero k less = absurd (omega (arith, less))
ends_x G S (suc n) zero less = refl
ends_x G S (suc n) (suc k) less =
    subst (λ (m : ℕ). get_or (end_of G S X ∷ end_of G S Y ∷ ends G S n) m 0 ≡ end_of G S X) (sym (double k)) (ends_x G S n k (omega (arith, less)))

ends_y : (G : Sheet) (S n k : ℕ) → k < n → get_or (ends G S n) (2 * k + 1) 0 ≡ end_of G S Y
ends_y G S zero k less = absurd (omega (arith, less))
ends_y G S (suc n) zero less = refl
ends_y G S (suc n) (suc k) less =
    let e : 2 * suc k + 1 ≡ suc (suc (2 * k + 1)) = omega arith in
    subst (λ (m : ℕ). get_or (end_of G S X ∷ end_of G S Y ∷ ends G S n) m 0 ≡ end_of G S Y) (sym e) (ends_y G S n k (omega (arith, less)))

pub ends_at : (G : Sheet) (S n : ℕ) (axis : Axis) (i : ℕ) → 1 ≤ i → i ≤ n → of_leaf (ends G S n) axis i ≡ end_of G S axis
ends_at G S n X i from to = ends_x G S n (i - 1) (omega (arith, from, to))
ends_at G S n Y i from to = ends_y G S n (i - 1) (omega (arith, from, to))

end_small : (G : Sheet) (S : ℕ) (axis : Axis) → IsSheet G → S ≤ most_number → end_of G S axis ≤ most_number
end_small Square S axis sheet small = small
end_small (Strip width) S X sheet small = omega (arith, sheet)
end_small (Strip width) S Y sheet small = small

pub ends_small : (G : Sheet) (S n k : ℕ) → IsSheet G → S ≤ most_number → get_or (ends G S n) k 0 ≤ most_number
ends_small G S zero k sheet small = omega arith
ends_small G S (suc n) zero sheet small = end_small G S X sheet small
ends_small G S (suc n) (suc zero) sheet small = end_small G S Y sheet small
ends_small G S (suc n) (suc (suc k)) sheet small = ends_small G S n k sheet small

lies_x : (G : Sheet) (S : ℕ) (p : Point) → Lies G 1 S p → p.x ≤ end_of G S X
lies_x Square S p lies = lies.0
lies_x (Strip width) S p lies = omega (arith, lies.0)

lies_y : (G : Sheet) (S : ℕ) (p : Point) → Lies G 1 S p → p.y ≤ end_of G S Y
lies_y Square S p lies = lies.1
lies_y (Strip width) S p lies = lies.1

-- a point within the ends lies on the sheet
pub lies_from : (G : Sheet) (S : ℕ) (p : Point) → p.x ≤ end_of G S X → p.y ≤ end_of G S Y → Lies G 1 S p
lies_from Square S p x y = (x, y)
lies_from (Strip width) S p x y = (omega (arith, x), y)

-- no coordinate on the sheet passes its end
pub within_ends : (G : Sheet) (S n : ℕ) (P : List Point) → length P ≡ n → ((k : ℕ) → k < length P → Lies G 1 S (get_or P k origin)) → (k : ℕ) → get_or (coordinates P) k 0 ≤ get_or (ends G S n) k 0
within_ends G S n [] each lies k = omega arith
within_ends G S zero (p ∷ P) each lies k = absurd (omega (arith, each))
within_ends G S (suc n) (p ∷ P) each lies zero = lies_x G S p (lies 0 (omega arith))
within_ends G S (suc n) (p ∷ P) each lies (suc zero) = lies_y G S p (lies 0 (omega arith))
within_ends G S (suc n) (p ∷ P) each lies (suc (suc k)) =
    within_ends G S n P (omega (arith, each)) (λ j less. lies (suc j) (omega (arith, less))) k

-- of two lists of which the first isn't after the other, and which have equal coordinates up to one, that one isn't greater
pub not_after_at : (P Q : List Point) (c : ℕ) → length P ≡ length Q → IsNotAfter P Q → ((k : ℕ) → k < c → get_or (coordinates P) k 0 ≡ get_or (coordinates Q) k 0) → get_or (coordinates P) c 0 ≤ get_or (coordinates Q) c 0
not_after_at [] Q c each not_after same = omega arith
not_after_at (p ∷ P) [] c each not_after same = absurd not_after
not_after_at (p ∷ P) (r ∷ Q) zero each (inl less) same = omega (arith, less)
not_after_at (p ∷ P) (r ∷ Q) zero each (inr is) same = omega (arith, is.0)
not_after_at (p ∷ P) (r ∷ Q) (suc zero) each (inl less) same = absurd (omega (arith, less, same 0 (omega arith)))
not_after_at (p ∷ P) (r ∷ Q) (suc zero) each (inr (is, inl less)) same = omega (arith, less)
not_after_at (p ∷ P) (r ∷ Q) (suc zero) each (inr (is, inr more)) same = omega (arith, more.0)
not_after_at (p ∷ P) (r ∷ Q) (suc (suc c)) each (inl less) same = absurd (omega (arith, less, same 0 (omega arith)))
not_after_at (p ∷ P) (r ∷ Q) (suc (suc c)) each (inr (is, inl less)) same = absurd (omega (arith, less, same 1 (omega arith)))
not_after_at (p ∷ P) (r ∷ Q) (suc (suc c)) each (inr (is, inr more)) same =
    not_after_at P Q c (omega (arith, each)) more.1 (λ k less. same (suc (suc k)) (omega (arith, less)))

-- which leaf's coordinate stands at a place
pub record StandsFor (k : ℕ) : Type 0 where
  pub axis : Axis
  pub i : ℕ
  pub from : 1 ≤ i
  pub is : k ≡ place axis i

pub stands_for : (k : ℕ) → StandsFor k
stands_for zero = record { axis = X; i = 1; from = omega arith; is = refl }
stands_for (suc zero) = record { axis = Y; i = 1; from = omega arith; is = refl }
stands_for (suc (suc k)) = go (stands_for k)
  where
    next : (axis : Axis) (i : ℕ) → 1 ≤ i → k ≡ place axis i → suc (suc k) ≡ place axis (i + 1)
    next X i from is = omega (arith, is, from)
    next Y i from is = omega (arith, is, from)

    go : StandsFor k → StandsFor (suc (suc k))
    go s = record { axis = s.axis; i = s.i + 1; from = omega arith; is = next s.axis s.i s.from s.is }

pub leaf_within : (axis : Axis) (n i k : ℕ) → k ≡ place axis i → k < 2 * n → 1 ≤ i → i ≤ n
leaf_within X n i k is less from = omega (arith, is, less, from)
leaf_within Y n i k is less from = omega (arith, is, less, from)

-- equal coordinates, equal points
pub same_points : (P Q : List Point) → coordinates P ≡ coordinates Q → P ≡ Q
same_points [] [] e = refl
same_points [] (r ∷ Q) e = cc
same_points (p ∷ P) [] e = cc
same_points (p ∷ P) (r ∷ Q) e =
    let x : p.x ≡ r.x = cc in
    let y : p.y ≡ r.y = cc in
    let rest : coordinates P ≡ coordinates Q = cc in
    let more = same_points P Q rest in
    λ k. (record { x = x k; y = y k }) ∷ more k

-- The points of coordinates.

abbrev pub points_from : (Axis → ℕ → ℕ) → ℕ → ℕ → List Point
points_from f k zero = []
points_from f k (suc n) = (record { x = f X k; y = f Y k }) ∷ points_from f (k + 1) n

pub points_each : (f : Axis → ℕ → ℕ) (k n : ℕ) → length (points_from f k n) ≡ n
points_each f k zero = refl
points_each f k (suc n) = omega (arith, points_each f (k + 1) n)

pub points_at : (f : Axis → ℕ → ℕ) (k n j : ℕ) → j < n → get_or (points_from f k n) j origin ≡ record { x = f X (k + j); y = f Y (k + j) }
points_at f k zero j less = absurd (omega (arith, less))
points_at f k (suc n) zero less =
    let e : k ≡ k + 0 = omega arith in
    λ i. record { x = f X (e i); y = f Y (e i) }
points_at f k (suc n) (suc j) less =
    let e : k + 1 + j ≡ k + suc j = omega arith in
    points_at f (k + 1) n j (omega (arith, less)) ∙ (λ i. record { x = f X (e i); y = f Y (e i) })

-- the point of leaf i
pub point_is : (f : Axis → ℕ → ℕ) (n i : ℕ) → 1 ≤ i → i ≤ n → point_at (points_from f 1 n) i ≡ record { x = f X i; y = f Y i }
point_is f n i from to =
    let e : 1 + (i - 1) ≡ i = omega (arith, from) in
    points_at f 1 n (i - 1) (omega (arith, from, to)) ∙ (λ k. record { x = f X (e k); y = f Y (e k) })
