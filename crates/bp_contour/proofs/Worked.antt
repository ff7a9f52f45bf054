-- Runs of a worked set: two squares that touch at a corner. The tour turns left there, so the squares stay two loops.
use Rattle.std.proofs.Common.{◌⊎◌, ℕ, ◌<◌, ◌≤◌, refl, ap, arith, inl, inr}
use Rattle.bp_base.specs.declared.point.Point.{Point}
use Rattle.bp_regions.specs.Runs.{IsAfter, IsRun, TurnsLeft}

-- the squares from (0,0) to (2,2) and from (2,2) to (4,4)
abbrev corners : ℕ → ℕ → Type 0
corners x y = ((x < 2) × (y < 2)) ⊎ ((2 ≤ x) × (x < 4) × (2 ≤ y) × (y < 4))

abbrev at : ℕ → ℕ → Point
at x y = record { x = x; y = y }

in_lower : (x y : ℕ) → corners x y → x < 2 → y < 2
in_lower x y (inl c) left = c.1
in_lower x y (inr c) left = absurd (omega (arith, c.0, left))

in_upper : (x y : ℕ) → corners x y → 2 ≤ x → 2 ≤ y
in_upper x y (inl c) right = absurd (omega (arith, c.0, right))
in_upper x y (inr c) right = c.2

-- up the right side of the lower square
arrives : IsRun corners (at 2 0) (at 2 2)
arrives = inr (inl (
  refl,
  record {
    some = omega arith;
    all = λ k from to. ((omega arith, inl (omega arith, to)), λ c. omega (arith, in_upper 2 k c (omega arith), to));
    start = λ some here. omega (arith, some);
    stop = λ g. omega (arith, in_lower 1 2 g.0.1 (omega arith));
  },
))

-- back over its top, and on below the upper square
goes_left : IsRun corners (at 2 2) (at 0 2)
goes_left = inr (inr (inl (
  refl,
  record {
    some = omega arith;
    all = λ k from to. ((omega arith, inl (to, omega arith)), λ c. omega (arith, in_lower k 2 c to));
    start = λ some here. omega (arith, some);
    stop = λ g. omega (arith, in_upper 2 1 g.0.1 (omega arith));
  },
)))

goes_right : IsRun corners (at 2 2) (at 4 2)
goes_right = inl (
  refl,
  record {
    some = omega arith;
    all = λ k from to. (inr (from, to, omega arith, omega arith), λ b. omega (arith, in_upper k 1 b.1 from));
    start = λ some g. omega (arith, in_lower 1 2 g.0 (omega arith));
    stop = λ g. past 4 2 (omega arith) g.0;
  },
)
  where
    past : (x y : ℕ) → 4 ≤ x → corners x y → ⊥
    past x y far (inl c) = omega (arith, c.0, far)
    past x y far (inr c) = omega (arith, c.1, far)

-- the run to the right is not the one after, since one begins there that turns left
never_right : IsAfter corners (at 2 0) (at 2 2) (at 4 2) → ⊥
never_right a =
    turned (a.left (at 0 2) goes_left (λ e. omega (arith, ap (λ (p : Point). p.x) e)))
  where
    turned : TurnsLeft (at 2 0) (at 2 2) (at 4 2) → ⊥
    turned (inl t) = omega (arith, t.0)
    turned (inr (inl t)) = omega (arith, t.1)
    turned (inr (inr (inl t))) = omega (arith, t.0)
    turned (inr (inr (inr t))) = omega (arith, t.0)

turns_left : TurnsLeft (at 2 0) (at 2 2) (at 0 2)
turns_left = inr (inl (omega arith, omega arith))

-- the run to the left is
after : IsAfter corners (at 2 0) (at 2 2) (at 0 2)
after = record { run = goes_left; left = λ s run apart. turns_left }
