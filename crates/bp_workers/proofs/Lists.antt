-- Elements of lists that are made from others, and sums over them.
use Rattle.std.proofs.Common.{◌≡◌, ◌⊎◌, inl, inr, ℕ, zero, suc, ◌+◌, ◌<◌, ◌≤◌, Bool, true, false, cond, leb, min, List, [], ◌∷◌, map, length, get_or, refl, sym, ap, ◌∙◌, subst, arith}
use Rattle.std.specs.List.{Contains, flat_map, range_with_len, sum_by}
use Rattle.std.proofs.lemmas.Bool.Decides.{nat_tests}
use Rattle.std.proofs.lemmas.List.Concat.{flat_map-cons}
use Rattle.std.proofs.lemmas.List.Elements.{Contains-append_cases}
use Rattle.std.proofs.lemmas.List.Sums.{sum_by_push}
use Rattle.bp_metric.proofs.Ranges.{range_more}

module _ {X A : Type 0} where
  -- an element of what a list's elements give is one of what some element gives
  pub from_flat : (f : X → List A) (xs : List X) (a : A) → Contains (flat_map f xs) a → (k : ℕ) × (x : X) × (k < length xs) × (get_or xs k x ≡ x) × Contains (f x) a
  from_flat f [] a (k, less, at) = absurd (omega (arith, less))
  from_flat f (x ∷ xs) a there =
      go (λ more. from_flat f xs a more) (Contains-append_cases (f x) (flat_map f xs) a (subst (λ (ys : List A). Contains ys a) (flat_map-cons f x xs) there))
    where
      go : (Contains (flat_map f xs) a → (k : ℕ) × (y : X) × (k < length xs) × (get_or xs k y ≡ y) × Contains (f y) a) → Contains (f x) a ⊎ Contains (flat_map f xs) a → (k : ℕ) × (y : X) × (k < length (x ∷ xs)) × (get_or (x ∷ xs) k y ≡ y) × Contains (f y) a
      go rest (inl here) = (0, x, omega arith, refl, here)
      go rest (inr more) = let (k, y, less, at, holds) = rest more in (suc k, y, omega (arith, less), at, holds)

  pub from_map : (f : X → A) (xs : List X) (a : A) → Contains (map f xs) a → (x : X) × Contains xs x × (f x ≡ a)
  from_map f [] a (k, less, at) = absurd (omega (arith, less))
  from_map f (x ∷ xs) a (zero, less, at) = (x, (0, omega arith, refl), at)
  from_map f (x ∷ xs) a (suc k, less, at) = later (from_map f xs a (k, omega (arith, less), at))
    where
      later : (y : X) × Contains xs y × (f y ≡ a) → (y : X) × Contains (x ∷ xs) y × (f y ≡ a)
      later (y, (j, within, is), same) = (y, (suc j, omega (arith, within), is), same)

  pub to_map : (f : X → A) (xs : List X) (k : ℕ) (d : X) → k < length xs → Contains (map f xs) (f (get_or xs k d))
  to_map f [] k d less = absurd (omega (arith, less))
  to_map f (x ∷ xs) zero d less = (0, omega arith, refl)
  to_map f (x ∷ xs) (suc k) d less = let c = to_map f xs k d (omega (arith, less)) in (suc c.0, omega (arith, c.1), c.2)

-- a weight that counts the numbers below a limit alone
abbrev pub under : ℕ → (ℕ → ℕ) → ℕ → ℕ
under limit h n = cond (leb limit n) 0 (h n)

under_more : (limit n : ℕ) (h : ℕ → ℕ) → (b : Bool) → leb limit n ≡ b → sum_by h (range_with_len 0 (min n limit)) + cond b 0 (h n) ≡ sum_by h (range_with_len 0 (min (n + 1) limit))
under_more limit n h true is =
    let most : limit ≤ n = grind (arith, nat_tests) in
    let one : min n limit ≡ limit = omega (arith, most) in
    let two : min (n + 1) limit ≡ limit = omega (arith, most) in
    omega (arith, ap (λ (m : ℕ). sum_by h (range_with_len 0 m)) (one ∙ sym two))
under_more limit n h false is =
    let less : n < limit = grind (arith, nat_tests) in
    let one : min n limit ≡ n = omega (arith, less) in
    let two : min (n + 1) limit ≡ n + 1 = omega (arith, less) in
    let place : 0 + n ≡ n = omega arith in
    omega (
      arith,
      ap (λ (m : ℕ). sum_by h (range_with_len 0 m)) one,
      ap (λ (m : ℕ). sum_by h (range_with_len 0 m)) two,
      ap (sum_by h) (range_more 0 n),
      sum_by_push h (range_with_len 0 n) (0 + n),
      ap h place,
    )

-- the numbers below n that lie below the limit are those below the lesser of both
pub under_range : (limit n : ℕ) (h : ℕ → ℕ) → sum_by (under limit h) (range_with_len 0 n) ≡ sum_by h (range_with_len 0 (min n limit))
under_range limit zero h = let none : min 0 limit ≡ 0 = omega arith in ap (λ (m : ℕ). sum_by h (range_with_len 0 m)) (sym none)
under_range limit (suc n) h =
    let next : suc n ≡ n + 1 = omega arith in
    let place : 0 + n ≡ n = omega arith in
    omega (
      arith,
      ap (λ (m : ℕ). sum_by (under limit h) (range_with_len 0 m)) next,
      ap (λ (m : ℕ). sum_by h (range_with_len 0 (min m limit))) next,
      ap (sum_by (under limit h)) (range_more 0 n),
      sum_by_push (under limit h) (range_with_len 0 n) (0 + n),
      ap (under limit h) place,
      under_range limit n h,
      under_more limit n h (leb limit n) refl,
    )
