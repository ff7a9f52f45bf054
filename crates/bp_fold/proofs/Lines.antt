-- The lines of one axis: the cuts, which rise from 0 to the side.
use Rattle.std.proofs.Common.{◌≡◌, ◌⊎◌, ℕ, zero, suc, ◌+◌, ◌-◌, ◌<◌, ◌≤◌, List, [], ◌∷◌, length, get_or, sym, ◌∙◌, ap, subst, arith, inl, inr}
use Rattle.std.specs.List.Sorted.{IsStrictlyIncreasing}
use Rattle.bp_regions.specs.Cuts.{AreTogether}
use Rattle.std.proofs.lemmas.Bool.{cases_eq, cases_order}
use Rattle.std.proofs.lemmas.List.Kept.{AllPairs-from_increasing}

-- the number lies between the lines `at` and at + 1, and may lie on the first of them
pub record Space (cuts : List ℕ) (a : ℕ) : Type 0 where
  pub at : ℕ
  pub within : at + 1 < length cuts
  pub from : get_or cuts at 0 ≤ a
  pub to : a < get_or cuts (at + 1) 0

-- the number is that of a line
pub record OnLine (cuts : List ℕ) (a : ℕ) : Type 0 where
  pub at : ℕ
  pub within : at < length cuts
  pub here : get_or cuts at 0 ≡ a

pub not_none : (cuts : List ℕ) (S : ℕ) → get_or cuts (length cuts - 1) 0 ≡ S → 0 < S → 1 ≤ length cuts
not_none [] S last some = absurd (omega (arith, last, some))
not_none (c ∷ cuts) S last some = omega arith

module _ (S : ℕ) (cuts : List ℕ) (rising : IsStrictlyIncreasing cuts) (first : get_or cuts 0 0 ≡ 0) (last : get_or cuts (length cuts - 1) 0 ≡ S) where
  pub later : (i j : ℕ) → i < j → j < length cuts → get_or cuts i 0 < get_or cuts j 0
  later i j less within = AllPairs-from_increasing cuts rising i j 0 less within

  pub up_to : (j : ℕ) → j < length cuts → get_or cuts j 0 ≤ S
  up_to j within = elim (cases_eq (length cuts - 1) j) [
    | inl same ↦ let h : get_or cuts j 0 ≡ S = ap (λ (m : ℕ). get_or cuts m 0) (sym same) ∙ last in omega (arith, h)
    | inr apart ↦ omega (arith, last, later j (length cuts - 1) (omega (arith, apart, within)) (omega (arith, within)))
  ]

  climbs : (k : ℕ) → k < length cuts → k ≤ get_or cuts k 0
  climbs zero within = omega arith
  climbs (suc k) within = omega (arith, climbs k (omega (arith, within)), later k (suc k) (omega arith) within)

  pub few : length cuts ≤ S + 1
  few = elim (cases_eq (length cuts) 0) [
    | inl none ↦ omega (arith, none)
    | inr some ↦ omega (arith, some, last, climbs (length cuts - 1) (omega (arith, some)))
  ]

  seek : (a n : ℕ) → n < length cuts → a < get_or cuts n 0 → Space cuts a
  seek a zero within less = absurd (omega (arith, first, less))
  seek a (suc n) within less = elim (cases_order a (get_or cuts n 0)) [
    | inl same ↦ record { at = n; within = omega (arith, within); from = omega (arith, same); to = subst (λ (m : ℕ). a < get_or cuts m 0) (let e : suc n ≡ n + 1 = omega arith in e) less }
    | inr (inl under) ↦ seek a n (omega (arith, within)) under
    | inr (inr over) ↦ record { at = n; within = omega (arith, within); from = omega (arith, over); to = subst (λ (m : ℕ). a < get_or cuts m 0) (let e : suc n ≡ n + 1 = omega arith in e) less }
  ]

  pub spaced : (a : ℕ) → a < S → Space cuts a
  spaced a less = seek a (length cuts - 1) (omega (arith, not_none cuts S last (omega (arith, less)))) (omega (arith, last, less))

  -- where a number lies
  pub lies : (a : ℕ) → 0 < S → a ≤ S → OnLine cuts a ⊎ ((s : Space cuts a) × (get_or cuts s.at 0 < a))
  lies a some within = elim (cases_eq a S) [
    | inl same ↦ inl (record { at = length cuts - 1; within = omega (arith, not_none cuts S last some); here = last ∙ sym same })
    | inr apart ↦ let s = spaced a (omega (arith, apart, within)) in elim (cases_eq (get_or cuts s.at 0) a) [
      | inl on ↦ inl (record { at = s.at; within = omega (arith, s.within); here = on })
      | inr off ↦ inr (s, omega (arith, off, s.from))
    ]
  ]

  -- lines of equal numbers are one, and lines keep their order
  pub one_line : (i j : ℕ) → i < length cuts → j < length cuts → get_or cuts i 0 ≡ get_or cuts j 0 → i ≡ j
  one_line i j in_i in_j same = elim (cases_order i j) [
    | inl is ↦ is
    | inr (inl less) ↦ absurd (omega (arith, same, later i j less in_j))
    | inr (inr more) ↦ absurd (omega (arith, same, later j i more in_i))
  ]

  pub in_order : (i j : ℕ) → i < length cuts → j < length cuts → get_or cuts i 0 < get_or cuts j 0 → i < j
  in_order i j in_i in_j less = elim (cases_order i j) [
    | inl is ↦ absurd (omega (arith, less, ap (λ (m : ℕ). get_or cuts m 0) is))
    | inr (inl under) ↦ under
    | inr (inr over) ↦ absurd (omega (arith, less, later j i over in_i))
  ]

  -- the last and the first number of a space
  pub end_together : (j : ℕ) → 1 ≤ j → j < length cuts → AreTogether cuts (get_or cuts j 0 - 1) (get_or cuts (j - 1) 0)
  end_together j some within =
      let less = later (j - 1) j (omega (arith, some)) within in
      let e : j ≡ j - 1 + 1 = omega (arith, some) in
      let next : get_or cuts j 0 ≡ get_or cuts (j - 1 + 1) 0 = ap (λ (m : ℕ). get_or cuts m 0) e in
      record {
        at = j - 1;
        within = omega (arith, some, within);
        a_from = omega (arith, less);
        a_to = omega (arith, less, next);
        b_from = omega arith;
        b_to = omega (arith, less, next);
      }

  pub start_together : (j : ℕ) → 1 ≤ j → j < length cuts → AreTogether cuts (get_or cuts (j - 1) 0) (get_or cuts j 0 - 1)
  start_together j some within =
      let t = end_together j some within in
      record { at = t.at; within = t.within; a_from = t.b_from; a_to = t.b_to; b_from = t.a_from; b_to = t.a_to }
