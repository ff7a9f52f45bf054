-- Cells between the same neighbouring ends of balls lie in the same balls.
use Rattle.std.proofs.Common.{◌≡◌, ◌⊎◌, ℕ, zero, suc, ◌+◌, ◌-◌, ◌<◌, ◌≤◌, min, Bool, false, ◌==◌, List, [], ◌∷◌, length, get_or, All, Contains, IsPermutation, IsSorted, if◌then◌else◌, eqb, nat_cmp, refl, sym, ◌∙◌, ap, subst, arith, inl, inr}
use Rattle.std.specs.List.{flat_map, dedup}
use Rattle.std.specs.List.Sorted.{IsStrictlyIncreasing}
use Rattle.std.proofs.lemmas.Bool.{cases_eq, cases_order, cases_Bool, ne_eqb}
use Rattle.std.proofs.lemmas.List.{get_or_default}
use Rattle.std.proofs.lemmas.List.Elements.{All-cons, All-append, All-contains, Contains-get_or, Contains-append_left, Contains-append_right}
use Rattle.std.proofs.lemmas.List.Filters.{All-dedup}
use Rattle.std.proofs.lemmas.List.Kept.{AllPairs-from_increasing, Contains-dedup_nat}
use Rattle.std.proofs.lemmas.List.Sorted.{All-permutation, Contains-permutation}
use Rattle.std.proofs.lemmas.Map.Keys.{IsStrictlyIncreasing-dedup}
use Rattle.bp_base.specs.declared.point.Axis.{Axis}
use Rattle.bp_base.specs.declared.point.Point.{Point}
use Rattle.bp_regions.specs.declared.ball.Ball.{Ball}
use Rattle.bp_regions.specs.Balls.{AreEnds, along, ends_of}
use Rattle.bp_regions.specs.Cuts.{AreTogether}

-- what holds of each element of each piece
pub all_flat : {A B : Type 0} (p : B → Type 0) (f : A → List B) (bs : List A) → ((b : A) → All p (f b)) → All p (flat_map f bs)
all_flat p f [] each = λ k d less. absurd (omega (arith, less))
all_flat p f (b ∷ bs) each = All-append p (f b) (flat_map f bs) (each b) (all_flat p f bs each)

-- an element of a piece
pub contains_flat : {A B : Type 0} (f : A → List B) (xs : List A) (k : ℕ) (d : A) (c : B) → k < length xs → Contains (f (get_or xs k d)) c → Contains (flat_map f xs) c
contains_flat f [] k d c less is = absurd (omega (arith, less))
contains_flat f (a ∷ xs) zero d c less is = Contains-append_left (f a) (flat_map f xs) c is
contains_flat f (a ∷ xs) (suc k) d c less is =
    Contains-append_right (f a) (flat_map f xs) c (contains_flat f xs k d c (omega (arith, less)) is)

ends_within : (S : ℕ) (axis : Axis) (b : Ball) → All (λ c. c ≤ S) (ends_of S axis b)
ends_within S axis b = elim (cases_Bool (b.radius == 0)) [
  | inl none ↦ rw none (λ k d less. absurd (omega (arith, less)))
  | inr some ↦
      rw some (All-cons (λ c. c ≤ S) (min (along axis b.at - b.radius) S) (min (along axis b.at + b.radius) S ∷ []) (omega arith) (All-cons (λ c. c ≤ S) (min (along axis b.at + b.radius) S) [] (omega arith) (λ k d less. absurd (omega (arith, less)))))
]

pub sorted_ends : (S : ℕ) (axis : Axis) (balls : List Ball) (raw sorted cuts : List ℕ) → raw ≡ 0 ∷ S ∷ flat_map (ends_of S axis) balls → IsPermutation raw sorted → IsSorted nat_cmp sorted → cuts ≡ dedup eqb sorted → AreEnds S axis balls cuts
sorted_ends S axis balls raw sorted cuts is moved in_order kept =
    let rest = flat_map (ends_of S axis) balls in
    let whole : All (λ c. c ≤ S) raw = subst (All (λ c. c ≤ S)) (sym is) (All-cons (λ c. c ≤ S) 0 (S ∷ rest) (omega arith) (All-cons (λ c. c ≤ S) S rest (omega arith) (all_flat (λ c. c ≤ S) (ends_of S axis) balls (ends_within S axis)))) in
    let keep : (c : ℕ) → Contains (0 ∷ S ∷ rest) c → Contains cuts c = λ c here. subst (λ (l : List ℕ). Contains l c) (sym kept) (Contains-dedup_nat sorted c (Contains-permutation raw sorted c moved (subst (λ (l : List ℕ). Contains l c) (sym is) here))) in
    record {
      rising = subst IsStrictlyIncreasing (sym kept) (IsStrictlyIncreasing-dedup sorted in_order);
      within = subst (All (λ c. c ≤ S)) (sym kept) (All-dedup eqb (λ c. c ≤ S) sorted (All-permutation (λ c. c ≤ S) raw sorted moved whole));
      zero = keep 0 (0, omega arith, refl);
      side = keep S (1, omega arith, refl);
      ends = λ k d less m e short. keep (get_or (ends_of S axis (get_or balls k d)) m e) (Contains-append_right (0 ∷ S ∷ []) rest (get_or (ends_of S axis (get_or balls k d)) m e) (contains_flat (ends_of S axis) balls k d (get_or (ends_of S axis (get_or balls k d)) m e) less (Contains-get_or (ends_of S axis (get_or balls k d)) m e short)));
    }

module _ (S : ℕ) (axis : Axis) (balls : List Ball) (cuts : List ℕ) (h : AreEnds S axis balls cuts) where
  later : (i j : ℕ) → i < j → j < length cuts → get_or cuts i 0 < get_or cuts j 0
  later i j less within = AllPairs-from_increasing cuts h.rising i j 0 less within

  place : (c : ℕ) → Contains cuts c → (k : ℕ) × (k < length cuts) × (get_or cuts k 0 ≡ c)
  place c (k, within, at) = (k, within, get_or_default cuts k 0 c within ∙ at)

  pub first_cut : get_or cuts 0 0 ≡ 0
  first_cut = let (k, within, at) = place 0 h.zero in elim (cases_eq 0 k) [
    | inl same ↦ ap (λ (m : ℕ). get_or cuts m 0) same ∙ at
    | inr apart ↦ absurd (omega (arith, at, later 0 k (omega (arith, apart)) within))
  ]

  pub last_cut : get_or cuts (length cuts - 1) 0 ≡ S
  last_cut = let (k, within, at) = place S h.side in elim (cases_eq (length cuts - 1) k) [
    | inl same ↦ ap (λ (m : ℕ). get_or cuts m 0) same ∙ at
    | inr apart ↦
        absurd (omega (arith, at, later k (length cuts - 1) (omega (arith, apart, within)) (omega (arith, within)), h.within (length cuts - 1) 0 (omega (arith, within))))
  ]

  -- numbers between the same neighbouring cuts lie on one side of each cut
  sides : (a b c : ℕ) → AreTogether cuts a b → Contains cuts c → ((c ≤ a) × (c ≤ b)) ⊎ ((a < c) × (b < c))
  sides a b c t in_cuts = let (k, within, at) = place c in_cuts in elim (cases_order k t.at) [
    | inl same ↦
        let here : get_or cuts t.at 0 ≡ c = ap (λ (m : ℕ). get_or cuts m 0) (sym same) ∙ at in
        inl (omega (arith, here, t.a_from), omega (arith, here, t.b_from))
    | inr (inl less) ↦
        let order = later k t.at less (omega (arith, t.within)) in
        inl (omega (arith, at, order, t.a_from), omega (arith, at, order, t.b_from))
    | inr (inr more) ↦ elim (cases_eq (t.at + 1) k) [
      | inl same ↦
          let here : get_or cuts (t.at + 1) 0 ≡ c = ap (λ (m : ℕ). get_or cuts m 0) same ∙ at in
          inr (omega (arith, here, t.a_to), omega (arith, here, t.b_to))
      | inr apart ↦
          let order = later (t.at + 1) k (omega (arith, more, apart)) within in
          inr (omega (arith, at, order, t.a_to), omega (arith, at, order, t.b_to))
    ]
  ]

  pub on_sheet : (a b : ℕ) → AreTogether cuts a b → (a < S) × (b < S)
  on_sheet a b t =
      let end = h.within (t.at + 1) 0 t.within in
      (omega (arith, end, t.a_to), omega (arith, end, t.b_to))

  ball_ends : (p : Point) (r : ℕ) → 0 < r → All (Contains cuts) (ends_of S axis (record { at = p; radius = r })) → Contains cuts (min (along axis p - r) S) × Contains cuts (min (along axis p + r) S)
  ball_ends p r some all =
      let e : (r == 0) ≡ false = ne_eqb r 0 (omega (arith, some)) in
      let both : All (Contains cuts) (min (along axis p - r) S ∷ min (along axis p + r) S ∷ []) = subst (λ (b : Bool). All (Contains cuts) (if b then [] else min (along axis p - r) S ∷ min (along axis p + r) S ∷ [])) e all in
      (both 0 0 (omega arith), both 1 0 (omega arith))

  -- a ball holds both or none of two such numbers
  pub in_both : (p : Point) (r a b : ℕ) → Contains balls (record { at = p; radius = r }) → AreTogether cuts a b → along axis p ≤ a + r → a + 1 ≤ along axis p + r → (along axis p ≤ b + r) × (b + 1 ≤ along axis p + r)
  in_both p r a b here t from to =
      let some : 0 < r = omega (arith, from, to) in
      let ends = ball_ends p r some (All-contains (λ (o : Ball). All (Contains cuts) (ends_of S axis o)) balls (record { at = p; radius = r }) h.ends here) in
      let (a_on, b_on) = on_sheet a b t in
      elim (sides a b (min (along axis p - r) S) t ends.0) [
        | inl (la, lb) ↦ elim (sides a b (min (along axis p + r) S) t ends.1) [
          | inl (ra, rb) ↦ absurd (omega (arith, ra, to, a_on))
          | inr (ra, rb) ↦ (omega (arith, lb, b_on), omega (arith, rb))
        ]
        | inr (la, lb) ↦ absurd (omega (arith, la, from, a_on))
      ]
