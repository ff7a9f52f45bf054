-- There is only one list of contours.
use Rattle.std.proofs.Common.{◌≡◌, ◌≢◌, ℕ, zero, suc, ◌+◌, ◌-◌, ◌<◌, ◌≤◌, Bool, List, [], length, if◌then◌else◌, refl, sym, ◌∙◌, ap, subst, arith, inl, inr}
use Rattle.std.proofs.lemmas.Bool.{cases_eq, cases_lt, cases_order, eq-eqb, ne_eqb}
use Rattle.std.proofs.lemmas.List.{get_or_default, same_lists}
use Rattle.bp_base.specs.declared.point.Point.{Point}
use Rattle.bp_base.specs.Point.{origin}
use Rattle.bp_contour.specs.declared.way.Way.{Way}
use Rattle.bp_regions.specs.Contours.{AreContours, ComesBefore, IsPlace, loop_at, next_place, turn_after, turn_at}
use Rattle.bp_regions.specs.Runs.{IsAfter, IsRun}
use Rattle.bp_contour.specs.Ways.{RunBy}
use Rattle.bp_contour.proofs.After.{one_after}
use Rattle.bp_contour.proofs.Corners.{same_end, same_point}
use Rattle.bp_contour.proofs.Directed.{one_ahead, way_of}

-- The order of points.

pub never_itself : (p : Point) → ComesBefore p p → ⊥
never_itself p (inl a) = omega (arith, a)
never_itself p (inr a) = omega (arith, a.1)

pub never_back : (p q : Point) → ComesBefore p q → ComesBefore q p → ⊥
never_back p q (inl a) (inl b) = omega (arith, a, b)
never_back p q (inl a) (inr b) = omega (arith, a, b.0)
never_back p q (inr a) (inl b) = omega (arith, a.0, b)
never_back p q (inr a) (inr b) = omega (arith, a.1, b.1)

neither_before : (p q : Point) → (ComesBefore p q → ⊥) → (ComesBefore q p → ⊥) → p ≡ q
neither_before p q none back = elim (cases_order p.y q.y) [
  | inr (inl lower) ↦ absurd (none (inl lower))
  | inr (inr higher) ↦ absurd (back (inl higher))
  | inl level ↦ elim (cases_order p.x q.x) [
    | inr (inl left) ↦ absurd (none (inr (level, left)))
    | inr (inr right) ↦ absurd (back (inr (sym level, right)))
    | inl same ↦ same_point p q same level
  ]
]

-- Round a loop.

next_at_end : (l : List Point) (k : ℕ) → k + 1 ≡ length l → next_place l k ≡ 0
next_at_end l k same = ap (λ (b : Bool). if b then 0 else k + 1) (eq-eqb (k + 1) (length l) same)

next_within : (l : List Point) (k : ℕ) → k + 1 ≢ length l → next_place l k ≡ k + 1
next_within l k apart = ap (λ (b : Bool). if b then 0 else k + 1) (ne_eqb (k + 1) (length l) apart)

next_in : (l : List Point) (k : ℕ) → k < length l → next_place l k < length l
next_in l k less = elim (cases_eq (k + 1) (length l)) [
  | inl same ↦ omega (arith, next_at_end l k same, less)
  | inr apart ↦ omega (arith, next_within l k apart, less, apart)
]

-- the place so many steps after place k
place_on : List Point → ℕ → ℕ → ℕ
place_on l k zero = k
place_on l k (suc t) = next_place l (place_on l k t)

on_in : (l : List Point) (k t : ℕ) → k < length l → place_on l k t < length l
unfolding place_on
on_in l k zero less = less
on_in l k (suc t) less = next_in l (place_on l k t) (on_in l k t less)

on_within : (l : List Point) (k t : ℕ) → k + t < length l → place_on l k t ≡ k + t
unfolding place_on
on_within l k zero less = omega arith
on_within l k (suc t) less =
    let so_far = on_within l k t (omega (arith, less)) in
    let step : next_place l (place_on l k t) ≡ place_on l k t + 1 = next_within l (place_on l k t) (λ e. omega (arith, e, so_far, less)) in
    omega (arith, step, so_far)

-- the steps that lead to the loop's start
on_to_start : (l : List Point) (k t : ℕ) → k + suc t ≡ length l → place_on l k (suc t) ≡ 0
unfolding place_on
on_to_start l k t long =
    let so_far = on_within l k t (omega (arith, long)) in
    next_at_end l (place_on l k t) (omega (arith, so_far, long))

module _ (In : ℕ → ℕ → Type 0) where
  -- Two loops go the same way at these places.
  record GoAlike (a b : List Point) (m n : ℕ) : Type 0 where
    pub at : turn_at a m ≡ turn_at b n
    pub on : turn_after a m ≡ turn_after b n

  module _ (K L : List (List Point)) (k : AreContours In K) (l : AreContours In L) where
    module _ (i j : ℕ) where
      step_alike : (m n : ℕ) → IsPlace K i m → IsPlace L j n → GoAlike (loop_at K i) (loop_at L j) m n → GoAlike (loop_at K i) (loop_at L j) (next_place (loop_at K i) m) (next_place (loop_at L j) n)
      step_alike m n K_in L_in h =
          let a = loop_at K i in
          let b = loop_at L j in
          let b_after : IsAfter In (turn_at a m) (turn_after a m) (turn_after b (next_place b n)) = subst (λ (p : Point). IsAfter In p (turn_after a m) (turn_after b (next_place b n))) (sym h.at) (subst (λ (p : Point). IsAfter In (turn_at b n) p (turn_after b (next_place b n))) (sym h.on) (l.after j n L_in)) in
          record {
            at = h.on;
            on = one_after In (turn_at a m) (turn_after a m) (turn_after a (next_place a m)) (turn_after b (next_place b n)) (k.runs i m K_in) (k.after i m K_in) b_after;
          }

      go_alike : (m n t : ℕ) → IsPlace K i m → IsPlace L j n → GoAlike (loop_at K i) (loop_at L j) m n → GoAlike (loop_at K i) (loop_at L j) (place_on (loop_at K i) m t) (place_on (loop_at L j) n t)
      unfolding place_on
      go_alike m n zero K_in L_in h = h
      go_alike m n (suc t) K_in L_in h =
          step_alike (place_on (loop_at K i) m t) (place_on (loop_at L j) n t) (K_in.0, on_in (loop_at K i) m t K_in.1) (L_in.0, on_in (loop_at L j) n t L_in.1) (go_alike m n t K_in L_in h)

  -- two steps of a loop from its least point are one
  from_least : (L : List (List Point)) → AreContours In L → (j n : ℕ) → IsPlace L j n → turn_at (loop_at L j) n ≡ turn_at (loop_at L j) 0 → turn_after (loop_at L j) n ≡ turn_after (loop_at L j) 0
  from_least L l j n place same =
      let b = loop_at L j in
      let start : IsPlace L j 0 = (place.0, l.some j place.0) in
      let (v, first) = way_of In (turn_at b 0) (turn_after b 0) (l.runs j 0 start) in
      let (w, other) = way_of In (turn_at b 0) (turn_after b n) (subst (λ (p : Point). IsRun In p (turn_after b n)) same (l.runs j n place)) in
      let way : v ≡ w = one_ahead In v w (turn_at b 0) (turn_after b 0) (turn_after b n) first other (l.least j (next_place b 0) (place.0, next_in b 0 start.1)) (l.least j (next_place b n) (place.0, next_in b n place.1)) in
      same_end In w (turn_at b 0) (turn_after b n) (turn_after b 0) other (subst (λ (u : Way). RunBy In u (turn_at b 0) (turn_after b 0)) way first)

  -- one step stands at one place
  one_place_of : (L : List (List Point)) → AreContours In L → (j m n : ℕ) → IsPlace L j m → IsPlace L j n → turn_at (loop_at L j) m ≡ turn_at (loop_at L j) n → turn_after (loop_at L j) m ≡ turn_after (loop_at L j) n → m ≡ n
  one_place_of L l j m n m_in n_in at on =
      let b = loop_at L j in
      let once = l.once (turn_at b n) (turn_after b n) (l.runs j n n_in) in
      let here = once.only j n (record { place = n_in; from = refl; to = refl }) in
      let there = once.only j m (record { place = m_in; from = at; to = on }) in
      there.1 ∙ sym here.1

  module _ (K L : List (List Point)) (k : AreContours In K) (l : AreContours In L) where
    -- a loop that goes as another begins begins there too
    begin_alike : (i j n : ℕ) → IsPlace K i 0 → IsPlace L j n → GoAlike (loop_at K i) (loop_at L j) 0 n → GoAlike (loop_at K i) (loop_at L j) 0 0
    begin_alike i j n K_in L_in h =
        let a = loop_at K i in
        let b = loop_at L j in
        let steps : ℕ = length b - n - 1 in
        let round : place_on b n (suc steps) ≡ 0 = on_to_start b n steps (omega (arith, L_in.1)) in
        let met = go_alike K L k l i j 0 n (suc steps) K_in L_in h in
        let a_there : turn_at a (place_on a 0 (suc steps)) ≡ turn_at b 0 = met.at ∙ ap (turn_at b) round in
        let b_ahead : ComesBefore (turn_at b 0) (turn_at a 0) → ⊥ = subst (λ (p : Point). ComesBefore p (turn_at a 0) → ⊥) a_there (k.least i (place_on a 0 (suc steps)) (K_in.0, on_in a 0 (suc steps) K_in.1)) in
        let a_ahead : ComesBefore (turn_at a 0) (turn_at b 0) → ⊥ = subst (λ (p : Point). ComesBefore p (turn_at b 0) → ⊥) (sym h.at) (l.least j n L_in) in
        let same : turn_at a 0 ≡ turn_at b 0 = neither_before (turn_at a 0) (turn_at b 0) a_ahead b_ahead in
        record { at = same; on = h.on ∙ from_least L l j n L_in (sym h.at ∙ same) }

    no_shorter : (i j : ℕ) → IsPlace K i 0 → IsPlace L j 0 → GoAlike (loop_at K i) (loop_at L j) 0 0 → length (loop_at L j) ≤ length (loop_at K i)
    no_shorter i j K_in L_in h = elim (cases_lt (length (loop_at K i)) (length (loop_at L j))) [
      | inr more ↦ more
      | inl less ↦
          let a = loop_at K i in
          let b = loop_at L j in
          let steps : ℕ = length a - 1 in
          let a_round : place_on a 0 (suc steps) ≡ 0 = on_to_start a 0 steps (omega (arith, K_in.1)) in
          let b_on : place_on b 0 (suc steps) ≡ 0 + suc steps = on_within b 0 (suc steps) (omega (arith, less, K_in.1)) in
          let met = go_alike K L k l i j 0 0 (suc steps) K_in L_in h in
          let there : IsPlace L j (place_on b 0 (suc steps)) = (L_in.0, on_in b 0 (suc steps) L_in.1) in
          let at : turn_at b (place_on b 0 (suc steps)) ≡ turn_at b 0 = sym met.at ∙ ap (turn_at a) a_round ∙ h.at in
          let on : turn_after b (place_on b 0 (suc steps)) ≡ turn_after b 0 = sym met.on ∙ ap (turn_after a) a_round ∙ h.on in
          absurd (omega (arith, one_place_of L l j (place_on b 0 (suc steps)) 0 there L_in at on, b_on))
    ]

  swapped : (a b : List Point) (m n : ℕ) → GoAlike a b m n → GoAlike b a n m
  swapped a b m n h = record { at = sym h.at; on = sym h.on }

  module _ (K L : List (List Point)) (k : AreContours In K) (l : AreContours In L) where
    same_loop : (i j : ℕ) → IsPlace K i 0 → IsPlace L j 0 → GoAlike (loop_at K i) (loop_at L j) 0 0 → loop_at K i ≡ loop_at L j
    same_loop i j K_in L_in h =
        let a = loop_at K i in
        let b = loop_at L j in
        let more = no_shorter K L k l i j K_in L_in h in
        let less = no_shorter L K l k j i L_in K_in (swapped a b 0 0 h) in
        same_lists a b (omega (arith, more, less)) (λ t d short.
        let met = go_alike K L k l i j 0 0 t K_in L_in h in
        let a_on : place_on a 0 t ≡ t = omega (arith, on_within a 0 t (omega (arith, short))) in
        let b_on : place_on b 0 t ≡ t = omega (arith, on_within b 0 t (omega (arith, short, more, less))) in
        let same : turn_at a t ≡ turn_at b t = sym (ap (turn_at a) a_on) ∙ met.at ∙ ap (turn_at b) b_on in
        get_or_default a t d origin short ∙ same ∙ get_or_default b t origin d (omega (arith, short, more, less)))

    -- each loop stands in the other list
    pub stands_in : (i : ℕ) → i < length K → (j : ℕ) × (j < length L) × (loop_at K i ≡ loop_at L j)
    stands_in i i_in =
        let a = loop_at K i in
        let K_in : IsPlace K i 0 = (i_in, k.some i i_in) in
        let once = l.once (turn_at a 0) (turn_after a 0) (k.runs i 0 K_in) in
        let L_in : IsPlace L once.loop once.place = once.goes.place in
        let start : IsPlace L once.loop 0 = (L_in.0, l.some once.loop L_in.0) in
        let h = begin_alike K L k l i once.loop once.place K_in L_in (record { at = sym once.goes.from; on = sym once.goes.to }) in
        (once.loop, L_in.0, same_loop i once.loop K_in start h)

-- Lists that rise and have the same elements are the same.
abbrev starts_at : List (List Point) → ℕ → Point
starts_at K i = turn_at (loop_at K i) 0

module _ (K L : List (List Point)) (K_rise : (i j : ℕ) → i < j → j < length K → ComesBefore (starts_at K i) (starts_at K j)) (L_rise : (i j : ℕ) → i < j → j < length L → ComesBefore (starts_at L i) (starts_at L j)) (there : (i : ℕ) → i < length K → (j : ℕ) × (j < length L) × (loop_at K i ≡ loop_at L j)) (back : (j : ℕ) → j < length L → (i : ℕ) × (i < length K) × (loop_at L j ≡ loop_at K i)) where
  K_apart : (i j : ℕ) → i < j → j < length K → loop_at K i ≡ loop_at K j → ⊥
  K_apart i j less within e =
      never_itself (starts_at K j) (subst (λ (l : List Point). ComesBefore (turn_at l 0) (starts_at K j)) e (K_rise i j less within))

  L_apart : (i j : ℕ) → i < j → j < length L → loop_at L i ≡ loop_at L j → ⊥
  L_apart i j less within e =
      never_itself (starts_at L j) (subst (λ (l : List Point). ComesBefore (turn_at l 0) (starts_at L j)) e (L_rise i j less within))

  -- the same at place i where it is so before
  same_next : (i : ℕ) → i < length K → ((m : ℕ) → m < i → (m < length L) × (loop_at K m ≡ loop_at L m)) → (i < length L) × (loop_at K i ≡ loop_at L i)
  same_next i i_in before = let (j, j_in, e) = there i i_in in elim (cases_order i j) [
    | inl same ↦ (omega (arith, same, j_in), e ∙ ap (loop_at L) (sym same))
    | inr (inr more) ↦ absurd (K_apart j i more i_in ((before j more).1 ∙ sym e))
    | inr (inl less) ↦
        let i_short : i < length L = omega (arith, less, j_in) in
        let (m, m_in, f) = back i i_short in
        elim (cases_order m i) [
          | inr (inl early) ↦ absurd (L_apart m i early i_short (sym (before m early).1 ∙ sym f))
          | inl same ↦ absurd (L_apart i j less j_in (f ∙ ap (loop_at K) same ∙ e))
          | inr (inr late) ↦
              let ahead : ComesBefore (starts_at L j) (starts_at L i) = subst (λ (l : List Point). ComesBefore (turn_at l 0) (starts_at L i)) e (subst (λ (l : List Point). ComesBefore (starts_at K i) (turn_at l 0)) (sym f) (K_rise i m late m_in)) in
              absurd (never_back (starts_at L i) (starts_at L j) (L_rise i j less j_in) ahead)
        ]
  ]

  same_upto : (n i : ℕ) → i < n → i < length K → (i < length L) × (loop_at K i ≡ loop_at L i)
  same_upto zero i less i_in = absurd (omega (arith, less))
  same_upto (suc n) i less i_in =
      same_next i i_in (λ m early. same_upto n m (omega (arith, less, early)) (omega (arith, early, i_in)))

  pub same_here : (i : ℕ) → i < length K → (i < length L) × (loop_at K i ≡ loop_at L i)
  same_here i i_in = same_upto (length K) i i_in i_in

no_longer : (K L : List (List Point)) → ((i : ℕ) → i < length K → (i < length L) × (loop_at K i ≡ loop_at L i)) → length K ≤ length L
no_longer K L same = elim (cases_lt (length L) (length K)) [
  | inr more ↦ more
  | inl less ↦ omega (arith, less, (same (length L) less).0)
]

pub one_list : (In : ℕ → ℕ → Type 0) (K L : List (List Point)) → AreContours In K → AreContours In L → K ≡ L
one_list In K L k l =
    let there = stands_in In K L k l in
    let back = stands_in In L K l k in
    let K_same = same_here K L k.rising l.rising there back in
    let L_same = same_here L K l.rising k.rising back there in
    same_lists K L (omega (arith, no_longer K L K_same, no_longer L K L_same)) (λ i d i_in. get_or_default K i d [] i_in ∙ (K_same i i_in).1 ∙ get_or_default L i [] d (K_same i i_in).0)
