-- Going along a line from vertex to vertex: what is drawn goes on where there is no vertex.
-- D says whether the unit segment from a coordinate is drawn, W whether there is a vertex at it.
use Rattle.std.proofs.Common.{◌≡◌, ℕ, zero, suc, ◌+◌, ◌-◌, ◌<◌, ◌≤◌, List, length, get_or, sym, ap, subst, arith, inl, inr}
use Rattle.std.specs.List.Sorted.{IsStrictlyIncreasing}
use Rattle.std.proofs.lemmas.Bool.{cases_eq, cases_order}
use Rattle.bp_regions.specs.Cuts.{AreTogether}
use Rattle.bp_fold.proofs.Lines.{OnLine, in_order, later, spaced}

module _ (S : ℕ) (cuts : List ℕ) (rising : IsStrictlyIncreasing cuts) (first : get_or cuts 0 0 ≡ 0) (last : get_or cuts (length cuts - 1) 0 ≡ S)
    (D W : ℕ → Type 0) (alike : (a b : ℕ) → AreTogether cuts a b → D a → D b) (on_line : (a : ℕ) → W a → OnLine cuts a)
    (goes_on : (k : ℕ) → k + 1 < length cuts → D (get_or cuts k 0) → (W (get_or cuts (k + 1) 0) → ⊥) → D (get_or cuts (k + 1) 0))
    (ends : (k : ℕ) → k + 1 ≡ length cuts → D (get_or cuts k 0) → ⊥) where
  pub go : (i k : ℕ) → i ≤ k → k < length cuts → D (get_or cuts i 0) → ((c : ℕ) → i < c → c ≤ k → W (get_or cuts c 0) → ⊥) → D (get_or cuts k 0)
  go i zero order within drawn free = let e : i ≡ 0 = omega (arith, order) in subst (λ (m : ℕ). D (get_or cuts m 0)) e drawn
  go i (suc k) order within drawn free = elim (cases_eq i (suc k)) [
    | inl same ↦ subst (λ (m : ℕ). D (get_or cuts m 0)) same drawn
    | inr apart ↦
        let e : k + 1 ≡ suc k = omega arith in
        let before = go i k (omega (arith, order, apart)) (omega (arith, within)) drawn (λ c after up_to. free c after (omega (arith, up_to))) in
        subst (λ (m : ℕ). D (get_or cuts m 0)) e (goes_on k (omega (arith, within)) before (λ w. free (k + 1) (omega (arith, order, apart)) (omega arith) w))
  ]

  -- so there is a vertex further on
  pub stops : (i : ℕ) → i < length cuts → D (get_or cuts i 0) → ((c : ℕ) → i < c → c < length cuts → W (get_or cuts c 0) → ⊥) → ⊥
  stops i within drawn free =
      ends (length cuts - 1) (omega (arith, within)) (go i (length cuts - 1) (omega (arith, within)) (omega (arith, within)) drawn (λ c after up_to. free c after (omega (arith, up_to, within))))

  reach_back : (i k a : ℕ) → i < length cuts → k + 1 < length cuts → get_or cuts i 0 ≤ a → a < get_or cuts (k + 1) 0 → i ≤ k
  reach_back i k a in_i in_k from to = elim (cases_order i (k + 1)) [
    | inl same ↦ absurd (omega (arith, from, to, ap (λ (m : ℕ). get_or cuts m 0) same))
    | inr (inl less) ↦ omega (arith, less)
    | inr (inr more) ↦ absurd (omega (arith, from, to, later S cuts rising first last (k + 1) i more in_i))
  ]

  reach_on : (i k a : ℕ) → i < length cuts → k + 1 < length cuts → a < get_or cuts i 0 → get_or cuts k 0 ≤ a → k < i
  reach_on i k a in_i in_k to from = elim (cases_order i k) [
    | inl same ↦ absurd (omega (arith, from, to, ap (λ (m : ℕ). get_or cuts m 0) same))
    | inr (inl less) ↦ absurd (omega (arith, from, to, later S cuts rising first last i k less (omega (arith, in_k))))
    | inr (inr more) ↦ more
  ]

  -- every unit segment up to the next vertex is drawn
  pub run_drawn : (i k : ℕ) → i < k → k < length cuts → D (get_or cuts i 0) → ((c : ℕ) → i < c → c < k → W (get_or cuts c 0) → ⊥) → get_or cuts k 0 ≤ S → (a : ℕ) → get_or cuts i 0 ≤ a → a < get_or cuts k 0 → D a
  run_drawn i k order within drawn free inside a from to =
      let s = spaced S cuts rising first last a (omega (arith, to, inside)) in
      let low : i ≤ s.at = reach_back i s.at a (omega (arith, order, within)) s.within from s.to in
      let high : s.at < k = reach_on k s.at a within s.within to s.from in
      let there = go i s.at low (omega (arith, s.within)) drawn (λ c after up_to. free c after (omega (arith, up_to, high))) in
      alike (get_or cuts s.at 0) a (record { at = s.at; within = s.within; a_from = omega arith; a_to = later S cuts rising first last s.at (s.at + 1) (omega arith) s.within; b_from = s.from; b_to = s.to }) there

  -- and no coordinate between is that of a vertex
  pub run_free : (i k : ℕ) → i < length cuts → k < length cuts → ((c : ℕ) → i < c → c < k → W (get_or cuts c 0) → ⊥) → (a : ℕ) → get_or cuts i 0 < a → a < get_or cuts k 0 → W a → ⊥
  run_free i k in_i in_k free a from to w =
      let on = on_line a w in
      let low : i < on.at = in_order S cuts rising first last i on.at in_i on.within (omega (arith, from, on.here)) in
      let high : on.at < k = in_order S cuts rising first last on.at k on.within in_k (omega (arith, to, on.here)) in
      free on.at low high (subst W (sym on.here) w)
