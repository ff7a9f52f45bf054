-- Each run of a bounded set of cells has one run after it, and no two runs have the same.
use Rattle.std.proofs.Common.{◌≡◌, ◌≢◌, ◌⊎◌, ℕ, ◌-◌, ◌<◌, ◌≤◌, refl, sym, ◌∙◌, ap, subst, arith, inl, inr}
use Rattle.std.proofs.lemmas.Bool.{cases_eq}
use Rattle.bp_base.specs.declared.point.Point.{Point}
use Rattle.bp_contour.specs.declared.way.Way.{Way}
use Rattle.bp_contour.specs.declared.way.Way.TheVariants.{East, North, West, South}
use Rattle.bp_regions.specs.Runs.{IsAfter, IsRun, TurnsLeft}
use Rattle.bp_contour.specs.Ways.{Arrives, Begins, Leaves, RunBy, left_of, right_of}
use Rattle.bp_contour.proofs.Corners.{both_begin, known_below, known_beside, known_both, known_way, leads_on, must_turn, opposite, run_arrives, run_begins, run_ends, same_begin, same_end, same_point, two_arrive, two_leave}
use Rattle.bp_contour.proofs.Directed.{run_of, same_way, turns_left, way_of}
use Rattle.bp_contour.proofs.Followed.{opposite_twice, same_left}
use Rattle.bp_contour.proofs.Plane.{opposite_of_right}

pub known_point : (p q : Point) → (p ≡ q) ⊎ (p ≢ q)
known_point p q = elim (cases_eq p.x q.x) [
  | inr apart ↦ inr (λ e. apart (ap (λ (r : Point). r.x) e))
  | inl x ↦ elim (cases_eq p.y q.y) [
    | inr apart ↦ inr (λ e. apart (ap (λ (r : Point). r.y) e))
    | inl y ↦ inl (same_point p q x y)
  ]
]

-- Turning left, by the direction in which a run comes.

left_from_east : (p q r : Point) → p.y ≡ q.y → p.x < q.x → TurnsLeft p q r → q.y < r.y
left_from_east p q r level ahead (inl t) = t.1
left_from_east p q r level ahead (inr (inl t)) = absurd (omega (arith, t.0, level))
left_from_east p q r level ahead (inr (inr (inl t))) = absurd (omega (arith, t.0, ahead))
left_from_east p q r level ahead (inr (inr (inr t))) = absurd (omega (arith, t.0, level))

left_from_north : (p q r : Point) → p.x ≡ q.x → p.y < q.y → TurnsLeft p q r → r.x < q.x
left_from_north p q r level ahead (inl t) = absurd (omega (arith, t.0, level))
left_from_north p q r level ahead (inr (inl t)) = t.1
left_from_north p q r level ahead (inr (inr (inl t))) = absurd (omega (arith, t.0, level))
left_from_north p q r level ahead (inr (inr (inr t))) = absurd (omega (arith, t.0, ahead))

left_from_west : (p q r : Point) → p.y ≡ q.y → q.x < p.x → TurnsLeft p q r → r.y < q.y
left_from_west p q r level ahead (inl t) = absurd (omega (arith, t.0, ahead))
left_from_west p q r level ahead (inr (inl t)) = absurd (omega (arith, t.0, level))
left_from_west p q r level ahead (inr (inr (inl t))) = t.1
left_from_west p q r level ahead (inr (inr (inr t))) = absurd (omega (arith, t.0, level))

left_from_south : (p q r : Point) → p.x ≡ q.x → q.y < p.y → TurnsLeft p q r → q.x < r.x
left_from_south p q r level ahead (inl t) = absurd (omega (arith, t.0, level))
left_from_south p q r level ahead (inr (inl t)) = absurd (omega (arith, t.0, ahead))
left_from_south p q r level ahead (inr (inr (inl t))) = absurd (omega (arith, t.0, level))
left_from_south p q r level ahead (inr (inr (inr t))) = t.1

module _ (In : ℕ → ℕ → Type 0) where
  goes_up : (w : Way) (q r : Point) → RunBy In w q r → q.y < r.y → w ≡ North
  goes_up East q r run up = absurd (omega (arith, run.0, up))
  goes_up North q r run up = refl
  goes_up West q r run up = absurd (omega (arith, run.0, up))
  goes_up South q r run up = absurd (omega (arith, run.1.some, up))

  goes_down : (w : Way) (q r : Point) → RunBy In w q r → r.y < q.y → w ≡ South
  goes_down East q r run down = absurd (omega (arith, run.0, down))
  goes_down North q r run down = absurd (omega (arith, run.1.some, down))
  goes_down West q r run down = absurd (omega (arith, run.0, down))
  goes_down South q r run down = refl

  goes_forth : (w : Way) (q r : Point) → RunBy In w q r → q.x < r.x → w ≡ East
  goes_forth East q r run forth = refl
  goes_forth North q r run forth = absurd (omega (arith, run.0, forth))
  goes_forth West q r run forth = absurd (omega (arith, run.1.some, forth))
  goes_forth South q r run forth = absurd (omega (arith, run.0, forth))

  goes_back : (w : Way) (q r : Point) → RunBy In w q r → r.x < q.x → w ≡ West
  goes_back East q r run back = absurd (omega (arith, run.1.some, back))
  goes_back North q r run back = absurd (omega (arith, run.0, back))
  goes_back West q r run back = refl
  goes_back South q r run back = absurd (omega (arith, run.0, back))

  -- the direction of a run that turned left
  pub way_turned : (v w : Way) (p q r : Point) → RunBy In v p q → RunBy In w q r → TurnsLeft p q r → w ≡ left_of v
  way_turned East w p q r a b t = goes_up w q r b (left_from_east p q r a.0 a.1.some t)
  way_turned North w p q r a b t = goes_back w q r b (left_from_north p q r a.0 a.1.some t)
  way_turned West w p q r a b t = goes_down w q r b (left_from_west p q r a.0 a.1.some t)
  way_turned South w p q r a b t = goes_forth w q r b (left_from_south p q r a.0 a.1.some t)

  -- two runs to the left are one
  one_to_left : (p q r s : Point) → IsRun In p q → IsRun In q r → IsRun In q s → TurnsLeft p q r → TurnsLeft p q s → r ≡ s
  one_to_left p q r s run to_r to_s r_left s_left =
      let (v, a) = way_of In p q run in
      let (u, b) = way_of In q r to_r in
      let (w, c) = way_of In q s to_s in
      let same : w ≡ u = way_turned v w p q s a c s_left ∙ sym (way_turned v u p q r a b r_left) in
      same_end In u q r s b (subst (λ (x : Way). RunBy In x q s) same c)

  pub one_after : (p q r s : Point) → IsRun In p q → IsAfter In p q r → IsAfter In p q s → r ≡ s
  one_after p q r s run a b = elim (known_point r s) [
    | inl same ↦ same
    | inr apart ↦
        one_to_left p q r s run a.run b.run (a.left s b.run (λ e. apart (sym e))) (b.left r a.run apart)
  ]

  module _ (known : (x y : ℕ) → In x y ⊎ (In x y → ⊥)) (width height : ℕ) (bound : (x y : ℕ) → In x y → (x < width) × (y < height)) where
    known_after : (A B : Type 0) → (A ⊎ (A → ⊥)) → (A → B ⊎ (B → ⊥)) → (A × B) ⊎ (A × B → ⊥)
    known_after A B (inr none) next = inr (λ h. none h.0)
    known_after A B (inl here) next = elim (next here) [
      | inl there ↦ inl (here, there)
      | inr none ↦ inr (λ h. none h.1)
    ]

    known_some : (n : ℕ) → (1 ≤ n) ⊎ ((1 ≤ n) → ⊥)
    known_some n = elim (cases_eq n 0) [
      | inl none ↦ inr (λ some. omega (arith, some, none))
      | inr some ↦ inl (omega (arith, some))
    ]

    known_leaves : (w : Way) (p : Point) → Leaves In w p ⊎ (Leaves In w p → ⊥)
    known_leaves East p = known_both In known width height bound _ _ (known p.x p.y) (known_below In known p.x p.y)
    known_leaves North p = known_both In known width height bound _ _ (known_beside In known p.x p.y) (known p.x p.y)
    known_leaves West p =
        known_after _ _ (known_some p.x) (λ some. known_both In known width height bound _ _ (known_below In known (p.x - 1) p.y) (known (p.x - 1) p.y))
    known_leaves South p =
        known_after _ _ (known_some p.y) (λ some. known_both In known width height bound _ _ (known p.x (p.y - 1)) (known_beside In known p.x (p.y - 1)))

    known_arrives : (w : Way) (p : Point) → Arrives In w p ⊎ (Arrives In w p → ⊥)
    known_arrives East p =
        known_after _ _ (known_some p.x) (λ some. known_both In known width height bound _ _ (known (p.x - 1) p.y) (known_below In known (p.x - 1) p.y))
    known_arrives North p =
        known_after _ _ (known_some p.y) (λ some. known_both In known width height bound _ _ (known_beside In known p.x (p.y - 1)) (known p.x (p.y - 1)))
    known_arrives West p = known_both In known width height bound _ _ (known_below In known p.x p.y) (known p.x p.y)
    known_arrives South p = known_both In known width height bound _ _ (known p.x p.y) (known_beside In known p.x p.y)

    known_begins : (w : Way) (p : Point) → Begins In w p ⊎ (Begins In w p → ⊥)
    known_begins w p = known_both In known width height bound _ _ (known_leaves w p) (known_arrives w p)

    -- to the right, where none goes to the left
    after_right : (v : Way) (p q r : Point) → RunBy In v p q → RunBy In (right_of v) q r → (Begins In (left_of v) q → ⊥) → IsAfter In p q r
    after_right v p q r run next none = record {
      run = run_of In (right_of v) q r next;
      left = λ s other apart.
          let (u, b) = way_of In q s other in
          elim (two_leave In (right_of v) u q (run_begins In (right_of v) q r next).0 (run_begins In u q s b).0) [
            | inl same ↦
                absurd (apart (same_end In (right_of v) q s r (subst (λ (x : Way). RunBy In x q s) (sym same) b) next))
            | inr turned ↦
                absurd (none (subst (λ (x : Way). Begins In x q) (turned ∙ opposite_of_right v) (run_begins In u q s b)))
          ];
    }

    pub some_after : (p q : Point) → IsRun In p q → (r : Point) × IsAfter In p q r
    some_after p q run = let (v, a) = way_of In p q run in elim (known_begins (left_of v) q) [
      | inl begins ↦
          let (r, b) = leads_on In known width height bound (left_of v) q begins in
          (r, record { run = run_of In (left_of v) q r b; left = λ s other apart. turns_left In v p q r a b })
      | inr none ↦
          let (r, b) = leads_on In known width height bound (right_of v) q (must_turn In known v q (run_arrives In v p q a) (run_ends In v p q a) none) in
          (r, after_right v p q r a b none)
    ]

    -- where a run begins on the left, it is the one after
    goes_to_left : (v w : Way) (p q r : Point) → RunBy In v p q → RunBy In w q r → IsAfter In p q r → Begins In (left_of v) q → w ≡ left_of v
    goes_to_left v w p q r a b after begins =
        let (z, c) = leads_on In known width height bound (left_of v) q begins in
        elim (known_point z r) [
          | inl same ↦
              same_way In w (left_of v) q r b (subst (λ (x : Point). RunBy In (left_of v) q x) same c)
          | inr apart ↦ way_turned v w p q r a b (after.left z (run_of In (left_of v) q z c) apart)
        ]

    pub after_back : (p q r s : Point) → IsRun In p r → IsRun In q r → IsAfter In p r s → IsAfter In q r s → p ≡ q
    after_back p q r s p_run q_run p_after q_after =
        let (v, a) = way_of In p r p_run in
        let (w, b) = way_of In q r q_run in
        let (u, c) = way_of In r s p_after.run in
        elim (known_way v w) [
          | inl same ↦ same_begin In v p q r a (subst (λ (x : Way). RunBy In x q r) (sym same) b)
          | inr apart ↦ elim (two_arrive In v w r (run_arrives In v p r a) (run_arrives In w q r b)) [
            | inl same ↦ absurd (apart same)
            | inr other ↦
                let back : opposite w ≡ v = ap opposite other ∙ opposite_twice v in
                let left_v : Begins In (left_of v) r = both_begin In v r (run_arrives In v p r a) (subst (λ (x : Way). Arrives In x r) other (run_arrives In w q r b)) in
                let left_w : Begins In (left_of w) r = both_begin In w r (run_arrives In w q r b) (subst (λ (x : Way). Arrives In x r) (sym back) (run_arrives In v p r a)) in
                absurd (apart (same_left v w (sym (goes_to_left v u p r s a c p_after left_v) ∙ goes_to_left w u q r s b c q_after left_w)))
          ]
        ]
