-- The four cells round a grid point tell which runs begin and end there.
use Rattle.std.proofs.Common.{◌≡◌, ◌≢◌, ◌⊎◌, ℕ, zero, suc, ◌-◌, ◌<◌, refl, sym, ◌∙◌, ap, subst, arith, inl, inr}
use Rattle.bp_base.specs.declared.point.Point.{Point}
use Rattle.bp_contour.specs.declared.way.Way.{Way}
use Rattle.bp_contour.specs.declared.way.Way.TheVariants.{East, North, West, South}
use Rattle.bp_regions.specs.Runs.{Below, Beside, GoesEast, GoesNorth, GoesSouth, GoesWest, IsStretch}
use Rattle.bp_contour.specs.Ways.{Arrives, Begins, Leaves, RunBy, left_of, right_of}
use Rattle.bp_contour.proofs.Stretches.{same_start, same_stop, stretch_down, stretch_up}

pub same_point : (p q : Point) → p.x ≡ q.x → p.y ≡ q.y → p ≡ q
same_point p q x y =
    ap (λ (k : ℕ). record { x = k; y = p.y }) x ∙ ap (λ (k : ℕ). record { x = q.x; y = k }) y

abbrev pub opposite : Way → Way
opposite East = West
opposite North = South
opposite West = East
opposite South = North

pub known_way : (v w : Way) → (v ≡ w) ⊎ (v ≢ w)
known_way East East = inl refl
known_way East North = inr (λ e. cc)
known_way East West = inr (λ e. cc)
known_way East South = inr (λ e. cc)
known_way North East = inr (λ e. cc)
known_way North North = inl refl
known_way North West = inr (λ e. cc)
known_way North South = inr (λ e. cc)
known_way West East = inr (λ e. cc)
known_way West North = inr (λ e. cc)
known_way West West = inl refl
known_way West South = inr (λ e. cc)
known_way South East = inr (λ e. cc)
known_way South North = inr (λ e. cc)
known_way South West = inr (λ e. cc)
known_way South South = inl refl

module _ (In : ℕ → ℕ → Type 0) where
  -- Runs by their ends.

  pub run_leaves : (w : Way) (p q : Point) → RunBy In w p q → Leaves In w p
  run_leaves East p q r = r.1.all p.x (omega arith) r.1.some
  run_leaves North p q r = r.1.all p.y (omega arith) r.1.some
  run_leaves West p q r =
      (omega (arith, r.1.some), r.1.all (p.x - 1) (omega (arith, r.1.some)) (omega (arith, r.1.some)))
  run_leaves South p q r =
      (omega (arith, r.1.some), r.1.all (p.y - 1) (omega (arith, r.1.some)) (omega (arith, r.1.some)))

  pub run_begins : (w : Way) (p q : Point) → RunBy In w p q → Begins In w p
  run_begins East p q r = (run_leaves East p q r, λ h. r.1.start h.0 h.1)
  run_begins North p q r = (run_leaves North p q r, λ h. r.1.start h.0 h.1)
  run_begins West p q r = (run_leaves West p q r, r.1.stop)
  run_begins South p q r = (run_leaves South p q r, r.1.stop)

  pub run_arrives : (w : Way) (p q : Point) → RunBy In w p q → Arrives In w q
  run_arrives East p q r = (
    omega (arith, r.1.some),
    subst (λ (y : ℕ). GoesEast In (q.x - 1) y) r.0 (r.1.all (q.x - 1) (omega (arith, r.1.some)) (omega (arith, r.1.some))),
  )
  run_arrives North p q r = (
    omega (arith, r.1.some),
    subst (λ (x : ℕ). GoesNorth In x (q.y - 1)) r.0 (r.1.all (q.y - 1) (omega (arith, r.1.some)) (omega (arith, r.1.some))),
  )
  run_arrives West p q r = subst (λ (y : ℕ). GoesWest In q.x y) r.0 (r.1.all q.x (omega arith) r.1.some)
  run_arrives South p q r = subst (λ (x : ℕ). GoesSouth In x q.y) r.0 (r.1.all q.y (omega arith) r.1.some)

  pub run_ends : (w : Way) (p q : Point) → RunBy In w p q → Leaves In w q → ⊥
  run_ends East p q r h = r.1.stop (subst (λ (y : ℕ). GoesEast In q.x y) (sym r.0) h)
  run_ends North p q r h = r.1.stop (subst (λ (x : ℕ). GoesNorth In x q.y) (sym r.0) h)
  run_ends West p q r h = r.1.start h.0 (subst (λ (y : ℕ). GoesWest In (q.x - 1) y) (sym r.0) h.1)
  run_ends South p q r h = r.1.start h.0 (subst (λ (x : ℕ). GoesSouth In x (q.y - 1)) (sym r.0) h.1)

  pub same_end : (w : Way) (p q r : Point) → RunBy In w p q → RunBy In w p r → q ≡ r
  same_end East p q r a b =
      same_point q r (same_stop (λ x. GoesEast In x p.y) p.x q.x r.x a.1 b.1) (sym a.0 ∙ b.0)
  same_end North p q r a b =
      same_point q r (sym a.0 ∙ b.0) (same_stop (λ y. GoesNorth In p.x y) p.y q.y r.y a.1 b.1)
  same_end West p q r a b =
      same_point q r (same_start (λ x. GoesWest In x p.y) q.x r.x p.x a.1 b.1) (sym a.0 ∙ b.0)
  same_end South p q r a b =
      same_point q r (sym a.0 ∙ b.0) (same_start (λ y. GoesSouth In p.x y) q.y r.y p.y a.1 b.1)

  pub same_begin : (w : Way) (p q r : Point) → RunBy In w p r → RunBy In w q r → p ≡ q
  same_begin East p q r a b =
      same_point p q (same_start (λ x. GoesEast In x p.y) p.x q.x r.x a.1 (subst (λ (y : ℕ). IsStretch (λ x. GoesEast In x y) q.x r.x) (b.0 ∙ sym a.0) b.1)) (a.0 ∙ sym b.0)
  same_begin North p q r a b =
      same_point p q (a.0 ∙ sym b.0) (same_start (λ y. GoesNorth In p.x y) p.y q.y r.y a.1 (subst (λ (x : ℕ). IsStretch (λ y. GoesNorth In x y) q.y r.y) (b.0 ∙ sym a.0) b.1))
  same_begin West p q r a b =
      same_point p q (same_stop (λ x. GoesWest In x p.y) r.x p.x q.x a.1 (subst (λ (y : ℕ). IsStretch (λ x. GoesWest In x y) r.x q.x) (b.0 ∙ sym a.0) b.1)) (a.0 ∙ sym b.0)
  same_begin South p q r a b =
      same_point p q (a.0 ∙ sym b.0) (same_stop (λ y. GoesSouth In p.x y) r.y p.y q.y a.1 (subst (λ (x : ℕ). IsStretch (λ y. GoesSouth In x y) r.y q.y) (b.0 ∙ sym a.0) b.1))

  -- What two segments at a point say of each other.

  pub two_leave : (v w : Way) (p : Point) → Leaves In v p → Leaves In w p → (v ≡ w) ⊎ (w ≡ opposite v)
  two_leave East East p a b = inl refl
  two_leave East North p a b = absurd (b.1 a.0)
  two_leave East West p a b = inr refl
  two_leave East South p a b = absurd (a.1 (b.0, b.1.0))
  two_leave North East p a b = absurd (a.1 b.0)
  two_leave North North p a b = inl refl
  two_leave North West p a b = absurd (b.1.1 a.0.1)
  two_leave North South p a b = inr refl
  two_leave West East p a b = inr refl
  two_leave West North p a b = absurd (a.1.1 b.0.1)
  two_leave West West p a b = inl refl
  two_leave West South p a b = absurd (b.1.1 (a.0, a.1.0.1))
  two_leave South East p a b = absurd (b.1 (a.0, a.1.0))
  two_leave South North p a b = inr refl
  two_leave South West p a b = absurd (a.1.1 (b.0, b.1.0.1))
  two_leave South South p a b = inl refl

  pub two_arrive : (v w : Way) (p : Point) → Arrives In v p → Arrives In w p → (v ≡ w) ⊎ (w ≡ opposite v)
  two_arrive East East p a b = inl refl
  two_arrive East North p a b = absurd (a.1.1 (b.0, b.1.0.1))
  two_arrive East West p a b = inr refl
  two_arrive East South p a b = absurd (b.1 (a.0, a.1.0))
  two_arrive North East p a b = absurd (b.1.1 (a.0, a.1.0.1))
  two_arrive North North p a b = inl refl
  two_arrive North West p a b = absurd (a.1.1 b.0.1)
  two_arrive North South p a b = inr refl
  two_arrive West East p a b = inr refl
  two_arrive West North p a b = absurd (b.1.1 a.0.1)
  two_arrive West West p a b = inl refl
  two_arrive West South p a b = absurd (a.1 b.0)
  two_arrive South East p a b = absurd (a.1 (b.0, b.1.0))
  two_arrive South North p a b = inr refl
  two_arrive South West p a b = absurd (b.1 a.0)
  two_arrive South South p a b = inl refl

  -- where two opposite segments end, a run begins on the left of each
  pub both_begin : (v : Way) (p : Point) → Arrives In v p → Arrives In (opposite v) p → Begins In (left_of v) p
  both_begin East p a b = (((a.0, a.1.0), b.1), λ h. a.1.1 (h.0, h.1.0.1))
  both_begin North p a b = ((a.1.0.0, ((a.0, a.1.0.1), λ h. b.1 (a.1.0.0, h))), λ h. a.1.1 h.0.1)
  both_begin West p a b = ((a.0.0, (a.0.1, λ h. b.1.1 (a.0.0, h.1))), λ h. a.1 h.0)
  both_begin South p a b = ((a.0, λ h. b.1.1 h.1), λ h. a.1 (h.0, h.1.0))

  module _ (known : (x y : ℕ) → In x y ⊎ (In x y → ⊥)) where
    pub known_below : (x y : ℕ) → Below In x y ⊎ (Below In x y → ⊥)
    known_below x zero = inr (λ h. omega (arith, h.0))
    known_below x (suc y) = elim (known x (suc y - 1)) [
      | inl here ↦ inl (omega arith, here)
      | inr none ↦ inr (λ h. none h.1)
    ]

    pub known_beside : (x y : ℕ) → Beside In x y ⊎ (Beside In x y → ⊥)
    known_beside zero y = inr (λ h. omega (arith, h.0))
    known_beside (suc x) y = elim (known (suc x - 1) y) [
      | inl here ↦ inl (omega arith, here)
      | inr none ↦ inr (λ h. none h.1)
    ]

    -- where a run ends, one begins on its left or on its right
    pub must_turn : (v : Way) (p : Point) → Arrives In v p → (Leaves In v p → ⊥) → (Begins In (left_of v) p → ⊥) → Begins In (right_of v) p
    must_turn East p a stops none = elim (known p.x p.y) [
      | inl here ↦ elim (known_below p.x p.y) [
        | inl below ↦ ((below.0, (below.1, λ h. a.1.1 (below.0, h.1))), λ h. h.1 (a.0, a.1.0))
        | inr off ↦ absurd (stops (here, off))
      ]
      | inr off ↦ absurd (none (((a.0, a.1.0), off), λ h. a.1.1 (h.0, h.1.0.1)))
    ]
    must_turn North p a stops none = elim (known_beside p.x p.y) [
      | inl here ↦ elim (known p.x p.y) [
        | inl in_it ↦ ((in_it, λ h. a.1.1 h.1), λ h. h.1.1 (a.0, a.1.0.1))
        | inr off ↦ absurd (stops (here, off))
      ]
      | inr off ↦
          absurd (none ((a.1.0.0, ((a.0, a.1.0.1), λ h. off (a.1.0.0, h))), λ h. a.1.1 h.0.1))
    ]
    must_turn West p a stops none = elim (known_beside p.x (p.y - 1)) [
      | inl here ↦ elim (known_beside p.x p.y) [
        | inl in_it ↦ ((in_it, a.1), λ h. h.1.1 a.0.1)
        | inr off ↦ absurd (stops (here.0, ((a.0.0, here.1), λ h. off (here.0, h))))
      ]
      | inr off ↦ absurd (none ((a.0.0, (a.0.1, off)), λ h. a.1 h.0))
    ]
    must_turn South p a stops none = elim (known_below p.x p.y) [
      | inl here ↦ elim (known_beside p.x (p.y - 1)) [
        | inl in_it ↦ ((in_it.0, ((here.0, in_it.1), λ h. a.1 (in_it.0, h))), λ h. h.1 a.0)
        | inr off ↦ absurd (stops (here.0, (here.1, off)))
      ]
      | inr off ↦ absurd (none ((a.0, off), λ h. a.1 (h.0, h.1.0)))
    ]

    module _ (width height : ℕ) (bound : (x y : ℕ) → In x y → (x < width) × (y < height)) where
      pub known_both : (A B : Type 0) → (A ⊎ (A → ⊥)) → (B ⊎ (B → ⊥)) → (A × (B → ⊥)) ⊎ (A × (B → ⊥) → ⊥)
      known_both A B (inl a) (inl b) = inr (λ h. h.1 b)
      known_both A B (inl a) (inr b) = inl (a, b)
      known_both A B (inr a) b = inr (λ h. a h.0)

      -- a run leads on from wherever one begins
      pub leads_on : (w : Way) (p : Point) → Begins In w p → (q : Point) × RunBy In w p q
      leads_on East p b =
          let (c, s) = stretch_up (λ x. GoesEast In x p.y) (λ x. known_both (In x p.y) (Below In x p.y) (known x p.y) (known_below x p.y)) width p.x (λ x h. (bound x p.y h.0).0) b.0 (λ at h. b.1 (at, h)) in
          (record { x = c; y = p.y }, (refl, s))
      leads_on North p b =
          let (c, s) = stretch_up (λ y. GoesNorth In p.x y) (λ y. known_both (Beside In p.x y) (In p.x y) (known_beside p.x y) (known p.x y)) height p.y (λ y h. (bound (p.x - 1) y h.0.1).1) b.0 (λ at h. b.1 (at, h)) in
          (record { x = p.x; y = c }, (refl, s))
      leads_on West p b =
          let (c, s) = stretch_down (λ x. GoesWest In x p.y) (λ x. known_both (Below In x p.y) (In x p.y) (known_below x p.y) (known x p.y)) p.x b.0.0 b.0.1 b.1 in
          (record { x = c; y = p.y }, (refl, s))
      leads_on South p b =
          let (c, s) = stretch_down (λ y. GoesSouth In p.x y) (λ y. known_both (In p.x y) (Beside In p.x y) (known p.x y) (known_beside p.x y)) p.y b.0.0 b.0.1 b.1 in
          (record { x = p.x; y = c }, (refl, s))
