-- How far a run can still lead on over a table.
use Rattle.std.proofs.Common.{ℕ, ◌-◌, ◌<◌, ◌≤◌, refl, sym, subst, arith, inl, inr}
use Rattle.std.proofs.lemmas.Bool.{cases_eq}
use Rattle.bp_base.specs.declared.point.Point.{Point}
use Rattle.bp_contour.specs.declared.way.Way.{Way}
use Rattle.bp_contour.specs.declared.way.Way.TheVariants.{East, North, West, South}
use Rattle.bp_regions.specs.Runs.{GoesEast, GoesNorth, GoesSouth, GoesWest}
use Rattle.bp_contour.specs.Table.{Holds, IsWhole, TableValue}
use Rattle.bp_contour.specs.Ways.{Begins, CanStep, Leaves, Reaches, RunBy, step_on}
use Rattle.bp_contour.proofs.Tables.{held_within}

abbrev pub room_ahead : TableValue → Way → Point → ℕ
room_ahead C East p = C.width - p.x
room_ahead C North p = C.height - p.y
room_ahead C West p = p.x
room_ahead C South p = p.y

module _ (C : TableValue) where
  pub can_step : (w : Way) (p : Point) → IsWhole C → Leaves (Holds C) w p → CanStep w p
  can_step East p whole h = omega (arith, whole.columns, (held_within C p.x p.y h.0).0)
  can_step North p whole h = omega (arith, whole.rows, (held_within C (p.x - 1) p.y h.0.1).1)
  can_step West p whole h = h.0
  can_step South p whole h = h.0

  pub less_room : (w : Way) (p : Point) → Leaves (Holds C) w p → room_ahead C w (step_on w p) < room_ahead C w p
  less_room East p h = omega (arith, (held_within C p.x p.y h.0).0)
  less_room North p h = omega (arith, (held_within C (p.x - 1) p.y h.0.1).1)
  less_room West p h = omega (arith, h.0)
  less_room South p h = omega (arith, h.0)

module _ (In : ℕ → ℕ → Type 0) where
  pub reaches_none : (w : Way) (p : Point) → Reaches In w p p
  reaches_none East p = (refl, omega arith, λ k a b. absurd (omega (arith, a, b)))
  reaches_none North p = (refl, omega arith, λ k a b. absurd (omega (arith, a, b)))
  reaches_none West p = (refl, omega arith, λ k a b. absurd (omega (arith, a, b)))
  reaches_none South p = (refl, omega arith, λ k a b. absurd (omega (arith, a, b)))

  pub reaches_more : (w : Way) (p q : Point) → Reaches In w p q → Leaves In w q → Reaches In w p (step_on w q)
  reaches_more East p q r h = (
    r.0,
    omega (arith, r.1),
    λ k a b. elim (cases_eq k q.x) [
      | inl same ↦
          subst (λ (m : ℕ). GoesEast In m p.y) (sym same) (subst (λ (m : ℕ). GoesEast In q.x m) (sym r.0) h)
      | inr apart ↦ r.2 k a (omega (arith, b, apart))
    ],
  )
  reaches_more North p q r h = (
    r.0,
    omega (arith, r.1),
    λ k a b. elim (cases_eq k q.y) [
      | inl same ↦
          subst (λ (m : ℕ). GoesNorth In p.x m) (sym same) (subst (λ (m : ℕ). GoesNorth In m q.y) (sym r.0) h)
      | inr apart ↦ r.2 k a (omega (arith, b, apart))
    ],
  )
  reaches_more West p q r h = (
    r.0,
    omega (arith, r.1),
    λ k a b. elim (cases_eq k (q.x - 1)) [
      | inl same ↦
          subst (λ (m : ℕ). GoesWest In m p.y) (sym same) (subst (λ (m : ℕ). GoesWest In (q.x - 1) m) (sym r.0) h.1)
      | inr apart ↦ r.2 k (omega (arith, a, apart)) b
    ],
  )
  reaches_more South p q r h = (
    r.0,
    omega (arith, r.1),
    λ k a b. elim (cases_eq k (q.y - 1)) [
      | inl same ↦
          subst (λ (m : ℕ). GoesSouth In p.x m) (sym same) (subst (λ (m : ℕ). GoesSouth In m (q.y - 1)) (sym r.0) h.1)
      | inr apart ↦ r.2 k (omega (arith, a, apart)) b
    ],
  )

  -- a tour that can't go on has gone a run
  pub reached_end : (w : Way) (p q : Point) → Begins In w p → Reaches In w p q → (Leaves In w q → ⊥) → RunBy In w p q
  reached_end East p q b r stop =
      let stops : GoesEast In q.x p.y → ⊥ = λ h. stop (subst (λ (m : ℕ). GoesEast In q.x m) r.0 h) in (
        r.0,
        record {
          some = elim (cases_eq p.x q.x) [
            | inl same ↦ absurd (stops (subst (λ (m : ℕ). GoesEast In m p.y) same b.0))
            | inr apart ↦ omega (arith, r.1, apart)
          ];
          all = r.2;
          start = λ at h. b.1 (at, h);
          stop = stops;
        },
      )
  reached_end North p q b r stop =
      let stops : GoesNorth In p.x q.y → ⊥ = λ h. stop (subst (λ (m : ℕ). GoesNorth In m q.y) r.0 h) in (
        r.0,
        record {
          some = elim (cases_eq p.y q.y) [
            | inl same ↦ absurd (stops (subst (λ (m : ℕ). GoesNorth In p.x m) same b.0))
            | inr apart ↦ omega (arith, r.1, apart)
          ];
          all = r.2;
          start = λ at h. b.1 (at, h);
          stop = stops;
        },
      )
  reached_end West p q b r stop =
      let stops : 1 ≤ q.x → GoesWest In (q.x - 1) p.y → ⊥ = λ at h. stop (at, subst (λ (m : ℕ). GoesWest In (q.x - 1) m) r.0 h) in (
        r.0,
        record {
          some = elim (cases_eq q.x p.x) [
            | inl same ↦
                absurd (stops (omega (arith, same, b.0.0)) (subst (λ (m : ℕ). GoesWest In (m - 1) p.y) (sym same) b.0.1))
            | inr apart ↦ omega (arith, r.1, apart)
          ];
          all = r.2;
          start = stops;
          stop = b.1;
        },
      )
  reached_end South p q b r stop =
      let stops : 1 ≤ q.y → GoesSouth In p.x (q.y - 1) → ⊥ = λ at h. stop (at, subst (λ (m : ℕ). GoesSouth In m (q.y - 1)) r.0 h) in (
        r.0,
        record {
          some = elim (cases_eq q.y p.y) [
            | inl same ↦
                absurd (stops (omega (arith, same, b.0.0)) (subst (λ (m : ℕ). GoesSouth In p.x (m - 1)) (sym same) b.0.1))
            | inr apart ↦ omega (arith, r.1, apart)
          ];
          all = r.2;
          start = stops;
          stop = b.1;
        },
      )
