-- Runs of any direction, and what a run's direction tells.
use Rattle.std.proofs.Common.{◌≡◌, ◌⊎◌, ℕ, sym, subst, arith, inl, inr}
use Rattle.bp_base.specs.declared.point.Point.{Point}
use Rattle.bp_contour.specs.declared.way.Way.{Way}
use Rattle.bp_contour.specs.declared.way.Way.TheVariants.{East, North, West, South}
use Rattle.bp_regions.specs.Contours.{ComesBefore}
use Rattle.bp_regions.specs.Runs.{IsRun, TurnsLeft}
use Rattle.bp_contour.specs.Ways.{RunBy, left_of}
use Rattle.bp_contour.proofs.Corners.{opposite, run_begins, two_leave}

module _ (In : ℕ → ℕ → Type 0) where
  pub run_of : (v : Way) (p q : Point) → RunBy In v p q → IsRun In p q
  run_of East p q r = inl r
  run_of North p q r = inr (inl r)
  run_of West p q r = inr (inr (inl r))
  run_of South p q r = inr (inr (inr r))

  pub way_of : (p q : Point) → IsRun In p q → (v : Way) × RunBy In v p q
  way_of p q (inl r) = (East, r)
  way_of p q (inr (inl r)) = (North, r)
  way_of p q (inr (inr (inl r))) = (West, r)
  way_of p q (inr (inr (inr r))) = (South, r)

  pub turns_left : (v : Way) (p q r : Point) → RunBy In v p q → RunBy In (left_of v) q r → TurnsLeft p q r
  turns_left East p q r a b = inl (a.1.some, b.1.some)
  turns_left North p q r a b = inr (inl (a.1.some, b.1.some))
  turns_left West p q r a b = inr (inr (inl (a.1.some, b.1.some)))
  turns_left South p q r a b = inr (inr (inr (a.1.some, b.1.some)))

  -- of two opposite runs from a point, one leads to a point that comes before it
  pub one_back : (v : Way) (p q r : Point) → RunBy In v p q → RunBy In (opposite v) p r → ComesBefore q p ⊎ ComesBefore r p
  one_back East p q r a b = inr (inr (sym b.0, b.1.some))
  one_back North p q r a b = inr (inl b.1.some)
  one_back West p q r a b = inl (inr (sym a.0, a.1.some))
  one_back South p q r a b = inl (inl a.1.some)

  -- two runs from a point that lead to no point before it are one
  pub one_ahead : (v w : Way) (p q r : Point) → RunBy In v p q → RunBy In w p r → (ComesBefore q p → ⊥) → (ComesBefore r p → ⊥) → v ≡ w
  one_ahead v w p q r a b q_ahead r_ahead = elim (two_leave In v w p (run_begins In v p q a).0 (run_begins In w p r b).0) [
    | inl same ↦ same
    | inr turned ↦ elim (one_back v p q r a (subst (λ (u : Way). RunBy In u p r) turned b)) [
      | inl back ↦ absurd (q_ahead back)
      | inr back ↦ absurd (r_ahead back)
    ]
  ]

  apart_ways : (v : Way) (p q : Point) → RunBy In v p q → RunBy In (opposite v) p q → ⊥
  apart_ways East p q a b = omega (arith, a.1.some, b.1.some)
  apart_ways North p q a b = omega (arith, a.1.some, b.1.some)
  apart_ways West p q a b = omega (arith, a.1.some, b.1.some)
  apart_ways South p q a b = omega (arith, a.1.some, b.1.some)

  -- the ends of a run tell its direction
  pub same_way : (v w : Way) (p q : Point) → RunBy In v p q → RunBy In w p q → v ≡ w
  same_way v w p q a b = elim (two_leave In v w p (run_begins In v p q a).0 (run_begins In w p q b).0) [
    | inl same ↦ same
    | inr turned ↦ absurd (apart_ways v p q a (subst (λ (u : Way). RunBy In u p q) turned b))
  ]
