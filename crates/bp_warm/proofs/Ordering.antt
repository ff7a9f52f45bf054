-- What a step's order says of what it places.
use Rattle.std.proofs.Common.{◌≡◌, ◌≢◌, ℕ, ◌≤◌, [], ◌∷◌, arith, sym, ◌∙◌, ap, subst}
use Rattle.bp_base.specs.declared.point.Axis.{Axis}
use Rattle.bp_base.specs.declared.path.Choice.{Choice}
use Rattle.bp_base.specs.declared.path.Choice.TheVariants.{Left, Right, Below, Above}
use Rattle.bp_base.specs.declared.path.Pair.{Pair}
use Rattle.bp_base.specs.Path.{IsPairOf}
use Rattle.bp_metric.specs.Chains.{PlacesBy}
use Rattle.bp_warm.specs.Links.{ordered_by, IsOrder, other}

module _ (p : Pair) where
  pub order_by : (c : Choice) (axis : Axis) (a b : ℕ) → IsOrder p c axis a b → PlacesBy axis a b p c
  order_by Left axis a b o = subst (λ (x : Axis). PlacesBy x a b p Left) (sym o.0) (o.1, o.2)
  order_by Right axis a b o = subst (λ (x : Axis). PlacesBy x a b p Right) (sym o.0) (o.1, o.2)
  order_by Below axis a b o = subst (λ (x : Axis). PlacesBy x a b p Below) (sym o.0) (o.1, o.2)
  order_by Above axis a b o = subst (λ (x : Axis). PlacesBy x a b p Above) (sym o.0) (o.1, o.2)

  pub order_alone : (c : Choice) (axis : Axis) (a b x y : ℕ) → IsOrder p c axis a b → PlacesBy axis x y p c → (x ≡ a) × (y ≡ b)
  order_alone Left axis a b x y o by =
      let q = subst (λ (z : Axis). PlacesBy z x y p Left) o.0 by in
      (q.0 ∙ sym o.1, q.1 ∙ sym o.2)
  order_alone Right axis a b x y o by =
      let q = subst (λ (z : Axis). PlacesBy z x y p Right) o.0 by in
      (q.0 ∙ sym o.1, q.1 ∙ sym o.2)
  order_alone Below axis a b x y o by =
      let q = subst (λ (z : Axis). PlacesBy z x y p Below) o.0 by in
      (q.0 ∙ sym o.1, q.1 ∙ sym o.2)
  order_alone Above axis a b x y o by =
      let q = subst (λ (z : Axis). PlacesBy z x y p Above) o.0 by in
      (q.0 ∙ sym o.1, q.1 ∙ sym o.2)

  pub order_none : (c : Choice) (axis : Axis) (a b x y : ℕ) → IsOrder p c axis a b → PlacesBy (other axis) x y p c → ⊥
  order_none Left axis a b x y o by = subst (λ (z : Axis). PlacesBy (other z) x y p Left) o.0 by
  order_none Right axis a b x y o by = subst (λ (z : Axis). PlacesBy (other z) x y p Right) o.0 by
  order_none Below axis a b x y o by = subst (λ (z : Axis). PlacesBy (other z) x y p Below) o.0 by
  order_none Above axis a b x y o by = subst (λ (z : Axis). PlacesBy (other z) x y p Above) o.0 by

  pub order_pairs : (c : Choice) (axis : Axis) (a b : ℕ) → IsOrder p c axis a b → ordered_by axis p c ≡ record { i = a; j = b } ∷ []
  order_pairs Left axis a b o = ap (λ (x : Axis). ordered_by x p Left) o.0 ∙ (λ k. record { i = sym o.1 k; j = sym o.2 k } ∷ [])
  order_pairs Right axis a b o = ap (λ (x : Axis). ordered_by x p Right) o.0 ∙ (λ k. record { i = sym o.1 k; j = sym o.2 k } ∷ [])
  order_pairs Below axis a b o = ap (λ (x : Axis). ordered_by x p Below) o.0 ∙ (λ k. record { i = sym o.1 k; j = sym o.2 k } ∷ [])
  order_pairs Above axis a b o = ap (λ (x : Axis). ordered_by x p Above) o.0 ∙ (λ k. record { i = sym o.1 k; j = sym o.2 k } ∷ [])

  pub order_empty : (c : Choice) (axis : Axis) (a b : ℕ) → IsOrder p c axis a b → ordered_by (other axis) p c ≡ []
  order_empty Left axis a b o = ap (λ (x : Axis). ordered_by (other x) p Left) o.0
  order_empty Right axis a b o = ap (λ (x : Axis). ordered_by (other x) p Right) o.0
  order_empty Below axis a b o = ap (λ (x : Axis). ordered_by (other x) p Below) o.0
  order_empty Above axis a b o = ap (λ (x : Axis). ordered_by (other x) p Above) o.0

-- the leaves of a pair
pub order_leaves : (n : ℕ) (p : Pair) (c : Choice) (axis : Axis) (a b : ℕ) → IsPairOf n p → IsOrder p c axis a b → (1 ≤ a) × (a ≤ n) × (1 ≤ b) × (b ≤ n) × (a ≢ b)
order_leaves n p Left axis a b pair o = (omega arith, omega arith, omega arith, omega arith, λ e. omega arith)
order_leaves n p Right axis a b pair o = (omega arith, omega arith, omega arith, omega arith, λ e. omega arith)
order_leaves n p Below axis a b pair o = (omega arith, omega arith, omega arith, omega arith, λ e. omega arith)
order_leaves n p Above axis a b pair o = (omega arith, omega arith, omega arith, omega arith, λ e. omega arith)
