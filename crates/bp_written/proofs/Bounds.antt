-- The bound that a weight gives: no more than the side, shown by the floor or the proof, and the side where all counts.
use Rattle.std.proofs.Common.{◌≡◌, ◌⊎◌, inl, inr, ℕ, ◌≤◌, List, [], ◌∷◌, map, Option, None, Some, refl, sym, subst, arith}
use Rattle.std.specs.List.{AllByRecursion}
use Rattle.std.proofs.lemmas.Bool.{cases_lt}
use Rattle.bp_metric.specs.Nodes.{least_of, lesser}
use Rattle.bp_check.specs.Checks.{IsAtMost}
use Rattle.bp_check.specs.Written.{CountsFrom, bound_of}

least_from : (n : ℕ) (v w : Option ℕ) → CountsFrom n v → CountsFrom n w → CountsFrom n (lesser v w)
least_from n None w first second = second
least_from n (Some v) None first second = first
least_from n (Some v) (Some w) first second = omega (arith, first, second)

pub all_from : {X : Type 0} (n : ℕ) (f : X → Option ℕ) (xs : List X) → AllByRecursion (λ x. CountsFrom n (f x)) xs → CountsFrom n (least_of (map f xs))
all_from n f [] all = tt
all_from n f (x ∷ xs) all = least_from n (f x) (least_of (map f xs)) all.0 (all_from n f xs all.1)

pub bound_small : (side floor : ℕ) (w : Option ℕ) → bound_of side floor w ≤ side
bound_small side floor None = omega arith
bound_small side floor (Some w) = omega arith

pub bound_whole : (side floor : ℕ) (w : Option ℕ) → CountsFrom side w → bound_of side floor w ≡ side
bound_whole side floor None from = refl
bound_whole side floor (Some w) from = omega (arith, from)

pub bound_shown : (side floor w : ℕ) (v : Option ℕ) → v ≡ Some w → (bound_of side floor v ≤ floor) ⊎ IsAtMost (bound_of side floor v) v
bound_shown side floor w v is = subst (λ (o : Option ℕ). (bound_of side floor o ≤ floor) ⊎ IsAtMost (bound_of side floor o) o) (sym is) (elim (cases_lt floor w) [
  | inl less ↦ inr (omega (arith, less))
  | inr most ↦ inl (omega (arith, most))
])
