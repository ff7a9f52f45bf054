-- Before anything is examined, the search is on its way.
use Rattle.std.proofs.Common.{◌≡◌, inl, ℕ, List, [], ◌∷◌, zero, suc, All, refl, sym, ap, ◌∙◌, subst, arith}
use Rattle.bp_base.specs.declared.point.Point.{Point}
use Rattle.bp_base.specs.declared.point.Sheet.{Sheet}
use Rattle.bp_base.specs.declared.record.Settled.{Settled}
use Rattle.bp_base.specs.declared.record.Task.{Task}
use Rattle.bp_base.specs.Tree.{TreeValue}
use Rattle.bp_metric.specs.Opening.{IsOpening, IsOpeningSide, side_of}
use Rattle.bp_metric.specs.Valid.{Valid}
use Rattle.bp_opening.proofs.Packing.{opening_valid}
use Rattle.bp_opening.proofs.Unique.{one_opening}
use Rattle.bp_core.specs.Underway.{IsLeft, IsUnderway}

module _ (T : TreeValue) (G : Sheet) (side : ℕ) (points : List Point) (opening : IsOpening T G points) (is : side ≡ side_of G points) where
  abbrev root : Task
  root = record { path = []; bound = side }

  abbrev start : Settled
  start = record { records = []; left = root ∷ []; side = side; points = points; examined = 0 }

  one_side : (u : ℕ) → IsOpeningSide T G u → side ≡ u
  one_side u other = is ∙ ap (side_of G) (one_opening T G points other.opening opening other.is_opening) ∙ sym other.is_side

  root_left : All (IsLeft T G side) (root ∷ [])
  root_left zero d less = record {
    stated = λ u opening_side k within. absurd (omega (arith, within));
    no_less = omega arith;
    no_more = λ u opening_side. omega (arith, one_side u opening_side);
  }
  root_left (suc k) d less = absurd (omega (arith, less))

  pub starts : (B : ℕ) → IsUnderway T G B start
  starts B = record {
    balanced = λ h. refl;
    tickets = λ h. refl;
    within_budget = omega arith;
    sound = λ k d less. absurd (omega (arith, less));
    given = λ k d less. absurd (omega (arith, less));
    least = record {
      opening_side = side;
      is_opening_side = record { opening = points; is_opening = opening; is_side = is };
      no_more = omega arith;
      least = λ v (k, r, less, at, solves). absurd (omega (arith, less));
      reached = inl refl;
    };
    valid = subst (λ (s : ℕ). Valid T G 1 s points) (sym is) (opening_valid T G points opening);
    left = root_left;
  }
