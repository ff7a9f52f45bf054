-- Low points of a solved path are a valid placement.
use Rattle.std.proofs.Common.{◌≡◌, ℕ, ◌-◌, ◌<◌, ◌≤◌, List, [], ◌∷◌, length, map, sym, ap, refl, subst, arith}
use Rattle.std.proofs.lemmas.List.{get_or-map, length-map}
use Rattle.bp_base.specs.declared.chain.Claim.{Claim}
use Rattle.bp_base.specs.declared.path.Step.{Step}
use Rattle.bp_base.specs.declared.point.Axis.TheVariants.{X, Y}
use Rattle.bp_base.specs.declared.point.Point.{Point}
use Rattle.bp_base.specs.declared.point.Sheet.{Sheet}
use Rattle.bp_base.specs.declared.record.Least.{Least}
use Rattle.bp_base.specs.Limits.{most_number}
use Rattle.bp_base.specs.Point.{origin}
use Rattle.bp_base.specs.Tree.{TreeValue, IsLeaf, leaf_count}
use Rattle.bp_metric.specs.Chains.{HasCycle}
use Rattle.bp_metric.specs.Coordinates.{IsLeast, IsLow, IsShown}
use Rattle.bp_metric.specs.Valid.{Valid}
use Rattle.bp_branch.specs.Branches.{points_of}
use Rattle.bp_branch.specs.Outcomes.{IsSolved}
use Rattle.bp_branch.proofs.Solved.{solved_valid}
use Rattle.bp_turn.specs.Turns.{AreLowPoints}

abbrev x_of : Point → ℕ
x_of p = p.x

abbrev y_of : Point → ℕ
y_of p = p.y

apart_again : (P : List Point) → points_of (map x_of P) (map y_of P) ≡ P
apart_again [] = refl
apart_again (p ∷ P) = ap (λ (Q : List Point). p ∷ Q) (apart_again P)

module _ (T : TreeValue) (G : Sheet) (path : List Step) (claim : Claim) (P : List Point) (bound side : ℕ) (no_cycle : HasCycle (leaf_count T) path → ⊥) (shown : IsShown T G path claim) (is : IsSolved T G path bound side) (low : AreLowPoints T path P) where
  abbrev l : Least
  l = record { xs = map x_of P; ys = map y_of P; forced = side; claim = claim }

  within : (i : ℕ) → IsLeaf T i → i - 1 < length P
  within i leaf = omega (arith, low.each, leaf)

  least : IsLeast T G path l
  least = record {
    no_cycle = no_cycle;
    xs_each = omega (arith, length-map P x_of, low.each);
    ys_each = omega (arith, length-map P y_of, low.each);
    xs = λ i leaf. subst (IsLow T path X i) (sym (get_or-map x_of P (i - 1) origin 0 (within i leaf))) (low.xs i leaf);
    ys = λ i leaf. subst (IsLow T path Y i) (sym (get_or-map y_of P (i - 1) origin 0 (within i leaf))) (low.ys i leaf);
    forced = is.forced;
    claim = shown;
  }

  pub low_valid : bound ≤ most_number → Valid T G 1 side P
  low_valid small =
      subst (Valid T G 1 side) (apart_again P) (solved_valid T path G l least is.no_next (omega (arith, is.below, small)))
