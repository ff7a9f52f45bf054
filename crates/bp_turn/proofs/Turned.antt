-- Low points of a path, point by point, and where it is solved.
use Rattle.std.proofs.Common.{◌≡◌, ℕ, ◌≤◌, List, sym, ap, subst, arith}
use Rattle.bp_base.specs.declared.path.Step.{Step}
use Rattle.bp_base.specs.declared.point.Axis.TheVariants.{X, Y}
use Rattle.bp_base.specs.declared.point.Point.{Point}
use Rattle.bp_base.specs.declared.point.Sheet.{Sheet}
use Rattle.bp_base.specs.declared.record.Least.{Least}
use Rattle.bp_base.specs.Limits.{most_number}
use Rattle.bp_base.specs.Tree.{TreeValue}
use Rattle.bp_metric.specs.Coordinates.{IsLeast, IsLow}
use Rattle.bp_branch.specs.Branches.{low_points}
use Rattle.bp_metric.specs.Valid.{Valid}
use Rattle.bp_branch.specs.Outcomes.{IsSolved}
use Rattle.bp_branch.proofs.Solved.{at_leaf, points_long, solved_valid}
use Rattle.bp_turn.proofs.Forced.{one_forced}
use Rattle.bp_turn.specs.Turns.{AreLowPoints}

pub are_low_points : (T : TreeValue) (G : Sheet) (path : List Step) (l : Least) → IsLeast T G path l → AreLowPoints T path (low_points l)
are_low_points T G path l least = record {
  each = omega (arith, points_long l.xs l.ys (omega (arith, least.xs_each, least.ys_each)), least.xs_each);
  xs = λ i leaf. subst (IsLow T path X i) (sym (ap (λ (p : Point). p.x) (at_leaf T path G l least i))) (least.xs i leaf);
  ys = λ i leaf. subst (IsLow T path Y i) (sym (ap (λ (p : Point). p.y) (at_leaf T path G l least i))) (least.ys i leaf);
}

pub placed_valid : (T : TreeValue) (G : Sheet) (path : List Step) (l : Least) (bound side : ℕ) → bound ≤ most_number → IsLeast T G path l → IsSolved T G path bound side → Valid T G 1 side (low_points l)
placed_valid T G path l bound side small least is =
    let same : l.forced ≡ side = one_forced T path G l.forced side least.forced is.forced in
    subst (λ (s : ℕ). Valid T G 1 s (low_points l)) same (solved_valid T path G l least is.no_next (omega (arith, same, is.below, small)))
