use Rattle.std.proofs.Common.{sym, subst}
use Rattle.bp_base.specs.declared.point.Axis.TheVariants.{X}
use Rattle.bp_base.specs.Tree.{leaf_count}
use Rattle.bp_base.specs.declared.chain.Claim.{Claim}
use Rattle.bp_metric.specs.Coordinates.{IsCycleShown}
use Rattle.bp_walks.proofs.Fine.{low_at, exact_at, none_on}
use Rattle.bp_walks.proofs.walking.least.Goals as goal

pub returns-in-Err-lows_on : goal.returns-in-Err-lows_on
returns-in-Err-lows_on c =
    let claim : Claim = c.cycle-in-Err-lows_on.result in
    subst (IsCycleShown (leaf_count c.args.metric.now.tree) c.args.path.now) (sym c.cycle-in-Err-lows_on.ensures) (c.in-Err-lows_on.ensures, none_on c.args.metric.now.tree c.leaves-leaves.ensures.metric.tree c.args.path.now c.requires X (low_at c.in-Ok.xs) (exact_at c.args.metric.now.tree c.args.path.now X c.in-Ok.xs c.in-Ok.ensures))
