use Rattle.std.proofs.Common.{◌≡◌, ◌+◌, ◌≤◌, sym, subst, arith}
use Rattle.bp_metric.specs.Distance.{leaf_dist}
use Rattle.bp_warm.specs.Raising.{low_in, IsExact}
use Rattle.bp_warm.proofs.Grown.{kept_exact, raised_exact}
use Rattle.bp_warm.proofs.growing.grow.Goals as goal

pub returns-then-reached-lows-clause-none : goal.returns-then-reached-lows-clause-none
returns-then-reached-lows-clause-none c =
    let same : c.args.lows.now ≡ c.args.old.now = c.requires.same in
    let e : IsExact c.args.metric.now.tree c.args.steps.now c.args.axis c.args.lows.now =
    subst (IsExact c.args.metric.now.tree c.args.steps.now c.args.axis) (sym same) c.requires.exact in
    let met : low_in c.args.lows.now c.args.first + leaf_dist c.args.metric.now.tree c.args.first c.args.second ≤ low_in c.args.lows.now c.args.second =
    omega (arith, c.if-reached-lows.true, c.dist.ensures.value) in
    kept_exact c.args.metric.now.tree c.leaves-leaves.ensures.metric.tree c.args.steps.now c.requires.pairs c.args.step c.requires.pair c.args.axis c.args.first c.args.second c.requires.order c.args.lows.now e met

pub returns-in-None-clause-none : goal.returns-in-None-clause-none
returns-in-None-clause-none c =
    raised_exact c.args.metric.now.tree c.leaves-leaves.ensures.metric.tree c.args.steps.now c.requires.pairs c.args.step c.requires.pair c.args.axis c.args.first c.args.second c.requires.order c.args.old.now c.raise.new.lows c.raise.new.work c.requires.exact c.requires.first c.in-None.ensures.raised.0 c.in-None.ensures.raised.1
