use Rattle.std.proofs.Common.{◌<◌, ℕ, ◌∙◌, subst, arith}
use Rattle.bp_warm.specs.Raising.{IsRowAfter}
use Rattle.bp_warm.proofs.Linked.{row_after}
use Rattle.bp_warm.proofs.Settling.{settling_again}
use Rattle.bp_warm.proofs.raising.raise.Goals as goal

pub pull_all-requires-clause-row : goal.pull_all-requires-clause-row
pull_all-requires-clause-row c =
    let within : c.moved.result < 33 = omega (arith, c.moved.ensures, (c.loop-at.invariant.working.leaf c.loop-at.at (omega (arith, c.loop-at-test.true, c.count.ensures))).1, c.leaves-leaves.ensures.metric.tree.leaves_few) in
    subst (λ (u : ℕ). IsRowAfter c.args._steps.now c.args._axis u c.row-row.result.now) c.moved.ensures (row_after c.args._steps.now c.args._axis c.moved.result c.row-row.result.now (c.row-row.ensures.value ∙ c.requires.links.row c.moved.result within))

pub loop-at-smaller : goal.loop-at-smaller
loop-at-smaller c =
    (settling_again c.args.metric.now.tree c.leaves-leaves.ensures.metric.tree c.args._steps.now c.requires.pairs c.args._axis c.args.old.now c.requires.exact c.args.first c.args.second c.loop-at.lows c.loop-at.work c.loop-at.at c.loop-at.invariant c.pull_all.new.lows c.pull_all.new.work c.in-Again.ensures.pulled c.in-Again.ensures.few).1
