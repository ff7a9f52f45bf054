use Rattle.std.proofs.Common.{◌<◌, arith}
use Rattle.bp_warm.proofs.Pulling.{moved_small, going_start, at_within, places_next, next_leaf, going_more, going_again, going_cycle, going_end}
use Rattle.bp_warm.proofs.raising.pull_all.Goals as goal

pub loop-k-init : goal.loop-k-init
loop-k-init c =
    going_start c.args.metric.now.tree c.leaves-leaves.ensures.metric.tree c.args._steps.now c.requires.pairs c.args._axis c.args.old.now c.requires.exact c.args.first c.args._second c.args.at c.args.row.now c.args.lows.now c.args.work.now c.requires.at c.requires.working c.requires.count

pub pull-pulled-requires-clause-working : goal.pull-pulled-requires-clause-working
pull-pulled-requires-clause-working c =
    c.loop-k.invariant.working

pub pull-pulled-requires-clause-at : goal.pull-pulled-requires-clause-at
pull-pulled-requires-clause-at c =
    at_within c.args.metric.now.tree c.leaves-leaves.ensures.metric.tree c.args._steps.now c.requires.pairs c.args._axis c.args.old.now c.requires.exact c.args.first c.args._second c.args.at c.args.row.now c.args.lows.now c.args.work.now c.requires.at c.loop-k.lows c.loop-k.work c.loop-k.k c.loop-k.invariant c.requires.row

pub pull-pulled-requires-clause-count : goal.pull-pulled-requires-clause-count
pull-pulled-requires-clause-count c =
    c.loop-k.invariant.few

pub pull-pulled-requires-clause-placed : goal.pull-pulled-requires-clause-placed
pull-pulled-requires-clause-placed c =
    places_next c.args.metric.now.tree c.leaves-leaves.ensures.metric.tree c.args._steps.now c.requires.pairs c.args._axis c.args.old.now c.requires.exact c.args.first c.args._second c.args.at c.args.row.now c.args.lows.now c.args.work.now c.requires.at c.loop-k.lows c.loop-k.work c.loop-k.k c.loop-k.invariant c.requires.row c.loop-k-test.true

pub pull-pulled-requires-clause-next : goal.pull-pulled-requires-clause-next
pull-pulled-requires-clause-next c =
    next_leaf c.args.metric.now.tree c.leaves-leaves.ensures.metric.tree c.args._steps.now c.requires.pairs c.args._axis c.args.old.now c.requires.exact c.args.first c.args._second c.args.at c.args.row.now c.args.lows.now c.args.work.now c.requires.at c.loop-k.lows c.loop-k.work c.loop-k.k c.loop-k.invariant c.requires.row c.loop-k-test.true

pub pull-pulled-requires-clause-small : goal.pull-pulled-requires-clause-small
pull-pulled-requires-clause-small c =
    let within : c.args.at < c.loop-k.work.count = at_within c.args.metric.now.tree c.leaves-leaves.ensures.metric.tree c.args._steps.now c.requires.pairs c.args._axis c.args.old.now c.requires.exact c.args.first c.args._second c.args.at c.args.row.now c.args.lows.now c.args.work.now c.requires.at c.loop-k.lows c.loop-k.work c.loop-k.k c.loop-k.invariant c.requires.row in
    omega (arith, moved_small c.args.metric.now.tree c.leaves-leaves.ensures.metric.tree c.args._steps.now c.requires.pairs c.args._axis c.args.old.now c.requires.exact c.args.first c.args._second c.loop-k.lows c.loop-k.work c.loop-k.invariant.working c.args.at within)

pub returns-in-Again-clause-pulled : goal.returns-in-Again-clause-pulled
returns-in-Again-clause-pulled c =
    going_again c.args.metric.now.tree c.leaves-leaves.ensures.metric.tree c.args._steps.now c.requires.pairs c.args._axis c.args.old.now c.requires.exact c.args.first c.args._second c.args.at c.args.row.now c.args.lows.now c.args.work.now c.requires.at c.loop-k.lows c.loop-k.work c.loop-k.k c.loop-k.invariant c.requires.row c.pull-pulled.new.lows c.pull-pulled.new.work c.in-Again.ensures.pulled

pub returns-in-Cycle-clause-pulled : goal.returns-in-Cycle-clause-pulled
returns-in-Cycle-clause-pulled c =
    going_cycle c.args.metric.now.tree c.leaves-leaves.ensures.metric.tree c.args._steps.now c.requires.pairs c.args._axis c.args.old.now c.requires.exact c.args.first c.args._second c.args.at c.args.row.now c.args.lows.now c.args.work.now c.requires.at c.loop-k.lows c.loop-k.work c.loop-k.k c.loop-k.invariant c.requires.row c.pull-pulled.new.lows c.pull-pulled.new.work c.loop-k-test.true c.in-Cycle.ensures.pulled

pub loop-k-preserved : goal.loop-k-preserved
loop-k-preserved c =
    going_more c.args.metric.now.tree c.leaves-leaves.ensures.metric.tree c.args._steps.now c.requires.pairs c.args._axis c.args.old.now c.requires.exact c.args.first c.args._second c.args.at c.args.row.now c.args.lows.now c.args.work.now c.requires.at c.loop-k.lows c.loop-k.work c.loop-k.k c.loop-k.invariant c.requires.row c.pull-pulled.new.lows c.pull-pulled.new.work c.loop-k-test.true c.in-Met.ensures.pulled c.in-Met.ensures.few

pub returns-clause-pulled : goal.returns-clause-pulled
returns-clause-pulled c =
    going_end c.args.metric.now.tree c.leaves-leaves.ensures.metric.tree c.args._steps.now c.requires.pairs c.args._axis c.args.old.now c.requires.exact c.args.first c.args._second c.args.at c.args.row.now c.args.lows.now c.args.work.now c.requires.at c.loop-k.lows c.loop-k.work c.loop-k.k c.loop-k.invariant c.requires.row (omega arith)

pub returns-clause-few : goal.returns-clause-few
returns-clause-few c =
    c.loop-k.invariant.few
