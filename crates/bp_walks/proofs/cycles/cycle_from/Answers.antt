use Rattle.std.proofs.Common.{◌≤◌, arith}
use Rattle.bp_walks.proofs.Trails.{trail_more, trail_cycle, kept_chain, turned_loop}
use Rattle.bp_walks.proofs.cycles.cycle_from.Goals as goal

pub begun_at_least-requires : goal.begun_at_least-requires
begun_at_least-requires c =
    let cycle = trail_cycle c.args.n c.args.path.now c.args.axis c.args.open.now c.loop-p.trail c.loop-p.at c.in-Some-place_of.last c.in-Some.p c.requires.pairs c.loop-p.invariant c.in-Some.ensures.0 c.in-Some-place_of.ensures.0 c.in-Some-place_of.ensures.1 in
    kept_chain c.args.n c.args.path.now c.args.axis _ c.requires.few cycle.chain

pub returns-in-Some-place_of : goal.returns-in-Some-place_of
returns-in-Some-place_of c =
    let cycle = trail_cycle c.args.n c.args.path.now c.args.axis c.args.open.now c.loop-p.trail c.loop-p.at c.in-Some-place_of.last c.in-Some.p c.requires.pairs c.loop-p.invariant c.in-Some.ensures.0 c.in-Some-place_of.ensures.0 c.in-Some-place_of.ensures.1 in
    let b = c.begun_at_least.ensures in
    turned_loop c.args.n c.args.path.now c.args.axis _ c.begun_at_least.result b.0 cycle b.1 b.3 b.2

pub overflow_sub-at : goal.overflow_sub-at
overflow_sub-at c =
    (trail_more c.args.n c.args.path.now c.args.axis c.args.open.now c.loop-p.trail c.loop-p.at c.in-Some.p c.requires.few c.requires.pairs c.loop-p.invariant c.in-Some.ensures.0 c.in-Some.ensures.1 c.in-None-place_of.ensures).0

pub loop-p-smaller : goal.loop-p-smaller
loop-p-smaller c =
    let room : 1 ≤ c.loop-p.at =
    (trail_more c.args.n c.args.path.now c.args.axis c.args.open.now c.loop-p.trail c.loop-p.at c.in-Some.p c.requires.few c.requires.pairs c.loop-p.invariant c.in-Some.ensures.0 c.in-Some.ensures.1 c.in-None-place_of.ensures).0 in
    omega arith

pub loop-p-preserved : goal.loop-p-preserved
loop-p-preserved c =
    (trail_more c.args.n c.args.path.now c.args.axis c.args.open.now c.loop-p.trail c.loop-p.at c.in-Some.p c.requires.few c.requires.pairs c.loop-p.invariant c.in-Some.ensures.0 c.in-Some.ensures.1 c.in-None-place_of.ensures).1
