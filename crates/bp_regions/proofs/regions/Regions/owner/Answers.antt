use Rattle.std.proofs.Common.{Some, ◌-◌, arith}
use Rattle.bp_regions.proofs.Disjoint.{one_owner}
use Rattle.bp_regions.proofs.Rows.{first_found, only_none}
use Rattle.bp_regions.proofs.regions.Regions.owner.Goals as goal

pub returns-then-reach-clause-owner : goal.returns-then-reach-clause-owner
returns-then-reach-clause-owner c =
    let R = c.args.self.now in
    first_found R.tree R.points R.side c.reach.ensures.regions.tree c.loop-edge.edge c.args.x c.args.y c.loop-edge-test.true c.loop-edge.invariant.0 c.loop-edge.invariant.1 (c.reach.ensures.reach.0 c.if-reach.true)

pub returns-then-reach-clause-only : goal.returns-then-reach-clause-only
returns-then-reach-clause-only c =
    let R = c.args.self.now in
    let found = first_found R.tree R.points R.side c.reach.ensures.regions.tree c.loop-edge.edge c.args.x c.args.y c.loop-edge-test.true c.loop-edge.invariant.0 c.loop-edge.invariant.1 (c.reach.ensures.reach.0 c.if-reach.true) in λ o h. one_owner R.tree c.reach.ensures.regions.tree R.side R.points c.reach.ensures.regions.placed.valid c.args.x c.args.y o (Some (c.loop-edge.edge - 1)) h found

pub returns-clause-owner : goal.returns-clause-owner
returns-clause-owner c = λ e edge own. c.loop-edge.invariant.1 e edge (omega (arith, c.loop-edge-test.false, edge.0)) own.reach

pub returns-clause-only : goal.returns-clause-only
returns-clause-only c =
    let R = c.args.self.now in
    only_none R.tree R.points R.side c.args.x c.args.y (λ e edge own. c.loop-edge.invariant.1 e edge (omega (arith, c.loop-edge-test.false, edge.0)) own.reach)
