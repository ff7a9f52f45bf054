use Rattle.std.proofs.Common.{ℕ, Option, Some, sym, subst, arith}
use Rattle.std.specs.Prelude.{IfSome}
use Rattle.bp_steady.specs.Searching.{IsFound}
use Rattle.bp_steady.specs.Stack.{IsGuide, IsGuided}
use Rattle.bp_steady.specs.Stack.IsGuide.{start}
use Rattle.bp_steady.proofs.Guides.{guided_fixed}
use Rattle.bp_steady.proofs.Looking.{found_low, going_start, going_more, going_spent, going_each, going_done, found_room}
use Rattle.bp_steady.proofs.answering.steady.Goals as goal

pub loop-at-init : goal.loop-at-init
loop-at-init c =
    let q = c.has_steady.ensures c.args.side c.args._points.now c.requires.valid in
    record {
      guide = subst (IsGuide c.args.metric.now.tree c.in_ok-bounds.bounds) (sym c.in_ok-path.ensures) start;
      going = going_start c.args.metric.now.tree c.args.metric.now.sheet c.args.side c.args.budget c.in_ok-bounds.bounds q.0 q.1 c.in_ok-bounds.ensures.low c.in_ok-bounds.ensures.high;
    }

pub least_at-requires : goal.least_at-requires
least_at-requires c =
    let g = c.loop-at.invariant.going in
    record {
      side = c.requires.side;
      at = omega (arith, c.loop-at-test.true, c.leaves.ensures.count);
      stands = (g.P, g.steady, g.stands);
      guide = c.loop-at.invariant.guide;
    }

pub fix-requires : goal.fix-requires
fix-requires c =
    let g = c.loop-at.invariant.going in
    let is : IsFound c.args.metric.now.tree c.args.metric.now.sheet c.args.side g.P c.loop-at.at c.loop-at.left c.least_at.new.left c.least_at.new.bounds (Some c.in-Some.least) =
    subst (IsFound c.args.metric.now.tree c.args.metric.now.sheet c.args.side g.P c.loop-at.at c.loop-at.left c.least_at.new.left c.least_at.new.bounds) c.in-Some.is (c.in_ok-least.ensures.found g.P g.steady g.stands) in
    let both = found_room c.args.metric.now.tree c.args.metric.now.sheet c.args.side g.P c.loop-at.at g.steady (omega (arith, c.loop-at-test.true, c.leaves.ensures.count)) c.loop-at.left c.least_at.new.left c.in-Some.least c.least_at.new.bounds is in
    record { low = both.0; high = both.1 }

pub loop-at-preserved : goal.loop-at-preserved
loop-at-preserved c =
    let g = c.loop-at.invariant.going in
    let is : IsFound c.args.metric.now.tree c.args.metric.now.sheet c.args.side g.P c.loop-at.at c.loop-at.left c.least_at.new.left c.least_at.new.bounds (Some c.in-Some.least) =
    subst (IsFound c.args.metric.now.tree c.args.metric.now.sheet c.args.side g.P c.loop-at.at c.loop-at.left c.least_at.new.left c.least_at.new.bounds) c.in-Some.is (c.in_ok-least.ensures.found g.P g.steady g.stands) in
    let both = found_room c.args.metric.now.tree c.args.metric.now.sheet c.args.side g.P c.loop-at.at g.steady (omega (arith, c.loop-at-test.true, c.leaves.ensures.count)) c.loop-at.left c.least_at.new.left c.in-Some.least c.least_at.new.bounds is in
    record {
      guide = guided_fixed c.args.metric.now.tree c.loop-at.at c.least_at.new.bounds c.fix.new.self c.in-Some.least c.least_at.new.path.guide.items
          (subst (λ (o : Option ℕ). IfSome o (λ least. IsGuided c.args.metric.now.tree c.least_at.new.bounds c.loop-at.at least c.least_at.new.path.guide.items)) c.in-Some.is c.in_ok-least.ensures.guide)
          both.0 both.1
          (found_low c.args.metric.now.tree c.args.metric.now.sheet c.args.side g.P c.loop-at.at g.steady (omega (arith, c.loop-at-test.true, c.leaves.ensures.count)) c.loop-at.left c.least_at.new.left c.in-Some.least c.least_at.new.bounds is)
          c.fix.ensures;
      going = going_more c.args.metric.now.tree c.args.metric.now.sheet c.args.side c.args.budget c.loop-at.at c.loop-at.left c.least_at.new.left c.loop-at.bounds g (omega (arith, c.loop-at-test.true, c.leaves.ensures.count)) c.in-Some.least c.least_at.new.bounds c.fix.new.self is c.fix.ensures;
    }

pub returns-in-None : goal.returns-in-None
returns-in-None c =
    let g = c.loop-at.invariant.going in
    going_spent c.args.metric.now.tree c.args.metric.now.sheet c.args.side c.args.budget c.loop-at.at c.loop-at.left c.least_at.new.left c.loop-at.bounds g (omega (arith, c.loop-at-test.true, c.leaves.ensures.count))
    (subst (IsFound c.args.metric.now.tree c.args.metric.now.sheet c.args.side g.P c.loop-at.at c.loop-at.left c.least_at.new.left c.least_at.new.bounds) c.in-None.is (c.in_ok-least.ensures.found g.P g.steady g.stands))

pub points_of-requires : goal.points_of-requires
points_of-requires c =
    going_each c.args.metric.now.tree c.args.metric.now.sheet c.args.side c.args.budget c.loop-at.at c.loop-at.left c.loop-at.bounds c.loop-at.invariant.going (omega (arith, c.loop-at-test.false, c.leaves.ensures.count))

pub returns : goal.returns
returns c =
    going_done c.args.metric.now.tree c.args.metric.now.sheet c.args.side c.args.budget c.loop-at.at c.loop-at.left c.loop-at.bounds c.loop-at.invariant.going (omega (arith, c.loop-at-test.false, c.leaves.ensures.count)) c.in_ok-points_of.field-0 c.in_ok-points_of.ensures
