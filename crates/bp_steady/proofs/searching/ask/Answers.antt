use Rattle.std.proofs.Common.{[], ◌+◌, sym, subst, arith}
use Rattle.bp_steady.specs.Bounds.IsInTree.{root}
use Rattle.bp_steady.specs.Stack.{IsGuide}
use Rattle.bp_steady.proofs.Children.{open_guide, stepped, reached_root, reached_yes}
use Rattle.bp_steady.proofs.Counted.{answered_spent}
use Rattle.bp_steady.proofs.Guides.{none_led}
use Rattle.bp_steady.proofs.searching.ask.Goals as goal

pub returns-then-budget-eq0-clause-answer : goal.returns-then-budget-eq0-clause-answer
returns-then-budget-eq0-clause-answer c =
    answered_spent c.args.metric.now.tree c.args.bounds.now [] c.args.left.now c.args.left.now root c.if-budget-eq0.true

pub loop-pair-init : goal.loop-pair-init
loop-pair-init c = record {
  reached = reached_root c.args.metric.now.tree c.leaves-leaves.ensures.metric.tree c.args.bounds.now c.args.left.now c.clear.new.self.steps.items c.clear.new.self.rows.items c.lows-row.result _ c.clear.ensures.steps c.clear.ensures.rows (omega (arith, c.if-budget-eq0.false)) c.lows-row.ensures;
  led = none_led c.clear.new.self.led c.clear.new.self.steps.items c.clear.new.self.guide.items c.clear.ensures.steps;
  guide = c.clear.ensures.guide;
}

pub walk-requires-clause-opened : goal.walk-requires-clause-opened
walk-requires-clause-opened c =
    (stepped c.args.metric.now.tree c.leaves-leaves.ensures.metric.tree c.args.bounds.now c.args.left.now c.loop-pair.path.steps.items c.loop-pair.path.rows.items c.loop-pair.row c.loop-pair.left c.loop-pair.invariant.reached c.farthest.result c.farthest.ensures c.in-Some.pair c.in-Some.is c.loop-pair.path.guide.items c.push.new.self.steps.items c.push.new.self.rows.items (subst (IsGuide c.args.metric.now.tree c.args.bounds.now) (sym c.loop-pair.invariant.guide) c.requires.guide) c.in_ok-push.ensures.steps c.in_ok-push.ensures.rows).0

pub walk-requires-clause-rising : goal.walk-requires-clause-rising
walk-requires-clause-rising c =
    (stepped c.args.metric.now.tree c.leaves-leaves.ensures.metric.tree c.args.bounds.now c.args.left.now c.loop-pair.path.steps.items c.loop-pair.path.rows.items c.loop-pair.row c.loop-pair.left c.loop-pair.invariant.reached c.farthest.result c.farthest.ensures c.in-Some.pair c.in-Some.is c.loop-pair.path.guide.items c.push.new.self.steps.items c.push.new.self.rows.items (subst (IsGuide c.args.metric.now.tree c.args.bounds.now) (sym c.loop-pair.invariant.guide) c.requires.guide) c.in_ok-push.ensures.steps c.in_ok-push.ensures.rows).1

pub returns-clause-answer : goal.returns-clause-answer
returns-clause-answer c =
    reached_yes c.args.metric.now.tree c.leaves-leaves.ensures.metric.tree c.args.bounds.now c.args.left.now c.loop-pair.path.steps.items c.loop-pair.path.rows.items c.loop-pair.row c.loop-pair.left c.loop-pair.invariant.reached c.farthest.result c.farthest.ensures c.in_default.not-Some

pub returns-clause-guide : goal.returns-clause-guide
returns-clause-guide c =
    subst (IsGuide c.args.metric.now.tree c.args.bounds.now) (sym c.keep.ensures)
    (open_guide c.args.metric.now.tree c.leaves-leaves.ensures.metric.tree c.args.bounds.now c.args.left.now c.loop-pair.path.steps.items c.loop-pair.path.rows.items (c.loop-pair.left + 1) c.loop-pair.invariant.reached.is_open)
