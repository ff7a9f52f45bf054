use Rattle.std.proofs.Common.{◌-◌, true, sym, ◌∙◌, subst, arith}
use Rattle.bp_base.specs.Tree.{leaf_count}
use Rattle.bp_metric.specs.Chains.{HasPairsOf}
use Rattle.bp_steady.specs.Searching.{IsRising}
use Rattle.bp_steady.specs.Stack.{IsTurned}
use Rattle.bp_steady.proofs.Children.{open_pairs, open_rising, open_shut, open_spent}
use Rattle.bp_steady.proofs.Guides.{no_both}
use Rattle.bp_steady.proofs.searching.walk.Goals as goal

pub returns-then-left-eq0-clause-walked : goal.returns-then-left-eq0-clause-walked
returns-then-left-eq0-clause-walked c =
    open_spent c.args.metric.now.tree c.leaves-leaves.ensures.metric.tree c.args.bounds.now c.args._budget c.loop-left.path.steps.items c.loop-left.path.rows.items c.loop-left.left c.loop-left.invariant.opened c.if-left-eq0.true

pub raise-requires-clause-pairs : goal.raise-requires-clause-pairs
raise-requires-clause-pairs c =
    subst (HasPairsOf (leaf_count c.args.metric.now.tree)) (sym c.deref.ensures.value)
    (open_pairs c.args.metric.now.tree c.leaves-leaves.ensures.metric.tree c.args.bounds.now c.args._budget c.loop-left.path.steps.items c.loop-left.path.rows.items c.loop-left.left c.loop-left.invariant.opened)

pub returns-then-not-turn-clause-walked : goal.returns-then-not-turn-clause-walked
returns-then-not-turn-clause-walked c =
    subst (IsTurned c.args.metric.now.tree c.args.bounds.now c.args._budget c.turn.new.self.steps.items c.turn.new.self.rows.items (c.loop-left.left - 1)) c.if-not-turn.true
    (c.turn.ensures.turned c.args.metric.now.tree c.args.bounds.now c.args._budget (c.loop-left.left - 1) c.leaves-leaves.ensures.metric.tree
    (open_shut c.args.metric.now.tree c.leaves-leaves.ensures.metric.tree c.args.bounds.now c.args._budget c.loop-left.path.steps.items c.deref.result.now c.loop-left.path.rows.items c.raise.new.row c.loop-left.left c.raise.result c.loop-left.invariant.opened (omega (arith, c.if-left-eq0.false)) c.deref.ensures.value c.raise.ensures c.if-raise.false))

pub last_row-requires : goal.last_row-requires
last_row-requires c =
    let turned : IsTurned c.args.metric.now.tree c.args.bounds.now c.args._budget c.turn.new.self.steps.items c.turn.new.self.rows.items (c.loop-left.left - 1) true =
    subst (IsTurned c.args.metric.now.tree c.args.bounds.now c.args._budget c.turn.new.self.steps.items c.turn.new.self.rows.items (c.loop-left.left - 1)) c.if-not-turn.false
    (c.turn.ensures.turned c.args.metric.now.tree c.args.bounds.now c.args._budget (c.loop-left.left - 1) c.leaves-leaves.ensures.metric.tree
    (open_shut c.args.metric.now.tree c.leaves-leaves.ensures.metric.tree c.args.bounds.now c.args._budget c.loop-left.path.steps.items c.deref.result.now c.loop-left.path.rows.items c.raise.new.row c.loop-left.left c.raise.result c.loop-left.invariant.opened (omega (arith, c.if-left-eq0.false)) c.deref.ensures.value c.raise.ensures c.if-raise.false)) in
    turned.1

pub loop-left-preserved : goal.loop-left-preserved
loop-left-preserved c =
    let turned : IsTurned c.args.metric.now.tree c.args.bounds.now c.args._budget c.turn.new.self.steps.items c.turn.new.self.rows.items (c.loop-left.left - 1) true =
    subst (IsTurned c.args.metric.now.tree c.args.bounds.now c.args._budget c.turn.new.self.steps.items c.turn.new.self.rows.items (c.loop-left.left - 1)) c.if-not-turn.false
    (c.turn.ensures.turned c.args.metric.now.tree c.args.bounds.now c.args._budget (c.loop-left.left - 1) c.leaves-leaves.ensures.metric.tree
    (open_shut c.args.metric.now.tree c.leaves-leaves.ensures.metric.tree c.args.bounds.now c.args._budget c.loop-left.path.steps.items c.deref.result.now c.loop-left.path.rows.items c.raise.new.row c.loop-left.left c.raise.result c.loop-left.invariant.opened (omega (arith, c.if-left-eq0.false)) c.deref.ensures.value c.raise.ensures c.if-raise.false)) in
    record {
      opened = turned.0;
      rising = subst (IsRising c.args.metric.now.tree c.turn.new.self.steps.items c.args.bounds.now) (sym c.last_row.ensures)
          (open_rising c.args.metric.now.tree c.leaves-leaves.ensures.metric.tree c.args.bounds.now c.args._budget c.turn.new.self.steps.items c.turn.new.self.rows.items (c.loop-left.left - 1) turned.0 turned.1);
      led = λ told. absurd (no_both c.turn.new.self.led told c.turn.ensures.led);
      guide = c.turn.ensures.guide ∙ c.loop-left.invariant.guide;
      fewer = omega (arith, c.loop-left.invariant.fewer);
    }
