use Rattle.std.proofs.Common.{◌≡◌, ◌+◌, ◌++◌, ◌∷◌, [], List, length, sym, ap, subst, arith, length-append}
use Rattle.bp_metric.specs.Choices.{allowed}
use Rattle.bp_join.specs.declared.entry.Entry.{Entry}
use Rattle.bp_join.specs.declared.entry.Found.TheVariants.{Split, Closed, Open}
use Rattle.bp_join.specs.Entries.{stacked}
use Rattle.bp_join.specs.Trees.{TakesForest}
use Rattle.bp_join.proofs.Takings.{TakenSoFar, taken_none, next_taken, taken_more, taken_all, some_there, top_is, split_next, split_taken, closed_copied, open_copied}
use Rattle.bp_join.proofs.building.+trees.Goals as goal

pub forest-loop-init : goal.forest-loop-init
forest-loop-init t c = record {
  count = omega (arith, ap length c.in_ok-children.ensures.items);
  fewer = omega arith;
  taken = subst (TakenSoFar c.args.metric.now.tree c.args.metric.now.sheet c.args.pair _ (stacked c.args.metric.now.tree c.args.metric.now.sheet c.args.entries.now.items) (stacked c.args.metric.now.tree c.args.metric.now.sheet c.args.entries.now.items)) (sym c.in_ok-children.ensures.items) (taken_none c.args.metric.now.tree c.args.metric.now.sheet c.args.pair _ _);
}

pub forest-tree-requires : goal.forest-tree-requires
forest-tree-requires t c = (
  omega (arith, c.decreases, c.loop.invariant.fewer),
  next_taken c.args.metric.now.tree c.args.metric.now.sheet c.args.pair (allowed c.args.metric.now.tree c.args.metric.now.sheet c.args.pair) _ _ c.loop.children.items c.requires.forest c.loop.invariant.taken (omega (arith, c.loop.invariant.count, c.count-count.ensures, ap length c.allowed.ensures)),
)

pub forest-loop-preserved : goal.forest-loop-preserved
forest-loop-preserved t c = record {
  count = omega (arith, c.loop.invariant.count, ap length c.in_ok-push.ensures.items, c.in_ok-push.ensures.len);
  fewer = omega (arith, c.tree.ensures.fewer, c.loop.invariant.fewer);
  taken = subst (TakenSoFar c.args.metric.now.tree c.args.metric.now.sheet c.args.pair (allowed c.args.metric.now.tree c.args.metric.now.sheet c.args.pair) (stacked c.args.metric.now.tree c.args.metric.now.sheet c.args.entries.now.items) (stacked c.args.metric.now.tree c.args.metric.now.sheet c.tree.new.entries.items)) (sym c.in_ok-push.ensures.items) (taken_more c.args.metric.now.tree c.args.metric.now.sheet c.args.pair (allowed c.args.metric.now.tree c.args.metric.now.sheet c.args.pair) _ _ _ c.loop.children.items c.in_ok-tree.field-0 c.loop.invariant.taken (omega (arith, c.loop.invariant.count, c.count-count.ensures, ap length c.allowed.ensures)) c.in_ok-tree.ensures.tree);
}

pub forest-returns-clause-forest : goal.forest-returns-clause-forest
forest-returns-clause-forest t c = subst (TakesForest c.args.metric.now.tree c.args.metric.now.sheet c.args.pair (allowed c.args.metric.now.tree c.args.metric.now.sheet c.args.pair) (stacked c.args.metric.now.tree c.args.metric.now.sheet c.args.entries.now.items) (stacked c.args.metric.now.tree c.args.metric.now.sheet c.loop.entries.items)) (sym c.from_vec.ensures) (taken_all c.args.metric.now.tree c.args.metric.now.sheet c.args.pair (allowed c.args.metric.now.tree c.args.metric.now.sheet c.args.pair) _ _ c.loop.children.items c.loop.invariant.taken (omega (arith, c.loop.invariant.count, c.count-count.ensures, ap length c.allowed.ensures, c.loop-test.false)))

shorter : (old new : List Entry) (e : Entry) → old ≡ new ++ e ∷ [] → length old ≡ length new + 1
shorter old new e is = omega (arith, ap length is, length-append new (e ∷ []))

pub tree-take-requires : goal.tree-take-requires
tree-take-requires t c = some_there c.args.metric.now.tree c.args.metric.now.sheet c.args.entries.now.items c.requires

pub tree-forest-requires : goal.tree-forest-requires
tree-forest-requires t c =
    let first = top_is c.args.metric.now.tree c.args.metric.now.sheet c.args.entries.now.items c.take.new.entries.items c.take.result (Split c.in-Split.pair) c.take.ensures c.in-Split.is in
    let next = split_next c.args.metric.now.tree c.args.metric.now.sheet _ _ c.take.result.path.now c.in-Split.pair first c.requires in
    (omega (arith, c.decreases, shorter c.args.entries.now.items c.take.new.entries.items _ c.take.ensures), next)

pub tree-returns-in_ok-children-in-Split-clause-tree : goal.tree-returns-in_ok-children-in-Split-clause-tree
tree-returns-in_ok-children-in-Split-clause-tree t c =
    let first = top_is c.args.metric.now.tree c.args.metric.now.sheet c.args.entries.now.items c.take.new.entries.items c.take.result (Split c.in-Split.pair) c.take.ensures c.in-Split.is in
    split_taken c.args.metric.now.tree c.args.metric.now.sheet _ _ _ c.take.result.path.now c.in-Split.pair c.in_ok-children-in-Split.children first c.in_ok-children-in-Split.ensures.forest

pub tree-returns-in-Closed-clause-tree : goal.tree-returns-in-Closed-clause-tree
tree-returns-in-Closed-clause-tree t c =
    let first = top_is c.args.metric.now.tree c.args.metric.now.sheet c.args.entries.now.items c.take.new.entries.items c.take.result (Closed c.in-Closed.claim) c.take.ensures c.in-Closed.is in
    closed_copied c.args.metric.now.tree c.args.metric.now.sheet _ _ c.take.result.path.now c.in-Closed.claim.now _ c.copy.ensures first

pub tree-returns-in-Open-clause-tree : goal.tree-returns-in-Open-clause-tree
tree-returns-in-Open-clause-tree t c =
    let first = top_is c.args.metric.now.tree c.args.metric.now.sheet c.args.entries.now.items c.take.new.entries.items c.take.result (Open c.in-Open.claim) c.take.ensures c.in-Open.is in
    open_copied c.args.metric.now.tree c.args.metric.now.sheet _ _ c.take.result.path.now c.in-Open.claim.now _ c.copy-in-Open.ensures first
