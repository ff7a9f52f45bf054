use Rattle.std.proofs.Common.{◌≡◌, ◌≤◌, ◌*◌, ◌+◌, length}
use Rattle.bp_metric.specs.Choices.{allowed}
use Rattle.bp_join.specs.Entries.{stacked}
use Rattle.bp_join.proofs.Takings.{TakenSoFar}
use Rattle.bp_join.proofs.building.+trees.Given as goal

abbrev pub decreases-forest : goal.decreases-forest
decreases-forest l = 2 * length l.entries.now.items + 1

abbrev pub decreases-tree : goal.decreases-tree
decreases-tree l = 2 * length l.entries.now.items

abbrev pub invariant-forest-loop : goal.invariant-forest-loop
invariant-forest-loop l = record {
  count : l.counter ≡ length l.children.items;
  fewer : length l.entries.items ≤ length l.fn.entries.items;
  taken : TakenSoFar l.metric.tree l.metric.sheet l.fn.pair (allowed l.metric.tree l.metric.sheet l.fn.pair) (stacked l.metric.tree l.metric.sheet l.fn.entries.items) (stacked l.metric.tree l.metric.sheet l.entries.items) l.children.items;
}
