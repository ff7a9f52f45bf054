use Rattle.std.proofs.Common.{◌≡◌, ◌++◌, All, map, take}
use Rattle.bp_base.specs.declared.record.Task.{Task}
use Rattle.bp_base.specs.Tree.{leaf_count}
use Rattle.bp_metric.specs.Chains.{HasPairsOf}
use Rattle.bp_metric.specs.Choices.{allowed}
use Rattle.bp_metric.specs.Records.{paths_left}
use Rattle.bp_metric.specs.Refutation.{extended}
use Rattle.bp_path_tests.proofs.join.add_children.Given as goal

abbrev pub invariant-loop-k : goal.invariant-loop-k
invariant-loop-k l = record {
  paths : paths_left l.left.items ≡ paths_left l.fn.left.items ++ map (extended l.path l.pair) (take l.k (allowed l.metric.tree l.metric.sheet l.pair));
  pairs : All (λ (t : Task). HasPairsOf (leaf_count l.metric.tree) t.path) l.left.items;
}
