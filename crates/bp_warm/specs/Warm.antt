-- What a warm search state is seen as, and where it stops on the way to a path with a cycle.
use Rattle.std.specs.Prelude.{◌≡◌, ℕ, ◌+◌, ◌-◌, ◌*◌, ◌/◌, ◌<◌, List, length, take}
use Rattle.bp_base.specs.declared.path.Step.{Step}
use Rattle.bp_base.specs.Tree.{TreeValue, leaf_count}
use Rattle.bp_metric.specs.Chains.{HasCycle}
use Rattle.bp_metric.specs.Metric.{MetricValue}

-- the metric that it was opened on, and its path
pub record WarmValue : Type 0 where
  pub metric : MetricValue
  pub path : List Step

-- how many pairs of leaves there are
abbrev pub pair_count : TreeValue → ℕ
pair_count T = leaf_count T * (leaf_count T - 1) / 2

-- a warm path that was to become the asked one stands at its longest beginning without a cycle
pub record StoppedAt (T : TreeValue) (asked path : List Step) : Type 0 where
  pub k : ℕ
  pub shorter : k < length asked
  pub is : path ≡ take k asked
  pub closes : HasCycle (leaf_count T) (take (k + 1) asked)
