-- Records and tasks that may be joined, as tests make them.
use Rattle.std.specs.Prelude.{List, All}
use Rattle.bp_base.specs.declared.point.Sheet.{Sheet}
use Rattle.bp_base.specs.declared.record.Task.{Task}
use Rattle.bp_base.specs.declared.record.Record.{Record}
use Rattle.bp_base.specs.Tree.{TreeValue, leaf_count}
use Rattle.bp_metric.specs.Chains.{HasPairsOf}
use Rattle.bp_metric.specs.Records.{IsBalanced}
use Rattle.bp_join.specs.Joined.{HasPairOf}

pub record CanJoin (T : TreeValue) (G : Sheet) (records : List Record) (left : List Task) : Type 0 where
  pub balanced : IsBalanced T G records left
  pub splits : All (λ (r : Record). HasPairOf T r.kind) records
  pub paths : All (λ (t : Task). HasPairsOf (leaf_count T) t.path) left
