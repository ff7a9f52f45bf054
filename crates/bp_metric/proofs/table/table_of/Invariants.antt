use Rattle.std.proofs.Common.{◌≡◌, take}
use Rattle.bp_metric.specs.Table.{rows_of}
use Rattle.bp_metric.proofs.table.table_of.Given as goal

abbrev pub invariant-loop-from : goal.invariant-loop-from
invariant-loop-from l = l.table.items ≡ rows_of l.tree l.leaves (take l.from-index l.leaves)
