use Rattle.std.proofs.Common.{◌≡◌, ◌++◌, take}
use Rattle.bp_metric.specs.Table.{row_of}
use Rattle.bp_metric.proofs.table.add_row.Given as goal

abbrev pub invariant-loop-to : goal.invariant-loop-to
invariant-loop-to l = l.table.items ≡ l.initial.table.items ++ row_of l.tree (take l.to-index l.leaves) l.from
