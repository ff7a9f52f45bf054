use Rattle.std.proofs.Common.{◌≡◌, ◌++◌, map, take}
use Rattle.bp_base.specs.declared.point.Sheet.{Sheet}
use Rattle.bp_base.specs.Tree.{TreeValue}
use Rattle.bp_join.specs.Entries.{entry_node, opened_node}
use Rattle.bp_join.proofs.joining.add_opened.Given as goal

abbrev pub invariant-loop-task : goal.invariant-loop-task
invariant-loop-task l = (T : TreeValue) (G : Sheet) → map (entry_node T G) l.entries.items ≡ map (entry_node T G) l.initial.entries.items ++ map opened_node (take l.task-index l.opened)
