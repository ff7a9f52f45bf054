use Rattle.std.proofs.Common.{◌≡◌, ◌++◌, length, map, reverse}
use Rattle.bp_base.specs.declared.point.Sheet.{Sheet}
use Rattle.bp_base.specs.Tree.{TreeValue}
use Rattle.bp_join.specs.Entries.{entry_node}
use Rattle.bp_join.specs.Joined.{node_of}
use Rattle.bp_join.proofs.joining.add_records.Given as goal

abbrev pub invariant-loop-last : goal.invariant-loop-last
invariant-loop-last l = (T : TreeValue) (G : Sheet) → map (entry_node T G) l.entries.items ++ map (node_of T G) (reverse l.rest) ≡ map (entry_node T G) l.initial.entries.items ++ map (node_of T G) (reverse l.initial.records)

abbrev pub decreases-loop-last : goal.decreases-loop-last
decreases-loop-last l = length l.rest
