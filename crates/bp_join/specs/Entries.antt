-- Entries: the nodes that are to stand in a refutation, kept on a stack with the next one on top.
use Rattle.std.specs.Prelude.{List, length, map, reverse}
use Rattle.bp_base.specs.declared.point.Sheet.{Sheet}
use Rattle.bp_base.specs.Tree.{TreeValue}
use Rattle.bp_metric.specs.Choices.{allowed}
use Rattle.bp_metric.specs.Nodes.{Node, Part, SplitOf, ClosedBy, OpenBy}
use Rattle.bp_join.specs.declared.entry.Entry.{Entry}
use Rattle.bp_join.specs.declared.entry.Opened.{Opened}
use Rattle.bp_join.specs.declared.entry.Found.{Found}
use Rattle.bp_join.specs.declared.entry.Found.TheVariants.{Split, Closed, Open}

abbrev pub part_found : TreeValue → Sheet → Found → Part
part_found T G (Split p) = SplitOf p (length (allowed T G p))
part_found T G (Closed claim) = ClosedBy claim.now
part_found T G (Open claim) = OpenBy claim.now

-- an entry as a node at its path
abbrev pub entry_node : TreeValue → Sheet → Entry → Node
entry_node T G e = record { path = e.path.now; part = part_found T G e.found }

-- the nodes of a stack's entries, from the top down
abbrev pub stacked : TreeValue → Sheet → List Entry → List Node
stacked T G entries = map (entry_node T G) (reverse entries)

-- a task left as a node at its path
abbrev pub opened_node : Opened → Node
opened_node o = record { path = o.path; part = OpenBy o.claim }
