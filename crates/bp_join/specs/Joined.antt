-- What records and tasks left are joined to: one refutation with exactly one node for each of them, at its path.
use Rattle.std.specs.Prelude.{◌≡◌, List, [], ◌∷◌, ◌++◌, length, map}
use Rattle.bp_base.specs.declared.point.Sheet.{Sheet}
use Rattle.bp_base.specs.declared.chain.Claim.{Claim}
use Rattle.bp_base.specs.declared.record.Task.{Task}
use Rattle.bp_base.specs.declared.record.Record.{Record}
use Rattle.bp_base.specs.declared.record.RecordKind.{RecordKind}
use Rattle.bp_base.specs.declared.record.RecordKind.TheVariants.{Split, Closed}
use Rattle.bp_base.specs.declared.refutation.Refutation.{Refutation}
use Rattle.bp_base.specs.Bags.{AreSame}
use Rattle.bp_base.specs.Path.{IsPairOf}
use Rattle.bp_base.specs.Tree.{TreeValue, leaf_count}
use Rattle.bp_metric.specs.Choices.{allowed}
use Rattle.bp_metric.specs.Coordinates.{IsShownOrCycle}
use Rattle.bp_metric.specs.Nodes.{Node, Part, SplitOf, ClosedBy, OpenBy, nodes_of}

-- a split is for a pair of leaves
abbrev pub HasPairOf : TreeValue → RecordKind → Type 0
HasPairOf T (Split p) = IsPairOf (leaf_count T) p
HasPairOf T (Closed claim) = Unit {0}

-- a record's kind as the part of a node: a split has a child for each allowed choice
abbrev pub part_of : TreeValue → Sheet → RecordKind → Part
part_of T G (Split p) = SplitOf p (length (allowed T G p))
part_of T G (Closed claim) = ClosedBy claim

-- a record as a node at its path
abbrev pub node_of : TreeValue → Sheet → Record → Node
node_of T G r = record { path = r.path; part = part_of T G r.kind }

-- a task left as a node at its path: open, with what is shown there, or a cycle
pub record IsOpenNode (T : TreeValue) (G : Sheet) (t : Task) (n : Node) : Type 0 where
  pub claim : Claim
  pub path : n.path ≡ t.path
  pub part : n.part ≡ OpenBy claim
  pub shown : IsShownOrCycle T G t.path claim

-- the nodes of the tasks left, in order
abbrev pub AreOpenNodes : TreeValue → Sheet → List Task → List Node → Type 0
AreOpenNodes T G [] [] = Unit {0}
AreOpenNodes T G (t ∷ left) (n ∷ nodes) = IsOpenNode T G t n × AreOpenNodes T G left nodes
AreOpenNodes T G [] (n ∷ nodes) = ⊥
AreOpenNodes T G (t ∷ left) [] = ⊥

-- the nodes of the refutation are those of the records and of the tasks left, each once
pub record IsJoined (T : TreeValue) (G : Sheet) (records : List Record) (left : List Task) (r : Refutation) : Type 0 where
  pub opens : List Node
  pub are_opens : AreOpenNodes T G left opens
  pub same : AreSame (nodes_of T G r) (map (node_of T G) records ++ opens)
