-- Node lines of a document.
use Rattle.std.specs.Prelude.{◌≡◌, ℕ, ◌≤◌, List, [], ◌∷◌, ◌++◌}
use Rattle.bp_base.specs.declared.path.Pair.{Pair}
use Rattle.bp_base.specs.Limits.{most_number}
use Rattle.bp_document.specs.declared.node_line.NodeKind.{NodeKind}
use Rattle.bp_document.specs.declared.node_line.NodeKind.TheVariants.{Split, Closed, Open}
use Rattle.bp_document.specs.declared.node_line.NodeLine.{NodeLine}
use Rattle.bp_document.specs.Lines.{split_line, closed_line, open_line}
use Rattle.bp_document.specs.Ranges.{IsChainOf}

-- the line of a node at this depth
abbrev pub kind_line : ℕ → NodeKind → List ℕ
kind_line depth (Split p) = split_line depth p
kind_line depth (Closed claim) = closed_line depth claim
kind_line depth (Open claim) = open_line depth claim

abbrev pub node_text : NodeLine → List ℕ
node_text l = kind_line l.depth l.kind

abbrev pub IsPairOfNumbers : Pair → Type 0
IsPairOfNumbers p = (p.i ≤ most_number) × (p.j ≤ most_number)

abbrev pub IsKindOfNumbers : NodeKind → Type 0
IsKindOfNumbers (Split p) = IsPairOfNumbers p
IsKindOfNumbers (Closed claim) = IsChainOf claim
IsKindOfNumbers (Open claim) = IsChainOf claim

-- The line without its LF is that of this node. Whether its depth fits is another matter.
pub record IsNodeLine (bytes : List ℕ) (l : NodeLine) : Type 0 where
  pub text : bytes ++ 10 ∷ [] ≡ node_text l
  pub depth : l.depth ≤ most_number
  pub kind : IsKindOfNumbers l.kind
