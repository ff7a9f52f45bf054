-- The forms of a document's lines before its nodes, each line without its LF.
use Rattle.std.specs.Prelude.{◌≡◌, ◌⊎◌, ℕ, ◌+◌, ◌≤◌, List, [], ◌∷◌, ◌++◌, decimal, codes, Option, None, Some}
use Rattle.bp_base.specs.declared.point.Floor.{Floor}
use Rattle.bp_base.specs.declared.point.Point.{Point}
use Rattle.bp_base.specs.declared.point.Sheet.{Sheet}
use Rattle.bp_base.specs.Limits.{most_number, most_nodes, most_proof_lines}
use Rattle.bp_base.specs.Name.{IsName}
use Rattle.bp_metric.specs.Metric.{IsSheet}
use Rattle.bp_tree.specs.declared.edge.Edge.{Edge}
use Rattle.bp_document.specs.Lines.{line, sheet_line, point_line, floor_line}
use Rattle.bp_base.specs.Point.{IsSmallPoint}
use Rattle.bp_document.specs.Ranges.{IsFloorLine}

-- the bytes are this line
abbrev pub IsLine : List ℕ → List ℕ → Type 0
IsLine bytes text = bytes ++ 10 ∷ [] ≡ text

abbrev pub version_line : ℕ → List ℕ
version_line version = line (codes "boxpleat") (decimal version ∷ [])

abbrev pub IsVersionLine : List ℕ → Type 0
IsVersionLine bytes = IsLine bytes (version_line 1) ⊎ IsLine bytes (version_line 2)

pub record IsSheetLine (bytes : List ℕ) (G : Sheet) : Type 0 where
  pub text : IsLine bytes (sheet_line G)
  pub sheet : IsSheet G

-- a keyword and a number
pub record IsField (keyword bytes : List ℕ) (n : ℕ) : Type 0 where
  pub text : IsLine bytes (line keyword (decimal n ∷ []))
  pub small : n ≤ most_number

-- the number of edges
abbrev pub IsEdgeCount : ℕ → Type 0
IsEdgeCount E = (2 ≤ E) × (E + 1 ≤ most_nodes)

-- An edge's line, whatever its length and the names before it.
abbrev pub edge_text : Edge → List ℕ
edge_text e = line (codes "edge") (e.upper ∷ e.lower ∷ decimal e.length ∷ [])

pub record IsEdgeForm (bytes : List ℕ) (e : Edge) : Type 0 where
  pub text : IsLine bytes (edge_text e)
  pub upper : IsName e.upper
  pub lower : IsName e.lower
  pub small : e.length ≤ most_number

pub record IsPointForm (bytes name : List ℕ) (p : Point) : Type 0 where
  pub text : IsLine bytes (point_line name p)
  pub name_spelled : IsName name
  pub small : IsSmallPoint p

pub record IsFloorForm (bytes : List ℕ) (f : Floor) : Type 0 where
  pub text : IsLine bytes (floor_line f)
  pub small : IsFloorLine f

-- the line before the nodes, with how many they are
abbrev pub proof_line : Option ℕ → List ℕ
proof_line None = line (codes "proof") (codes "none" ∷ [])
proof_line (Some count) = line (codes "proof") (decimal count ∷ [])

abbrev pub IsProofCount : Option ℕ → Type 0
IsProofCount None = Unit {0}
IsProofCount (Some count) = (1 ≤ count) × (count ≤ most_proof_lines)

pub record IsProofForm (bytes : List ℕ) (count : Option ℕ) : Type 0 where
  pub text : IsLine bytes (proof_line count)
  pub range : IsProofCount count

abbrev pub end_line : List ℕ
end_line = line (codes "end") []
