-- The tree that bytes stand for, and the canonical text of a tree.
use Rattle.std.specs.Prelude.{◌≡◌, ℕ, ◌≤◌, List, [], ◌∷◌, ◌++◌, length, map, decimal, Bool, true, false}
use Rattle.std.specs.List.{flat_map}
use Rattle.bp_base.specs.Limits.{most_tree_bytes}
use Rattle.bp_base.specs.Tree.{TreeValue, IsTree, edges, parent, length_of, name_of}
use Rattle.bp_tree.specs.declared.edge.Edge.{Edge}
use Rattle.bp_tree.specs.Lines.{lines_of, rows}
use Rattle.bp_tree.specs.Edges.{HasEdges, edge_words}
use Rattle.bp_tree.specs.Json.{is_json, GivesElements}

-- These edges are given by bytes in the JSON form (true) or in lines (false): one per element, or one per line with words, which are the edge's.
abbrev pub GivesIn : Bool → List ℕ → List Edge → Type 0
GivesIn true bytes es = GivesElements bytes es
GivesIn false bytes es = rows (lines_of bytes) ≡ map edge_words es

-- The bytes give these edges.
abbrev pub GivesEdges : List ℕ → List Edge → Type 0
GivesEdges bytes es = GivesIn (is_json bytes) bytes es

-- the bytes are those of T, in lines or in the JSON form
pub record TreeOf (bytes : List ℕ) (T : TreeValue) : Type 0 where
  pub short : length bytes ≤ most_tree_bytes
  pub tree : IsTree T
  pub given : List Edge
  pub gives : GivesEdges bytes given
  pub has : HasEdges T given

-- the line of edge e in the canonical text
abbrev pub tree_line : TreeValue → ℕ → List ℕ
tree_line T e = name_of T (parent T e) ++ 32 ∷ name_of T e ++ 32 ∷ decimal (length_of T e) ++ 10 ∷ []

-- The canonical text: one line per edge in node order, the two names and the length with one space between, and LF.
unfoldable pub tree_text : TreeValue → List ℕ
tree_text T = flat_map (tree_line T) (edges T)
