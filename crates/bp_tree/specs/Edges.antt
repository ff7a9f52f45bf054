-- A tree as the list of its edges, each the upper name, the lower name and the length.
use Rattle.std.specs.Prelude.{◌≡◌, ◌≢◌, ℕ, ◌<◌, ◌≤◌, ◌==◌, List, [], ◌∷◌, ◌++◌, length, map, take, drop, decimal, count_by, filter, not, All, AllPairs}
use Rattle.std.specs.List.{list_any, range_with_len}
use Rattle.bp_base.specs.Limits.{most_nodes, most_length}
use Rattle.bp_base.specs.Name.{IsName}
use Rattle.bp_base.specs.Tree.{TreeValue, node_count, parent, length_of, name_of}
use Rattle.bp_tree.specs.declared.edge.Edge.{Edge}

-- the words of an edge's line
abbrev pub edge_words : Edge → List (List ℕ)
edge_words e = e.upper ∷ e.lower ∷ decimal e.length ∷ []

abbrev pub uppers : List Edge → List (List ℕ)
uppers es = map (λ (e : Edge). e.upper) es

abbrev pub lowers : List Edge → List (List ℕ)
lowers es = map (λ (e : Edge). e.lower) es

abbrev pub lengths : List Edge → List ℕ
lengths es = map (λ (e : Edge). e.length) es

-- the names that edges make: the first upper name, and all lower names
abbrev pub names_of : List Edge → List (List ℕ)
names_of es = take 1 (uppers es) ++ lowers es

-- These are the edges of T, in node order: T's names are those that they make,
-- each upper name is the parent's, and the lengths are those of T.
pub record HasEdges (T : TreeValue) (es : List Edge) : Type 0 where
  pub names : T.names ≡ names_of es
  pub uppers : map (name_of T) (drop 1 T.parents) ≡ uppers es
  pub lengths : drop 1 T.lengths ≡ lengths es

-- the length of an edge
abbrev pub IsLength : ℕ → Type 0
IsLength n = (1 ≤ n) × (n ≤ most_length)

-- What a tree keeps from its first edge on: all of `IsTree` but the least number of the root's children and the limits on leaves.
pub record IsGrowing (T : TreeValue) : Type 0 where
  pub lengths_as_parents : length T.lengths ≡ length T.parents
  pub names_as_parents : length T.names ≡ length T.parents
  pub root_parent : parent T 0 ≡ 0
  pub root_length : length_of T 0 ≡ 0
  pub parents_before : (k : ℕ) → 0 < k → k < length T.parents → parent T k < k
  pub lengths_positive : (k : ℕ) → 0 < k → k < length T.parents → 1 ≤ length_of T k
  pub lengths_small : (k : ℕ) → length_of T k ≤ most_length
  pub names_spelled : All IsName T.names
  pub names_differ : AllPairs (λ a b. a ≢ b) T.names
  pub nodes : node_count T ≤ most_nodes

abbrev pub root_children : TreeValue → ℕ
root_children T = count_by (λ p. p == 0) (drop 1 T.parents)

-- how many nodes are the parent of none
abbrev pub leaves_of : List ℕ → ℕ
leaves_of parents =
    length (filter (λ k. not (list_any (λ p. p == k) (drop 1 parents))) (range_with_len 0 (length parents)))
