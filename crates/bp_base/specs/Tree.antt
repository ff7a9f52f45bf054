-- A metric tree: node 0 is the root, and the edge above node k has the number k.
use Rattle.std.specs.Prelude.{◌≡◌, ◌≢◌, ℕ, ◌-◌, ◌<◌, ◌≤◌, ◌==◌, List, [], length, filter, drop, count_by, not, Bool, slice_index, slice_index_or, All, AllPairs}
use Rattle.std.specs.List.{list_any, range_with_len}
use Rattle.bp_base.specs.Limits.{most_nodes, most_leaves, most_length}
use Rattle.bp_base.specs.Name.{IsName}

-- A tree without where it lies in memory. Entry 0 of parents and of lengths is 0.
pub record TreeValue : Type 0 where
  pub parents : List ℕ
  pub lengths : List ℕ
  pub names : List (List ℕ)

abbrev pub node_count : TreeValue → ℕ
node_count T = length T.parents

abbrev pub parent : TreeValue → ℕ → ℕ
parent T k = slice_index T.parents k

-- the length of the edge above node k
abbrev pub length_of : TreeValue → ℕ → ℕ
length_of T k = slice_index T.lengths k

abbrev pub name_of : TreeValue → ℕ → List ℕ
name_of T k = slice_index_or T.names k []

-- the nodes other than the root; each is the lower node of the edge of its number
abbrev pub edges : TreeValue → List ℕ
edges T = range_with_len 1 (node_count T - 1)

-- node k is the parent of some node other than the root
abbrev pub has_child : TreeValue → ℕ → Bool
has_child T k = list_any (λ p. p == k) (drop 1 T.parents)

-- the nodes without children, in the order of their numbers; leaf i is the i-th of them, from 1 on
abbrev pub leaf_nodes : TreeValue → List ℕ
leaf_nodes T = filter (λ k. not (has_child T k)) (range_with_len 0 (node_count T))

abbrev pub leaf_count : TreeValue → ℕ
leaf_count T = length (leaf_nodes T)

abbrev pub leaf_node : TreeValue → ℕ → ℕ
leaf_node T i = slice_index (leaf_nodes T) (i - 1)

abbrev pub IsNode : TreeValue → ℕ → Type 0
IsNode T k = k < node_count T

abbrev pub IsEdge : TreeValue → ℕ → Type 0
IsEdge T e = (1 ≤ e) × (e < node_count T)

abbrev pub IsLeaf : TreeValue → ℕ → Type 0
IsLeaf T i = (1 ≤ i) × (i ≤ leaf_count T)

-- what each tree keeps
pub record IsTree (T : TreeValue) : Type 0 where
  pub lengths_as_parents : length T.lengths ≡ length T.parents
  pub names_as_parents : length T.names ≡ length T.parents
  pub root_parent : parent T 0 ≡ 0
  pub root_length : length_of T 0 ≡ 0
  pub parents_before : (k : ℕ) → 0 < k → k < length T.parents → parent T k < k
  pub lengths_positive : (k : ℕ) → 0 < k → k < length T.parents → 1 ≤ length_of T k
  pub lengths_small : (k : ℕ) → length_of T k ≤ most_length
  pub names_spelled : All IsName T.names
  pub names_differ : AllPairs (λ a b. a ≢ b) T.names
  pub nodes : node_count T ≤ most_nodes
  pub root_children : 2 ≤ count_by (λ p. p == 0) (drop 1 T.parents)
  pub leaves_enough : 2 ≤ leaf_count T
  pub leaves_few : leaf_count T ≤ most_leaves
