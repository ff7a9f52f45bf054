-- Trees that the generator makes: leaf after leaf, until there are enough.
use Rattle.std.specs.Prelude.{◌≡◌, ℕ, ◌+◌, ◌<◌, ◌≤◌, ◌%◌, ◌^◌, zero, suc, List, [], ◌∷◌, ◌++◌, length, decimal, if◌then◌else◌}
use Rattle.bp_base.specs.Generator.{drawn, next_state}
use Rattle.bp_base.specs.Tree.{TreeValue, has_child, leaf_count}

-- a tree and the generator's state
pub record Growing : Type 0 where
  pub tree : TreeValue
  pub state : ℕ

-- `n` followed by the number in decimal
abbrev pub node_name : ℕ → List ℕ
node_name k = 110 ∷ decimal k

-- a node more below node v; its length is one more than a draw modulo 9
abbrev pub with_child : ℕ → Growing → Growing
with_child v g = record {
  tree = record {
    parents = g.tree.parents ++ v ∷ [];
    lengths = g.tree.lengths ++ (drawn g.state % 9 + 1) ∷ [];
    names = g.tree.names ++ node_name (length g.tree.parents) ∷ [];
  };
  state = next_state g.state;
}

-- two nodes more below it, each with a length of its own
abbrev pub with_children : ℕ → Growing → Growing
with_children v g = with_child v (with_child v g)

-- node 0 alone
abbrev pub root : TreeValue
root = record { parents = 0 ∷ []; lengths = 0 ∷ []; names = node_name 0 ∷ [] }

-- A round: a draw modulo the number of nodes names a node; where it has no child, two nodes are made below it, else one.
unfoldable pub grown : Growing → Growing
grown g =
    let v : ℕ = drawn g.state % length g.tree.parents in
    let h : Growing = record { tree = g.tree; state = next_state g.state } in
    if has_child g.tree v then with_child v h else with_children v h

-- what stands after so many rounds: at first node 0 and two nodes below it
unfoldable pub after_rounds : ℕ → ℕ → Growing
after_rounds seed zero = with_children 0 (record { tree = root; state = seed })
after_rounds seed (suc k) = grown (after_rounds seed k)

-- the tree after the first round at which there are enough leaves
pub record IsMade (leaves seed : ℕ) (T : TreeValue) : Type 0 where
  pub rounds : ℕ
  pub tree : T ≡ (after_rounds seed rounds).tree
  pub enough : leaves ≤ leaf_count T
  pub before : (k : ℕ) → k < rounds → leaf_count (after_rounds seed k).tree < leaves

-- it has a node, and a state from which can be drawn
pub record CanGrow (g : Growing) : Type 0 where
  pub some : 0 < length g.tree.parents
  pub state : g.state < 2 ^ 32
