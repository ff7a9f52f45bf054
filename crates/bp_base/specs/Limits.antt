-- The limits of the formats. Each is written once, as a constant of the code, whose meaning stands beside it.
use Rattle.std.specs.Prelude.{ℕ}
use Rattle.bp_base.specs.declared.limits.TheConstants.{MOST_NAME, MOST_NODES, MOST_LEAVES, MOST_LENGTH, MOST_STEPS, MOST_NUMBER, MOST_WIDTH, MOST_HANDS, MOST_BUDGET, MOST_TREE_BYTES, MOST_DOCUMENT_BYTES, MOST_PROOF_LINES}

-- bytes of a name
abbrev pub most_name : ℕ
most_name = MOST_NAME

-- nodes of a tree
abbrev pub most_nodes : ℕ
most_nodes = MOST_NODES

-- leaves of a tree, numbers of a chain and of a floor line
abbrev pub most_leaves : ℕ
most_leaves = MOST_LEAVES

-- the length of an edge
abbrev pub most_length : ℕ
most_length = MOST_LENGTH

-- steps of a path: one for each pair of 32 leaves
abbrev pub most_steps : ℕ
most_steps = MOST_STEPS

-- a number in a document
abbrev pub most_number : ℕ
most_number = MOST_NUMBER

-- the width of a strip
abbrev pub most_width : ℕ
most_width = MOST_WIDTH

-- hands of a search
abbrev pub most_hands : ℕ
most_hands = MOST_HANDS

-- the budget of a search
abbrev pub most_budget : ℕ
most_budget = MOST_BUDGET

-- bytes of a tree's text
abbrev pub most_tree_bytes : ℕ
most_tree_bytes = MOST_TREE_BYTES

-- bytes of a document
abbrev pub most_document_bytes : ℕ
most_document_bytes = MOST_DOCUMENT_BYTES

-- proof lines of a document
abbrev pub most_proof_lines : ℕ
most_proof_lines = MOST_PROOF_LINES
