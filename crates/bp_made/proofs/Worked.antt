-- Worked rows of the generator and of made trees.
use Rattle.std.proofs.Common.{◌≡◌, [], ◌∷◌, map, refl}
use Rattle.bp_base.specs.Generator.{drawn, next_state}
use Rattle.bp_base.specs.Tree.{leaf_count}
use Rattle.bp_made.specs.Made.{after_rounds, grown, node_name}

-- the first draws from 1
draws : drawn 1 ∷ drawn (next_state 1) ∷ drawn (next_state (next_state 1)) ∷ drawn (next_state (next_state (next_state 1))) ∷ [] ≡ 16838 ∷ 5758 ∷ 10113 ∷ 17515 ∷ []
draws = refl

-- three leaves from 1
three : (after_rounds 1 1).tree ≡ record { parents = 0 ∷ 0 ∷ 0 ∷ 0 ∷ []; lengths = 0 ∷ 9 ∷ 8 ∷ 2 ∷ []; names = map node_name (0 ∷ 1 ∷ 2 ∷ 3 ∷ []) }
unfolding after_rounds grown
three = refl

-- four from 1: a leaf gets two children
four : (after_rounds 1 2).tree.parents ≡ 0 ∷ 0 ∷ 0 ∷ 0 ∷ 3 ∷ 3 ∷ []
unfolding after_rounds grown
four = refl

four_leaves : leaf_count (after_rounds 1 2).tree ≡ 4
unfolding after_rounds grown
four_leaves = refl
