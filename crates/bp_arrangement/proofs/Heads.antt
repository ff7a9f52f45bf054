-- The least leaf of a swap, found pair by pair.
use Rattle.std.proofs.Common.{◌≡◌, ℕ, ◌<◌, min, List, [], ◌∷◌, ◌+◌, length, get_or, drop, refl, ◌∙◌, ap, arith}
use Rattle.bp_base.specs.declared.path.Pair.{Pair}
use Rattle.bp_arrangement.specs.Swaps.{least}
use Rattle.bp_arrangement.proofs.Deciding.{no_pair, from_place}

-- the lesser of a leaf and the least leaf of further pairs, where there are any
unfoldable pub least_with : ℕ → List Pair → ℕ
least_with k [] = k
least_with k (p ∷ rest) = min k (least (p ∷ rest))

pub with_none : (k : ℕ) → least_with k [] ≡ k
unfolding least_with
with_none k = refl

pub with_next : (k : ℕ) (p : Pair) (rest : List Pair) → least_with k (p ∷ rest) ≡ least_with (min k (min p.i p.j)) rest
unfolding least_with least
with_next k p [] = refl
with_next k p (r ∷ rest) = omega arith

pub from_first : (p : Pair) (rest : List Pair) → least (p ∷ rest) ≡ least_with (min p.i p.j) rest
unfolding least_with least
from_first p [] = refl
from_first p (r ∷ rest) = refl

module _ (swap : List Pair) (k at : ℕ) (less : at < length swap) where
  pub with_drop : least_with k (drop at swap) ≡ least_with (min k (min (get_or swap at no_pair).i (get_or swap at no_pair).j)) (drop (at + 1) swap)
  with_drop = ap (least_with k) (from_place swap at less) ∙ with_next k (get_or swap at no_pair) (drop (at + 1) swap)
