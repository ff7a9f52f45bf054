-- Worked rows: where swaps send leaves, and their heads; where bounds lie.
use Rattle.std.proofs.Common.{◌≡◌, ℕ, List, [], ◌∷◌, map, refl, arith}
use Rattle.bp_base.specs.declared.path.Pair.{Pair}
use Rattle.bp_base.specs.declared.point.Axis.TheVariants.{X, Y}
use Rattle.bp_base.specs.declared.point.Point.{Point}
use Rattle.bp_base.specs.Tree.{TreeValue}
use Rattle.bp_arrangement.specs.declared.fact.Fact.TheVariants.{Least, Below}
use Rattle.bp_arrangement.specs.Facts.{Holds, mark}
use Rattle.bp_arrangement.specs.Swaps.{leaves_of, sent, least, head}

pair : ℕ → ℕ → Pair
pair i j = record { i = i; j = j }

-- 5 and 3 change places, and 7 and 2
two_pairs : List Pair
two_pairs = pair 5 3 ∷ pair 7 2 ∷ []

named : leaves_of two_pairs ≡ 5 ∷ 3 ∷ 7 ∷ 2 ∷ []
unfolding two_pairs pair
named = refl

each_sent : map (sent two_pairs) (1 ∷ 2 ∷ 3 ∷ 4 ∷ 5 ∷ 6 ∷ 7 ∷ 8 ∷ []) ≡ 1 ∷ 7 ∷ 5 ∷ 4 ∷ 3 ∷ 6 ∷ 2 ∷ 8 ∷ []
unfolding two_pairs pair sent
each_sent = refl

-- leaf 2 is the least, and goes to 7
the_head : head two_pairs ≡ pair 2 7
unfolding two_pairs pair sent least
the_head = refl

-- leaf 1 at (6, 7) and leaf 2 at (9, 0), on a grid three times finer
points : List Point
points = record { x = 6; y = 7 } ∷ record { x = 9; y = 0 } ∷ []

module _ (T : TreeValue) where
  -- x1>=2, x1<=2 and y1>2, which are all that is so of 2 there
  at_least : Holds T 3 points (Least X 1 4)
  unfolding points mark
  at_least = omega arith

  at_most : Holds T 3 points (Below X 1 5)
  unfolding points mark
  at_most = omega arith

  above : Holds T 3 points (Least Y 1 5)
  unfolding points mark
  above = omega arith

  -- not x1>2, x1<2, y1<=2
  not_above : Holds T 3 points (Least X 1 5) → ⊥
  unfolding points mark
  not_above holds = omega (arith, holds)

  not_below : Holds T 3 points (Below X 1 4) → ⊥
  unfolding points mark
  not_below holds = omega (arith, holds)

  not_at_most : Holds T 3 points (Below Y 1 5) → ⊥
  unfolding points mark
  not_at_most holds = omega (arith, holds)
