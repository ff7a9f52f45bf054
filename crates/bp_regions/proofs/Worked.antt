-- Cells of a worked placement: an edge owns what it reaches and no edge below it does.
use Rattle.std.proofs.Common.{◌≡◌, ◌≢◌, ℕ, zero, suc, true, List, [], ◌∷◌, refl, arith}
use Rattle.std.proofs.lemmas.Bool.{false≢true}
use Rattle.bp_base.specs.declared.point.Point.{Point}
use Rattle.bp_base.specs.Point.{point_at}
use Rattle.bp_base.specs.Tree.{TreeValue, IsEdge, IsLeaf}
use Rattle.bp_metric.specs.Distance.{is_below, share, dist, leaf_below, radius}
use Rattle.bp_regions.specs.Cells.{IsInBall, Own, Reach}

-- r a 2/r b 2/a a1 1/a a2 1/b b1 1/b b2 1/
abbrev two_twigs : TreeValue
two_twigs = record { parents = 0 ∷ 0 ∷ 0 ∷ 1 ∷ 1 ∷ 2 ∷ 2 ∷ []; lengths = 0 ∷ 2 ∷ 2 ∷ 1 ∷ 1 ∷ 1 ∷ 1 ∷ []; names = [] }

abbrev tips : List Point
tips = record { x = 0; y = 0 } ∷ record { x = 0; y = 2 } ∷ record { x = 6; y = 0 } ∷ record { x = 6; y = 2 } ∷ []

a_reaches : Reach two_twigs 6 tips 1 1 0
unfolding dist share is_below
a_reaches = record {
  cell = (omega arith, omega arith);
  leaf = 1;
  among = (omega arith, omega arith);
  below = refl;
  near = (omega arith, omega arith, omega arith, omega arith);
}

a2_reaches : Reach two_twigs 6 tips 4 0 2
unfolding dist share is_below
a2_reaches = record {
  cell = (omega arith, omega arith);
  leaf = 2;
  among = (omega arith, omega arith);
  below = refl;
  near = (omega arith, omega arith, omega arith, omega arith);
}

-- neither leaf below a reaches so far
a1_stops : (i : ℕ) → IsLeaf two_twigs i → leaf_below two_twigs i 3 ≡ true → IsInBall (point_at tips i) (radius two_twigs i 3) 1 0 → ⊥
unfolding dist share is_below
a1_stops zero leaf below near = omega (arith, leaf.0)
a1_stops (suc zero) leaf below near = omega (arith, near.1)
a1_stops (suc (suc zero)) leaf below near = false≢true below
a1_stops (suc (suc (suc zero))) leaf below near = false≢true below
a1_stops (suc (suc (suc (suc zero)))) leaf below near = false≢true below
a1_stops (suc (suc (suc (suc (suc i))))) leaf below near = omega (arith, leaf.1)

a2_stops : (i : ℕ) → IsLeaf two_twigs i → leaf_below two_twigs i 4 ≡ true → IsInBall (point_at tips i) (radius two_twigs i 4) 1 0 → ⊥
unfolding dist share is_below
a2_stops zero leaf below near = omega (arith, leaf.0)
a2_stops (suc zero) leaf below near = false≢true below
a2_stops (suc (suc zero)) leaf below near = omega (arith, near.2)
a2_stops (suc (suc (suc zero))) leaf below near = false≢true below
a2_stops (suc (suc (suc (suc zero)))) leaf below near = false≢true below
a2_stops (suc (suc (suc (suc (suc i))))) leaf below near = omega (arith, leaf.1)

a_alone : (f : ℕ) → IsEdge two_twigs f → f ≢ 1 → is_below two_twigs f 1 ≡ true → Reach two_twigs 6 tips f 1 0 → ⊥
unfolding is_below
a_alone zero edge apart below in_f = omega (arith, edge.0)
a_alone (suc zero) edge apart below in_f = apart refl
a_alone (suc (suc zero)) edge apart below in_f = false≢true below
a_alone (suc (suc (suc zero))) edge apart below in_f = a1_stops in_f.leaf in_f.among in_f.below in_f.near
a_alone (suc (suc (suc (suc zero)))) edge apart below in_f = a2_stops in_f.leaf in_f.among in_f.below in_f.near
a_alone (suc (suc (suc (suc (suc zero))))) edge apart below in_f = false≢true below
a_alone (suc (suc (suc (suc (suc (suc zero)))))) edge apart below in_f = false≢true below
a_alone (suc (suc (suc (suc (suc (suc (suc f))))))) edge apart below in_f = omega (arith, edge.1)

a_owns : Own two_twigs 6 tips 1 1 0
a_owns = record { reach = a_reaches; alone = a_alone }

four_below_one : is_below two_twigs 4 1 ≡ true
unfolding is_below
four_below_one = refl

a_owns_not : Own two_twigs 6 tips 1 0 2 → ⊥
a_owns_not own = own.alone 4 (omega arith, omega arith) (omega arith) four_below_one a2_reaches
