-- A row of least coordinates has the greatest weights of chains under the bounds; its path doesn't fail.
use Rattle.std.proofs.Common.{◌≡◌, inl, inr, ℕ, zero, suc, ◌+◌, ◌<◌, ◌≤◌, List, [], ◌∷◌, refl, ◌∙◌, ap, arith}
use Rattle.bp_base.specs.declared.point.Axis.{Axis}
use Rattle.bp_base.specs.declared.path.Step.{Step}
use Rattle.bp_base.specs.Tree.{TreeValue, IsTree, IsLeaf, leaf_count}
use Rattle.bp_metric.specs.Distance.{leaf_dist}
use Rattle.bp_metric.specs.Chains.{Places, ArePlaced, IsChain, HasPairsOf, chain_weight, first_of, last_of}
use Rattle.bp_metric.proofs.Lows.{placed_leaves, placed_apart, last_more, rises_by, chain_from_placed, no_cycle}
use Rattle.bp_steady.specs.Bounds.{BoundsValue, IsBlow, Fails, of_leaf, low_of}
use Rattle.bp_steady.specs.Searching.{IsRow}

module _ (T : TreeValue) (t : IsTree T) (path : List Step) (pairs : HasPairsOf (leaf_count T) path) (b : BoundsValue) (row : List ℕ) (is : IsRow T path b row) where
  module _ (axis : Axis) where
    abbrev f : ℕ → ℕ
    f i = of_leaf row axis i

    abbrev g : ℕ → ℕ
    g i = low_of b axis i

    abbrev met : (a c : ℕ) → Places path axis a c → f a + leaf_dist T a c ≤ f c
    met a c placed = is.meets axis a c placed

    -- going back from a leaf, a chain that makes up its coordinate from a low number
    record Traced (i : ℕ) (rest : List ℕ) : Type 0 where
      pub x : ℕ
      pub xs : List ℕ
      pub leaf : IsLeaf T x
      pub placed : ArePlaced path axis (x ∷ xs)
      pub ends : last_of (x ∷ xs) ≡ last_of (i ∷ rest)
      pub weighs : g x + chain_weight T (x ∷ xs) ≡ f i + chain_weight T (i ∷ rest)

    traced : (k i : ℕ) (rest : List ℕ) → f i < k → IsLeaf T i → ArePlaced path axis (i ∷ rest) → Traced i rest
    traced zero i rest most leaf placed = absurd (omega arith)
    traced (suc k) i rest most leaf placed = elim (is.rising.made axis i leaf) [
      | inl low ↦
          record { x = i; xs = rest; leaf = leaf; placed = placed; ends = refl; weighs = omega (arith, low) }
      | inr p ↦
          let l = placed_leaves (leaf_count T) path axis p.0 i pairs p.1 in
          let up = met p.0 i p.1 in
          let apart = placed_apart T t path pairs axis p.0 i p.1 in
          let r = traced k p.0 (i ∷ rest) (omega (arith, most, apart, up)) (l.0, l.1) (p.1, placed) in
          record {
            x = r.x;
            xs = r.xs;
            leaf = r.leaf;
            placed = r.placed;
            ends = r.ends ∙ last_more p.0 i rest;
            weighs = omega (arith, r.weighs, p.2, up);
          }
    ]

    weighs_most : (xs : List ℕ) → IsChain (leaf_count T) path axis xs → g (first_of xs) + chain_weight T xs ≤ f (last_of xs)
    weighs_most [] c = let h = c.some in absurd (omega arith)
    weighs_most (x ∷ xs) c =
        let leaf : (1 ≤ x) × (x ≤ leaf_count T) = c.are_leaves 0 0 (omega arith) in
        omega (arith, rises_by T t path pairs axis f met x xs c.placed, (is.rising.keeps axis x leaf).0)

    pub is_blow : (i : ℕ) → IsLeaf T i → IsBlow T path b axis i (f i)
    is_blow i leaf =
        let r = traced (f i + 1) i [] (omega arith) leaf tt in
        record {
          chain = r.x ∷ r.xs;
          is_chain = chain_from_placed T t path pairs axis f met r.x r.xs r.leaf r.placed;
          ends = r.ends;
          weighs = omega (arith, r.weighs);
          most = λ other is_chain ends. omega (arith, weighs_most other is_chain, ap f ends);
        }

    pub one_blow : (i v : ℕ) → IsLeaf T i → IsBlow T path b axis i v → v ≡ f i
    one_blow i v leaf l =
        let m = is_blow i leaf in
        omega (arith, l.most m.chain m.is_chain m.ends, m.most l.chain l.is_chain l.ends, l.weighs, m.weighs)

  pub fails_not : Fails T path b → ⊥
  fails_not (inl (axis, cycle)) = no_cycle T t path pairs axis (f axis) (met axis) cycle
  fails_not (inr above) =
      let same = one_blow above.axis above.i above.v above.leaf above.is in
      omega (arith, same, above.above, (is.rising.keeps above.axis above.i above.leaf).1)
