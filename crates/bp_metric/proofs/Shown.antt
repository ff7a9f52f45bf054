-- From exact coordinates: greatest weights, what a path forces, and the chain that is shown.
use Rattle.std.proofs.Common.{◌≡◌, ℕ, ◌+◌, ◌-◌, ◌<◌, ◌≤◌, List, length, sym, subst, arith, inl, inr}
use Rattle.std.proofs.lemmas.List.Elements.{All-get_or}
use Rattle.bp_base.specs.declared.point.Axis.{Axis}
use Rattle.bp_base.specs.declared.point.Axis.TheVariants.{X, Y}
use Rattle.bp_base.specs.declared.point.Sheet.{Sheet}
use Rattle.bp_base.specs.declared.point.Sheet.TheVariants.{Square, Strip}
use Rattle.bp_base.specs.declared.path.Step.{Step}
use Rattle.bp_base.specs.Tree.{TreeValue, IsTree, IsLeaf, leaf_count}
use Rattle.bp_metric.specs.Distance.{leaf_dist}
use Rattle.bp_metric.specs.Chains.{Places, IsChain, HasPairsOf, chain_weight, last_of}
use Rattle.bp_metric.specs.Coordinates.{IsLow, IsGreatestOn, IsGreatest, IsTooWide, IsForced, IsForcedBy, IsShownOn, IsShownLast, IsShownBefore}
use Rattle.bp_metric.proofs.Lows.{AreLows, placed_leaves, weighs_most, is_low, one_low, one_greatest_on}

-- the last of a list of leaves is a leaf
pub last_leaf : (n : ℕ) (path : List Step) (axis : Axis) (xs : List ℕ) → IsChain n path axis xs → (1 ≤ last_of xs) × (last_of xs ≤ n)
last_leaf n path axis xs c =
    All-get_or (λ i. (1 ≤ i) × (i ≤ n)) xs (length xs - 1) 0 (omega (arith, c.some)) c.are_leaves

pub low_leaf : (T : TreeValue) (path : List Step) (axis : Axis) (i v : ℕ) → IsLow T path axis i v → IsLeaf T i
low_leaf T path axis i v l = subst (IsLeaf T) l.ends (last_leaf (leaf_count T) path axis l.chain l.is_chain)

module _ (T : TreeValue) (path : List Step) (x y : ℕ) (on_x : IsGreatestOn T path X x) (on_y : IsGreatestOn T path Y y) where
  greatest_x : y ≤ x → IsGreatest T path x
  greatest_x less = record { axis = X; on_axis = on_x; most = most }
    where
      most : (other : Axis) (chain : List ℕ) → IsChain (leaf_count T) path other chain → chain_weight T chain ≤ x
      most X chain c = on_x.most chain c
      most Y chain c = omega (arith, on_y.most chain c)

  greatest_y : x ≤ y → IsGreatest T path y
  greatest_y less = record { axis = Y; on_axis = on_y; most = most }
    where
      most : (other : Axis) (chain : List ℕ) → IsChain (leaf_count T) path other chain → chain_weight T chain ≤ y
      most X chain c = omega (arith, on_x.most chain c)
      most Y chain c = on_y.most chain c

  too_wide : (width : ℕ) → width < x → IsTooWide T path width
  too_wide width more = record { chain = on_x.chain; is_chain = on_x.is_chain; heavy = omega (arith, on_x.weighs) }

  fits_wide : (width : ℕ) → x ≤ width → IsTooWide T path width → ⊥
  fits_wide width less wide = absurd (omega (arith, wide.heavy, on_x.most wide.chain wide.is_chain))

  pub forced_from : (G : Sheet) (axis : Axis) (v : ℕ) → IsForcedBy G x y axis v → IsForced T G path v
  forced_from Square X v j = subst (IsGreatest T path) (sym j.1) (greatest_x j.0)
  forced_from Square Y v j = let less : x < y = j.0 in subst (IsGreatest T path) (sym j.1) (greatest_y (omega arith))
  forced_from (Strip width) X v j = inl (too_wide width j.0, j.1)
  forced_from (Strip width) Y v j = inr (fits_wide width j.0, subst (IsGreatestOn T path Y) (sym j.1) on_y)

  pub shown_on_from : (G : Sheet) (axis : Axis) (v : ℕ) → IsForcedBy G x y axis v → IsShownOn T G path axis
  shown_on_from Square X v j = (x, greatest_x j.0, on_x)
  shown_on_from Square Y v j =
      let less : x < y = j.0 in
      (y, greatest_y (omega arith), λ is. absurd (omega (arith, one_greatest_on T path X y x is on_x)))
  shown_on_from (Strip width) X v j = too_wide width j.0
  shown_on_from (Strip width) Y v j = fits_wide width j.0

module _ (T : TreeValue) (t : IsTree T) (path : List Step) (pairs : HasPairsOf (leaf_count T) path) (axis : Axis) (f : ℕ → ℕ) (lows : AreLows T path axis f) where
  pub greatest_on : (r : ℕ) → IsLeaf T r → ((i : ℕ) → IsLeaf T i → f i ≤ f r) → IsGreatestOn T path axis (f r)
  greatest_on r leaf most =
      let low = is_low T t path pairs axis f lows r leaf in
      record {
        chain = low.chain;
        is_chain = low.is_chain;
        weighs = low.weighs;
        most = λ other is_chain.
            omega (arith, weighs_most T t path pairs axis f lows.meets other is_chain, most (last_of other) (last_leaf (leaf_count T) path axis other is_chain));
      }

  -- the one low coordinate of a leaf
  pub low_is : (i v : ℕ) → IsLow T path axis i v → v ≡ f i
  low_is i v l = one_low T path axis i v (f i) l (is_low T t path pairs axis f lows i (low_leaf T path axis i v l))

  pub shown_last : (r : ℕ) → IsLeaf T r → ((i : ℕ) → IsLeaf T i → f i ≤ f r) → ((i : ℕ) → IsLeaf T i → i < r → f i < f r) → IsShownLast T path axis r
  shown_last r leaf most first =
      record {
        low = f r;
        greatest = greatest_on r leaf most;
        is_low = is_low T t path pairs axis f lows r leaf;
        least = λ j less l. absurd (omega (arith, low_is j (f r) l, first j (low_leaf T path axis j (f r) l) less));
      }

  pub shown_before : (a b : ℕ) → Places path axis a b → f a + leaf_dist T a b ≡ f b → ((c : ℕ) → c < a → Places path axis c b → f c + leaf_dist T c b ≡ f b → ⊥) → IsShownBefore T path axis a b
  shown_before a b placed makes first =
      let l = placed_leaves (leaf_count T) path axis a b pairs placed in
      record {
        placed = placed;
        low_a = f a;
        low_b = f b;
        is_a = is_low T t path pairs axis f lows a (l.0, l.1);
        is_b = is_low T t path pairs axis f lows b (l.2, l.3);
        makes_up = makes;
        least = λ c low less p is same. first c less p (omega (arith, low_is c low is, same));
      }

  -- a leaf that no step makes up has coordinate 0
  pub begins_zero : (i : ℕ) → IsLeaf T i → ((a : ℕ) → Places path axis a i → f a + leaf_dist T a i ≡ f i → ⊥) → IsLow T path axis i 0
  begins_zero i leaf none = elim (lows.made_up i leaf) [
    | inl zero_is ↦ subst (IsLow T path axis i) zero_is (is_low T t path pairs axis f lows i leaf)
    | inr p ↦ absurd (none p.0 p.1 p.2)
  ]
