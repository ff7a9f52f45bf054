-- The walk that is shown of a path counts with what the path forces, or, on a strip that is too narrow for it, not at all.
use Rattle.std.proofs.Common.{◌≡◌, ℕ, ◌+◌, ◌<◌, ◌≤◌, inr, true, List, [], ◌∷◌, nat_lt, subst, arith}
use Rattle.std.proofs.lemmas.Bool.{lt-ltb}
use Rattle.bp_base.specs.declared.chain.Claim.{Claim}
use Rattle.bp_base.specs.declared.chain.Claim.TheVariants.{Walk, Cycle}
use Rattle.bp_base.specs.declared.path.Step.{Step}
use Rattle.bp_base.specs.declared.point.Axis.{Axis}
use Rattle.bp_base.specs.declared.point.Axis.TheVariants.{X, Y}
use Rattle.bp_base.specs.declared.point.Sheet.{Sheet}
use Rattle.bp_base.specs.declared.point.Sheet.TheVariants.{Square, Strip}
use Rattle.bp_base.specs.Tree.{TreeValue}
use Rattle.bp_metric.specs.Chains.{chain_weight, last_of}
use Rattle.bp_metric.specs.Coordinates.{AreShown, IsForced, IsGreatest, IsGreatestOn, IsLow, IsShown, IsShownOn, IsShownWalk}
use Rattle.bp_metric.specs.Nodes.{counted}
use Rattle.bp_metric.proofs.Lows.{last_more, one_greatest_on, one_low}
use Rattle.bp_check.specs.Written.{CountsFrom}

module _ (T : TreeValue) (path : List Step) where
  -- along shown leaves the low coordinates rise by the weight exactly
  rises : (axis : Axis) (a : ℕ) (more : List ℕ) (v w : ℕ) → AreShown T path axis (a ∷ more) → IsLow T path axis a v → IsLow T path axis (last_of (a ∷ more)) w → v + chain_weight T (a ∷ more) ≡ w
  rises axis a [] v w shown low end = omega (arith, one_low T path axis a v w low end)
  rises axis a (b ∷ more) v w shown low end =
      let before = shown.0 in
      let there : IsLow T path axis (last_of (b ∷ more)) w = subst (λ (i : ℕ). IsLow T path axis i w) (last_more a b more) end in
      omega (arith, one_low T path axis a v before.low_a low before.is_a, before.makes_up, rises axis b more before.low_b w shown.1 before.is_b there)

  -- a shown walk weighs as much as the greatest chain on its axis
  weighs_low : (G : Sheet) (axis : Axis) (chain : List ℕ) (s : IsShownWalk T G path axis chain) → chain_weight T chain ≡ s.last.low
  weighs_low G axis [] s = let h = s.is_chain.some in absurd (omega arith)
  weighs_low G axis (a ∷ more) s = omega (arith, rises axis a more 0 s.last.low s.before s.begins s.last.is_low)

  -- a greatest weight that isn't reached on x is reached on y
  on_y : (v : ℕ) → IsGreatest T path v → (IsGreatestOn T path X v → ⊥) → IsGreatestOn T path Y v
  on_y v great none = go great.axis great.on_axis
    where
      go : (axis : Axis) → IsGreatestOn T path axis v → IsGreatestOn T path Y v
      go X is = absurd (none is)
      go Y is = is

  module _ (S : ℕ) where
    walk_counts : (G : Sheet) (axis : Axis) (chain : List ℕ) (low : ℕ) → chain_weight T chain ≡ low → IsGreatestOn T path axis low → IsShownOn T G path axis → ((v : ℕ) → IsForced T G path v → S ≤ v) → CountsFrom S (counted T G (Walk axis chain))
    walk_counts Square X chain low is great on forces =
        let least : S ≤ on.0 = forces on.0 on.1 in
        omega (arith, least, one_greatest_on T path X on.0 low on.2 great, is)
    walk_counts Square Y chain low is great on forces =
        let least : S ≤ on.0 = forces on.0 on.1 in
        omega (arith, least, one_greatest_on T path Y on.0 low (on_y on.0 on.1 on.2) great, is)
    walk_counts (Strip width) X chain low is great on forces =
        let heavy : width < chain_weight T chain = omega (arith, on.heavy, great.most on.chain on.is_chain, is) in
        let wide : nat_lt width (chain_weight T chain) ≡ true = lt-ltb width (chain_weight T chain) heavy in
        rw wide tt
    walk_counts (Strip width) Y chain low is great on forces =
        let least : S ≤ low = forces low (inr (on, great)) in
        omega (arith, least, is)

    pub shown_counts : (G : Sheet) (claim : Claim) → IsShown T G path claim → ((v : ℕ) → IsForced T G path v → S ≤ v) → CountsFrom S (counted T G claim)
    shown_counts G (Walk axis chain) shown forces = walk_counts G axis chain shown.last.low (weighs_low G axis chain shown) shown.last.greatest shown.on_axis forces
    shown_counts G (Cycle axis chain) shown forces = absurd shown
