-- Least coordinates of a path: the greatest weights of its chains; the side that it forces, and the chain that shows it.
use Rattle.std.specs.Prelude.{◌≡◌, ◌⊎◌, ℕ, ◌+◌, ◌-◌, ◌<◌, ◌≤◌, List, [], ◌∷◌, length, slice_index, All}
use Rattle.bp_base.specs.declared.point.Axis.{Axis}
use Rattle.bp_base.specs.declared.point.Axis.TheVariants.{X, Y}
use Rattle.bp_base.specs.declared.point.Sheet.{Sheet}
use Rattle.bp_base.specs.declared.point.Sheet.TheVariants.{Square, Strip}
use Rattle.bp_base.specs.declared.path.Step.{Step}
use Rattle.bp_base.specs.declared.chain.Claim.{Claim}
use Rattle.bp_base.specs.declared.chain.Claim.TheVariants.{Walk, Cycle}
use Rattle.bp_base.specs.declared.record.Least.{Least}
use Rattle.bp_base.specs.declared.record.Walked.{Walked}
use Rattle.bp_base.specs.declared.record.Walked.TheVariants.{Fine, Cycle as Found}
use Rattle.bp_base.specs.Limits.{most_number}
use Rattle.bp_base.specs.Tree.{TreeValue, IsLeaf, leaf_count}
use Rattle.bp_metric.specs.Distance.{leaf_dist}
use Rattle.bp_metric.specs.Chains.{Places, IsChain, IsCycle, HasCycle, HasCycleOn, chain_weight, first_of, last_of}

-- v is the greatest weight of a chain that ends at leaf i
pub record IsLow (T : TreeValue) (path : List Step) (axis : Axis) (i v : ℕ) : Type 0 where
  pub chain : List ℕ
  pub is_chain : IsChain (leaf_count T) path axis chain
  pub ends : last_of chain ≡ i
  pub weighs : chain_weight T chain ≡ v
  pub most : (other : List ℕ) → IsChain (leaf_count T) path axis other → last_of other ≡ i → chain_weight T other ≤ v

-- v is the greatest weight of a chain on the axis
pub record IsGreatestOn (T : TreeValue) (path : List Step) (axis : Axis) (v : ℕ) : Type 0 where
  pub chain : List ℕ
  pub is_chain : IsChain (leaf_count T) path axis chain
  pub weighs : chain_weight T chain ≡ v
  pub most : (other : List ℕ) → IsChain (leaf_count T) path axis other → chain_weight T other ≤ v

-- v is the greatest weight of a chain on either axis
pub record IsGreatest (T : TreeValue) (path : List Step) (v : ℕ) : Type 0 where
  pub axis : Axis
  pub on_axis : IsGreatestOn T path axis v
  pub most : (other : Axis) (chain : List ℕ) → IsChain (leaf_count T) path other chain → chain_weight T chain ≤ v

-- some chain on x weighs more than the strip's width
pub record IsTooWide (T : TreeValue) (path : List Step) (width : ℕ) : Type 0 where
  pub chain : List ℕ
  pub is_chain : IsChain (leaf_count T) path X chain
  pub heavy : width < chain_weight T chain

-- the side that the path forces; on a strip that its chains on x don't fit, no height will do
abbrev pub IsForced : TreeValue → Sheet → List Step → ℕ → Type 0
IsForced T Square path v = IsGreatest T path v
IsForced T (Strip width) path v =
    (IsTooWide T path width × (v ≡ most_number)) ⊎ ((IsTooWide T path width → ⊥) × IsGreatestOn T path Y v)

-- the axis of the chain that is shown: x where it reaches the forced side, on a strip where a chain on x is too heavy; else y
abbrev pub IsShownOn : TreeValue → Sheet → List Step → Axis → Type 0
IsShownOn T Square path X = (v : ℕ) × IsGreatest T path v × IsGreatestOn T path X v
IsShownOn T Square path Y = (v : ℕ) × IsGreatest T path v × (IsGreatestOn T path X v → ⊥)
IsShownOn T (Strip width) path X = IsTooWide T path width
IsShownOn T (Strip width) path Y = IsTooWide T path width → ⊥

-- the axis that is shown and the side that is forced, from the greatest weights x and y on the axes
abbrev pub IsForcedBy : Sheet → ℕ → ℕ → Axis → ℕ → Type 0
IsForcedBy Square x y X v = (y ≤ x) × (v ≡ x)
IsForcedBy Square x y Y v = (x < y) × (v ≡ y)
IsForcedBy (Strip width) x y X v = (width < x) × (v ≡ most_number)
IsForcedBy (Strip width) x y Y v = (x ≤ width) × (v ≡ y)

-- i is the least-numbered leaf with the greatest low coordinate on the axis
pub record IsShownLast (T : TreeValue) (path : List Step) (axis : Axis) (i : ℕ) : Type 0 where
  pub low : ℕ
  pub greatest : IsGreatestOn T path axis low
  pub is_low : IsLow T path axis i low
  pub least : (j : ℕ) → j < i → IsLow T path axis j low → ⊥

-- a is the least-numbered leaf placed before b whose low coordinate and distance make up b's low coordinate
pub record IsShownBefore (T : TreeValue) (path : List Step) (axis : Axis) (a b : ℕ) : Type 0 where
  pub placed : Places path axis a b
  pub low_a : ℕ
  pub low_b : ℕ
  pub is_a : IsLow T path axis a low_a
  pub is_b : IsLow T path axis b low_b
  pub makes_up : low_a + leaf_dist T a b ≡ low_b
  pub least : (c low : ℕ) → c < a → Places path axis c b → IsLow T path axis c low → low + leaf_dist T c b ≡ low_b → ⊥

-- each leaf of the list is the one shown before the next
abbrev pub AreShown : TreeValue → List Step → Axis → List ℕ → Type 0
AreShown T path axis [] = Unit {0}
AreShown T path axis (a ∷ []) = Unit {0}
AreShown T path axis (a ∷ b ∷ more) = IsShownBefore T path axis a b × AreShown T path axis (b ∷ more)

-- the walk that is shown for a path without a cycle
pub record IsShownWalk (T : TreeValue) (G : Sheet) (path : List Step) (axis : Axis) (leaves : List ℕ) : Type 0 where
  pub no_cycle : HasCycle (leaf_count T) path → ⊥
  pub is_chain : IsChain (leaf_count T) path axis leaves
  pub on_axis : IsShownOn T G path axis
  pub last : IsShownLast T path axis (last_of leaves)
  pub before : AreShown T path axis leaves
  pub begins : IsLow T path axis (first_of leaves) 0

-- the claim that is shown for a path without a cycle
abbrev pub IsShown : TreeValue → Sheet → List Step → Claim → Type 0
IsShown T G path (Walk axis chain) = IsShownWalk T G path axis chain
IsShown T G path (Cycle axis chain) = ⊥

-- what is shown for any path: that walk or, where the path has a cycle, a cycle of it
abbrev pub IsShownOrCycle : TreeValue → Sheet → List Step → Claim → Type 0
IsShownOrCycle T G path (Walk axis chain) = IsShownWalk T G path axis chain
IsShownOrCycle T G path (Cycle axis chain) = IsCycle (leaf_count T) path axis chain

-- the least coordinates of a path without a cycle, leaf by leaf, with what it forces and shows
pub record IsLeast (T : TreeValue) (G : Sheet) (path : List Step) (l : Least) : Type 0 where
  pub no_cycle : HasCycle (leaf_count T) path → ⊥
  pub xs_each : length l.xs ≡ leaf_count T
  pub ys_each : length l.ys ≡ leaf_count T
  pub xs : (i : ℕ) → IsLeaf T i → IsLow T path X i (slice_index l.xs (i - 1))
  pub ys : (i : ℕ) → IsLeaf T i → IsLow T path Y i (slice_index l.ys (i - 1))
  pub forced : IsForced T G path l.forced
  pub claim : IsShown T G path l.claim

-- a cycle that begins with its least leaf
pub record IsLoop (n : ℕ) (path : List Step) (axis : Axis) (leaves : List ℕ) : Type 0 where
  pub cycle : IsCycle n path axis leaves
  pub first : All (λ i. first_of leaves ≤ i) leaves

-- the claim is a cycle of the path that begins with its least leaf, on x where x has one
abbrev pub IsCycleShown : ℕ → List Step → Claim → Type 0
IsCycleShown n path (Walk axis chain) = ⊥
IsCycleShown n path (Cycle X chain) = IsLoop n path X chain
IsCycleShown n path (Cycle Y chain) = IsLoop n path Y chain × (HasCycleOn n path X → ⊥)

-- what walking a path gives: its least coordinates where it has no cycle, else a cycle
abbrev pub IsWalked : TreeValue → Sheet → List Step → Walked → Type 0
IsWalked T G path (Fine l) = IsLeast T G path l
IsWalked T G path (Found claim) = IsCycleShown (leaf_count T) path claim
