-- Chains and cycles of a path: lists of leaves, each placed before the next by a step of the path.
use Rattle.std.specs.Prelude.{◌≡◌, ◌≢◌, ◌⊎◌, ℕ, ◌+◌, ◌-◌, ◌≤◌, List, [], ◌∷◌, length, All, AllPairs, slice_index}
use Rattle.bp_base.specs.declared.point.Axis.{Axis}
use Rattle.bp_base.specs.declared.point.Axis.TheVariants.{X, Y}
use Rattle.bp_base.specs.declared.path.Choice.{Choice}
use Rattle.bp_base.specs.declared.path.Choice.TheVariants.{Left, Right, Below, Above}
use Rattle.bp_base.specs.declared.path.Pair.{Pair}
use Rattle.bp_base.specs.declared.path.Step.{Step}
use Rattle.bp_base.specs.declared.chain.Claim.{Claim}
use Rattle.bp_base.specs.declared.chain.Claim.TheVariants.{Walk, Cycle}
use Rattle.bp_base.specs.Path.{IsPairOf}
use Rattle.bp_base.specs.Tree.{TreeValue}
use Rattle.bp_metric.specs.Distance.{leaf_dist}

-- the choice for the pair places leaf a before leaf b on the axis
abbrev pub PlacesBy : Axis → ℕ → ℕ → Pair → Choice → Type 0
PlacesBy X a b p Left = (a ≡ p.i) × (b ≡ p.j)
PlacesBy X a b p Right = (a ≡ p.j) × (b ≡ p.i)
PlacesBy X a b p Below = ⊥
PlacesBy X a b p Above = ⊥
PlacesBy Y a b p Left = ⊥
PlacesBy Y a b p Right = ⊥
PlacesBy Y a b p Below = (a ≡ p.i) × (b ≡ p.j)
PlacesBy Y a b p Above = (a ≡ p.j) × (b ≡ p.i)

-- each pair of the path is a pair of n leaves
abbrev pub HasPairsOf : ℕ → List Step → Type 0
HasPairsOf n path = All (λ (s : Step). IsPairOf n s.pair) path

-- some step of the path places leaf a before leaf b
abbrev pub Places : List Step → Axis → ℕ → ℕ → Type 0
Places [] axis a b = ⊥
Places (s ∷ path) axis a b = PlacesBy axis a b s.pair s.choice ⊎ Places path axis a b

-- each leaf of the list is placed before the next
abbrev pub ArePlaced : List Step → Axis → List ℕ → Type 0
ArePlaced path axis [] = Unit {0}
ArePlaced path axis (a ∷ []) = Unit {0}
ArePlaced path axis (a ∷ b ∷ more) = Places path axis a b × ArePlaced path axis (b ∷ more)

-- a chain: a non-empty list of some of n leaves without repeats, each placed before the next
pub record IsChain (n : ℕ) (path : List Step) (axis : Axis) (leaves : List ℕ) : Type 0 where
  pub some : 1 ≤ length leaves
  pub are_leaves : All (λ i. (1 ≤ i) × (i ≤ n)) leaves
  pub differ : AllPairs (λ a b. a ≢ b) leaves
  pub placed : ArePlaced path axis leaves

abbrev pub first_of : List ℕ → ℕ
first_of leaves = slice_index leaves 0

abbrev pub last_of : List ℕ → ℕ
last_of leaves = slice_index leaves (length leaves - 1)

-- a cycle: a chain of at least two leaves whose last is placed before its first
pub record IsCycle (n : ℕ) (path : List Step) (axis : Axis) (leaves : List ℕ) : Type 0 where
  pub chain : IsChain n path axis leaves
  pub two : 2 ≤ length leaves
  pub closed : Places path axis (last_of leaves) (first_of leaves)

-- the sum of the distances of neighbours
abbrev pub chain_weight : TreeValue → List ℕ → ℕ
chain_weight T [] = 0
chain_weight T (a ∷ []) = 0
chain_weight T (a ∷ b ∷ more) = leaf_dist T a b + chain_weight T (b ∷ more)

-- the claim is a chain or a cycle of the path, as it says
abbrev pub ClaimHolds : ℕ → List Step → Claim → Type 0
ClaimHolds n path (Walk axis chain) = IsChain n path axis chain
ClaimHolds n path (Cycle axis chain) = IsCycle n path axis chain

-- the path has a cycle on the axis
abbrev pub HasCycleOn : ℕ → List Step → Axis → Type 0
HasCycleOn n path axis = (leaves : List ℕ) × IsCycle n path axis leaves

-- the path has a cycle
abbrev pub HasCycle : ℕ → List Step → Type 0
HasCycle n path = (axis : Axis) × HasCycleOn n path axis
