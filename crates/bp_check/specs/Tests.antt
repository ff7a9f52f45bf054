-- The conditions of splits and claims, as tests.
use Rattle.std.specs.Prelude.{ℕ, ◌==◌, ◌&&◌, ◌||◌, not, nat_le, nat_lt, Bool, true, false, List, [], ◌∷◌, length}
use Rattle.std.specs.List.{list_all, list_any}
use Rattle.bp_base.specs.declared.point.Axis.{Axis}
use Rattle.bp_base.specs.declared.point.Axis.TheVariants.{X, Y}
use Rattle.bp_base.specs.declared.path.Choice.{Choice}
use Rattle.bp_base.specs.declared.path.Choice.TheVariants.{Left, Right, Below, Above}
use Rattle.bp_base.specs.declared.path.Pair.{Pair}
use Rattle.bp_base.specs.declared.path.Step.{Step}
use Rattle.bp_base.specs.declared.chain.Claim.{Claim}
use Rattle.bp_base.specs.declared.chain.Claim.TheVariants.{Walk, Cycle}
use Rattle.bp_metric.specs.Chains.{first_of, last_of}

abbrev pub are_ends : ℕ → ℕ → ℕ → ℕ → Bool
are_ends a b i j = (a == i) && (b == j)

-- the choice for the pair places leaf a before leaf b on the axis
abbrev pub places_by : Axis → ℕ → ℕ → Pair → Choice → Bool
places_by X a b p Left = are_ends a b p.i p.j
places_by X a b p Right = are_ends a b p.j p.i
places_by X a b p Below = false
places_by X a b p Above = false
places_by Y a b p Left = false
places_by Y a b p Right = false
places_by Y a b p Below = are_ends a b p.i p.j
places_by Y a b p Above = are_ends a b p.j p.i

abbrev pub places : List Step → Axis → ℕ → ℕ → Bool
places [] axis a b = false
places (s ∷ path) axis a b = places_by axis a b s.pair s.choice || places path axis a b

abbrev pub are_placed : List Step → Axis → List ℕ → Bool
are_placed path axis [] = true
are_placed path axis (a ∷ []) = true
are_placed path axis (a ∷ b ∷ more) = places path axis a b && are_placed path axis (b ∷ more)

abbrev pub differ : List ℕ → Bool
differ [] = true
differ (a ∷ more) = list_all (λ b. not (a == b)) more && differ more

abbrev pub is_leaf_of : ℕ → ℕ → Bool
is_leaf_of n i = nat_le 1 i && nat_le i n

abbrev pub is_chain : ℕ → List Step → Axis → List ℕ → Bool
is_chain n path axis leaves =
    nat_le 1 (length leaves) && (list_all (is_leaf_of n) leaves && (differ leaves && are_placed path axis leaves))

abbrev pub is_cycle : ℕ → List Step → Axis → List ℕ → Bool
is_cycle n path axis leaves =
    is_chain n path axis leaves && (nat_le 2 (length leaves) && places path axis (last_of leaves) (first_of leaves))

-- the claim is a chain or a cycle of the path, as it says
unfoldable pub claim_passes : ℕ → List Step → Claim → Bool
claim_passes n path (Walk axis chain) = is_chain n path axis chain
claim_passes n path (Cycle axis chain) = is_cycle n path axis chain

abbrev pub is_same_pair : Pair → Pair → Bool
is_same_pair p r = are_ends p.i p.j r.i r.j

abbrev pub stands_on : List Step → Pair → Bool
stands_on path p = list_any (λ (s : Step). is_same_pair s.pair p) path

-- the pair is one of n leaves that isn't on the path
unfoldable pub may_split : ℕ → List Step → Pair → Bool
may_split n path p = nat_le 1 p.i && (nat_lt p.i p.j && (nat_le p.j n && not (stands_on path p)))
