-- What is kept of an old proof on new lengths.
use Rattle.std.specs.Prelude.{◌≡◌, ◌==◌, ℕ, nat_lt, List, [], ◌∷◌, length, Bool, false, Option, None, Some, if◌then◌else◌}
use Rattle.bp_base.specs.declared.chain.Claim.{Claim}
use Rattle.bp_base.specs.declared.chain.Claim.TheVariants.{Walk}
use Rattle.bp_base.specs.declared.path.Step.{Step}
use Rattle.bp_base.specs.declared.point.Axis.TheVariants.{X}
use Rattle.bp_base.specs.declared.point.Sheet.{Sheet}
use Rattle.bp_base.specs.declared.refutation.Refutation.{Refutation, fold-Refutation}
use Rattle.bp_base.specs.declared.refutation.Refutation.TheOpen.{Refutation-F}
use Rattle.bp_base.specs.declared.refutation.Refutation.TheVariants.{Split, Closed, Open}
use Rattle.bp_base.specs.Tree.{TreeValue}
use Rattle.bp_metric.specs.Choices.{allowed}
use Rattle.bp_metric.specs.Nodes.{counted}
use Rattle.bp_metric.specs.Refutation.{Fits}

-- two trees have the same nodes with the same parents and names; their lengths may differ
pub record AreOfOneShape (S T : TreeValue) : Type 0 where
  pub parents : S.parents ≡ T.parents
  pub names : S.names ≡ T.names

-- the walk that says nothing: leaf 1 alone
abbrev pub one_leaf : Claim
one_leaf = Walk X (1 ∷ [])

-- the claim counts with less than the start
abbrev pub falls_short : ℕ → Option ℕ → Bool
falls_short start None = false
falls_short start (Some w) = nat_lt w start

-- A split that hasn't one child for each choice that the tree allows, and a closed leaf whose walk counts with less than the start,
-- become open.
abbrev pub kept_at : TreeValue → Sheet → ℕ → Refutation-F Refutation → Refutation
kept_at T G start (Refutation-F.Split p children) = if length children == length (allowed T G p) then Split p children else Open one_leaf
kept_at T G start (Refutation-F.Closed claim) = if falls_short start (counted T G claim) then Open claim else Closed claim
kept_at T G start (Refutation-F.Open claim) = Open claim

unfoldable pub kept : TreeValue → Sheet → ℕ → Refutation → Refutation
kept T G start r = fold-Refutation Refutation (kept_at T G start) r

-- without a proof all is open
abbrev pub kept_of : TreeValue → Sheet → ℕ → Option Refutation → Refutation
kept_of T G start None = Open one_leaf
kept_of T G start (Some r) = kept T G start r

-- the refutation fits some path on some tree of the same shape
abbrev pub FitsShape : TreeValue → Sheet → Refutation → Type 0
FitsShape T G r = (S : TreeValue) × AreOfOneShape S T × ((path : List Step) × Fits S G r path)
