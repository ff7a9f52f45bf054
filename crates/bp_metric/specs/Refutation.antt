-- Refutations that fit a path: a tree of branches, each closed by a chain or a cycle of its own path.
use Rattle.std.specs.Prelude.{◌≡◌, List, [], ◌∷◌, ◌++◌, Any}
use Rattle.bp_base.specs.declared.point.Sheet.{Sheet}
use Rattle.bp_base.specs.declared.path.Choice.{Choice}
use Rattle.bp_base.specs.declared.path.Pair.{Pair}
use Rattle.bp_base.specs.declared.path.Step.{Step}
use Rattle.bp_base.specs.declared.refutation.Refutation.{Refutation, rec-Refutation}
use Rattle.bp_base.specs.declared.refutation.Refutation.TheOpen.{Refutation-F}
use Rattle.bp_base.specs.Path.{IsPairOf}
use Rattle.bp_base.specs.Tree.{TreeValue, leaf_count}
use Rattle.bp_metric.specs.Choices.{allowed}
use Rattle.bp_metric.specs.Chains.{ClaimHolds}

-- the path with one more step
abbrev pub extended : List Step → Pair → Choice → List Step
extended path p c = path ++ (record { pair = p; choice = c }) ∷ []

-- some step of the path is for this pair
abbrev pub IsOnPath : List Step → Pair → Type 0
IsOnPath path p = Any (λ (s : Step). s.pair ≡ p) path

-- a pair of leaves that isn't on the path
pub record CanSplit (T : TreeValue) (path : List Step) (p : Pair) : Type 0 where
  pub pair : IsPairOf (leaf_count T) p
  pub new : IsOnPath path p → ⊥

-- exactly one child for each choice, in order, and each fits the path extended by the pair and its choice
abbrev pub EachFits : {A : Type 0} → (A → List Step → Type 0) → List Step → Pair → List Choice → List A → Type 0
EachFits fits path p [] [] = Unit {0}
EachFits fits path p (c ∷ cs) (r ∷ rs) = fits r (extended path p c) × EachFits fits path p cs rs
EachFits fits path p [] (r ∷ rs) = ⊥
EachFits fits path p (c ∷ cs) [] = ⊥

-- one node: A stands for its children, and `fits` says which path each of them fits
abbrev pub fits_at : TreeValue → Sheet → (A : Type 0) → (A → Refutation) → (A → List Step → Type 0) → Refutation-F A → List Step → Type 0
fits_at T G A is fits (Refutation-F.Split p children) path = CanSplit T path p × EachFits fits path p (allowed T G p) children
fits_at T G A is fits (Refutation-F.Closed claim) path = ClaimHolds (leaf_count T) path claim
fits_at T G A is fits (Refutation-F.Open claim) path = ClaimHolds (leaf_count T) path claim

-- the refutation fits the path
unfoldable pub Fits : TreeValue → Sheet → Refutation → List Step → Type 0
Fits T G r = rec-Refutation (List Step → Type 0) (fits_at T G) r
