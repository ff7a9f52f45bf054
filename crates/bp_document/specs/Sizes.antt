-- Documents whose claims name leaves of their own tree. Their text is short enough to be read.
use Rattle.std.specs.Prelude.{ℕ, ◌≤◌, All, Option, None, Some}
use Rattle.bp_base.specs.declared.chain.Claim.{Claim}
use Rattle.bp_base.specs.declared.chain.Claim.TheVariants.{Walk, Cycle}
use Rattle.bp_base.specs.declared.refutation.Refutation.{Refutation}
use Rattle.bp_base.specs.Tree.{leaf_count}
use Rattle.bp_metric.specs.Nodes.{Part, SplitOf, ClosedBy, OpenBy, parts_of}
use Rattle.bp_document.specs.declared.document.Document.{Document}

-- the list's numbers are at most n
abbrev pub IsClaimUpTo : ℕ → Claim → Type 0
IsClaimUpTo n (Walk axis chain) = All (λ i. i ≤ n) chain
IsClaimUpTo n (Cycle axis chain) = All (λ i. i ≤ n) chain

abbrev pub IsPartUpTo : ℕ → Part → Type 0
IsPartUpTo n (SplitOf p children) = Unit {0}
IsPartUpTo n (ClosedBy claim) = IsClaimUpTo n claim
IsPartUpTo n (OpenBy claim) = IsClaimUpTo n claim

abbrev pub IsProofUpTo : ℕ → Option Refutation → Type 0
IsProofUpTo n None = Unit {0}
IsProofUpTo n (Some r) = All (IsPartUpTo n) (parts_of r)

-- no claim names a leaf that the document's tree hasn't
abbrev pub NamesLeaves : Document → Type 0
NamesLeaves D = IsProofUpTo (leaf_count D.tree) D.proof
