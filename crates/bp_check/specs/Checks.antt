-- What makes a document a right design of a tree, as far as it says.
use Rattle.std.specs.Prelude.{◌≡◌, ◌⊎◌, ℕ, ◌≤◌, [], Option, None, Some}
use Rattle.bp_base.specs.declared.point.Sheet.{Sheet}
use Rattle.bp_base.specs.declared.refutation.Refutation.{Refutation}
use Rattle.bp_base.specs.Tree.{TreeValue}
use Rattle.bp_metric.specs.Valid.{Valid}
use Rattle.bp_metric.specs.Floor.{FloorHolds}
use Rattle.bp_metric.specs.Refutation.{Fits}
use Rattle.bp_metric.specs.Nodes.{weighs}
use Rattle.bp_document.specs.declared.document.Document.{Document}

-- the proof, where there is one, fits the empty path
abbrev pub ProofFits : TreeValue → Sheet → Option Refutation → Type 0
ProofFits T G None = Unit {0}
ProofFits T G (Some r) = Fits T G r []

-- the number is at most the weight, where there is one
abbrev pub IsAtMost : ℕ → Option ℕ → Type 0
IsAtMost n None = ⊥
IsAtMost n (Some w) = n ≤ w

-- the bound is at most what the proof weighs
abbrev pub ProofShows : TreeValue → Sheet → ℕ → Option Refutation → Type 0
ProofShows T G bound None = ⊥
ProofShows T G bound (Some r) = IsAtMost bound (weighs T G r)

abbrev pub IsBoundShown : TreeValue → Document → Type 0
IsBoundShown T D = (D.bound ≤ D.floor.side) ⊎ ProofShows T D.sheet D.bound D.proof

pub record Checks (T : TreeValue) (D : Document) : Type 0 where
  pub tree : D.tree ≡ T
  pub valid : Valid T D.sheet 1 D.side D.points
  pub floor : FloorHolds T D.sheet D.floor
  pub fits : ProofFits T D.sheet D.proof
  pub bound : IsBoundShown T D
