-- What is found of a proof, as its reasons say, and the verdict of a document.
use Rattle.std.specs.Prelude.{◌≡◌, ℕ, nat_le, Bool, ◌||◌, List, Option, None, Some, if◌then◌else◌}
use Rattle.bp_base.specs.declared.point.Floor.{Floor}
use Rattle.bp_base.specs.declared.point.Point.{Point}
use Rattle.bp_base.specs.declared.point.Sheet.{Sheet}
use Rattle.bp_base.specs.declared.refutation.Refutation.{Refutation}
use Rattle.bp_base.specs.Tree.{TreeValue}
use Rattle.bp_metric.specs.Floor.{FloorHolds}
use Rattle.bp_metric.specs.Nodes.{weighs}
use Rattle.bp_metric.specs.Valid.{Valid}
use Rattle.bp_pairs.specs.declared.valid.Flaw.{Flaw}
use Rattle.bp_pairs.specs.declared.valid.Flaw.TheVariants as flaw
use Rattle.bp_document.specs.declared.document.Document.{Document}
use Rattle.bp_check.specs.declared.found.Found.{Found}
use Rattle.bp_check.specs.declared.found.Found.TheVariants.{Sound, WrongChain, WrongSplit}
use Rattle.bp_check.specs.declared.verdict.Reason.{Reason}
use Rattle.bp_check.specs.declared.verdict.Reason.TheVariants.{Outside, TooNear, BadSplit, BadChain, BoundNotShown}
use Rattle.bp_check.specs.declared.verdict.Verdict.{Verdict}
use Rattle.bp_check.specs.declared.verdict.Verdict.TheVariants.{Yes, No}
use Rattle.bp_check.specs.Checks.{Checks, ProofFits}
use Rattle.bp_check.specs.Reasons.{IsFirstReason, IsLeast, HasBadSplit, HasBadChain}

-- what a proof weighs, where there is one
abbrev pub weight_of : TreeValue → Sheet → Option Refutation → Option ℕ
weight_of T G None = None
weight_of T G (Some r) = weighs T G r

-- what is found: the least bad split; or, where no split is bad, the least bad chain; or that the proof fits, and what it weighs
abbrev pub IsFoundOf : TreeValue → Sheet → Option Refutation → Found → Type 0
IsFoundOf T G proof (WrongSplit k) = IsLeast (HasBadSplit T G proof) k
IsFoundOf T G proof (WrongChain k) = ((l : ℕ) → HasBadSplit T G proof l → ⊥) × IsLeast (HasBadChain T G proof) k
IsFoundOf T G proof (Sound w) = ProofFits T G proof × (w ≡ weight_of T G proof)

-- the verdict of a document: yes where it checks, and else the first reason
abbrev pub IsVerdictOf : TreeValue → Document → Verdict → Type 0
IsVerdictOf T D Yes = Checks T D
IsVerdictOf T D (No reason) = IsFirstReason T D reason

-- the reason that a flaw of the points is
abbrev pub reason_of : Flaw → Reason
reason_of (flaw.Outside i) = Outside i
reason_of (flaw.Near i j) = TooNear i j

-- the number is at most the other, or at most the weight, where there is one
abbrev pub is_shown : ℕ → ℕ → Option ℕ → Bool
is_shown bound floor None = nat_le bound floor
is_shown bound floor (Some w) = nat_le bound floor || nat_le bound w

-- the verdict once the points are valid and the floor holds
abbrev pub verdict_of : ℕ → ℕ → Found → Verdict
verdict_of bound floor (Sound w) = if is_shown bound floor w then Yes else No BoundNotShown
verdict_of bound floor (WrongChain k) = No (BadChain k)
verdict_of bound floor (WrongSplit k) = No (BadSplit k)

-- the document has these parts
pub record HasParts (D : Document) (tree : TreeValue) (sheet : Sheet) (side : ℕ) (points : List Point) (floor : Floor) : Type 0 where
  pub tree_is : D.tree ≡ tree
  pub sheet_is : D.sheet ≡ sheet
  pub side_is : D.side ≡ side
  pub points_are : D.points ≡ points
  pub floor_is : D.floor ≡ floor

-- the tree is the document's, the points are valid and the floor holds
pub record IsSoundSoFar (T : TreeValue) (D : Document) : Type 0 where
  pub tree : D.tree ≡ T
  pub valid : Valid T D.sheet 1 D.side D.points
  pub floor : FloorHolds T D.sheet D.floor

-- the first reason before those of the proof, if there is one
abbrev pub IsReasonBeforeProof : TreeValue → Document → Option Reason → Type 0
IsReasonBeforeProof T D None = IsSoundSoFar T D
IsReasonBeforeProof T D (Some reason) = IsFirstReason T D reason
