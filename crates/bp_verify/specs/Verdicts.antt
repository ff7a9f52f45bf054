-- The verdict of a certificate, and what is found of it before its lemmas are read.
use Rattle.std.specs.Prelude.{◌≡◌, ◌↔◌, ℕ, ◌≤◌, nat_le, List, length, All, true, Option, None, Some, if◌then◌else◌}
use Rattle.bp_base.specs.declared.path.Pair.{Pair}
use Rattle.bp_base.specs.declared.point.Sheet.{Sheet}
use Rattle.bp_base.specs.Tree.{TreeValue}
use Rattle.bp_metric.specs.Floor.{FloorHolds}
use Rattle.bp_metric.specs.Valid.{Valid}
use Rattle.bp_pairs.specs.declared.valid.Flaw.{Flaw}
use Rattle.bp_pairs.specs.declared.valid.Flaw.TheVariants as flaw
use Rattle.bp_arrangement.specs.Swaps.{IsCorner, IsAdmissible}
use Rattle.bp_lemmas.specs.Standing.{EndsEmpty, facts_of}
use Rattle.bp_certificate.specs.declared.certificate.Certificate.{Certificate}
use Rattle.bp_certificate.specs.declared.certificate.CertificateHead.{CertificateHead}
use Rattle.bp_certificate.specs.declared.certificate.Lemmas.{Lemmas}
use Rattle.bp_certificate.specs.declared.certificate.Plan.{Plan}
use Rattle.bp_verify.specs.declared.found.Found.{Found}
use Rattle.bp_verify.specs.declared.found.Found.TheVariants.{NoLemmas, WrongLemma, Standing}
use Rattle.bp_verify.specs.declared.verdict.Reason.{Reason}
use Rattle.bp_verify.specs.declared.verdict.Reason.TheVariants.{TreeDiffers, Outside, TooNear, BadFloor, BadCorner, BadSwap, BadLemma, BoundNotShown}
use Rattle.bp_verify.specs.declared.verdict.Verdict.{Verdict}
use Rattle.bp_verify.specs.declared.verdict.Verdict.TheVariants.{Yes, No}
use Rattle.bp_verify.specs.Certifies.{Certifies, lemmas_of, system_of}
use Rattle.bp_verify.specs.Reasons.{HasCorner, HasBadSwap, StandsAt, FailsLemma, IsFirstReason}

-- yes where it is right, and else the first reason
abbrev pub IsVerdictOf : TreeValue → Certificate → Verdict → Type 0
IsVerdictOf T C Yes = Certifies T C
IsVerdictOf T C (No reason) = IsFirstReason T C reason

-- the reason that a flaw of the points is
abbrev pub reason_of : Flaw → Reason
reason_of (flaw.Outside i) = Outside i
reason_of (flaw.Near i j) = TooNear i j

-- what stands before the lemma lines tells these lemmas' corner and swaps
abbrev pub HasPlan : Option Lemmas → Option Plan → Type 0
HasPlan None None = Unit {0}
HasPlan None (Some p) = ⊥
HasPlan (Some L) None = ⊥
HasPlan (Some L) (Some p) = (L.corner ≡ p.corner) × (L.swaps ≡ p.swaps)

-- the certificate has this head
pub record HasHead (C : Certificate) (H : CertificateHead) : Type 0 where
  pub tree : C.tree ≡ H.tree
  pub sheet : C.sheet ≡ H.sheet
  pub side : C.side ≡ H.side
  pub bound : C.bound ≡ H.bound
  pub points : C.points ≡ H.points
  pub floor : C.floor ≡ H.floor
  pub plan : HasPlan C.lemmas H.plan

-- the corner is told and is one, and all swaps are admissible
abbrev pub CanSwap : TreeValue → List (List Pair) → Option Pair → Type 0
CanSwap T swaps None = ⊥
CanSwap T swaps (Some corner) = IsCorner T corner.i corner.j × All (IsAdmissible T corner.i corner.j) swaps

-- what is found of a corner and swaps
abbrev pub IsPlanReason : TreeValue → List (List Pair) → Option Pair → Option Reason → Type 0
IsPlanReason T swaps corner None = CanSwap T swaps corner
IsPlanReason T swaps corner (Some TreeDiffers) = ⊥
IsPlanReason T swaps corner (Some (Outside i)) = ⊥
IsPlanReason T swaps corner (Some (TooNear i j)) = ⊥
IsPlanReason T swaps corner (Some BadFloor) = ⊥
IsPlanReason T swaps corner (Some BadCorner) = HasCorner T corner → ⊥
IsPlanReason T swaps corner (Some (BadSwap n)) = HasCorner T corner × HasBadSwap T swaps corner n
IsPlanReason T swaps corner (Some (BadLemma n)) = ⊥
IsPlanReason T swaps corner (Some BoundNotShown) = ⊥

abbrev pub CanSwapAll : TreeValue → Option Lemmas → Type 0
CanSwapAll T None = Unit {0}
CanSwapAll T (Some L) = CanSwap T L.swaps L.corner

-- the tree is the certificate's, the points are valid, the floor holds, and lemmas have a corner and admissible swaps
pub record IsSoundSoFar (T : TreeValue) (C : Certificate) : Type 0 where
  pub tree : C.tree ≡ T
  pub valid : Valid T C.sheet 1 C.side C.points
  pub floor : FloorHolds T C.sheet C.floor
  pub swaps : CanSwapAll T C.lemmas

-- the first reason before those of the lemmas, if there is one
abbrev pub IsReasonBefore : TreeValue → Certificate → Option Reason → Type 0
IsReasonBefore T C None = IsSoundSoFar T C
IsReasonBefore T C (Some reason) = IsFirstReason T C reason

-- all lemmas stand, on this corner
abbrev pub StandFrom : TreeValue → Sheet → ℕ → Lemmas → Option Pair → Type 0
StandFrom T G bound L None = ⊥
StandFrom T G bound L (Some corner) =
    (k : ℕ) → 1 ≤ k → k ≤ length (lemmas_of L) → StandsAt (system_of T G bound corner L) (lemmas_of L) k

abbrev pub AllStand : TreeValue → Sheet → ℕ → Option Lemmas → Type 0
AllStand T G bound None = ⊥
AllStand T G bound (Some L) = StandFrom T G bound L L.corner

-- the last lemma has no facts
abbrev pub EndsWell : Option Lemmas → Type 0
EndsWell None = ⊥
EndsWell (Some L) = EndsEmpty (facts_of (lemmas_of L))

-- what is found of the lemmas
abbrev pub IsFoundOf : TreeValue → Certificate → Found → Type 0
IsFoundOf T C NoLemmas = C.lemmas ≡ None
IsFoundOf T C (WrongLemma number) = FailsLemma T C.sheet C.bound C.lemmas number
IsFoundOf T C (Standing ends) = AllStand T C.sheet C.bound C.lemmas × ((ends ≡ true) ↔ EndsWell C.lemmas)

-- the verdict by what is found of the lemmas
abbrev pub verdict_of : ℕ → ℕ → Found → Verdict
verdict_of bound floor NoLemmas = if nat_le bound floor then Yes else No BoundNotShown
verdict_of bound floor (WrongLemma number) = No (BadLemma number)
verdict_of bound floor (Standing ends) = if ends then Yes else No BoundNotShown
