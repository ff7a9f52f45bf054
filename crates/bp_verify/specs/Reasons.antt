-- The first condition that a certificate fails, in the order of the reasons.
use Rattle.std.specs.Prelude.{◌≡◌, ℕ, ◌-◌, ◌<◌, ◌≤◌, List, [], length, take, slice_index_or, Option, None, Some}
use Rattle.bp_base.specs.declared.path.Pair.{Pair}
use Rattle.bp_base.specs.declared.point.Sheet.{Sheet}
use Rattle.bp_base.specs.Tree.{TreeValue}
use Rattle.bp_metric.specs.Floor.{FloorHolds}
use Rattle.bp_pairs.specs.Flaws.{IsFirstOutside, AreFirstNear}
use Rattle.bp_arrangement.specs.Swaps.{IsCorner, IsFirstBadSwap}
use Rattle.bp_lemmas.specs.Systems.{System}
use Rattle.bp_lemmas.specs.Standing.{Lemma, Stands, EndsEmpty, facts_of}
use Rattle.bp_certificate.specs.declared.certificate.Certificate.{Certificate}
use Rattle.bp_certificate.specs.declared.certificate.Lemmas.{Lemmas}
use Rattle.bp_verify.specs.declared.verdict.Reason.{Reason}
use Rattle.bp_verify.specs.declared.verdict.Reason.TheVariants.{TreeDiffers, Outside, TooNear, BadFloor, BadCorner, BadSwap, BadLemma, BoundNotShown}
use Rattle.bp_verify.specs.Certifies.{lemmas_of, system_of}

-- a corner is told, and these are two different leaves
abbrev pub HasCorner : TreeValue → Option Pair → Type 0
HasCorner T None = ⊥
HasCorner T (Some corner) = IsCorner T corner.i corner.j

-- lemma k, counted from 1, stands on those before it
abbrev pub StandsAt : System → List Lemma → ℕ → Type 0
StandsAt S lemmas k = Stands S (facts_of (take (k - 1) lemmas)) (slice_index_or lemmas (k - 1) (record { facts = []; hints = [] }))

-- the first lemma that doesn't stand
pub record IsFirstBadLemma (S : System) (lemmas : List Lemma) (n : ℕ) : Type 0 where
  pub among : (1 ≤ n) × (n ≤ length lemmas)
  pub earlier : (k : ℕ) → 1 ≤ k → k < n → StandsAt S lemmas k
  pub bad : StandsAt S lemmas n → ⊥

-- conditions of lemmas with their corner, where it is told
abbrev pub HasBadSwap : TreeValue → List (List Pair) → Option Pair → ℕ → Type 0
HasBadSwap T swaps None n = ⊥
HasBadSwap T swaps (Some corner) n = IsFirstBadSwap T corner.i corner.j swaps n

abbrev pub HasBadLemma : TreeValue → Sheet → ℕ → Lemmas → Option Pair → ℕ → Type 0
HasBadLemma T G bound L None n = ⊥
HasBadLemma T G bound L (Some corner) n = IsFirstBadLemma (system_of T G bound corner L) (lemmas_of L) n

-- conditions of a certificate with lemmas, of which one without any fails none
abbrev pub FailsCorner : TreeValue → Option Lemmas → Type 0
FailsCorner T None = ⊥
FailsCorner T (Some L) = HasCorner T L.corner → ⊥

abbrev pub FailsSwap : TreeValue → Option Lemmas → ℕ → Type 0
FailsSwap T None n = ⊥
FailsSwap T (Some L) n = HasBadSwap T L.swaps L.corner n

abbrev pub FailsLemma : TreeValue → Sheet → ℕ → Option Lemmas → ℕ → Type 0
FailsLemma T G bound None n = ⊥
FailsLemma T G bound (Some L) n = HasBadLemma T G bound L L.corner n

-- the last lemma has facts or, without lemmas, the bound is above the floor's side
abbrev pub FailsBound : ℕ → ℕ → Option Lemmas → Type 0
FailsBound bound floor None = floor < bound
FailsBound bound floor (Some L) = EndsEmpty (facts_of (lemmas_of L)) → ⊥

-- the conditions of each reason, without those before it
abbrev pub Fails : TreeValue → Certificate → Reason → Type 0
Fails T C TreeDiffers = C.tree ≡ T → ⊥
Fails T C (Outside i) = IsFirstOutside T C.sheet C.side C.points i
Fails T C (TooNear i j) = AreFirstNear T C.points i j
Fails T C BadFloor = FloorHolds T C.sheet C.floor → ⊥
Fails T C BadCorner = FailsCorner T C.lemmas
Fails T C (BadSwap number) = FailsSwap T C.lemmas number
Fails T C (BadLemma number) = FailsLemma T C.sheet C.bound C.lemmas number
Fails T C BoundNotShown = FailsBound C.bound C.floor.side C.lemmas

-- reasons stand in this order
abbrev pub rank : Reason → ℕ
rank TreeDiffers = 0
rank (Outside i) = 1
rank (TooNear i j) = 2
rank BadFloor = 3
rank BadCorner = 4
rank (BadSwap number) = 5
rank (BadLemma number) = 6
rank BoundNotShown = 7

-- The first reason why the certificate is no right design of T. It speaks of a certificate with one point per leaf of its own tree:
-- there one of them comes exactly where the certificate isn't right.
pub record IsFirstReason (T : TreeValue) (C : Certificate) (reason : Reason) : Type 0 where
  pub fails : Fails T C reason
  pub first : (other : Reason) → rank other < rank reason → Fails T C other → ⊥
