-- What the calls inside hand to one another.
use Rattle.std.specs.Prelude.{◌≡◌, ◌<◌, ℕ, ◌≤◌, ◌++◌, List, [], ◌∷◌, map, Option, None, Some}
use Rattle.bp_base.specs.declared.path.Pair.{Pair}
use Rattle.bp_base.specs.declared.point.Floor.{Floor}
use Rattle.bp_base.specs.declared.point.Placement.{Placement}
use Rattle.bp_base.specs.declared.point.Sheet.{Sheet}
use Rattle.bp_base.specs.Limits.{most_number}
use Rattle.bp_base.specs.Tree.{TreeValue}
use Rattle.bp_metric.specs.Distance.{most_side}
use Rattle.bp_metric.specs.Floor.{FloorHolds, IsFloor}
use Rattle.bp_metric.specs.Opening.{IsOpeningSide}
use Rattle.bp_metric.specs.Valid.{Valid}
use Rattle.bp_floor.specs.Small as limits
use Rattle.bp_lemmas.specs.Standing.{EachStands, Stands, facts_of}
use Rattle.bp_certificate.specs.declared.certificate.Certificate.{Certificate}
use Rattle.bp_certificate.specs.declared.certificate.Lemma.{Lemma}
use Rattle.bp_certificate.specs.declared.certificate.Lemmas.{Lemmas}
use Rattle.bp_certificate.specs.Ranges.{IsCertificate}
use Rattle.bp_verify.specs.Certifies.{Certifies, ProvesFrom, lemma_of}
use Rattle.bp_replay.specs.Replays.{ReplayValue}
use Rattle.bp_replay.specs.Tasks.{cornered, Task, system_of}
use Rattle.bp_solve.specs.declared.solved.Ending.{Ending}
use Rattle.bp_solve.specs.declared.solved.Ending.TheVariants.{Met, Spent, TooLong, Refused}

-- a placement that is valid at its side, and no worse than the opening
pub record IsBest (T : TreeValue) (G : Sheet) (p : Placement) : Type 0 where
  pub valid : Valid T G 1 p.side p.points
  pub small : p.side ≤ most_side
  pub no_worse : (u : ℕ) → IsOpeningSide T G u → p.side ≤ u

-- it is the tree's floor on the sheet, as a certificate tells it
pub record IsFloorOf (T : TreeValue) (G : Sheet) (f : Floor) : Type 0 where
  pub floor : IsFloor T G f
  pub holds : FloorHolds T G f
  pub small : limits.IsSmall f

-- the certificate of this bound, shown by these lemmas
abbrev pub with_bound : Certificate → ℕ → Option Lemmas → Certificate
with_bound C bound lemmas = record { tree = C.tree; sheet = C.sheet; side = C.side; bound = bound; points = C.points; floor = C.floor; lemmas = lemmas }

-- the certificate of the tree that shows no more than the floor
pub record IsPlain (T : TreeValue) (G : Sheet) (C : Certificate) : Type 0 where
  pub tree : C.tree ≡ T
  pub sheet : C.sheet ≡ G
  pub ranges : IsCertificate C
  pub certifies : Certifies T C
  pub floor : IsFloor T G C.floor
  pub bound : C.bound ≡ C.floor.side
  pub lemmas : C.lemmas ≡ None
  pub no_worse : (u : ℕ) → IsOpeningSide T G u → C.side ≤ u

-- lemmas, where there are any, prove the bound, which is above the floor and a number of a certificate
abbrev pub AreShown : TreeValue → Sheet → ℕ → ℕ → Option Lemmas → Type 0
AreShown T G floor bound None = Unit {0}
AreShown T G floor bound (Some L) = (floor < bound) × (bound ≤ most_number) × ProvesFrom T G bound L L.corner

-- the lemmas stand, each on those before it, and the replay was fed with all of them
pub record AreFed (t : Task) (lemmas : List Lemma) (r : ReplayValue) : Type 0 where
  pub replay : r ≡ record { task = t; lemmas = facts_of (map lemma_of lemmas) }
  pub stand : EachStands (system_of t) [] (map lemma_of lemmas)

-- the lemma stands on those that the replay was fed with, and then is fed to it
pub record IsFed (before : ReplayValue) (l : Lemma) (after : ReplayValue) : Type 0 where
  pub stands : Stands (system_of before.task) before.lemmas (lemma_of l)
  pub replay : after ≡ record { task = before.task; lemmas = before.lemmas ++ l.facts ∷ [] }

-- what lemmas are to prove
abbrev pub task_of : TreeValue → Sheet → ℕ → Pair → List Pair → Task
task_of T G bound corner heads = record { tree = T; sheet = G; bound = bound; ties = cornered corner; heads = heads }

-- how a run has ended whose certificate has no lemmas, though none were too long
abbrev pub IsEndWithout : ℕ → ℕ → ℕ → ℕ → Ending → Type 0
IsEndWithout side floor B conflicts Met = floor ≡ side
IsEndWithout side floor B conflicts Spent = (floor < side) × (B ≤ conflicts)
IsEndWithout side floor B conflicts TooLong = ⊥
IsEndWithout side floor B conflicts Refused = floor < side

-- and whose certificate has lemmas
abbrev pub IsEndWith : ℕ → ℕ → ℕ → ℕ → Ending → Type 0
IsEndWith side bound B conflicts Met = bound ≡ side
IsEndWith side bound B conflicts Spent = (bound < side) × (B ≤ conflicts)
IsEndWith side bound B conflicts TooLong = ⊥
IsEndWith side bound B conflicts Refused = ⊥
