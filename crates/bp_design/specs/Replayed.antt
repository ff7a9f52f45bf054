-- What a document tells of a search, and what a design that replays one tells.
use Rattle.std.specs.Prelude.{◌≡◌, ◌<◌, ◌≤◌, ℕ, Bool, false, length, Some}
use Rattle.bp_base.specs.declared.point.Sheet.{Sheet}
use Rattle.bp_base.specs.declared.record.Settled.{Settled}
use Rattle.bp_base.specs.declared.refutation.Refutation.{Refutation}
use Rattle.bp_base.specs.Tree.{TreeValue}
use Rattle.bp_metric.specs.Floor.{IsFloorSide}
use Rattle.bp_metric.specs.Opening.{IsOpeningSide}
use Rattle.bp_document.specs.declared.document.Document.{Document}
use Rattle.bp_join.specs.Joined.{IsJoined}
use Rattle.bp_machine.specs.Runs.{Scheduled}

-- D has the side of Z and, without the steady answer, its points, and the split and closed nodes of its proof, where it has one, are the records
-- of Z at their paths
pub record IsToldOf (T : TreeValue) (G : Sheet) (Z : Settled) (steady : Bool) (D : Document) : Type 0 where
  pub side : D.side ≡ Z.side
  pub points : steady ≡ false → D.points ≡ Z.points
  pub proof : (r : Refutation) → D.proof ≡ Some r → IsJoined T G Z.records Z.left r

-- where the opening's side is greater than the floor's, D tells what so many hands come to by the generator's draws from this seed
abbrev pub IsReplay : TreeValue → Sheet → ℕ → ℕ → ℕ → Bool → Document → Type 0
IsReplay T G hands budget seed steady D =
    (u l : ℕ) → IsOpeningSide T G u → IsFloorSide T G l → l < u → (Z : Settled) × Scheduled T G hands budget seed Z × IsToldOf T G Z steady D

-- The same, and K is the number of that search's records; where the opening's side is no greater than the floor's there is no search, and K is 0.
pub record IsCountedReplay (T : TreeValue) (G : Sheet) (hands budget seed : ℕ) (D : Document) (K : ℕ) : Type 0 where
  pub searched :
      (u l : ℕ) → IsOpeningSide T G u → IsFloorSide T G l → l < u
      → (Z : Settled) × Scheduled T G hands budget seed Z × IsToldOf T G Z false D × (K ≡ length Z.records)
  pub unsearched : (u l : ℕ) → IsOpeningSide T G u → IsFloorSide T G l → u ≤ l → K ≡ 0
