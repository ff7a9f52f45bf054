-- What every search ends with: no branch lost, each record sound, the least side found, and the budget spent where branches are left.
use Rattle.std.specs.Prelude.{◌≡◌, ◌⊎◌, ℕ, ◌≤◌, List, [], All, Any, map}
use Rattle.std.specs.List.{range_with_len}
use Rattle.bp_base.specs.declared.point.Sheet.{Sheet}
use Rattle.bp_base.specs.declared.record.Record.{Record}
use Rattle.bp_base.specs.declared.record.Settled.{Settled}
use Rattle.bp_base.specs.Bags.{AreSame}
use Rattle.bp_base.specs.Tree.{TreeValue}
use Rattle.std.specs.Prelude.{None}
use Rattle.bp_metric.specs.Valid.{Valid}
use Rattle.bp_metric.specs.Coordinates.{IsForced}
use Rattle.bp_metric.specs.Next.{IsNext}
use Rattle.bp_metric.specs.Floor.{IsFloorSide}
use Rattle.bp_metric.specs.Opening.{IsOpeningSide}
use Rattle.bp_metric.specs.Records.{IsBalanced, IsSound}

-- the record's path has no next pair, and forces v
abbrev pub Solves : TreeValue → Sheet → ℕ → Record → Type 0
Solves T G v r = IsForced T G r.path v × IsNext T r.path None

-- the side is the least of the opening's and of what the solved paths force
pub record IsLeastFound (T : TreeValue) (G : Sheet) (side : ℕ) (records : List Record) : Type 0 where
  pub opening_side : ℕ
  pub is_opening_side : IsOpeningSide T G opening_side
  pub no_more : side ≤ opening_side
  pub least : (v : ℕ) → Any (Solves T G v) records → side ≤ v
  pub reached : (side ≡ opening_side) ⊎ Any (Solves T G side) records

-- nothing is left, or the budget is spent, or the side is at most the floor's
abbrev pub IsAtEnd : TreeValue → Sheet → ℕ → Settled → Type 0
IsAtEnd T G B Z = (Z.left ≡ []) ⊎ ((Z.examined ≡ B) ⊎ ((l : ℕ) × IsFloorSide T G l × (Z.side ≤ l)))

pub record IsSettled (T : TreeValue) (G : Sheet) (B : ℕ) (Z : Settled) : Type 0 where
  pub balanced : IsBalanced T G Z.records Z.left
  pub tickets : AreSame (map (λ (r : Record). r.ticket) Z.records) (range_with_len 0 Z.examined)
  pub within_budget : Z.examined ≤ B
  pub sound : All (IsSound T G Z.side) Z.records
  pub least : IsLeastFound T G Z.side Z.records
  pub valid : Valid T G 1 Z.side Z.points
  pub at_end : IsAtEnd T G B Z
