-- A search on its way: what holds of its records, of the branches left and of its best placement before it ends.
use Rattle.std.specs.Prelude.{ℕ, ◌≤◌, All, map}
use Rattle.std.specs.List.{range_with_len}
use Rattle.bp_base.specs.declared.point.Sheet.{Sheet}
use Rattle.bp_base.specs.declared.record.Record.{Record}
use Rattle.bp_base.specs.declared.record.Settled.{Settled}
use Rattle.bp_base.specs.declared.record.Task.{Task}
use Rattle.bp_base.specs.Bags.{AreSame}
use Rattle.bp_base.specs.Tree.{TreeValue}
use Rattle.bp_metric.specs.Valid.{Valid}
use Rattle.bp_metric.specs.Opening.{IsOpeningSide}
use Rattle.bp_metric.specs.Records.{IsBalanced, IsSound}
use Rattle.bp_metric.specs.Stated.{IsStated}
use Rattle.bp_core.specs.Settled.{IsLeastFound}

-- a branch left: its path is stated, and the side that it has to beat is at least the side so far, and at most the opening's
pub record IsLeft (T : TreeValue) (G : Sheet) (side : ℕ) (t : Task) : Type 0 where
  pub stated : IsStated T G t.path
  pub no_less : side ≤ t.bound
  pub no_more : (u : ℕ) → IsOpeningSide T G u → t.bound ≤ u

-- a record's branch was judged against no more than the side that its task had to beat
abbrev pub IsGiven : Record → Type 0
IsGiven r = r.bound ≤ r.given

pub record IsUnderway (T : TreeValue) (G : Sheet) (B : ℕ) (Z : Settled) : Type 0 where
  pub balanced : IsBalanced T G Z.records Z.left
  pub tickets : AreSame (map (λ (r : Record). r.ticket) Z.records) (range_with_len 0 Z.examined)
  pub within_budget : Z.examined ≤ B
  pub sound : All (IsSound T G Z.side) Z.records
  pub given : All IsGiven Z.records
  pub least : IsLeastFound T G Z.side Z.records
  pub valid : Valid T G 1 Z.side Z.points
  pub left : All (IsLeft T G Z.side) Z.left
