-- A search on its way, its budget apart, and where it ends.
use Rattle.std.proofs.Common.{ℕ, ◌≤◌}
use Rattle.bp_base.specs.declared.point.Sheet.{Sheet}
use Rattle.bp_base.specs.declared.record.Settled.{Settled}
use Rattle.bp_base.specs.Tree.{TreeValue}
use Rattle.bp_core.specs.Settled.{IsAtEnd, IsSettled}
use Rattle.bp_core.specs.Underway.{IsUnderway}

module _ (T : TreeValue) (G : Sheet) (B C : ℕ) (Z : Settled) (way : IsUnderway T G B Z) where
  -- with another budget that covers what was examined
  pub covers : Z.examined ≤ C → IsUnderway T G C Z
  covers within = record {
    balanced = way.balanced;
    tickets = way.tickets;
    within_budget = within;
    sound = way.sound;
    given = way.given;
    least = way.least;
    valid = way.valid;
    left = way.left;
  }

pub ended : (T : TreeValue) (G : Sheet) (B : ℕ) (Z : Settled) → IsUnderway T G B Z → IsAtEnd T G B Z → IsSettled T G B Z
ended T G B Z way at_end = record {
  balanced = way.balanced;
  tickets = way.tickets;
  within_budget = way.within_budget;
  sound = way.sound;
  least = way.least;
  valid = way.valid;
  at_end = at_end;
}
