use Rattle.std.proofs.Common.{◌≡◌, ℕ, false, length}
use Rattle.bp_base.specs.Tree.{IsTree, TreeValue}
use Rattle.bp_steady.specs.Bounds.{BoundsValue}
use Rattle.bp_steady.specs.Stack.{IsShut}
use Rattle.bp_steady.proofs.path.Path.turn.Given as goal

abbrev pub invariant-loop-self : goal.invariant-loop-self
invariant-loop-self l = record {
  led : l.self.led ≡ false;
  guide : l.self.guide.items ≡ l.initial.self.guide.items;
  shut :
      (T : TreeValue) (b : BoundsValue) (budget left : ℕ)
      → IsTree T
      → IsShut T b budget l.initial.self.steps.items l.initial.self.rows.items left
      → IsShut T b budget l.self.steps.items l.self.rows.items left;
}

abbrev pub decreases-loop-self : goal.decreases-loop-self
decreases-loop-self l = length l.self.steps.items
