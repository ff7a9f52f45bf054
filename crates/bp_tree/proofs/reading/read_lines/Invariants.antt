use Rattle.std.proofs.Common.{◌≤◌, ◌-◌, length}
use Rattle.bp_tree.specs.Edges.{IsGrowing}
use Rattle.bp_tree.proofs.SoFar.{ReadSoFar}
use Rattle.bp_tree.proofs.reading.read_lines.Given as goal

abbrev pub invariant-loop-here : goal.invariant-loop-here
invariant-loop-here l =
    (l.at ≤ length l.bytes) × (l.number ≤ l.at) × IsGrowing l.grower × ReadSoFar l.bytes l.at l.number l.grower

abbrev pub decreases-loop-here : goal.decreases-loop-here
decreases-loop-here l = length l.bytes - l.at
