use Rattle.std.proofs.Common.{◌≡◌, ◌++◌, length, reverse}
use Rattle.bp_revise.proofs.searching.stack.Given as goal

abbrev pub invariant-loop-child : goal.invariant-loop-child
invariant-loop-child l = l.left ++ reverse l.children ≡ l.fn.left ++ reverse l.fn.children

abbrev pub decreases-loop-child : goal.decreases-loop-child
decreases-loop-child l = length l.children
