use Rattle.std.proofs.Common.{◌-◌}
use Rattle.bp_pairs.proofs.PairNumbers.{IsRow}
use Rattle.bp_pairs.proofs.numbers.pair_at.Given as goal

abbrev pub invariant-loop-i : goal.invariant-loop-i
invariant-loop-i l = IsRow l.n l.number l.i l.left

abbrev pub decreases-loop-i : goal.decreases-loop-i
decreases-loop-i l = l.n - l.i
