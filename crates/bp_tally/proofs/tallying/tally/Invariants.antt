use Rattle.std.proofs.Common.{◌≡◌}
use Rattle.bp_tally.specs.Pairs.{pairs_of, tally_of}
use Rattle.bp_tally.proofs.tallying.tally.Given as goal

abbrev pub invariant-loop-before : goal.invariant-loop-before
invariant-loop-before l = l.tally ≡ tally_of l.metric.tree l.metric.sheet l.points (pairs_of l.before)
