use Rattle.std.proofs.Common.{◌≡◌, ◌+◌, ◌++◌}
use Rattle.bp_tally.specs.Pairs.{pairs_of, pairs_with, tally_of}
use Rattle.bp_tally.proofs.tallying.Counts.add_leaf.Given as goal

abbrev pub invariant-loop-other : goal.invariant-loop-other
invariant-loop-other l =
    l.self ≡ tally_of l.metric.tree l.metric.sheet l.points (pairs_with (l.before + 1) l.other ++ pairs_of l.before)
