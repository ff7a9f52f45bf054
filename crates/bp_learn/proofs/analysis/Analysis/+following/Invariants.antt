use Rattle.std.proofs.Common.{ℕ, ◌+◌, ◌*◌}
use Rattle.bp_learn.proofs.analysis.Analysis.+following.Given as goal

abbrev pub decreases-follows : goal.decreases-follows
decreases-follows l = 2 * l.depth + 1

abbrev pub decreases-is_implied : goal.decreases-is_implied
decreases-is_implied l = 2 * l.depth
