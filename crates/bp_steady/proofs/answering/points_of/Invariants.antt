use Rattle.std.proofs.Common.{◌≡◌, ◌*◌, take}
use Rattle.bp_steady.specs.Questions.{coordinates}
use Rattle.bp_steady.proofs.answering.points_of.Given as goal

abbrev pub invariant-loop-k : goal.invariant-loop-k
invariant-loop-k l = coordinates l.points.items ≡ take (2 * l.k) l.bounds.low
