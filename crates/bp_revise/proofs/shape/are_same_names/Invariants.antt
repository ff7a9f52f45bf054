use Rattle.std.proofs.Common.{◌≡◌, take, length}
use Rattle.bp_revise.proofs.shape.are_same_names.Given as goal

abbrev pub invariant-loop-k : goal.invariant-loop-k
invariant-loop-k l = record {
  long : length l.others ≡ length l.names;
  same : take l.k l.others ≡ take l.k l.names;
}
