use Rattle.std.proofs.Common.{◌≡◌, ◌≤◌, length, take}
use Rattle.bp_turn.proofs.examining.keep_up.Given as goal

abbrev pub invariant-loop-k : goal.invariant-loop-k
invariant-loop-k l = record {
  within : l.k ≤ length l.path;
  long : length l.at ≡ l.k;
  begins : l.at ≡ take l.k l.path;
}
