use Rattle.std.proofs.Common.{◌≡◌, ◌≤◌, length, take}
use Rattle.bp_samples.proofs.paths.leaves_of.Given as goal

abbrev pub invariant-loop-k : goal.invariant-loop-k
invariant-loop-k l = record {
  within : l.k ≤ length l.chain;
  so_far : l.leaves.items ≡ take l.k l.chain;
}
