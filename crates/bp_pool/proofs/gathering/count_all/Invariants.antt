use Rattle.std.proofs.Common.{◌≡◌, min, take}
use Rattle.bp_pool.specs.Hands.{top}
use Rattle.bp_pool.specs.Rows.{count_pushed, count_taken}
use Rattle.bp_pool.proofs.gathering.count_all.Given as goal

abbrev pub invariant-loop-k : goal.invariant-loop-k
invariant-loop-k l = record {
  pushed : l.pushed ≡ min (count_pushed (take l.k l.fn.hands)) top;
  taken : l.taken ≡ min (count_taken (take l.k l.fn.hands)) top;
}
