use Rattle.std.proofs.Common.{◌≡◌, ◌≤◌, [], length, All, vec_capacity}
use Rattle.bp_pool.specs.Shares.{facts_of}
use Rattle.bp_pool.specs.Kept.{total_of}
use Rattle.bp_pool.specs.Opens.{IsTold}
use Rattle.bp_pool.proofs.pool.tell_all.Given as goal

abbrev pub invariant-loop : goal.invariant-loop
invariant-loop l = record {
  room : l.fn.hands ≤ vec_capacity l.owners;
  count : length l.owners.items ≡ l.counter;
  told : All (IsTold (facts_of l.fn.leaves (total_of l.fn.hands) l.fn.root [])) l.owners.items;
}
