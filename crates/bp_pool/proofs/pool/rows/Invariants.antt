use Rattle.std.proofs.Common.{◌≡◌, ◌-◌, ◌≤◌, length, All, vec_capacity}
use Rattle.std.specs.Prelude.{Vec}
use Rattle.std.specs.declared.alloc.Global.{Global}
use Rattle.bp_pool.specs.declared.hand.Theft.{Theft}
use Rattle.bp_pool.specs.Kept.{rights_of}
use Rattle.bp_pool.specs.Opens.{ids_of, all_facts, IsLeft, IsRow}
use Rattle.bp_pool.proofs.pool.rows.Given as goal

abbrev pub invariant-loop-k : goal.invariant-loop-k
invariant-loop-k l = record {
  room : l.fn.hands ≤ vec_capacity l.rows;
  count : length l.rows.items ≡ l.k;
  owners_count : length l.owners.items ≡ l.fn.hands;
  left : All (IsLeft l.fn.leaves (rights_of l.fn.hands (l.fn.hands - l.k))) l.owners.items;
  ids : ids_of l.owners.items ≡ ids_of l.fn.owners.items;
  facts : all_facts l.owners.items ≡ all_facts l.fn.owners.items;
  rows_are : All (λ (v : Vec Theft Global). IsRow l.fn.leaves l.fn.hands (ids_of l.fn.owners.items) v.items) l.rows.items;
}
