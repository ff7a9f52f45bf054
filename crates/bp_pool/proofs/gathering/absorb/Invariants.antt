use Rattle.std.proofs.Common.{◌≡◌, ℕ, ◌+◌, All, slice_index, vec_len}
use Rattle.std.specs.List.{sum_by}
use Rattle.bp_base.specs.declared.record.Task.{Task}
use Rattle.bp_pool.specs.Rows.{counts_of, all_pushed, all_taken, AreOwners, IsOf, rights_at, pushed_in, taken_in}
use Rattle.bp_pool.specs.Opens.{ids_of, all_facts}
use Rattle.bp_pool.proofs.gathering.absorb.Given as goal

abbrev pub invariant-loop-theft : goal.invariant-loop-theft
invariant-loop-theft l = record {
  owners : AreOwners l.owners.items;
  ids : ids_of l.owners.items ≡ ids_of l.fn.owners.items;
  facts : all_facts l.owners.items ≡ all_facts l.fn.owners.items;
  passes : All (IsOf (ids_of l.fn.owners.items)) l.thefts.items;
  rights : (j : ℕ) → slice_index (counts_of l.owners.items) j + sum_by (rights_at j) l.thefts.items ≡ slice_index (counts_of l.fn.owners.items) j + sum_by (rights_at j) l.fn.thefts.items;
  pushed : (h : Task → ℕ) → all_pushed h l.owners.items + sum_by (pushed_in h) l.thefts.items ≡ all_pushed h l.fn.owners.items + sum_by (pushed_in h) l.fn.thefts.items;
  taken : (h : Task → ℕ) → all_taken h l.owners.items + sum_by (taken_in h) l.thefts.items ≡ all_taken h l.fn.owners.items + sum_by (taken_in h) l.fn.thefts.items;
}

abbrev pub decreases-loop-theft : goal.decreases-loop-theft
decreases-loop-theft l = vec_len l.thefts
