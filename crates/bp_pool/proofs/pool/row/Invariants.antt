use Rattle.std.proofs.Common.{◌≡◌, ℕ, ◌+◌, ◌<◌, ◌≤◌, length, get_or, map, take, All, vec_capacity}
use Rattle.std.specs.List.{range_with_len}
use Rattle.bp_pool.specs.declared.hand.Theft.{Theft}
use Rattle.bp_pool.specs.Kept.{Deque, deques_of, each_of}
use Rattle.bp_pool.specs.Opens.{ids_of, all_facts, IsLeft, IsNewTheft}
use Rattle.bp_pool.proofs.pool.row.Given as goal

abbrev pub invariant-loop-place : goal.invariant-loop-place
invariant-loop-place l = record {
  room : l.fn.hands ≤ vec_capacity l.thefts;
  count : length l.thefts.items ≡ l.place;
  owners_count : length l.owners.items ≡ l.fn.hands;
  ids : ids_of l.owners.items ≡ ids_of l.fn.owners.items;
  facts : all_facts l.owners.items ≡ all_facts l.fn.owners.items;
  done : (i : ℕ) (d : Deque) → i < l.place → IsLeft l.fn.leaves l.fn.left (get_or l.owners.items i d);
  todo : (i : ℕ) (d : Deque) → l.place ≤ i → i < l.fn.hands → IsLeft l.fn.leaves (l.fn.left + each_of l.fn.hands) (get_or l.owners.items i d);
  places : map (λ (t : Theft). t.place) l.thefts.items ≡ range_with_len 0 l.place;
  deques : deques_of l.thefts.items ≡ take l.place (ids_of l.fn.owners.items);
  thefts : All (IsNewTheft (each_of l.fn.hands) l.fn.leaves) l.thefts.items;
}
