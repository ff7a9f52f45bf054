use Rattle.std.proofs.Common.{◌≡◌, ℕ, ◌+◌, ◌<◌, length, get_or, All, vec_len}
use Rattle.std.specs.Prelude.{Vec}
use Rattle.std.specs.declared.alloc.Global.{Global}
use Rattle.bp_pool.specs.declared.hand.Theft.{Theft}
use Rattle.bp_pool.specs.Rest.{PoolView}
use Rattle.bp_pool.specs.Hands.{HandView}
use Rattle.bp_pool.specs.Kept.{Deque}
use Rattle.bp_pool.specs.Opens.{ids_of, IsLeft, IsRow, IsLaid, new_hand}
use Rattle.bp_pool.proofs.pool.seat.Given as goal

abbrev pub invariant-loop-own : goal.invariant-loop-own
invariant-loop-own l = record {
  count : length l.owners.items + length l.all.items ≡ length l.fn.owners.items;
  prefix : (i : ℕ) (d : Deque) → i < length l.owners.items → get_or l.owners.items i d ≡ get_or l.fn.owners.items i d;
  left : All (IsLeft l.fn.leaves 1) l.owners.items;
  rows_count : length l.rows.items ≡ length l.owners.items;
  rows_are : All (λ (v : Vec Theft Global). IsRow l.fn.leaves l.fn.hands (ids_of l.fn.owners.items) v.items) l.rows.items;
  made : (pool : PoolView) → IsLaid pool l.fn.hands l.fn.owners.items → (i : ℕ) (d : HandView) → i < length l.all.items → get_or l.all.items i d ≡ new_hand pool (length l.owners.items + i + 1);
}

abbrev pub decreases-loop-own : goal.decreases-loop-own
decreases-loop-own l = vec_len l.owners
