use Rattle.std.proofs.Common.{◌≡◌, ℕ, ◌-◌, ◌<◌, ◌≤◌, ◌⊎◌, true, false, None}
use Rattle.bp_pool.specs.Rounds.{Idle}
use Rattle.bp_pool.specs.Tries.{Rose, NoneFell, Grew, Stays, SomeLost, place}
use Rattle.bp_pool.proofs.tries.take_from.Given as goal

abbrev pub invariant-loop-k : goal.invariant-loop-k
invariant-loop-k g l = record {
  is_number : l.number ≡ g.Q.Tries.number l.fn.tries;
  is_hands : l.hands ≡ g.Q.Tries.hands l.fn.tries;
  from_one : 1 ≤ l.number;
  to_hands : l.number ≤ l.hands;
  few : l.hands ≤ 16;
  same : Stays (g.Q.Tries.number l.fn.tries) (g.Q.Tries.hands l.fn.tries) (g.Q.Tries.rest l.fn.tries) (g.Q.Tries.number l.tries) (g.Q.Tries.hands l.tries) (g.Q.Tries.rest l.tries);
  misses : NoneFell (g.Q.Tries.misses l.fn.tries) (g.Q.Tries.misses l.tries);
  losses : NoneFell (g.Q.Tries.lost l.fn.tries) (g.Q.Tries.lost l.tries);
  own : Rose (g.Q.Tries.misses l.fn.tries) (g.Q.Tries.misses l.tries) (g.Q.Tries.number l.fn.tries - 1);
  tried : (j : ℕ) → 1 ≤ j → j < l.k → Rose (g.Q.Tries.misses l.fn.tries) (g.Q.Tries.misses l.tries) (place l.number l.hands j) ⊎ Rose (g.Q.Tries.lost l.fn.tries) (g.Q.Tries.lost l.tries) (place l.number l.hands j);
  all_missed : l.lost ≡ false → (j : ℕ) → 1 ≤ j → j < l.k → Rose (g.Q.Tries.misses l.fn.tries) (g.Q.Tries.misses l.tries) (place l.number l.hands j);
  some_lost : l.lost ≡ true → SomeLost (g.Q.Tries.lost l.fn.tries) (g.Q.Tries.lost l.tries) (g.Q.Tries.hands l.fn.tries);
  deques : Idle (g.Q.Tries.deques l.fn.tries) (g.Q.Tries.number l.fn.tries) (g.Q.Tries.hands l.fn.tries) l.k l.lost (g.Q.Tries.deques l.tries);
  taken : Grew (g.Q.Tries.taken l.fn.tries) None (g.Q.Tries.taken l.tries);
}
