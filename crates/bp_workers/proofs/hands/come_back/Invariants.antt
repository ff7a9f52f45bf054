use Rattle.std.proofs.Common.{ℕ, length, vec_len}
use Rattle.bp_workers.specs.Teams.{AreBack, HaveWorked}
use Rattle.bp_workers.proofs.Seating.{IsFirst}
use Rattle.bp_workers.proofs.hands.come_back.Given as goal

abbrev pub invariant-loop-worker : goal.invariant-loop-worker
invariant-loop-worker l = record {
  first : IsFirst l.workers.items l.fn.workers.items;
  back : (side : ℕ) → (worked : HaveWorked l.metric.tree l.metric.sheet l.board side l.fn.workers.items) → AreBack l.metric.tree l.metric.sheet l.board worked.pool (length l.workers.items) (length l.fn.workers.items) l.team.hands.items l.team.passes.items l.team.records.items l.team.kept.items l.team.best;
}

abbrev pub decreases-loop-worker : goal.decreases-loop-worker
decreases-loop-worker l = vec_len l.workers
