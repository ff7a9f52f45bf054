use Rattle.std.proofs.Common.{◌≡◌, ◌+◌, ◌-◌, ◌*◌, ◌≤◌, ◌<◌, false, []}
use Rattle.bp_incumbent.specs.Tickets.{is_spent}
use Rattle.bp_workers.specs.Agrees.{Agrees, IsSameWorker}
use Rattle.bp_workers.specs.Turns.{NextIs}
use Rattle.bp_workers.proofs.worker.Worker.turns.Given as goal

abbrev pub invariant-loop-left : goal.invariant-loop-left
invariant-loop-left g l = record {
  agrees : Agrees l.metric.tree l.metric.sheet l.board l.self;
  same : IsSameWorker l.fn.self l.self × (l.self.pass.halted ≡ l.fn.self.pass.halted);
  unspent : is_spent l.board.limit l.self.pass.tickets ≡ false;
  examiner : (l.examiner ≡ l.metric) × (l.children ≡ []);
  next : NextIs l.next l.self;
  idle : (l.idle ≤ l.self.hand.idle) × (l.idle < 64);
}

abbrev pub decreases-loop-left : goal.decreases-loop-left
decreases-loop-left g l = (l.limit - l.next) * 65 + (64 - l.idle)
