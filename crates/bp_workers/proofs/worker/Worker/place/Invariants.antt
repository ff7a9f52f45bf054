use Rattle.std.proofs.Common.{◌≡◌, ◌+◌, ◌≤◌, ◌++◌, length, All}
use Rattle.std.specs.Vec.{vec_len, vec_capacity}
use Rattle.bp_base.specs.declared.point.Sheet.{Sheet}
use Rattle.bp_base.specs.Tree.{TreeValue}
use Rattle.bp_incumbent.specs.Board.{BoardView}
use Rattle.bp_pool.specs.Shares.{IsTaskOf}
use Rattle.bp_workers.specs.Agrees.{IsSameWorker, Keeps}
use Rattle.bp_workers.proofs.worker.Worker.place.Given as goal

abbrev pub invariant-loop-child : goal.invariant-loop-child
invariant-loop-child l = record {
  room : length l.children + vec_len l.self.kept ≤ vec_capacity l.self.kept;
  pairs : All (IsTaskOf l.self.hand.pool.leaves) l.children;
  same : IsSameWorker l.fn.self l.self × (l.self.pass ≡ l.fn.self.pass);
  keeps : (T : TreeValue) (G : Sheet) (board : BoardView) → Keeps T G board l.fn.self.hand l.fn.self.pass l.fn.self.records.items (l.fn.self.kept.items ++ l.fn.children) l.fn.self.best → Keeps T G board l.self.hand l.self.pass l.self.records.items (l.self.kept.items ++ l.children) l.self.best;
}

abbrev pub decreases-loop-child : goal.decreases-loop-child
decreases-loop-child l = length l.children
