-- When a worker agrees with a tree and a board, on the sheet of a metric; what a call of `work` leaves as it was, and why it ended.
use Rattle.std.specs.Prelude.{◌≡◌, ℕ, ◌≤◌, Bool, true, false, List, [], ◌∷◌, ◌++◌, All, Any, Option}
use Rattle.bp_base.specs.declared.point.Placement.{Placement}
use Rattle.bp_base.specs.declared.point.Sheet.{Sheet}
use Rattle.bp_base.specs.declared.record.Left.{Left}
use Rattle.bp_base.specs.declared.record.Left.TheVariants.{AtFloor, Spent, Idle, Halted, NoMemory}
use Rattle.bp_base.specs.declared.record.Record.{Record}
use Rattle.bp_base.specs.declared.record.Task.{Task}
use Rattle.bp_base.specs.Limits.{most_number}
use Rattle.bp_base.specs.Tree.{TreeValue, leaf_count}
use Rattle.bp_incumbent.specs.Board.{BoardView, PassView}
use Rattle.bp_incumbent.specs.Tickets.{is_spent}
use Rattle.bp_pool.specs.Hands.{HandView, IsSameHand}
use Rattle.bp_pool.specs.Shares.{IsTaskOf}
use Rattle.bp_workers.specs.Worked.{IsBest, IsWorked}
use Rattle.bp_workers.specs.declared.worker.Worker.{Worker}

-- The hand is of a pool for the tree's leaves, and the pass of the board. What they did, the records and the tasks in keeping go together as `IsWorked`
-- says, and the best placement is of the least offer. The tasks in keeping are of different pairs of leaves, and the pass has seen a side that a
-- document can have.
pub record Keeps (T : TreeValue) (G : Sheet) (board : BoardView) (hand : HandView) (pass : PassView) (records : List Record) (kept : List Task) (best : Option Placement) : Type 0 where
  pub of_board : pass.board ≡ board.id
  pub of_leaves : hand.pool.leaves ≡ leaf_count T
  pub worked : IsWorked T G board.limit hand.taken hand.pushed records kept pass.tickets pass.offers
  pub best_is : IsBest T G best pass.offers
  pub of_pairs : All (IsTaskOf (leaf_count T)) kept
  pub small : Any (λ side. side ≤ most_number) pass.seen

abbrev pub Agrees : TreeValue → Sheet → BoardView → Worker → Type 0
Agrees T G board w = Keeps T G board w.hand w.pass w.records.items w.kept.items w.best

-- the same of a worker that holds a task besides what it keeps
abbrev pub Holds : TreeValue → Sheet → BoardView → Worker → Task → Type 0
Holds T G board w t = Keeps T G board w.hand w.pass w.records.items (w.kept.items ++ t ∷ []) w.best

-- the worker stays in its place
pub record IsSameWorker (old new : Worker) : Type 0 where
  pub number : new.number ≡ old.number
  pub hand : IsSameHand old.hand new.hand
  pub board : new.pass.board ≡ old.pass.board
  pub pass : new.pass.number ≡ old.pass.number

-- why a worker left
abbrev pub HasCause : ℕ → ℕ → Worker → Left → Type 0
HasCause floor limit w AtFloor = (w.pass.fresh ≡ true) × (w.pass.last ≤ floor)
HasCause floor limit w Spent = is_spent limit w.pass.tickets ≡ true
HasCause floor limit w Idle = (64 ≤ w.hand.idle) × (w.kept.items ≡ [])
HasCause floor limit w Halted = w.pass.halt_read ≡ true
HasCause floor limit w NoMemory = w.pass.halted ≡ true

abbrev pub is_no_memory : Left → Bool
is_no_memory AtFloor = false
is_no_memory Spent = false
is_no_memory Idle = false
is_no_memory Halted = false
is_no_memory NoMemory = true

abbrev pub is_last_ticket : Left → Bool
is_last_ticket AtFloor = false
is_last_ticket Spent = true
is_last_ticket Idle = false
is_last_ticket Halted = false
is_last_ticket NoMemory = false
