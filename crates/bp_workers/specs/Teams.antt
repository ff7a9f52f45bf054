-- All workers of a board and a pool: as they are hired, once they have worked, and what they come back with.
use Rattle.std.specs.Prelude.{◌≡◌, ℕ, ◌+◌, ◌<◌, Bool, false, List, All, Option, None, Some, length, map, slice_index_or}
use Rattle.std.specs.List.{flat_map, range_with_len}
use Rattle.bp_base.specs.declared.point.Placement.{Placement}
use Rattle.bp_base.specs.declared.point.Sheet.{Sheet}
use Rattle.bp_base.specs.declared.record.Left.{Left}
use Rattle.bp_base.specs.declared.record.Record.{Record}
use Rattle.bp_base.specs.declared.record.Task.{Task}
use Rattle.bp_base.specs.Bags.{AreSame}
use Rattle.bp_base.specs.Tree.{TreeValue, leaf_count}
use Rattle.bp_incumbent.specs.Board.{BoardView, PassView, new_pass}
use Rattle.bp_incumbent.specs.Tickets.{is_spent}
use Rattle.bp_pool.specs.Hands.{HandView}
use Rattle.bp_pool.specs.Opens.{new_hand}
use Rattle.bp_pool.specs.Rest.{PoolView}
use Rattle.bp_pool.specs.Rows.{IsWhole, pushed_by_all, taken_by_all}
use Rattle.bp_workers.specs.Agrees.{Agrees, is_no_memory}
use Rattle.bp_workers.specs.Gathered.{root}
use Rattle.bp_workers.specs.Worked.{IsBest, IsWorked}
use Rattle.bp_workers.specs.declared.hands.Team.{Team}
use Rattle.bp_workers.specs.declared.worker.Worker.{Worker}

-- the k-th worker, from 0 on, has the hand of the next number, and its pass is of the board
pub record IsSeated (board : BoardView) (pool : PoolView) (k : ℕ) (w : Worker) : Type 0 where
  pub of_pool : w.hand.pool ≡ pool
  pub number : w.hand.number ≡ k + 1
  pub of_board : w.pass.board ≡ board.id

-- the pool and the board are for as many workers, and the pool's root is the tree's
pub record AreSeated (T : TreeValue) (board : BoardView) (side : ℕ) (pool : PoolView) (ws : List Worker) : Type 0 where
  pub some : 0 < length ws
  pub root_is : pool.root ≡ root side
  pub leaves_are : pool.leaves ≡ leaf_count T
  pub deques : length pool.deques ≡ length ws
  pub passes : board.passes ≡ length ws
  pub each : (k : ℕ) (d : Worker) → k < length ws → IsSeated board pool k (slice_index_or ws k d)

-- the worker has done nothing, and has the hand and the pass of this number
pub record IsNewWorker (T : TreeValue) (G : Sheet) (board : BoardView) (pool : PoolView) (side number : ℕ) (w : Worker) : Type 0 where
  pub hand : w.hand ≡ new_hand pool number
  pub pass : w.pass ≡ new_pass board.id number side
  pub agrees : Agrees T G board w

-- each agrees, and none is spent
pub record AreHired (T : TreeValue) (G : Sheet) (board : BoardView) (side : ℕ) (ws : List Worker) : Type 0 where
  pub pool : PoolView
  pub seated : AreSeated T board side pool ws
  pub agree : All (Agrees T G board) ws
  pub unspent : All (λ (w : Worker). is_spent board.limit w.pass.tickets ≡ false) ws

-- the answer was that memory ran out
abbrev pub is_out : Option Left → Bool
is_out None = false
is_out (Some left) = is_no_memory left

-- the worker has answered, and agrees where memory didn't run out
pub record HasEnded (T : TreeValue) (G : Sheet) (board : BoardView) (w : Worker) : Type 0 where
  pub left : Left
  pub is : w.ended ≡ Some left
  pub agrees : is_no_memory left ≡ false → Agrees T G board w

pub record HaveWorked (T : TreeValue) (G : Sheet) (board : BoardView) (side : ℕ) (ws : List Worker) : Type 0 where
  pub pool : PoolView
  pub seated : AreSeated T board side pool ws
  pub ended : All (HasEnded T G board) ws

-- those from the last one on are back, but for so many: what they did together is what one worker could have done
pub record AreBack (T : TreeValue) (G : Sheet) (board : BoardView) (pool : PoolView) (left all : ℕ) (hands : List HandView) (passes : List PassView) (records : List Record) (kept : List Task) (best : Option Placement) : Type 0 where
  pub count : left + length hands ≡ all
  pub as_many : length passes ≡ length hands
  pub of_pool : All (λ (v : HandView). v.pool ≡ pool) hands
  pub numbers : AreSame (map (λ (v : HandView). v.number) hands) (range_with_len (left + 1) (length hands))
  pub of_board : All (λ (p : PassView). p.board ≡ board.id) passes
  pub worked : IsWorked T G board.limit (taken_by_all hands) (pushed_by_all hands) records kept (flat_map (λ (p : PassView). p.tickets) passes) (flat_map (λ (p : PassView). p.offers) passes)
  pub best_is : IsBest T G best (flat_map (λ (p : PassView). p.offers) passes)

-- all hands and passes are back, and what they did together is what one worker could have done
pub record IsTeam (T : TreeValue) (G : Sheet) (board : BoardView) (side : ℕ) (team : Team) : Type 0 where
  pub pool : PoolView
  pub root_is : pool.root ≡ root side
  pub hands : IsWhole pool team.hands.items
  pub passes : All (λ (p : PassView). p.board ≡ board.id) team.passes.items
  pub count : length team.passes.items ≡ board.passes
  pub worked : IsWorked T G board.limit (taken_by_all team.hands.items) (pushed_by_all team.hands.items) team.records.items team.kept.items (flat_map (λ (p : PassView). p.tickets) team.passes.items) (flat_map (λ (p : PassView). p.offers) team.passes.items)
  pub best_is : IsBest T G team.best (flat_map (λ (p : PassView). p.offers) team.passes.items)
