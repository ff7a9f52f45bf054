use Rattle.std.proofs.Common.{◌≡◌, ℕ, ◌+◌, ◌-◌, ◌<◌, ◌≤◌, length, get_or, vec_capacity}
use Rattle.bp_incumbent.specs.Board.{PassView, new_pass}
use Rattle.bp_incumbent.specs.Seats.{board_of, IsDealing}
use Rattle.bp_incumbent.proofs.board.Board.open.Given as goal

abbrev pub invariant-loop-k : goal.invariant-loop-k
invariant-loop-k l = record {
  room : l.fn.passes ≤ vec_capacity l.all;
  count : length l.all.items ≡ l.k;
  board : board_of l.seats ≡ l.board.id;
  dealing : IsDealing (l.k + 1) (l.fn.passes - l.k) l.fn.side l.seats;
  dealt : (j : ℕ) (d : PassView) → j < l.k → get_or l.all.items j d ≡ new_pass l.board.id (j + 1) l.fn.side;
}
