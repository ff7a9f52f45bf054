use Rattle.std.proofs.Common.{◌≡◌, All, vec_len}
use Rattle.bp_incumbent.specs.Board.{PassView}
use Rattle.bp_incumbent.specs.Seats.{board_of, HasTaken}
use Rattle.bp_incumbent.proofs.board.gather.Given as goal

abbrev pub invariant-loop-pass : goal.invariant-loop-pass
invariant-loop-pass l = record {
  board : board_of l.seats ≡ l.board.id;
  belong : All (λ (p : PassView). p.board ≡ l.board.id) l.passes.items;
  taken : HasTaken l.seats l.passes.items l.fn.passes.items;
}

abbrev pub decreases-loop-pass : goal.decreases-loop-pass
decreases-loop-pass l = vec_len l.passes
