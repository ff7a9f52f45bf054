use Rattle.std.proofs.Common.{refl}
use Rattle.bp_incumbent.proofs.Sides as sides
use Rattle.bp_incumbent.proofs.Draws as draws
use Rattle.bp_incumbent.proofs.Halts as halts
use Rattle.bp_incumbent.proofs.board.Board.lay.Goals as goal

pub of_words-requires : goal.of_words-requires
of_words-requires c = (c.args.side, refl, sides.begins c.args.side c.args.passes)

pub of_words-requires-2 : goal.of_words-requires-2
of_words-requires-2 c = (0, refl, draws.begins c.args.limit c.args.passes)

pub of_words-requires-3 : goal.of_words-requires-3
of_words-requires-3 c = (0, refl, halts.begins c.args.passes)
