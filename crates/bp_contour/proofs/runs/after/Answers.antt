use Rattle.bp_contour.specs.Listed.{run_at}
use Rattle.bp_contour.proofs.Listing.{follows_from, run_there}
use Rattle.bp_contour.proofs.runs.after.Goals as goal

pub find-requires-clause-there : goal.find-requires-clause-there
find-requires-clause-there c =
    run_there c.args.cells.now c.args.runs.now c.requires.runs c.turn.result (run_at c.args.runs.now c.args.place).to c.turn.ensures.begins

pub returns : goal.returns
returns c =
    follows_from c.args.cells.now c.args.runs.now c.args.place c.find.result c.turn.result c.requires.place c.turn.ensures.turns c.find.ensures
