use Rattle.std.proofs.lemmas.Result.{err_from_is_err_and}
use Rattle.bp_tree.proofs.Adding.{line_added}
use Rattle.bp_tree.proofs.reading.add_line.Goals as goal

pub returns-in_err-edge_of-clause-line : goal.returns-in_err-edge_of-clause-line
returns-in_err-edge_of-clause-line c =
    let p = err_from_is_err_and c.from_residual.result c.from_residual.ensures.1 in
    rw (p.1, p.2) (c.in_err-edge_of.ensures.0, c.in_err-edge_of.ensures.1 c.args.grower.now.names)

pub returns-in-Some-clause-line : goal.returns-in-Some-clause-line
returns-in-Some-clause-line c = line_added c.args.grower.now c.add.new.self c.args.line.now c.in-Some.edge c.add.result (rw c.in-Some.is at c.in_ok-edge_of.ensures) c.add.ensures.edge
