use Rattle.std.proofs.lemmas.Result.{err_from_is_err_and}
use Rattle.bp_tree.proofs.Adding.{element_added}
use Rattle.bp_tree.proofs.json.add_element.Goals as goal

pub returns-in_err-edge-clause-element : goal.returns-in_err-edge-clause-element
returns-in_err-edge-clause-element c =
    let p = err_from_is_err_and c.from_residual.result c.from_residual.ensures.1 in
    rw (p.1, p.2) (c.in_err-edge.ensures c.args.grower.now.names)

pub returns-clause-element : goal.returns-clause-element
returns-clause-element c = element_added c.args.grower.now c.add.new.self _ c.in_ok-edge.edge c.add.result c.in_ok-edge.ensures c.add.ensures.edge
