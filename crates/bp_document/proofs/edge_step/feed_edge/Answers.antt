use Rattle.std.proofs.Common.{arith}
use Rattle.std.proofs.lemmas.Result.{err_from_is_err_and}
use Rattle.bp_document.proofs.EdgeStages.{edge_fed, edge_refused, last_fed, last_refused}
use Rattle.bp_document.proofs.edge_step.feed_edge.Goals as goal

pub returns-then-left-le1-clause-stage : goal.returns-then-left-le1-clause-stage
returns-then-left-le1-clause-stage c = last_fed c.args.sheet c.args.count c.args.left c.args.memory c.args.bytes.now c.in_ok-tree.tree c.in_ok-tree.ensures c.if-left-le1.true

pub returns-in_err-tree-clause-stage : goal.returns-in_err-tree-clause-stage
returns-in_err-tree-clause-stage c =
    let p = err_from_is_err_and c.from_residual.result c.from_residual.ensures.1 in
    rw (p.1, p.2) (last_refused c.args.sheet c.args.count c.args.left c.args.memory c.args.bytes.now c.in_err-tree.field-0.0 c.in_err-tree.ensures c.if-left-le1.true)

pub returns-in_err-add_edge-clause-stage : goal.returns-in_err-add_edge-clause-stage
returns-in_err-add_edge-clause-stage c =
    let p = err_from_is_err_and c.from_residual-in_err-add_edge.result c.from_residual-in_err-add_edge.ensures.1 in
    rw (p.1, p.2) (edge_refused c.args.sheet c.args.count c.args.left c.args.memory c.args.bytes.now c.add_edge.new.grower c.in_err-add_edge.field-0.0 c.in_err-add_edge.ensures.edge (omega (arith, c.if-left-le1.false)))

pub returns-clause-stage : goal.returns-clause-stage
returns-clause-stage c =
    edge_fed c.args.sheet c.args.count c.args.left c.args.memory c.args.bytes.now c.add_edge.new.grower c.in_ok-add_edge.ensures.edge c.in_ok-add_edge.ensures.growing (omega (arith, c.if-left-le1.false))
