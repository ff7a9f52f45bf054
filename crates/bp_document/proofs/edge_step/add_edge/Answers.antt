use Rattle.std.proofs.Common.{arith, Some, None, inl}
use Rattle.bp_document.proofs.Forms.{edge_exact}
use Rattle.bp_document.proofs.EdgeSteps.{bad_edge_form, bad_tree, refused}
use Rattle.bp_document.proofs.edge_step.add_edge.Goals as goal
use Rattle.bp_document.proofs.edge_step.add_edge.Goals.{then-edge-lt1-via-then-edge-lt1, then-edge-lt1-via-else-edge-lt1+then-edge-gt-MOST_LENGTH}

pub returns-in_default-clause-edge : goal.returns-in_default-clause-edge
returns-in_default-clause-edge c E es has count less = bad_edge_form E es c.args.bytes.now (edge_exact c.args.bytes.now None c.in_default.ensures)

pub returns-then-edge-lt1-clause-edge : goal.returns-then-edge-lt1-clause-edge
returns-then-edge-lt1-clause-edge c E es has count less =
    bad_tree E es c.args.bytes.now c.in-Some.edge (edge_exact c.args.bytes.now (Some c.in-Some.edge) c.in-Some.ensures)
    (inl (λ is. elim c.then-edge-lt1.branch [
      | then-edge-lt1-via-then-edge-lt1 w ↦ omega (arith, is, w.if-edge-lt1.true)
      | then-edge-lt1-via-else-edge-lt1+then-edge-gt-MOST_LENGTH w ↦ omega (arith, is, w.if-edge-gt-MOST_LENGTH.true)
    ]))

pub returns-in-Ok-clause-edge : goal.returns-in-Ok-clause-edge
returns-in-Ok-clause-edge c =
    (c.in-Some.edge, edge_exact c.args.bytes.now (Some c.in-Some.edge) c.in-Some.ensures, (omega (arith, c.if-edge-lt1.false), omega (arith, c.if-edge-gt-MOST_LENGTH.false)), c.in-Ok.ensures.edge)

pub returns-in-Err-clause-edge : goal.returns-in-Err-clause-edge
returns-in-Err-clause-edge c E es has count less =
    bad_tree E es c.args.bytes.now c.in-Some.edge (edge_exact c.args.bytes.now (Some c.in-Some.edge) c.in-Some.ensures)
    (refused c.args.grower.now c.add.new.self c.in-Some.edge c.in-Err.field-0 c.in-Err.ensures.edge E es has count less)
