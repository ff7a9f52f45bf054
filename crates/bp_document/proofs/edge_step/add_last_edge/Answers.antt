use Rattle.std.proofs.Common.{◌++◌, ◌∷◌, [], sym, subst, arith}
use Rattle.std.proofs.lemmas.Result.{err_from_is_err_and}
use Rattle.bp_base.specs.Tree.{TreeValue, IsTree}
use Rattle.bp_tree.specs.Edges.{HasEdges}
use Rattle.bp_document.proofs.EdgeSteps.{unfinished}
use Rattle.bp_document.proofs.edge_step.add_last_edge.Goals as goal

pub returns-in_err-add_edge : goal.returns-in_err-add_edge
returns-in_err-add_edge c =
    let p = err_from_is_err_and c.from_residual.result c.from_residual.ensures.1 in
    rw (p.1, p.2) (λ E es has count last. c.in_err-add_edge.ensures.edge E es has count (omega (arith, last)))

pub returns-in-Ok : goal.returns-in-Ok
returns-in-Ok c =
    let fed = c.in_ok-add_edge.ensures.edge in
    let whole = c.in-Ok.ensures in
    (fed.0, fed.1, fed.2, subst IsTree (sym whole.0) whole.1, λ es has. subst (λ (T : TreeValue). HasEdges T (es ++ fed.0 ∷ [])) (sym whole.0) (fed.3 es has))

pub returns-in-Err : goal.returns-in-Err
returns-in-Err c = λ E es has count last.
    unfinished c.args.grower c.add_edge.new.grower c.args.bytes.now c.in_ok-add_edge.ensures.edge c.in_ok-add_edge.ensures.growing E es has last c.in-Err.field-0 c.in-Err.ensures
