use Rattle.std.proofs.Common.{ℕ, true, sym, subst, arith}
use Rattle.bp_document.specs.declared.stage.Stage.{Stage}
use Rattle.bp_document.specs.Stages.{Steps}
use Rattle.bp_document.proofs.NodeSteps.{node_fed}
use Rattle.bp_document.proofs.node_step.step_node.Goals as goal

pub returns-then-left-eq0 : goal.returns-then-left-eq0
returns-then-left-eq0 c =
    subst (λ (left : ℕ). Steps (Stage.Nodes c.args.head left c.args.most) c.args.bytes.now true c.step_end.result) (sym c.if-left-eq0.true) (c.step_end.ensures c.args.most)

pub returns-in-Ok : goal.returns-in-Ok
returns-in-Ok c =
    node_fed c.args.head c.args.left c.args.most c.args.bytes.now (omega (arith, c.if-left-eq0.false)) c.in-Ok.node c.deepest.result c.deepest.ensures c.in-Ok.ensures
