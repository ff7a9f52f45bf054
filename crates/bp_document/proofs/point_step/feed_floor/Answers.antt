use Rattle.std.proofs.Common.{List, ℕ, subst, sym, Ok}
use Rattle.bp_document.specs.declared.stage.Stage.{Stage}
use Rattle.bp_document.specs.Stages.{FeedsStage}
use Rattle.bp_document.proofs.HeadSteps.{floor_refused, floor_fed}
use Rattle.bp_document.proofs.point_step.feed_floor.Goals as goal

pub returns-in_default-clause-stage : goal.returns-in_default-clause-stage
returns-in_default-clause-stage c = floor_refused c.args.parts c.args.bytes.now c.requires c.in_default.ensures

pub returns-clause-stage : goal.returns-clause-stage
returns-clause-stage c =
    subst (λ (leaves : List ℕ). FeedsStage (Stage.Points c.args.parts) c.args.bytes.now (Ok (Stage.Proof (record c.args.parts { leaves = leaves }) c.in-Some.form.m c.in-Some.form.side)))
    (sym c.fill.ensures.value) (floor_fed c.args.parts c.args.bytes.now c.requires c.in-Some.form c.in-Some.ensures)
