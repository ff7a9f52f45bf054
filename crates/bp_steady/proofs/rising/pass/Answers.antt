use Rattle.std.proofs.Common.{◌+◌, sym, subst}
use Rattle.std.proofs.lemmas.Option.{slice_get-get_or}
use Rattle.bp_steady.specs.Searching.{IsRising}
use Rattle.bp_steady.specs.declared.rising.Pulled.{Pulled}
use Rattle.bp_steady.proofs.Pulling.{SoFar, so_far_met, so_far_risen, passed}
use Rattle.bp_steady.proofs.rising.pass.Goals as goal
use Rattle.bp_steady.proofs.rising.pass.Goals.{in-Met, in-Risen}

pub loop-step-preserved : goal.loop-step-preserved
loop-step-preserved c = elim c.match-pull.branch [
  | in-Met w ↦ record {
    rising = subst (IsRising c.args.metric.now.tree c.args.steps.now c.args.bounds.now) (sym (w.in-Met.ensures.0)) c.loop-step.invariant.rising;
    so_far = subst (λ (a : Pulled). SoFar c.args.metric.now.tree c.args.steps.now c.args.row.now c.pull.new.row (c.loop-step.step-index + 1) a) (sym w.all-is)
        (so_far_met c.args.metric.now.tree c.args.steps.now c.args.row.now c.loop-step.row c.loop-step.step-index _ c.loop-step.all c.pull.new.row (slice_get-get_or c.args.steps.now c.loop-step.step-index _ c.loop-step-test.true) c.loop-step.invariant.so_far w.in-Met.ensures);
  }
  | in-Risen w ↦ record {
    rising = w.in-Risen.ensures.0;
    so_far = subst (λ (a : Pulled). SoFar c.args.metric.now.tree c.args.steps.now c.args.row.now c.pull.new.row (c.loop-step.step-index + 1) a) (sym w.all-is)
        (so_far_risen c.args.metric.now.tree c.args.steps.now c.args.row.now c.loop-step.row c.loop-step.step-index c.loop-step.all c.pull.new.row c.loop-step.invariant.so_far w.in-Risen.ensures.1);
  }
]

pub returns : goal.returns
returns c = passed c.args.metric.now.tree c.args.steps.now c.args.row.now c.loop-step.row c.loop-step.step-index c.args.bounds.now c.loop-step.all c.loop-step-test.false c.loop-step.invariant.rising c.loop-step.invariant.so_far
