use Rattle.std.proofs.Common.{List, Some, Ok, Option, sym, subst}
use Rattle.bp_base.specs.declared.path.Pair.{Pair}
use Rattle.bp_document.specs.Words.{words}
use Rattle.bp_certificate.specs.declared.stage.Stage.{Stage}
use Rattle.bp_certificate.specs.Words.{ReadsSwap}
use Rattle.bp_certificate.specs.Stages.{Steps}
use Rattle.bp_certificate.proofs.PlanSteps.{swap_fed, swap_refused}
use Rattle.bp_certificate.proofs.plan_step.feed_swap.Goals as goal

pub returns-in-Ok-None : goal.returns-in-Ok-None
returns-in-Ok-None c =
    swap_refused c.args.bytes.now c.args.design c.args.count c.args.corner c.args.total c.args.swaps
    (subst (λ (o : Option (List Pair)). ReadsSwap (words c.args.bytes.now) (Ok o)) c.in-Ok-None.field-0-is c.in-Ok-None.ensures)

pub returns-in-Ok : goal.returns-in-Ok
returns-in-Ok c =
    let reads : ReadsSwap (words c.args.bytes.now) (Ok (Some c.in-Ok-Some.swap)) = subst (λ (o : Option (List Pair)). ReadsSwap (words c.args.bytes.now) (Ok o)) c.in-Ok-Some.field-0-is c.in-Ok-Some.ensures in
    subst (Steps (Stage.Swaps c.args.design c.args.count c.args.corner c.args.total c.args.swaps) c.args.bytes.now) (sym c.on.ensures)
    (swap_fed c.args.bytes.now c.args.design c.args.count c.args.corner c.args.total c.args.swaps c.in-Ok-Some.swap c.push.new.self c.at_swaps.result reads c.in-Ok.ensures.ok c.at_swaps.ensures)
