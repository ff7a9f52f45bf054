use Rattle.std.proofs.Common.{List, sym, subst}
use Rattle.bp_base.specs.declared.path.Pair.{Pair}
use Rattle.bp_certificate.specs.declared.stage.Stage.{Stage}
use Rattle.bp_certificate.specs.Stages.{IsAtSwaps, Steps}
use Rattle.bp_certificate.proofs.PlanSteps.{swap_count_fed, swap_count_refused}
use Rattle.bp_certificate.proofs.plan_step.feed_swap_count.Goals as goal

pub returns-in-None : goal.returns-in-None
returns-in-None c = swap_count_refused c.args.bytes.now c.args.design c.args.count c.args.corner c.in-None.ensures

pub returns-in-Some : goal.returns-in-Some
returns-in-Some c =
    let next = subst (λ (swaps : List (List Pair)). IsAtSwaps c.args.design c.args.count c.args.corner c.in-Some.total swaps c.at_swaps.result) c.new.ensures c.at_swaps.ensures in
    subst (Steps (Stage.SwapCount c.args.design c.args.count c.args.corner) c.args.bytes.now) (sym c.on.ensures)
    (swap_count_fed c.args.bytes.now c.args.design c.args.count c.args.corner c.in-Some.total c.at_swaps.result c.in-Some.ensures next)
