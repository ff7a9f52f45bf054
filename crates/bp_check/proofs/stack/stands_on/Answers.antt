use Rattle.std.proofs.Common.{◌∙◌, sym, ap, arith, List}
use Rattle.std.proofs.lemmas.List.{take_all}
use Rattle.std.proofs.lemmas.List.Folds.{list_any_at}
use Rattle.std.proofs.lemmas.Option.{get_or_from_slice_get}
use Rattle.bp_base.specs.declared.path.Step.{Step}
use Rattle.bp_check.specs.Tests.{is_same_pair, stands_on}
use Rattle.bp_check.proofs.Claims.{none_more}
use Rattle.bp_check.proofs.stack.stands_on.Goals as goal

pub returns-then-eq : goal.returns-then-eq
returns-then-eq c =
    let step = c.at-step.result in
    let at = get_or_from_slice_get c.args.path.now c.loop-k.k step step c.at-step.ensures in
    sym (list_any_at (λ (s : Step). is_same_pair s.pair c.args.pair) c.args.path.now c.loop-k.k step (omega arith)
    (ap (λ (s : Step). is_same_pair s.pair c.args.pair) at ∙ sym c.eq.ensures ∙ c.if-eq.true))

pub loop-k-preserved : goal.loop-k-preserved
loop-k-preserved c =
    let step = c.at-step.result in
    let at = get_or_from_slice_get c.args.path.now c.loop-k.k step step c.at-step.ensures in
    none_more (λ (s : Step). is_same_pair s.pair c.args.pair) c.args.path.now c.loop-k.k step (omega arith) c.loop-k.invariant
    (ap (λ (s : Step). is_same_pair s.pair c.args.pair) at ∙ sym c.eq.ensures ∙ c.if-eq.false)

pub returns : goal.returns
returns c = sym (ap (λ (l : List Step). stands_on l c.args.pair) (sym (take_all c.loop-k.k c.args.path.now (omega arith))) ∙ c.loop-k.invariant)
