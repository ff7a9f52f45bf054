use Rattle.std.proofs.Common.{◌≡◌, ◌∙◌, sym, arith, nat_cmp, Equal}
use Rattle.bp_base.specs.Bags.{choice_number}
use Rattle.bp_join.proofs.Orders.{cmp_common, cmp_step, cmp_end, decided}
use Rattle.bp_join.proofs.entry.compare.Goals as goal

pub loop-k-init : goal.loop-k-init
loop-k-init c = cmp_common c.args.first.now c.args.second.now c.common-k.result c.common-k.ensures.same

pub returns-in_default : goal.returns-in_default
returns-in_default c =
    let is : c.cmp.result ≡ nat_cmp (choice_number c.at.result.choice) (choice_number c.at-in-loop-k.result.choice) =
    c.cmp.ensures ∙ (λ i. nat_cmp (c.rank.ensures i) (c.rank-in-loop-k.ensures i)) in
    sym (c.loop-k.invariant ∙ cmp_step c.args.first.now c.args.second.now c.loop-k.k c.at.result c.at-in-loop-k.result c.cmp.result c.at.ensures.step c.at-in-loop-k.ensures.step is ∙ decided c.cmp.result _ c.in_default.not-Equal)

pub loop-k-preserved : goal.loop-k-preserved
loop-k-preserved c =
    let is : Equal ≡ nat_cmp (choice_number c.at.result.choice) (choice_number c.at-in-loop-k.result.choice) =
    sym c.in-Equal.is ∙ c.cmp.ensures ∙ (λ i. nat_cmp (c.rank.ensures i) (c.rank-in-loop-k.ensures i)) in
    c.loop-k.invariant ∙ cmp_step c.args.first.now c.args.second.now c.loop-k.k c.at.result c.at-in-loop-k.result Equal c.at.ensures.step c.at-in-loop-k.ensures.step is

pub returns : goal.returns
returns c =
    c.cmp-2.ensures
    ∙ (λ i. nat_cmp (c.len-3.ensures.length i) (c.len-4.ensures.length i))
    ∙ sym (c.loop-k.invariant ∙ cmp_end c.args.first.now c.args.second.now c.loop-k.k (omega (arith, c.min-k-end.ensures, c.len.ensures.length, c.len-2.ensures.length)) (omega (arith, c.min-k-end.ensures, c.len.ensures.length, c.len-2.ensures.length)))
