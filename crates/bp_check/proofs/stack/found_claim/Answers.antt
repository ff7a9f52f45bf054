use Rattle.std.proofs.Common.{◌∙◌, ℕ, sym, ap, subst}
use Rattle.bp_metric.specs.Chains.{ClaimHolds}
use Rattle.bp_check.specs.declared.found.Found.TheVariants.{Sound}
use Rattle.bp_check.proofs.Claims.{claim_sound, claim_wrong, leaves_of}
use Rattle.std.proofs.lemmas.Bool.{true≢false}
use Rattle.std.specs.declared.option.Option.{Option}
use Rattle.bp_check.proofs.stack.found_claim.Goals as goal

pub counted-requires : goal.counted-requires
counted-requires c =
    leaves_of c.args.metric.now.tree c.args.path.now c.args.claim.now
    (subst (λ (n : ℕ). ClaimHolds n c.args.path.now c.args.claim.now) c.leaves.ensures.count (c.claim_holds.ensures.0 c.if-claim_holds.true))

pub returns-then-claim_holds : goal.returns-then-claim_holds
returns-then-claim_holds c =
    let holds = subst (λ (n : ℕ). ClaimHolds n c.args.path.now c.args.claim.now) c.leaves.ensures.count (c.claim_holds.ensures.0 c.if-claim_holds.true) in
    ap (λ (w : Option ℕ). Sound w) c.counted.ensures
    ∙ sym (claim_sound c.args.metric.now.tree c.args.metric.now.sheet c.args.node c.args.path.now c.args.claim.now holds)

pub returns-else-claim_holds : goal.returns-else-claim_holds
returns-else-claim_holds c =
    sym (claim_wrong c.args.metric.now.tree c.args.metric.now.sheet c.args.node c.args.path.now c.args.claim.now
    (λ holds. true≢false (sym (c.claim_holds.ensures.1 (subst (λ (n : ℕ). ClaimHolds n c.args.path.now c.args.claim.now) (sym c.leaves.ensures.count) holds)) ∙ c.if-claim_holds.false)))
