use Rattle.std.proofs.Common.{◌∙◌, ap}
use Rattle.bp_base.specs.declared.refutation.Refutation.TheVariants.{Closed, Open}
use Rattle.bp_revise.specs.Keep.{falls_short}
use Rattle.bp_revise.proofs.Keeps.{short_kept}
use Rattle.bp_revise.proofs.keeping.kept_leaf.Goals as goal

pub returns-then-falls_short : goal.returns-then-falls_short
returns-then-falls_short c =
    (λ i. Open (c.copy-claim_again.ensures i))
    ∙ (short_kept c.args.metric.now.tree c.args.metric.now.sheet c.args.start c.args.claim.now c.falls_short.result (c.falls_short.ensures ∙ ap (falls_short c.args.start) c.counted.ensures)).0 c.if-falls_short.true

pub returns-else-falls_short : goal.returns-else-falls_short
returns-else-falls_short c =
    (λ i. Closed (c.copy-claim_again.ensures i))
    ∙ (short_kept c.args.metric.now.tree c.args.metric.now.sheet c.args.start c.args.claim.now c.falls_short.result (c.falls_short.ensures ∙ ap (falls_short c.args.start) c.counted.ensures)).1 c.if-falls_short.false
