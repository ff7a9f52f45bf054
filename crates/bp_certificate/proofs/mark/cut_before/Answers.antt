use Rattle.std.proofs.Common.{arith, sym, ◌∙◌}
use Rattle.bp_certificate.proofs.Cutting.{cut_here, cut_none}
use Rattle.bp_certificate.proofs.mark.cut_before.Goals as goal

pub returns-then-is_marked : goal.returns-then-is_marked
returns-then-is_marked c = cut_here c.args.mark c.args.bytes.now c.loop-at.at c.loop-at-test.true c.loop-at.invariant (sym c.is_marked.ensures ∙ c.if-is_marked.true)

pub returns : goal.returns
returns c = cut_none c.args.mark c.args.bytes.now (λ k less. c.loop-at.invariant k (omega (arith, c.loop-at-test.false, less)))
