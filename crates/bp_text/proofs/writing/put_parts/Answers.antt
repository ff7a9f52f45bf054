use Rattle.std.proofs.Common.{ℕ, List, arith}
use Rattle.std.specs.Borrow.{Bor}
use Rattle.bp_text.proofs.Bytes.{appends_none}
use Rattle.bp_text.proofs.Puts.{loop_more, loop_exit, cause_exit}
use Rattle.bp_text.proofs.writing.put_parts.Goals as goal

pub loop-part-init : goal.loop-part-init
loop-part-init g c = (appends_none _, omega arith)

pub loop-part-preserved : goal.loop-part-preserved
loop-part-preserved g c = (
  loop_more (λ (part : Bor (List ℕ)). part.now) _ _ _ c.in_ok-put.field-0 c.args.parts.now c.loop-part.part-index _ c.loop-part-test.true c.loop-part.invariant.0 c.in_ok-put.ensures.text,
  omega (arith, c.in_ok-put.ensures.cause.later, c.loop-part.invariant.1),
)

pub returns-in_err-put-clause-text : goal.returns-in_err-put-clause-text
returns-in_err-put-clause-text g c =
    loop_exit (λ (part : Bor (List ℕ)). part.now) _ _ _ _ _ c.args.parts.now c.loop-part.part-index _ c.loop-part-test.true c.from_residual.ensures.0 c.loop-part.invariant.0 c.in_err-put.ensures.text

pub returns-in_err-put-clause-cause : goal.returns-in_err-put-clause-cause
returns-in_err-put-clause-cause g c = cause_exit _ _ _ _ _ c.from_residual.ensures.0 c.loop-part.invariant.1 c.in_err-put.ensures.cause
