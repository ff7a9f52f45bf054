use Rattle.std.proofs.Common.{arith}
use Rattle.bp_fold.specs.FoldText.{letter_text}
use Rattle.bp_fold.proofs.Commas.{parts_more, parts_exit, parts_all}
use Rattle.bp_fold.proofs.writing.put_each_letter.Goals as goal

pub loop-k-preserved : goal.loop-k-preserved
loop-k-preserved g c = (
  parts_more letter_text _ _ _ c.in_ok-put_letter.field-0 c.args.letters.now c.loop-k.k _ _ c.loop-k-test.true c.lead.ensures c.loop-k.invariant.0 c.in_ok-put_letter.ensures.text,
  omega (arith, c.in_ok-put_letter.ensures.cause.later, c.loop-k.invariant.1),
)

pub returns-in_err-put_letter-clause-text : goal.returns-in_err-put_letter-clause-text
returns-in_err-put_letter-clause-text g c =
    parts_exit letter_text _ _ _ _ _ c.args.letters.now c.loop-k.k _ _ c.loop-k-test.true c.from_residual.ensures.0 c.lead.ensures c.loop-k.invariant.0 c.in_err-put_letter.ensures.text

pub returns-clause-text : goal.returns-clause-text
returns-clause-text g c = parts_all letter_text _ _ _ c.args.letters.now c.loop-k.k (omega (arith, c.loop-k-test.false)) c.loop-k.invariant.0
