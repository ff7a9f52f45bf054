use Rattle.std.proofs.Common.{arith}
use Rattle.bp_fold.specs.FoldText.{edge_text}
use Rattle.bp_fold.proofs.Commas.{parts_more, parts_exit, parts_all}
use Rattle.bp_fold.proofs.writing.put_pairs.Goals as goal

pub loop-k-preserved : goal.loop-k-preserved
loop-k-preserved g c = (
  parts_more edge_text _ _ _ c.in_ok-put_pair.field-0 c.args.edges.now c.loop-k.k _ _ c.loop-k-test.true c.lead.ensures c.loop-k.invariant.0 c.in_ok-put_pair.ensures.text,
  omega (arith, c.in_ok-put_pair.ensures.cause.later, c.loop-k.invariant.1),
)

pub returns-in_err-put_pair-clause-text : goal.returns-in_err-put_pair-clause-text
returns-in_err-put_pair-clause-text g c =
    parts_exit edge_text _ _ _ _ _ c.args.edges.now c.loop-k.k _ _ c.loop-k-test.true c.from_residual.ensures.0 c.lead.ensures c.loop-k.invariant.0 c.in_err-put_pair.ensures.text

pub returns-clause-text : goal.returns-clause-text
returns-clause-text g c = parts_all edge_text _ _ _ c.args.edges.now c.loop-k.k (omega (arith, c.loop-k-test.false)) c.loop-k.invariant.0
