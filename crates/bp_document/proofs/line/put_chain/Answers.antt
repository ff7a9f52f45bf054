use Rattle.std.proofs.Common.{◌≡◌, ◌<◌, length, get_or, sym, arith}
use Rattle.std.proofs.lemmas.Option.{get_or_from_slice_get}
use Rattle.bp_text.proofs.Puts.{loop_more, loop_exit, loop_all, puts_same}
use Rattle.bp_document.proofs.Words.{spaced, all_spaced, spaced_at}
use Rattle.bp_document.proofs.line.put_chain.Goals as goal

pub loop-k-preserved : goal.loop-k-preserved
loop-k-preserved g c =
    let here : get_or c.args.chain.now c.loop-k.k 0 ≡ c.at.result = get_or_from_slice_get c.args.chain.now c.loop-k.k c.at.result 0 c.at.ensures in
    let within : c.loop-k.k < length c.args.chain.now = omega (arith, c.loop-k-test.true, c.len-k-end.ensures.length) in (
      loop_more spaced _ _ _ c.in_ok-put_spaced.field-0 c.args.chain.now c.loop-k.k 0 within c.loop-k.invariant.0 (spaced_at _ _ _ c.at.result _ (sym here) c.in_ok-put_spaced.ensures.text),
      omega (arith, c.in_ok-put_spaced.ensures.cause.later, c.loop-k.invariant.1),
    )

pub returns-in_err-put_spaced-clause-text : goal.returns-in_err-put_spaced-clause-text
returns-in_err-put_spaced-clause-text g c =
    let here : get_or c.args.chain.now c.loop-k.k 0 ≡ c.at.result = get_or_from_slice_get c.args.chain.now c.loop-k.k c.at.result 0 c.at.ensures in
    let within : c.loop-k.k < length c.args.chain.now = omega (arith, c.loop-k-test.true, c.len-k-end.ensures.length) in
    puts_same _ _ _ _ _ (loop_exit spaced _ _ _ _ _ c.args.chain.now c.loop-k.k 0 within c.from_residual.ensures.0 c.loop-k.invariant.0 (spaced_at _ _ _ c.at.result _ (sym here) c.in_err-put_spaced.ensures.text)) (all_spaced c.args.chain.now)

pub returns-clause-text : goal.returns-clause-text
returns-clause-text g c =
    puts_same _ _ _ _ _ (loop_all spaced _ _ _ c.args.chain.now c.loop-k.k (omega (arith, c.loop-k-test.false, c.len-k-end.ensures.length)) c.loop-k.invariant.0) (all_spaced c.args.chain.now)
