use Rattle.bp_text.proofs.Puts.{loop_exit}
use Rattle.bp_certificate.specs.Lines.{lemma_line}
use Rattle.bp_certificate.proofs.Parts.{puts_at}
use Rattle.bp_certificate.proofs.write.put_each_lemma.Goals as goal

pub returns-in_err-put_lemma-clause-text : goal.returns-in_err-put_lemma-clause-text
returns-in_err-put_lemma-clause-text g c =
    loop_exit lemma_line _ _ _ _ _ c.args.lemmas.now c.loop-lemma.lemma-index c.lemma-item.result c.loop-lemma-test.true c.from_residual.ensures.0 c.loop-lemma.invariant.0
    (puts_at lemma_line _ _ _ _ _ c.lemma-item.is c.in_err-put_lemma.ensures.text)
