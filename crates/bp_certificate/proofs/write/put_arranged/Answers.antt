use Rattle.bp_text.proofs.Puts.{puts_last}
use Rattle.bp_certificate.proofs.Parts.{swaps_and_lemmas}
use Rattle.bp_certificate.proofs.write.put_arranged.Goals as goal

pub returns-clause-text : goal.returns-clause-text
returns-clause-text g c =
    puts_last _ _ _ _ _ _ _ c.in_ok-put_swaps.ensures.text.all c.put_each_lemma.ensures.text (swaps_and_lemmas _ c.args.lemmas.now.swaps _ c.args.lemmas.now.lemmas c.as_slice.ensures c.as_slice-2.ensures)
