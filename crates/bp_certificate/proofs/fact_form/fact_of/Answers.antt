use Rattle.bp_certificate.proofs.FactWords.{fact_read}
use Rattle.bp_certificate.proofs.fact_form.fact_of.Goals as goal

pub returns : goal.returns
returns c = fact_read c.args.word.now _ _ _ _ c.cut_before.ensures c.cut_before-2.ensures c.fact_of_parts.result c.fact_of_parts.ensures
