use Rattle.std.proofs.Common.{ap}
use Rattle.bp_text.proofs.Puts.{puts_same}
use Rattle.bp_document.specs.Text.{proof_lines}
use Rattle.bp_document.proofs.write.put_proof.Goals as goal

pub returns-in-None-clause-text : goal.returns-in-None-clause-text
unfolding proof_lines
returns-in-None-clause-text g c = puts_same _ _ _ _ _ c.put_keyword.ensures.text (ap proof_lines c.in-None.is)

pub returns-in-Some-clause-text : goal.returns-in-Some-clause-text
unfolding proof_lines
returns-in-Some-clause-text g c = puts_same _ _ _ _ _ c.put_refutation.ensures.text (ap proof_lines c.in-Some.is)
