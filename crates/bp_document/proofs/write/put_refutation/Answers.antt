use Rattle.bp_text.proofs.Puts.{puts_last}
use Rattle.bp_document.proofs.BodyParts.{refutation_lines}
use Rattle.bp_document.proofs.write.put_refutation.Goals as goal

pub returns-clause-text : goal.returns-clause-text
returns-clause-text g c =
    puts_last _ _ _ _ _ _ _ c.in_ok-put_field.ensures.text.all c.put_node.ensures.text (refutation_lines c.args.refutation.now c.count_nodes.result c.count_nodes.ensures)
