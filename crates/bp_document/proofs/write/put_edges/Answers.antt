use Rattle.std.specs.List.{flat_map}
use Rattle.bp_base.specs.Tree.{edges}
use Rattle.bp_text.proofs.Puts.{puts_first, puts_last}
use Rattle.bp_document.specs.Lines.{edge_line}
use Rattle.bp_document.proofs.BodyParts.{edge_lines_of}
use Rattle.bp_document.proofs.write.put_edges.Goals as goal

pub returns-in_err-put_field-clause-text : goal.returns-in_err-put_field-clause-text
returns-in_err-put_field-clause-text g c =
    puts_first (flat_map (edge_line c.args.tree.now) (edges c.args.tree.now)) _ _ _ _ _ _ c.from_residual.ensures.0 c.in_err-put_field.ensures.text (edge_lines_of c.args.tree.now c.parents.result.now c.parents.ensures.value)

pub returns-clause-text : goal.returns-clause-text
returns-clause-text g c = puts_last _ _ _ _ _ _ _ c.in_ok-put_field.ensures.text.all c.put_each_edge.ensures.text (edge_lines_of c.args.tree.now c.parents.result.now c.parents.ensures.value)
