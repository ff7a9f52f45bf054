use Rattle.std.proofs.Common.{◌∷◌, [], append_assoc, refl}
use Rattle.std.specs.Prelude.{codes, decimal}
use Rattle.bp_text.proofs.Puts.{puts_exit, puts_last, writes_more}
use Rattle.bp_document.specs.Lines.{line}
use Rattle.bp_document.specs.Text.{edge_lines}
use Rattle.bp_document.proofs.write.put_start.Goals as goal

pub returns-in_err-put_field-clause-text : goal.returns-in_err-put_field-clause-text
returns-in_err-put_field-clause-text g c =
    let D = c.args.document.now in
    puts_exit (line (codes "bound") (decimal D.bound ∷ [])) _ _ _ _ _ _ _ _ c.from_residual-in_err-put_field.ensures.0 c.in_ok-put_edges.ensures.text.all c.in_err-put_field.ensures.text
    (append_assoc (edge_lines D.tree) (line (codes "side") (decimal D.side ∷ [])) (line (codes "bound") (decimal D.bound ∷ [])))

pub returns-clause-text : goal.returns-clause-text
returns-clause-text g c =
    puts_last _ _ _ _ _ _ _ (writes_more _ _ _ _ _ _ c.in_ok-put_edges.ensures.text.all c.in_ok-put_field.ensures.text) c.put_field-2.ensures.text refl
