use Rattle.std.proofs.Common.{◌∷◌, [], refl}
use Rattle.std.specs.Prelude.{codes, decimal}
use Rattle.bp_text.proofs.Puts.{puts_exit, puts_last, writes_more}
use Rattle.bp_document.specs.Lines.{line}
use Rattle.bp_document.specs.Text.{edge_lines}
use Rattle.bp_certificate.proofs.Parts.{three}
use Rattle.bp_certificate.proofs.write.put_sizes.Goals as goal

pub returns-in_err-put_field-clause-text : goal.returns-in_err-put_field-clause-text
returns-in_err-put_field-clause-text g c =
    let C = c.args.certificate.now in
    puts_exit (line (codes "bound") (decimal C.bound ∷ [])) _ _ _ _ _ _ _ _ c.from_residual-in_err-put_field.ensures.0 c.in_ok-put_edges.ensures.text.all c.in_err-put_field.ensures.text refl

pub returns-clause-text : goal.returns-clause-text
returns-clause-text g c =
    let C = c.args.certificate.now in
    puts_last _ _ _ _ _ _ _ (writes_more _ _ _ _ _ _ c.in_ok-put_edges.ensures.text.all c.in_ok-put_field.ensures.text) c.put_field-2.ensures.text
    (three (edge_lines C.tree) (line (codes "side") (decimal C.side ∷ [])) (line (codes "bound") (decimal C.bound ∷ [])))
