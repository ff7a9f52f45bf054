use Rattle.std.proofs.Common.{◌++◌, ◌∷◌, [], refl, append_assoc}
use Rattle.std.specs.Prelude.{codes, decimal}
use Rattle.bp_text.proofs.Puts.{puts_first, puts_exit, puts_last, writes_more}
use Rattle.bp_document.specs.Lines.{line, sheet_line}
use Rattle.bp_document.specs.Text.{body_text, doc_text}
use Rattle.bp_document.proofs.write.write_document.Goals as goal

pub returns-in_err-put_field-clause-text : goal.returns-in_err-put_field-clause-text
unfolding doc_text
returns-in_err-put_field-clause-text g c =
    let D = c.args.document.now in
    puts_first (sheet_line D.sheet ++ body_text D) _ _ _ _ _ _ c.from_residual.ensures.0 c.in_err-put_field.ensures.text (append_assoc (line (codes "boxpleat") (decimal 2 ∷ [])) (sheet_line D.sheet) (body_text D))

pub returns-in_err-put_sheet-clause-text : goal.returns-in_err-put_sheet-clause-text
unfolding doc_text
returns-in_err-put_sheet-clause-text g c =
    let D = c.args.document.now in
    puts_exit (body_text D) _ _ _ _ _ _ _ _ c.from_residual-in_err-put_sheet.ensures.0 c.in_ok-put_field.ensures.text.all c.in_err-put_sheet.ensures.text (append_assoc (line (codes "boxpleat") (decimal 2 ∷ [])) (sheet_line D.sheet) (body_text D))

pub returns-clause-text : goal.returns-clause-text
unfolding doc_text
returns-clause-text g c =
    puts_last _ _ _ _ _ _ _ (writes_more _ _ _ _ _ _ c.in_ok-put_field.ensures.text.all c.in_ok-put_sheet.ensures.text) c.put_body.ensures.text refl
