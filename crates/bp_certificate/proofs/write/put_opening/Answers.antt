use Rattle.std.proofs.Common.{◌++◌, refl}
use Rattle.bp_text.proofs.Puts.{puts_first, puts_exit, puts_last, writes_more}
use Rattle.bp_document.specs.Forms.{version_line}
use Rattle.bp_document.specs.Lines.{sheet_line}
use Rattle.bp_certificate.specs.Lines.{mirror_line}
use Rattle.bp_certificate.specs.Text.{opening_text}
use Rattle.bp_certificate.proofs.Parts.{three}
use Rattle.bp_certificate.proofs.write.put_opening.Goals as goal

pub returns-in_err-put_field-clause-text : goal.returns-in_err-put_field-clause-text
unfolding opening_text
returns-in_err-put_field-clause-text g c =
    puts_first (sheet_line c.args.sheet ++ mirror_line) _ _ _ _ _ _ c.from_residual.ensures.0 c.in_err-put_field.ensures.text refl

pub returns-in_err-put_sheet-clause-text : goal.returns-in_err-put_sheet-clause-text
unfolding opening_text
returns-in_err-put_sheet-clause-text g c =
    puts_exit mirror_line _ _ _ _ _ _ _ _ c.from_residual-in_err-put_sheet.ensures.0 c.in_ok-put_field.ensures.text.all c.in_err-put_sheet.ensures.text refl

pub returns-clause-text : goal.returns-clause-text
unfolding opening_text
returns-clause-text g c =
    puts_last _ _ _ _ _ _ _ (writes_more _ _ _ _ _ _ c.in_ok-put_field.ensures.text.all c.in_ok-put_sheet.ensures.text) c.put_keyword.ensures.text (three (version_line 3) (sheet_line c.args.sheet) mirror_line)
