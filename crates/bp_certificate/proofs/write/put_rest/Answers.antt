use Rattle.std.proofs.Common.{refl}
use Rattle.bp_text.proofs.Puts.{puts_exit, puts_last, writes_more}
use Rattle.bp_document.specs.Forms.{end_line}
use Rattle.bp_document.specs.Lines.{floor_line}
use Rattle.bp_certificate.specs.Text.{lemmas_text}
use Rattle.bp_certificate.proofs.Parts.{three}
use Rattle.bp_certificate.proofs.write.put_rest.Goals as goal

pub returns-in_err-put_lemmas-clause-text : goal.returns-in_err-put_lemmas-clause-text
returns-in_err-put_lemmas-clause-text g c =
    puts_exit end_line _ _ _ _ _ _ _ _ c.from_residual-in_err-put_lemmas.ensures.0 c.in_ok-put_floor.ensures.text.all c.in_err-put_lemmas.ensures.text refl

pub returns-clause-text : goal.returns-clause-text
returns-clause-text g c =
    let C = c.args.certificate.now in
    puts_last _ _ _ _ _ _ _ (writes_more _ _ _ _ _ _ c.in_ok-put_floor.ensures.text.all c.in_ok-put_lemmas.ensures.text) c.put_end.ensures.text (three (floor_line C.floor) (lemmas_text C.lemmas) end_line)
