use Rattle.std.proofs.Common.{◌++◌, refl}
use Rattle.bp_text.proofs.Puts.{puts_first, puts_exit, puts_last, writes_more}
use Rattle.bp_document.specs.Forms.{end_line}
use Rattle.bp_document.specs.Lines.{floor_line}
use Rattle.bp_certificate.specs.Text.{certificate_text, lemmas_text, opening_text, places_text}
use Rattle.bp_certificate.proofs.Parts.{three}
use Rattle.bp_certificate.proofs.write.write_certificate.Goals as goal

pub returns-in_err-put_opening-clause-text : goal.returns-in_err-put_opening-clause-text
unfolding certificate_text
returns-in_err-put_opening-clause-text g c =
    let C = c.args.certificate.now in
    puts_first (places_text C ++ (floor_line C.floor ++ (lemmas_text C.lemmas ++ end_line))) _ _ _ _ _ _ c.from_residual.ensures.0 c.in_err-put_opening.ensures.text refl

pub returns-in_err-put_places-clause-text : goal.returns-in_err-put_places-clause-text
unfolding certificate_text
returns-in_err-put_places-clause-text g c =
    let C = c.args.certificate.now in
    puts_exit (floor_line C.floor ++ (lemmas_text C.lemmas ++ end_line)) _ _ _ _ _ _ _ _ c.from_residual-in_err-put_places.ensures.0 c.in_ok-put_opening.ensures.text.all c.in_err-put_places.ensures.text refl

pub returns-clause-text : goal.returns-clause-text
unfolding certificate_text
returns-clause-text g c =
    let C = c.args.certificate.now in
    puts_last _ _ _ _ _ _ _ (writes_more _ _ _ _ _ _ c.in_ok-put_opening.ensures.text.all c.in_ok-put_places.ensures.text) c.put_rest.ensures.text
    (three (opening_text C.sheet) (places_text C) (floor_line C.floor ++ (lemmas_text C.lemmas ++ end_line)))
