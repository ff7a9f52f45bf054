use Rattle.std.proofs.Common.{◌++◌, Some}
use Rattle.std.specs.List.{flat_map}
use Rattle.bp_text.proofs.Puts.{puts_first, puts_exit, puts_last, writes_more}
use Rattle.bp_certificate.specs.Lines.{corner_line, count_line, lemma_line}
use Rattle.bp_certificate.specs.Text.{swap_lines}
use Rattle.bp_certificate.proofs.Parts.{after, search_as}
use Rattle.bp_certificate.proofs.write.put_search.Goals as goal

pub returns-in_err-put_field-clause-text : goal.returns-in_err-put_field-clause-text
returns-in_err-put_field-clause-text g c =
    let L = c.args.lemmas.now in
    puts_first (corner_line L.corner ++ (swap_lines L.swaps ++ flat_map lemma_line L.lemmas)) _ _ _ _ _ _ c.from_residual.ensures.0 c.in_err-put_field.ensures.text (search_as L _ c.len.ensures)

pub returns-in_err-put_corner-clause-text : goal.returns-in_err-put_corner-clause-text
returns-in_err-put_corner-clause-text g c =
    let L = c.args.lemmas.now in
    puts_exit (swap_lines L.swaps ++ flat_map lemma_line L.lemmas) _ _ _ _ _ _ _ _ c.from_residual-in_err-put_corner.ensures.0 c.in_ok-put_field.ensures.text.all c.in_err-put_corner.ensures.text (search_as L _ c.len.ensures)

pub returns-clause-text : goal.returns-clause-text
returns-clause-text g c =
    let L = c.args.lemmas.now in
    puts_last _ _ _ _ _ _ _ (writes_more _ _ _ _ _ _ c.in_ok-put_field.ensures.text.all c.in_ok-put_corner.ensures.text) c.put_arranged.ensures.text
    (after (count_line (Some c.len.result)) (corner_line L.corner) (swap_lines L.swaps ++ flat_map lemma_line L.lemmas) _ (search_as L _ c.len.ensures))
