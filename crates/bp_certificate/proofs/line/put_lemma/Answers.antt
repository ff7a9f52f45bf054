use Rattle.std.proofs.Common.{◌++◌, ◌∷◌, [], map, refl}
use Rattle.std.specs.Prelude.{codes}
use Rattle.std.specs.List.{flat_map}
use Rattle.bp_text.proofs.Puts.{puts_first, puts_exit, puts_last, writes_more}
use Rattle.bp_document.specs.Lines.{word}
use Rattle.bp_certificate.specs.Lines.{fact_word, hint_word}
use Rattle.bp_certificate.proofs.Parts.{after, lemma_parts_as}
use Rattle.bp_certificate.proofs.line.put_lemma.Goals as goal

pub returns-in_err-put_denial-clause-text : goal.returns-in_err-put_denial-clause-text
returns-in_err-put_denial-clause-text g c =
    puts_first (flat_map word (map hint_word c.args.lemma.now.hints) ++ 10 ∷ []) _ _ _ _ _ _ c.from_residual.ensures.0 c.in_err-put_denial.ensures.text (lemma_parts_as c.args.lemma.now _ c.args.lemma.now.hints c.as_slice.ensures refl)

pub returns-in_err-put_hints-clause-text : goal.returns-in_err-put_hints-clause-text
returns-in_err-put_hints-clause-text g c =
    puts_exit (10 ∷ []) _ _ _ _ _ _ _ _ c.from_residual-in_err-put_hints.ensures.0 c.in_ok-put_denial.ensures.text.all c.in_err-put_hints.ensures.text (lemma_parts_as c.args.lemma.now _ _ c.as_slice.ensures c.as_slice-2.ensures)

pub returns-clause-text : goal.returns-clause-text
returns-clause-text g c =
    let l = c.args.lemma.now in
    puts_last _ _ _ _ _ _ _ (writes_more _ _ _ _ _ _ c.in_ok-put_denial.ensures.text.all c.in_ok-put_hints.ensures.text) c.put.ensures.text
    (after (codes "no" ++ (flat_map word (map fact_word c.as_slice.result.now) ++ codes " by")) (flat_map word (map hint_word c.as_slice-2.result.now)) (10 ∷ []) _ (lemma_parts_as l _ _ c.as_slice.ensures c.as_slice-2.ensures))
