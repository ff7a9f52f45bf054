use Rattle.std.proofs.Common.{◌++◌, map, refl}
use Rattle.std.specs.Prelude.{codes}
use Rattle.std.specs.List.{flat_map}
use Rattle.bp_text.proofs.Puts.{puts_first, puts_exit, puts_last, writes_more}
use Rattle.bp_document.specs.Lines.{word}
use Rattle.bp_certificate.specs.Lines.{fact_word}
use Rattle.bp_certificate.proofs.Parts.{three}
use Rattle.bp_certificate.proofs.line.put_denial.Goals as goal

pub returns-in_err-put-clause-text : goal.returns-in_err-put-clause-text
returns-in_err-put-clause-text g c =
    puts_first (flat_map word (map fact_word c.args.facts.now) ++ codes " by") _ _ _ _ _ _ c.from_residual.ensures.0 c.in_err-put.ensures.text refl

pub returns-in_err-put_facts-clause-text : goal.returns-in_err-put_facts-clause-text
returns-in_err-put_facts-clause-text g c =
    puts_exit (codes " by") _ _ _ _ _ _ _ _ c.from_residual-in_err-put_facts.ensures.0 c.in_ok-put.ensures.text.all c.in_err-put_facts.ensures.text refl

pub returns-clause-text : goal.returns-clause-text
returns-clause-text g c =
    puts_last _ _ _ _ _ _ _ (writes_more _ _ _ _ _ _ c.in_ok-put.ensures.text.all c.in_ok-put_facts.ensures.text) c.put-2.ensures.text (three (codes "no") (flat_map word (map fact_word c.args.facts.now)) (codes " by"))
