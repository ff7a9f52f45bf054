use Rattle.std.proofs.Common.{sym, ◌∙◌}
use Rattle.std.proofs.lemmas.Bool.{false≢true}
use Rattle.std.proofs.lemmas.Result.{IfOk-weaker}
use Rattle.bp_solve.proofs.Proven.{readable_by, with_ranges}
use Rattle.bp_solve.proofs.fitting.readable_text.Goals as goal

pub returns-then-not-fits : goal.returns-then-not-fits
returns-then-not-fits c = λ readable. absurd (false≢true (sym c.if-not-fits.true ∙ c.in_ok-fits.ensures.1 readable.ranges.lemmas))

pub returns : goal.returns
returns c =
    IfOk-weaker c.text_of.result _ _ (λ o h. readable_by c.args.certificate.now (with_ranges c.args.certificate.now c.requires (c.in_ok-fits.ensures.0 c.if-not-fits.false)) o h) c.text_of.ensures
