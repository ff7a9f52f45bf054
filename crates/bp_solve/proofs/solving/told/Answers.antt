use Rattle.bp_solve.proofs.Proven.{told_solved}
use Rattle.bp_solve.proofs.solving.told.Goals as goal

pub returns : goal.returns
returns c =
    told_solved c.args.metric.now c.law_of_certificates.ensures.valid c.law_of_certificates.ensures.none_below c.law_of_certificates.ensures.bound (record { certificate = c.args.certificate; text = c.in_ok-text.text; conflicts = c.args.conflicts; ending = c.args.ending }) c.requires c.in_ok-text.ensures.1 c.in_ok-text.ensures.0
