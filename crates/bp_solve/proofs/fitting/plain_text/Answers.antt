use Rattle.std.proofs.Common.{Some}
use Rattle.bp_solve.proofs.Fitted.{short_plain}
use Rattle.bp_solve.proofs.Proven.{readable_by}
use Rattle.bp_solve.proofs.fitting.plain_text.Goals as goal

pub returns : goal.returns
returns c =
    let h = rw c.in-Some.is at c.in_ok-written.ensures in
    readable_by c.args.certificate.now c.requires.ranges (Some c.in-Some.text) h

pub unreachable-requires : goal.unreachable-requires
unreachable-requires c =
    let long = rw c.in-None.is at c.in_ok-written.ensures in
    long (short_plain c.args.certificate.now c.requires.ranges c.law_of_sizes.ensures.short c.requires.lemmas)
