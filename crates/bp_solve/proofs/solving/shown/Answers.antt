use Rattle.std.proofs.Common.{arith, refl}
use Rattle.std.proofs.lemmas.Result.{IfOk-weaker}
use Rattle.bp_solve.proofs.Proven.{plain_again, same_side, shown_ranges, shown_side, shown_solved, too_long}
use Rattle.bp_solve.proofs.solving.shown.Goals as goal

pub ending_with-ending-requires-clause-within : goal.ending_with-ending-requires-clause-within
ending_with-ending-requires-clause-within c =
    shown_side c.args.metric.now c.law_of_certificates.ensures.valid c.law_of_certificates.ensures.none_below c.law_of_certificates.ensures.bound c.args.plain c.requires.plain c.args.lemmas c.args.bound c.requires.more c.requires.proves c.with_lemmas-certificate.result c.with_lemmas-certificate.ensures c.requires.small

pub ending_with-ending-requires-clause-spent : goal.ending_with-ending-requires-clause-spent
ending_with-ending-requires-clause-spent c = λ less.
    c.requires.spent (omega (arith, less, same_side c.args.metric.now c.law_of_certificates.ensures.valid c.law_of_certificates.ensures.none_below c.law_of_certificates.ensures.bound c.args.plain c.requires.plain c.args.lemmas c.args.bound c.requires.more c.requires.proves c.with_lemmas-certificate.result c.with_lemmas-certificate.ensures c.requires.small))

pub readable_text-requires : goal.readable_text-requires
readable_text-requires c =
    shown_ranges c.args.metric.now c.law_of_certificates.ensures.valid c.law_of_certificates.ensures.none_below c.law_of_certificates.ensures.bound c.args.plain c.requires.plain c.args.lemmas c.args.bound c.requires.more c.requires.proves c.with_lemmas-certificate.result c.with_lemmas-certificate.ensures c.requires.small

pub told-requires : goal.told-requires
told-requires c =
    plain_again c.args.metric.now c.law_of_certificates.ensures.valid c.law_of_certificates.ensures.none_below c.law_of_certificates.ensures.bound c.args.plain c.requires.plain c.args.lemmas c.args.bound c.requires.more c.requires.proves c.with_lemmas-certificate.result c.with_lemmas-certificate.ensures c.requires.small c.without_lemmas-bare.result c.without_lemmas-bare.ensures

pub returns-in-Some : goal.returns-in-Some
returns-in-Some c =
    let h = rw c.in-Some.is at c.in_ok-readable.ensures in
    shown_solved c.args.metric.now c.law_of_certificates.ensures.valid c.law_of_certificates.ensures.none_below c.law_of_certificates.ensures.bound c.args.plain c.requires.plain c.args.lemmas c.args.bound c.requires.more c.requires.proves c.with_lemmas-certificate.result c.with_lemmas-certificate.ensures c.requires.small (record { certificate = c.with_lemmas-certificate.result; text = c.in-Some.text; conflicts = c.args.conflicts; ending = c.ending_with-ending.result }) refl h.1 h.0 c.args.budget c.ending_with-ending.ensures

pub returns-in-None : goal.returns-in-None
returns-in-None c =
    let long = rw c.in-None.is at c.in_ok-readable.ensures in
    IfOk-weaker c.told.result _ _
    (λ s all. all c.args.budget (too_long c.args.metric.now c.law_of_certificates.ensures.valid c.law_of_certificates.ensures.none_below c.law_of_certificates.ensures.bound c.args.plain c.requires.plain c.args.lemmas c.args.bound c.requires.more c.requires.proves c.with_lemmas-certificate.result c.with_lemmas-certificate.ensures c.requires.small c.without_lemmas-bare.result c.without_lemmas-bare.ensures long c.args.budget c.args.conflicts)) c.told.ensures
