use Rattle.std.proofs.Common.{◌≡◌, Option, None, Some, Result, Ok, Err, All, true, ◌≢◌, refl, sym, subst, ap}
use Rattle.bp_document.specs.declared.fault.ReadDoc.{ReadDoc}
use Rattle.bp_document.specs.declared.fault.ReadDoc.TheVariants.{Fault}
use Rattle.bp_certificate.specs.declared.certificate.Lemma.{Lemma}
use Rattle.bp_verify.proofs.Intakes.{fed_held, no_lemma, lemma_ahead, lemma_judged, line_refused, underway_free}
use Rattle.bp_verify.proofs.intake.Intake.end_line.Goals as goal

abbrev Answer : Type 0
Answer = Result (Option Lemma) ReadDoc

answer_of : (n m : Option Lemma) → n ≡ m → ◌≡◌ {A = Answer} (Ok n) (Ok m)
answer_of n m same = ap {B = Answer} (λ (o : Option Lemma). Ok o) same

pub feed-scanned-requires-clause-free : goal.feed-scanned-requires-clause-free
feed-scanned-requires-clause-free c = subst (All (λ b. b ≢ 10)) (sym c.as_slice.ensures) (underway_free c.args.self.now c.requires.whole c.requires.underway)

pub judge-requires : goal.judge-requires
judge-requires c =
    let p = c.args.self.now in
    let fed = fed_held p.scanner c.feed-scanned.new.self c.as_slice.result.now p.held true (Ok c.in-Ok-Some.field-0) (Ok (Some c.in-Ok-Some.lemma)) c.as_slice.ensures (answer_of c.in-Ok-Some.field-0 (Some c.in-Ok-Some.lemma) c.in-Ok-Some.field-0-is) c.in-Ok-Some.ensures in
    record { ahead = lemma_ahead p c.feed-scanned.new.self c.clear.new.self c.requires.whole c.clear.ensures (c.law_of_long_certificate_lines.ensures.form p.held) c.in-Ok-Some.lemma fed c.requires.underway }

pub returns-in-Ok-None : goal.returns-in-Ok-None
returns-in-Ok-None c =
    let p = c.args.self.now in
    let fed = fed_held p.scanner c.feed-scanned.new.self c.as_slice.result.now p.held true (Ok c.in-Ok-None.field-0) (Ok None) c.as_slice.ensures (answer_of c.in-Ok-None.field-0 None c.in-Ok-None.field-0-is) c.in-Ok-None.ensures in
    no_lemma p c.feed-scanned.new.self c.clear.new.self c.requires.whole c.clear.ensures (c.law_of_long_certificate_lines.ensures.form p.held) fed

pub returns-in-Ok-Some : goal.returns-in-Ok-Some
returns-in-Ok-Some c =
    let p = c.args.self.now in
    let fed = fed_held p.scanner c.feed-scanned.new.self c.as_slice.result.now p.held true (Ok c.in-Ok-Some.field-0) (Ok (Some c.in-Ok-Some.lemma)) c.as_slice.ensures (answer_of c.in-Ok-Some.field-0 (Some c.in-Ok-Some.lemma) c.in-Ok-Some.field-0-is) c.in-Ok-Some.ensures in
    lemma_judged p c.feed-scanned.new.self c.clear.new.self c.requires.whole c.clear.ensures (c.law_of_long_certificate_lines.ensures.form p.held) c.judge.result c.judge.new.self c.in-Ok-Some.lemma fed c.judge.ensures.judged c.judge.ensures.held c.judge.ensures.fault

error_of : (e f : ReadDoc) → e ≡ f → ◌≡◌ {A = Answer} (Err e) (Err f)
error_of e f same = ap {B = Answer} (λ (d : ReadDoc). Err d) same

pub returns-in_ok-fault-in-Err : goal.returns-in_ok-fault-in-Err
returns-in_ok-fault-in-Err c =
    let p = c.args.self.now in
    let fed = fed_held p.scanner c.feed-scanned.new.self c.as_slice.result.now p.held true (Err c.in-Err.refused) (Err (Fault c.in_ok-fault-in-Err.fault)) c.as_slice.ensures (error_of c.in-Err.refused (Fault c.in_ok-fault-in-Err.fault) c.in_ok-fault-in-Err.ensures) c.in-Err.ensures in
    line_refused p (record p { scanner = c.feed-scanned.new.self; held = c.clear.new.self; fault = Some c.in_ok-fault-in-Err.fault }) c.feed-scanned.new.self c.in_ok-fault-in-Err.fault c.requires.whole (c.law_of_long_certificate_lines.ensures.fault p.held) fed refl
