use Rattle.std.proofs.Common.{◌+◌, Ok, Err, sym, subst}
use Rattle.bp_certificate.specs.declared.stage.Halt.{Halt}
use Rattle.bp_certificate.specs.declared.stage.Stage.{Stage}
use Rattle.bp_certificate.specs.Scanning.{FeedsLine}
use Rattle.bp_certificate.specs.Stages.{StepsOrCuts}
use Rattle.bp_certificate.proofs.Scans.{feed_on, feed_fault}
use Rattle.bp_certificate.proofs.scanner.CertificateScanner.feed.Goals as goal

pub returns-in-Ok : goal.returns-in-Ok
returns-in-Ok c =
    subst (λ (s : Stage). FeedsLine c.args.self.now c.args.line.now c.args.ended (record { lines = c.self.inside.lines + 1; stage = s }) (Ok c.in-Ok.step.lemma)) (sym c.replace.ensures.after)
    (feed_on c.args.self.now c.self.inside.lines c.self.inside.stage c.replace-stage.result c.self.view_is c.replace-stage.ensures.value c.args.line.now c.args.ended c.in-Ok.step c.in-Ok.ensures c.requires.free)

pub returns-in-Err-Fault : goal.returns-in-Err-Fault
returns-in-Err-Fault c =
    feed_fault c.args.self.now c.self.inside.lines c.self.inside.stage c.replace-stage.result c.self.view_is c.replace-stage.ensures.value c.args.line.now c.args.ended c.in-Err-Fault.kind (record { lines = c.self.inside.lines; stage = Stage.Broken })
    (subst (λ (h : Halt). StepsOrCuts c.replace-stage.result c.args.line.now c.args.ended (Err h)) c.in-Err-Fault.field-0-is c.in-Err-Fault.ensures)
