use Rattle.std.proofs.Common.{◌+◌, Ok, Err, sym, subst}
use Rattle.bp_document.specs.declared.stage.Stage.{Stage}
use Rattle.bp_document.specs.Scanning.{FeedsLine}
use Rattle.bp_document.proofs.Scans.{feed_on, feed_fault}
use Rattle.bp_document.proofs.scanner.Scanner.feed.Goals as goal

pub returns-in-Ok : goal.returns-in-Ok
returns-in-Ok c =
    subst (λ (s : Stage). FeedsLine c.args.self.now c.args.line.now c.args.ended (record { lines = c.self.inside.lines + 1; stage = s }) (Ok c.in-Ok.step.node)) (sym c.replace.ensures.after)
    (feed_on c.args.self.now c.self.inside.lines c.self.inside.stage c.replace-stage.result c.self.view_is c.replace-stage.ensures.value c.args.line.now c.args.ended c.in-Ok.step c.in-Ok.ensures c.requires.free)

pub returns-in-Err : goal.returns-in-Err
returns-in-Err c =
    subst (λ (s : Stage). FeedsLine c.args.self.now c.args.line.now c.args.ended (record { lines = c.self.inside.lines; stage = s }) (Err (record { line = c.self.inside.lines + 1; kind = c.in-Err.fall.kind }))) (sym c.replace-in-Err.ensures.after)
    (feed_fault c.args.self.now c.self.inside.lines c.self.inside.stage c.replace-stage.result c.self.view_is c.replace-stage.ensures.value c.args.line.now c.args.ended c.in-Err.fall c.in-Err.ensures)
