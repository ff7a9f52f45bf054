use Rattle.std.proofs.Common.{refl}
use Rattle.bp_check.proofs.Intakes.{scanned_kept}
use Rattle.bp_check.proofs.Ending.{answered, whole_on}
use Rattle.bp_check.proofs.intake.Intake.answer.Goals as goal

pub set_sheet-requires : goal.set_sheet-requires
set_sheet-requires c = let a = c.requires.whole in record { scanned = (a.0, a.1, a.2.nodes, a.2.nodes, a.2.scanned) }

pub finish-found-requires : goal.finish-found-requires
finish-found-requires c =
    let a = c.requires.whole in
    record { kept = scanned_kept a.0 c.set_sheet.new.self a.1 a.2.nodes a.2.nodes (c.set_sheet.ensures.set a.0 a.1 a.2.nodes a.2.nodes a.2.scanned).0 }

pub returns : goal.returns
returns c = λ T bytes whole short.
    answered T c.set_sheet.new.self bytes c.in-Some.head.now c.finish-found.result _
    (whole_on T c.args.self.now c.set_sheet.new.self bytes c.set_sheet.ensures.scanner (λ ns scanned. (c.set_sheet.ensures.set T bytes ns ns scanned).0) whole) short
    c.in-Some.ensures.head (c.set_sheet.ensures.sheet c.in-Some.head.now c.in-Some.ensures.head) c.finish-found.ensures.proof c.finish-found.ensures.none refl refl c.verdict.ensures
