use Rattle.std.proofs.Common.{arith, ◌++◌, ◌∷◌, []}
use Rattle.bp_check.proofs.Intakes.{scanned_kept, scanned_room, judged}
use Rattle.bp_check.proofs.intake.Intake.judge.Goals as goal

pub set_sheet-requires : goal.set_sheet-requires
set_sheet-requires c = let a = c.requires.ahead in record { scanned = (a.0, a.1, a.2 ++ c.args.node ∷ [], a.2, a.3) }

pub feed-requires-clause-kept : goal.feed-requires-clause-kept
feed-requires-clause-kept c =
    let a = c.requires.ahead in
    scanned_kept a.0 c.set_sheet.new.self a.1 (a.2 ++ c.args.node ∷ []) a.2 (c.set_sheet.ensures.set a.0 a.1 (a.2 ++ c.args.node ∷ []) a.2 a.3).0

pub feed-requires-clause-room : goal.feed-requires-clause-room
feed-requires-clause-room c =
    let a = c.requires.ahead in
    let few = scanned_room a.0 c.set_sheet.new.self a.1 c.args.node a.2 (c.set_sheet.ensures.set a.0 a.1 (a.2 ++ c.args.node ∷ []) a.2 a.3).0 in
    omega (arith, few)

pub returns-clause-judged : goal.returns-clause-judged
returns-clause-judged c = λ T text ns scanned.
    let set = c.set_sheet.ensures.set T text (ns ++ c.args.node ∷ []) ns scanned in
    judged T c.set_sheet.new.self c.feed.new.self text ns c.args.node set.0 set.1 c.feed.ensures.taken
