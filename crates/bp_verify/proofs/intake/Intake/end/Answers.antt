use Rattle.std.proofs.Common.{All, Err, false, ◌≢◌, refl, sym, subst}
use Rattle.bp_verify.proofs.Intakes.{fed_held, underway_free}
use Rattle.bp_verify.proofs.Ending.{cut_here, empty_line, ended_wrong, finishes, some_line}
use Rattle.bp_verify.proofs.intake.Intake.end.Goals as goal

pub returns-in-Ok : goal.returns-in-Ok
returns-in-Ok c = finishes c.args.self.now c.requires.whole (empty_line c.as_slice-line.result.now c.args.self.now.held c.as_slice-line.ensures c.if-is_empty.ensures) c.in-Ok.ensures

pub returns-in-Err : goal.returns-in-Err
returns-in-Err c = cut_here c.args.self.now c.requires.whole (empty_line c.as_slice-line.result.now c.args.self.now.held c.as_slice-line.ensures c.if-is_empty.ensures) c.in-Err.fault c.in-Err.ensures

pub feed-requires-clause-free : goal.feed-requires-clause-free
feed-requires-clause-free c = subst (All (λ b. b ≢ 10)) (sym c.as_slice-line.ensures) (underway_free c.args.self.now c.requires.whole c.requires.underway)

pub returns : goal.returns
returns c =
    let p = c.args.self.now in
    let fed = fed_held p.scanner c.feed.new.self c.as_slice-line.result.now p.held false (Err c.in-Err-feed.fault) (Err c.in-Err-feed.fault) c.as_slice-line.ensures refl c.in-Err-feed.ensures in
    ended_wrong p p c.feed.new.self c.in-Err-feed.fault c.requires.whole (some_line c.as_slice-line.result.now p.held c.as_slice-line.ensures c.if-is_empty.ensures) (c.law_of_long_certificate_lines.ensures.fault p.held) fed
