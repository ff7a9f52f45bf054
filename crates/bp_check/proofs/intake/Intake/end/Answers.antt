use Rattle.std.proofs.Common.{All, Err, false, ◌≢◌, refl, sym, subst}
use Rattle.bp_check.proofs.Intakes.{fed_held, underway_free}
use Rattle.bp_check.proofs.Ending.{finishes, unended, empty_line, some_line}
use Rattle.bp_check.proofs.intake.Intake.end.Goals as goal

pub returns-then-is_empty : goal.returns-then-is_empty
returns-then-is_empty c = finishes c.args.self.now c.requires.whole (empty_line c.as_slice-line.result.now c.args.self.now.held c.as_slice-line.ensures c.if-is_empty.ensures) c.finish.result c.finish.ensures

pub feed-requires-clause-free : goal.feed-requires-clause-free
feed-requires-clause-free c = subst (All (λ b. b ≢ 10)) (sym c.as_slice-line.ensures) (underway_free c.args.self.now c.requires.whole c.requires.underway)

pub returns : goal.returns
returns c =
    let p = c.args.self.now in
    let fed = fed_held p.scanner c.feed.new.self c.as_slice-line.result.now p.held false (Err c.in-Err.fault) (Err c.in-Err.fault) c.as_slice-line.ensures refl c.in-Err.ensures in
    unended p p c.feed.new.self c.in-Err.fault c.requires.whole (some_line c.as_slice-line.result.now p.held c.as_slice-line.ensures c.if-is_empty.ensures) (c.law_of_long_lines.ensures.fault p.held) fed
