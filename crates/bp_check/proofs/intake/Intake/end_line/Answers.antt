use Rattle.std.proofs.Common.{◌≡◌, Option, None, Some, Result, Ok, Err, All, true, ◌≢◌, refl, sym, subst, ap}
use Rattle.bp_document.specs.declared.fault.DocFault.{DocFault}
use Rattle.bp_document.specs.declared.node_line.NodeLine.{NodeLine}
use Rattle.bp_check.proofs.Intakes.{fed_held, no_node, node_ahead, node_judged, line_refused, underway_free}
use Rattle.bp_check.proofs.intake.Intake.end_line.Goals as goal

abbrev Answer : Type 0
Answer = Result (Option NodeLine) DocFault

answer_of : (n m : Option NodeLine) → n ≡ m → ◌≡◌ {A = Answer} (Ok n) (Ok m)
answer_of n m same = ap {B = Answer} (λ (o : Option NodeLine). Ok o) same

pub feed-scanned-requires-clause-free : goal.feed-scanned-requires-clause-free
feed-scanned-requires-clause-free c = subst (All (λ b. b ≢ 10)) (sym c.as_slice.ensures) (underway_free c.args.self.now c.requires.whole c.requires.underway)

pub judge-requires : goal.judge-requires
judge-requires c =
    let p = c.args.self.now in
    let fed = fed_held p.scanner c.feed-scanned.new.self c.as_slice.result.now p.held true (Ok c.in-Ok-Some.field-0) (Ok (Some c.in-Ok-Some.node)) c.as_slice.ensures (answer_of c.in-Ok-Some.field-0 (Some c.in-Ok-Some.node) c.in-Ok-Some.field-0-is) c.in-Ok-Some.ensures in
    record { ahead = node_ahead p c.feed-scanned.new.self c.clear.new.self c.requires.whole c.clear.ensures (c.law_of_long_lines.ensures.form p.held) c.in-Ok-Some.node fed c.requires.underway }

pub returns-in-Ok-None : goal.returns-in-Ok-None
returns-in-Ok-None c =
    let p = c.args.self.now in
    let fed = fed_held p.scanner c.feed-scanned.new.self c.as_slice.result.now p.held true (Ok c.in-Ok-None.field-0) (Ok None) c.as_slice.ensures (answer_of c.in-Ok-None.field-0 None c.in-Ok-None.field-0-is) c.in-Ok-None.ensures in
    no_node p c.feed-scanned.new.self c.clear.new.self c.requires.whole c.clear.ensures (c.law_of_long_lines.ensures.form p.held) fed

pub returns-in-Ok-Some : goal.returns-in-Ok-Some
returns-in-Ok-Some c =
    let p = c.args.self.now in
    let fed = fed_held p.scanner c.feed-scanned.new.self c.as_slice.result.now p.held true (Ok c.in-Ok-Some.field-0) (Ok (Some c.in-Ok-Some.node)) c.as_slice.ensures (answer_of c.in-Ok-Some.field-0 (Some c.in-Ok-Some.node) c.in-Ok-Some.field-0-is) c.in-Ok-Some.ensures in
    node_judged p c.feed-scanned.new.self c.clear.new.self c.requires.whole c.clear.ensures (c.law_of_long_lines.ensures.form p.held) c.judge.new.self c.in-Ok-Some.node fed c.judge.ensures.judged c.judge.ensures.held c.judge.ensures.fault

pub returns-in-Err : goal.returns-in-Err
returns-in-Err c =
    let p = c.args.self.now in
    let fed = fed_held p.scanner c.feed-scanned.new.self c.as_slice.result.now p.held true (Err c.in-Err.fault) (Err c.in-Err.fault) c.as_slice.ensures refl c.in-Err.ensures in
    line_refused p (record p { scanner = c.feed-scanned.new.self; held = c.clear.new.self; fault = Some c.in-Err.fault }) c.feed-scanned.new.self c.in-Err.fault c.requires.whole (c.law_of_long_lines.ensures.fault p.held) fed refl
