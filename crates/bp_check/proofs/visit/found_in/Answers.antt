use Rattle.std.proofs.Common.{◌∙◌, List, sym, ap, arith}
use Rattle.std.proofs.lemmas.List.{nil_from_length}
use Rattle.bp_check.specs.declared.stack.Stack.{Stack}
use Rattle.bp_check.specs.declared.visit.Level.{Level}
use Rattle.bp_check.specs.Stack.{closed, run}
use Rattle.bp_check.specs.Levels.{lines_to_come}
use Rattle.bp_check.proofs.Reading.{whole_read}
use Rattle.bp_check.proofs.visit.found_in.Goals as goal

pub returns : goal.returns
returns c =
    let T = c.args.metric.now.tree in
    let G = c.args.metric.now.sheet in
    let none = nil_from_length c.loop-level.levels.items (omega (arith, c.in_default.ensures.cases.0, c.loop-level.levels.ok)) in
    let all = ap (λ (ls : List Level). run T G c.loop-level.stack (lines_to_come ls)) (sym none) ∙ c.loop-level.invariant.lines in
    c.finish.ensures.closed ∙ ap (λ (S : Stack). (closed T G 0 S).found) all ∙ whole_read T G c.args.proof.now
