use Rattle.std.proofs.Common.{[], ◌++◌, ◌∷◌, ◌∙◌, Bool, sym, ap}
use Rattle.std.proofs.lemmas.List.{append-nil}
use Rattle.bp_check.specs.Intake.{end_of}
use Rattle.bp_check.proofs.Intakes.{refused_over, no_fault, part_taken_in, underway_on, takes_then, takes_as}
use Rattle.bp_check.proofs.intake.Intake.take_part.Goals as goal

pub returns-then-is_some : goal.returns-then-is_some
returns-then-is_some c = refused_over c.args.self.now (c.args.part.now ++ end_of c.args.ended) c.if-is_some.ensures

pub end_line-requires-clause-underway : goal.end_line-requires-clause-underway
end_line-requires-clause-underway c =
    let p = c.args.self.now in
    underway_on p (record p { held = c.extend.new.self }) c.args.part.now c.requires.underway (part_taken_in p c.extend.new.self c.args.part.now (no_fault p.fault c.if-is_some.ensures) c.requires.free c.extend.ensures)

pub returns-then-ended : goal.returns-then-ended
returns-then-ended c =
    let p = c.args.self.now in
    let part = c.args.part.now in
    takes_as p c.end_line.new.self (part ++ 10 ∷ []) (part ++ end_of c.args.ended) (ap (λ (b : Bool). part ++ end_of b) (sym c.if-ended.true))
    (takes_then p (record p { held = c.extend.new.self }) c.end_line.new.self part (10 ∷ []) (part_taken_in p c.extend.new.self part (no_fault p.fault c.if-is_some.ensures) c.requires.free c.extend.ensures) c.end_line.ensures)

pub returns-else-ended : goal.returns-else-ended
returns-else-ended c =
    let p = c.args.self.now in
    let part = c.args.part.now in
    takes_as p (record p { held = c.extend.new.self }) part (part ++ end_of c.args.ended) (sym (append-nil part) ∙ ap (λ (b : Bool). part ++ end_of b) (sym c.if-ended.false))
    (part_taken_in p c.extend.new.self part (no_fault p.fault c.if-is_some.ensures) c.requires.free c.extend.ensures)
