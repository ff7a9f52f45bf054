use Rattle.std.proofs.Common.{◌≡◌, ℕ, List, false, sym, ap, ◌∙◌, subst, arith}
use Rattle.bp_incumbent.specs.declared.tickets.Ticket.{Ticket}
use Rattle.bp_incumbent.specs.Board.{PassView}
use Rattle.bp_incumbent.specs.Tickets.{is_spent}
use Rattle.bp_workers.proofs.Taking.{IsNext, looked, looked_small}
use Rattle.bp_workers.proofs.worker.Worker.turn.Goals as goal

-- the tickets of a pass that is the same but for what it loaded
same_tickets : (old new : List Ticket) (limit : ℕ) → new ≡ old → is_spent limit old ≡ false → is_spent limit new ≡ false
same_tickets old new limit is unspent = ap (λ (ts : List Ticket). is_spent limit ts) is ∙ unspent

pub returns-then-side-floor-clause-turned : goal.returns-then-side-floor-clause-turned
returns-then-side-floor-clause-turned g c =
    let w = c.args.self.now in
    let board = c.args.board.now in
    let e = c.side-side.ensures in
    let tickets = ap (λ (p : PassView). p.tickets) e.pass ∙ ap (λ (p : PassView). p.tickets) c.halted.ensures.pass in
    let agrees = looked c.args.metric.now.tree c.args.metric.now.sheet board w.hand w.pass w.records.items w.best c.halted.new.pass c.halted.result c.halted.ensures.pass w.kept.items c.requires.agrees c.side-side.new.pass c.side-side.result e.pass in
    ((λ _. (agrees, (ap (λ (p : PassView). p.fresh) e.pass, omega (arith, c.if-side-floor.true, ap (λ (p : PassView). p.last) e.pass)))), same_tickets w.pass.tickets c.side-side.new.pass.tickets board.limit tickets c.requires.unspent)

pub draw-requires-clause-side : goal.draw-requires-clause-side
draw-requires-clause-side g c =
    let w = c.args.self.now in
    let e = c.side-side.ensures in
    (ap (λ (p : PassView). p.last) (c.in-Some.ensures.same.1 ∙ e.pass), looked_small c.args.metric.now.tree c.args.metric.now.sheet c.args.board.now w.hand w.pass w.records.items w.best c.halted.new.pass c.halted.result c.halted.ensures.pass w.kept.items c.requires.agrees c.side-side.result e.least)

pub draw-requires-clause-holds : goal.draw-requires-clause-holds
draw-requires-clause-holds g c =
    let w = c.args.self.now in
    let T = c.args.metric.now.tree in
    let G = c.args.metric.now.sheet in
    c.in-Some.ensures.holds T G c.args.board.now (looked T G c.args.board.now w.hand w.pass w.records.items w.best c.halted.new.pass c.halted.result c.halted.ensures.pass w.kept.items c.requires.agrees c.side-side.new.pass c.side-side.result c.side-side.ensures.pass)

pub draw-requires-clause-next : goal.draw-requires-clause-next
draw-requires-clause-next g c =
    subst (IsNext c.args._next) (sym (ap (λ (p : PassView). p.tickets) (c.in-Some.ensures.same.1 ∙ c.side-side.ensures.pass) ∙ ap (λ (p : PassView). p.tickets) c.halted.ensures.pass)) c.requires.next

pub returns-in-None-clause-turned : goal.returns-in-None-clause-turned
returns-in-None-clause-turned g c =
    let w = c.args.self.now in
    let T = c.args.metric.now.tree in
    let G = c.args.metric.now.sheet in
    let board = c.args.board.now in
    let e = c.in-None.ensures in
    let new = c.next_task.new.self in
    let tickets = ap (λ (p : PassView). p.tickets) (e.same.1 ∙ c.side-side.ensures.pass) ∙ ap (λ (p : PassView). p.tickets) c.halted.ensures.pass in
    let agrees = looked T G board w.hand w.pass w.records.items w.best c.halted.new.pass c.halted.result c.halted.ensures.pass w.kept.items c.requires.agrees c.side-side.new.pass c.side-side.result c.side-side.ensures.pass in
    (e.holds T G board agrees, e.none.0, e.none.1, subst (IsNext c.args._next) (sym tickets) c.requires.next, same_tickets w.pass.tickets new.pass.tickets board.limit tickets c.requires.unspent)

pub returns-in-Some-clause-turned : goal.returns-in-Some-clause-turned
returns-in-Some-clause-turned g c = c.draw.ensures.turned c.args.floor c.args.self.now
