use Rattle.std.proofs.Common.{◌≡◌, ℕ, ◌+◌, ◌<◌, ◌≤◌, true, false, leb, List, [], ◌∷◌, ◌++◌, sym, ap, ◌∙◌, subst, arith}
use Rattle.std.proofs.lemmas.Bool.Decides.{nat_tests}
use Rattle.bp_base.specs.declared.record.Record.{Record}
use Rattle.bp_base.specs.declared.record.Task.{Task}
use Rattle.bp_incumbent.specs.declared.tickets.Ticket.{Ticket}
use Rattle.bp_incumbent.specs.Board.{PassView, drew}
use Rattle.bp_incumbent.specs.Tickets.{is_spent}
use Rattle.bp_workers.specs.Agrees.{Keeps}
use Rattle.bp_workers.proofs.Steps.{spent_keeps}
use Rattle.bp_workers.proofs.Taking.{IsNext, next_after, next_below}
use Rattle.bp_workers.proofs.worker.Worker.draw.Goals as goal

over : (limit most number : ℕ) → limit ≡ most → limit ≤ number → leb most number ≡ true
over limit most number is less = let from : most ≤ number = omega (arith, is, less) in grind (arith, nat_tests)

below : (limit most number : ℕ) → limit ≡ most → number < limit → leb most number ≡ false
below limit most number is less = let from : number < most = omega (arith, is, less) in grind (arith, nat_tests)

pub returns-then-ticket-limit-clause-turned : goal.returns-then-ticket-limit-clause-turned
returns-then-ticket-limit-clause-turned c floor before =
    let T = c.args.metric.now.tree in
    let G = c.args.metric.now.sheet in
    let board = c.args.board.now in
    let w = c.args.self.now in
    let e = c.draw-ticket.ensures in
    let number = c.draw-ticket.result in
    let least : leb board.limit number ≡ true = over c.args.limit board.limit number c.requires.limit c.if-ticket-limit.true in
    let spent : is_spent board.limit c.draw-ticket.new.pass.tickets ≡ true = e.spent ∙ least in
    let kept : c.push_reserved.new.self.items ≡ w.kept.items ++ c.args.task ∷ [] = c.push_reserved.ensures.items ∙ ap (λ (ks : List Task). ks ++ c.args.task ∷ []) c.reserve-else-is_err.ensures.items in
    let agrees : Keeps T G board w.hand c.draw-ticket.new.pass c.reserve.new.self.items c.push_reserved.new.self.items w.best = subst (λ (P : PassView). Keeps T G board w.hand P c.reserve.new.self.items c.push_reserved.new.self.items w.best) (sym e.pass) (subst (λ (R : List Record). Keeps T G board w.hand (drew w.pass number) R c.push_reserved.new.self.items w.best) (sym c.reserve.ensures.items) (subst (λ (K : List Task). Keeps T G board w.hand (drew w.pass number) w.records.items K w.best) (sym kept) (spent_keeps T G board w.hand w.pass w.records.items w.best (w.kept.items ++ c.args.task ∷ []) number c.requires.holds least))) in
    ((λ _. (agrees, subst (λ (m : ℕ). is_spent m c.draw-ticket.new.pass.tickets ≡ true) (sym c.requires.limit) spent)), spent)

pub returns-in-Ok-clause-turned : goal.returns-in-Ok-clause-turned
returns-in-Ok-clause-turned c floor before =
    let w = c.args.self.now in
    let board = c.args.board.now in
    let e = c.draw-ticket.ensures in
    let number = c.draw-ticket.result in
    let same = c.in-Ok.ensures.same in
    let tickets = same.2 ∙ ap (λ (p : PassView). p.tickets) e.pass in (
      c.in-Ok.ensures.agrees,
      next_below c.args._next number w.pass.tickets c.requires.next e.rises,
      c.if-ticket-limit.false,
      subst (IsNext (number + 1)) (sym tickets) (next_after number w.pass.last w.pass.tickets),
      ap (λ (ts : List Ticket). is_spent board.limit ts) same.2 ∙ e.spent ∙ below c.args.limit board.limit number c.requires.limit c.if-ticket-limit.false,
    )
