use Rattle.std.proofs.Common.{rules, ◌≡◌, ℕ, List, [], ◌∷◌, ◌++◌, refl, sym, ap, ◌∙◌}
use Rattle.bp_base.specs.declared.record.Record.{Record}
use Rattle.bp_base.specs.declared.record.Task.{Task}
use Rattle.bp_turn.specs.declared.examining.Turn.{Turn}
use Rattle.bp_machine.specs.declared.place.Place.TheVariants.{Drawn}
use Rattle.bp_machine.specs.State.{HandValue}
use Rattle.bp_machine.specs.Steps.{place_after}
use Rattle.bp_machine.proofs.Placed.{examined_of, drawn_task, drawn_ticket}
use Rattle.bp_machine.proofs.hand.Hand.examine.Goals as goal

pub returns-clause-ok : goal.returns-clause-ok
returns-clause-ok c =
    let t : Task = c.in-Drawn.task in
    let n : ℕ = c.in-Drawn.ticket in
    let turn : Turn = record {
      «record» = record { path = t.path; kind = c.in_ok-kind.kind; ticket = n; given = t.bound; bound = c.min-bound.result };
      placement = c.in_ok-kind.placement;
    } in
    let again : Drawn t n ≡ Drawn c.in-Drawn-replace.task c.in-Drawn-replace.ticket = sym c.in-Drawn.is ∙ sym c.replace.ensures.value ∙ c.in-Drawn-replace.is in
    let task : c.in-Drawn-replace.task ≡ t = sym (drawn_task _ _ _ _ again) in
    let number : c.in-Drawn-replace.ticket ≡ n = sym (drawn_ticket _ _ _ _ again) in
    let pushed : c.push_reserved.new.self.items ≡ c.self.inside.records.items ++ (record { path = c.in-Drawn-replace.task.path; kind = c.in_ok-kind.kind; ticket = c.in-Drawn-replace.ticket; given = c.in-Drawn-replace.task.bound; bound = c.min-bound.result }) ∷ [] =
    c.push_reserved.ensures.items ∙ ap (λ (xs : List Record). xs ++ (record { path = c.in-Drawn-replace.task.path; kind = c.in_ok-kind.kind; ticket = c.in-Drawn-replace.ticket; given = c.in-Drawn-replace.task.bound; bound = c.min-bound.result }) ∷ []) c.reserve.ensures.items in
    let records : c.push_reserved.new.self.items ≡ c.self.inside.records.items ++ turn.record ∷ [] =
    pushed ∙ (λ j. c.self.inside.records.items ++ (record { path = (task j).path; kind = c.in_ok-kind.kind; ticket = number j; given = (task j).bound; bound = c.min-bound.result }) ∷ []) in
    let place : c.replace.new.dest ≡ place_after c.in_ok-kind.kind c.in_ok-kind.placement = c.replace.ensures.after ∙ c.place_after-next.ensures in
    let h = c.args.self.now in
    let was : (record { place = c.self.inside.place; deque = c.self.inside.deque.items; kept = c.self.inside.kept.items; unplaced = c.self.inside.unplaced; known = c.self.inside.known; records = c.self.inside.records.items; best = c.self.inside.best; empty_takes = c.self.inside.empty_takes }) ≡ h = c.self.view_is in (
      t,
      n,
      search rules,
      (
        turn,
        c.judge.new.children,
        record {
          path = refl;
          ticket = refl;
          given = refl;
          bound = search rules;
          found = c.in_ok-kind.ensures.found;
          children = c.in_ok-kind.ensures.children;
        },
        examined_of h _ turn c.judge.new.children place (ap (λ (x : HandValue). x.deque) was) (ap (λ (x : HandValue). x.kept) was) refl (ap (λ (x : HandValue). x.known) was) (records ∙ ap (λ (x : HandValue). x.records ++ turn.record ∷ []) was) (ap (λ (x : HandValue). x.best) was) (ap (λ (x : HandValue). x.empty_takes) was),
      ),
    )
