-- A hand draws a ticket for the task that it holds.
use Rattle.std.proofs.Common.{◌≡◌, inl, inr, ℕ, ◌+◌, ◌<◌, ◌≤◌, min, List, [], ◌∷◌, ◌++◌, ltb, map, refl, ap, arith}
use Rattle.std.specs.List.{range_with_len, sum_by}
use Rattle.std.proofs.lemmas.Bool.{cond_both, ltb-true, ltb-false}
use Rattle.std.proofs.lemmas.List.Elements.{All-append}
use Rattle.std.proofs.lemmas.List.Sums.{sum_by-append, sum_by_push}
use Rattle.bp_base.specs.declared.path.Step.{Step}
use Rattle.bp_base.specs.declared.point.Sheet.{Sheet}
use Rattle.bp_base.specs.declared.record.Left.TheVariants.{Spent}
use Rattle.bp_base.specs.declared.record.Record.{Record}
use Rattle.bp_base.specs.declared.record.Task.{Task}
use Rattle.bp_base.specs.Tree.{TreeValue}
use Rattle.bp_metric.proofs.Ranges.{range_more}
use Rattle.bp_core.specs.Underway.{IsLeft}
use Rattle.bp_machine.specs.declared.place.Place.TheVariants.{Drawn, Holding, Leaving}
use Rattle.bp_machine.specs.Facts.{HasHandFacts}
use Rattle.bp_machine.specs.State.{HandValue, StateValue}
use Rattle.bp_machine.specs.Steps.{drawn}
use Rattle.bp_machine.proofs.Moved.{IsMove, IsSoFar, born, owed, owned, parts, tasks_weigh, ticketed, whole}

module _ (T : TreeValue) (G : Sheet) (S : StateValue) (way : IsSoFar T G S []) (h : HandValue) (t : Task) (f : HasHandFacts T G way.opening_side S.side (record h { place = Holding t })) where
  abbrev before : HandValue
  before = record h { place = Holding t }

  abbrev ticketed_before : List ℕ
  ticketed_before = map (λ (r : Record). r.ticket) h.records

  abbrev Moves : HandValue → Type 0
  Moves to = IsMove T G S [] [] way.opening_side S.side (S.tickets + 1) before to

  -- the ticket is of use
  useful : S.tickets < S.budget → Moves (record before { place = Drawn t S.tickets })
  useful below = record {
    even = λ w. refl;
    drawn = λ w.
        let now : min S.tickets S.budget ≡ S.tickets = omega (arith, below) in
        let next : min (S.tickets + 1) S.budget ≡ S.tickets + 1 = omega (arith, below) in
        let place : 0 + S.tickets ≡ S.tickets = omega arith in
        omega (arith, sum_by_push w ticketed_before S.tickets, sum_by-append w ticketed_before [], ap (ticketed w) now, ap (ticketed w) next, ap (sum_by w) (range_more 0 S.tickets), sum_by_push w (range_with_len 0 S.tickets) (0 + S.tickets), ap w place);
    word = inr (omega (arith, below));
    below = omega arith;
    least = λ v found. inl found;
    reached = inl (refl, λ found. found);
    hand = record {
      known_no_less = f.known_no_less;
      known_no_more = f.known_no_more;
      sound = f.sound;
      given = f.given;
      tasks = f.tasks;
      best = f.best;
      placed = f.placed;
      takes = f.takes;
    };
    best = inl (refl, λ reached. reached);
  }

  -- the budget is spent
  useless : S.budget ≤ S.tickets → Moves (record before { kept = h.kept ++ t ∷ []; place = Leaving Spent })
  useless above = record {
    even = λ w. even (λ (x : Task). w x.path) w;
    drawn = λ w.
        let now : min S.tickets S.budget ≡ S.budget = omega (arith, above) in
        let next : min (S.tickets + 1) S.budget ≡ S.budget = omega (arith, above) in
        omega (arith, ap (ticketed w) now, ap (ticketed w) next);
    word = inl (omega arith);
    below = omega arith;
    least = λ v found. inl found;
    reached = inl (refl, λ found. found);
    hand = record {
      known_no_less = f.known_no_less;
      known_no_more = f.known_no_more;
      sound = f.sound;
      given = f.given;
      tasks =
          let all = parts (IsLeft T G S.side) h.deque h.kept h.unplaced (t ∷ []) f.tasks in
          whole (IsLeft T G S.side) h.deque (h.kept ++ t ∷ []) h.unplaced [] all.0 (All-append (IsLeft T G S.side) h.kept (t ∷ []) all.1 all.3) all.2 (λ k d less. absurd (omega (arith, less)));
      best = f.best;
      placed = f.placed;
      takes = omega (arith, f.takes);
    };
    best = inl (refl, λ reached. reached);
  }
    where
      even : (v : Task → ℕ) (w : List Step → ℕ) → owned w (record before { kept = h.kept ++ t ∷ []; place = Leaving Spent }) + owed w [] + born T G w before ≡ owned w before + owed w [] + born T G w (record before { kept = h.kept ++ t ∷ []; place = Leaving Spent })
      even v w =
          let g : Task → ℕ = λ x. w x.path in
          omega (arith, tasks_weigh g (record before { kept = h.kept ++ t ∷ []; place = Leaving Spent }), tasks_weigh g before, sum_by_push g h.kept t, sum_by_push g [] t)

  pub draws : Moves (drawn S.tickets S.budget before t)
  draws =
      cond_both (ltb S.tickets S.budget) (record before { place = Drawn t S.tickets }) (record before { kept = h.kept ++ t ∷ []; place = Leaving Spent }) Moves (λ below. useful (ltb-true S.tickets S.budget below)) (λ above. useless (ltb-false S.tickets S.budget above))
