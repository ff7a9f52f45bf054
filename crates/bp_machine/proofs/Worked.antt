-- The first events of one hand on the tree c p 3/c q 4/ with a budget of 1, and events that aren't lawful.
use Rattle.std.proofs.Common.{◌≡◌, inl, inr, ℕ, List, [], ◌∷◌, None, Bool, true, false, true≢false, refl, sym, ap, ◌∙◌, arith}
use Rattle.std.proofs.lemmas.Option.{get_or_from_slice_get}
use Rattle.bp_base.specs.declared.path.Choice.TheVariants.{Left}
use Rattle.bp_base.specs.declared.point.Sheet.TheVariants.{Square}
use Rattle.bp_base.specs.declared.record.Left.TheVariants.{Spent}
use Rattle.bp_base.specs.declared.record.Record.{Record}
use Rattle.bp_base.specs.declared.record.Task.{Task}
use Rattle.bp_metric.specs.Chains.{HasCycle}
use Rattle.bp_metric.specs.Choices.{allowed}
use Rattle.bp_metric.specs.Metric.{MetricValue}
use Rattle.bp_metric.specs.Refutation.{extended}
use Rattle.bp_metric.proofs.TwoFlaps.{two}
use Rattle.bp_core.proofs.Worked.{inner, pair, root}
use Rattle.bp_turn.specs.declared.examining.Turn.{Turn}
use Rattle.bp_machine.specs.declared.place.Place.{Place}
use Rattle.bp_machine.specs.declared.event.Event.TheVariants.{Pop, Draw, Load, Examine, Push}
use Rattle.bp_machine.specs.declared.place.Place.TheVariants.{Ready, Taking, Holding, Drawn, Pushing, Leaving}
use Rattle.bp_machine.specs.State.{HandValue, StateValue, begun}
use Rattle.bp_machine.specs.Steps.{Steps}

abbrev metric : MetricValue
metric = record { tree = two; sheet = Square }

abbrev first : Task
first = record { path = []; bound = 7 }

abbrev second : Task
second = record { path = extended [] pair Left; bound = 7 }

-- the hand alone at this place, with these tasks in its deque, children to place and records
abbrev hand : Place → List Task → List Task → List Record → HandValue
hand place deque unplaced records = record {
  place = place;
  deque = deque;
  kept = [];
  unplaced = unplaced;
  known = 7;
  records = records;
  best = None;
  empty_takes = 0;
}

abbrev state : HandValue → ℕ → StateValue
state h tickets = record { metric = metric; hands = h ∷ []; side = 7; tickets = tickets; budget = 1; floor = 5 }

begins : begun metric 7 5 1 1 ≡ state (hand Ready (first ∷ []) [] []) 0
begins = refl

loads : Steps (state (hand Ready (first ∷ []) [] []) 0) (Load 1) (state (hand Taking (first ∷ []) [] []) 0)
loads = (hand Ready (first ∷ []) [] [], (omega arith, refl), (refl, refl))

pops : Steps (state (hand Taking (first ∷ []) [] []) 0) (Pop 1) (state (hand (Holding first) [] [] []) 0)
pops =
    (hand Taking (first ∷ []) [] [], (omega arith, refl), (refl, (hand (Holding first) [] [] [], inr ([], first, refl, refl), refl)))

draws : Steps (state (hand (Holding first) [] [] []) 0) (Draw 1) (state (hand (Drawn first 0) [] [] []) 1)
draws = (hand (Holding first) [] [] [], (omega arith, refl), (first, refl, refl))

no_cycle : HasCycle 2 [] → ⊥
no_cycle (axis, (leaves, cycle)) = absurd cycle.closed

abbrev turn : Turn
turn = record { «record» = root; placement = None }

examines : Steps (state (hand (Drawn first 0) [] [] []) 1) (Examine 1) (state (hand Pushing [] (second ∷ []) (root ∷ [])) 1)
unfolding allowed
examines = (
  hand (Drawn first 0) [] [] [],
  (omega arith, refl),
  (
    first,
    0,
    refl,
    (
      turn,
      second ∷ [],
      record {
        path = refl;
        ticket = refl;
        given = refl;
        bound = refl;
        found = (record { no_cycle = no_cycle; side = inner.forced; forced = inner.is_forced; below = inner.below }, inner.next);
        children = refl;
      },
      refl,
    ),
  ),
)

pushes : Steps (state (hand Pushing [] (second ∷ []) (root ∷ [])) 1) (Push 1) (state (hand Ready (second ∷ []) [] (root ∷ [])) 1)
pushes = (
  hand Pushing [] (second ∷ []) (root ∷ []),
  (omega arith, refl),
  (refl, (hand Ready (second ∷ []) [] (root ∷ []), ([], second, refl, refl), refl)),
)

-- the budget is spent, so the task is kept, and the ticket word rises all the same
spends : Steps (state (hand (Holding second) [] [] (root ∷ [])) 1) (Draw 1) (state (record (hand (Leaving Spent) [] [] (root ∷ [])) { kept = second ∷ [] }) 2)
spends = (hand (Holding second) [] [] (root ∷ []), (omega arith, refl), (second, refl, refl))

-- alone, a hand whose deque is empty ends its take with the pop
takes_nothing : Steps (state (hand Taking [] [] []) 0) (Pop 1) (state (record (hand Ready [] [] []) { empty_takes = 1 }) 0)
takes_nothing = (
  hand Taking [] [] [],
  (omega arith, refl),
  (refl, (record (hand Ready [] [] []) { empty_takes = 1 }, inl (refl, inl (refl, inl (refl, refl))), refl)),
)

-- before it has loaded, a hand can't pop, and there is no second hand
abbrev is_taking : Place → Bool
is_taking Taking = true
is_taking place = false

pops_not : (to : StateValue) → Steps (state (hand Ready (first ∷ []) [] []) 0) (Pop 1) to → ⊥
pops_not to (h, at, is) =
    true≢false (sym (ap is_taking is.0) ∙ sym (ap (λ (x : HandValue). is_taking x.place) (get_or_from_slice_get (hand Ready (first ∷ []) [] [] ∷ []) 0 h h at.1)))
