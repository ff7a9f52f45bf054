-- A run goes on by one turn.
use Rattle.std.proofs.Common.{◌≡◌, inl, inr, ℕ, ◌-◌, ◌<◌, ◌≤◌, List, [], ◌∷◌, ◌++◌, replicate, refl, sym, ap, subst, arith}
use Rattle.std.proofs.lemmas.List.{length-replicate}
use Rattle.std.proofs.lemmas.List.Elements.{All-cons, All-replicate}
use Rattle.bp_base.specs.declared.point.Sheet.{Sheet}
use Rattle.bp_base.specs.Tree.{TreeValue}
use Rattle.bp_metric.specs.Metric.{MetricValue}
use Rattle.bp_machine.specs.declared.event.Event.{Event}
use Rattle.bp_machine.specs.declared.event.Event.TheVariants.{Pop, Steal, Draw, Load, Examine, Offer, Push, Keep, Leave}
use Rattle.bp_machine.specs.declared.place.Place.TheVariants.{Ready}
use Rattle.bp_machine.specs.Facts.{HasFacts}
use Rattle.bp_machine.specs.Orderly.{IsInOrder, IsOrderly}
use Rattle.bp_machine.specs.Runs.{Moves, Runs, Turns, Wakes, live_count}
use Rattle.bp_machine.specs.State.{HandValue, StateValue, begun, fresh}
use Rattle.bp_machine.specs.Steps.{Steps}
use Rattle.bp_machine.proofs.Ordered.{step_goes}
use Rattle.bp_machine.proofs.Ranks.{steps_left}
use Rattle.bp_machine.proofs.Seats.{at_seat}
use Rattle.bp_machine.proofs.Standing.{facts_of_hand}

-- where a hand is live, none wakes
awake : (S : StateValue) → 0 < live_count S → Wakes S S
awake S some = inr (λ can. omega (arith, some, can.0), refl)

module _ {Q : Type 0} (turns : Q → ℕ → ℕ → Q → Type 0) where
  run_more : (answers : List ℕ) (k : ℕ) (S mid to : StateValue) (q between after : Q) → Runs turns answers S q mid between → Turns turns k mid between to after → Runs turns (answers ++ k ∷ []) S q to after
  run_more [] k S mid to q between after (same, still) turn = (to, after, subst (λ (x : StateValue). Turns turns k x q to after) same (subst (λ (x : Q). Turns turns k mid x to after) still turn), (refl, refl))
  run_more (a ∷ answers) k S mid to q between after (S', q', first, rest) turn = (S', q', first, run_more answers k S' mid to q' between after rest turn)

  pub runs_on : (k : ℕ) (S mid to : StateValue) (q between after : Q) → (answers : List ℕ) × Runs turns answers S q mid between → 0 < live_count mid → turns between (live_count mid) k after → Moves mid k to → (answers : List ℕ) × Runs turns answers S q to after
  runs_on k S mid to q between after (answers, run) some turn move = (answers ++ k ∷ [], run_more answers k S mid to q between after run (mid, awake mid some, some, turn, move))

-- the floor's side and the budget stay
pub same_words : (S : StateValue) (event : Event) (to : StateValue) → Steps S event to → (to.floor ≡ S.floor) × (to.budget ≡ S.budget)
same_words S (Load i) to (h, at, (place, is)) = (ap (λ (x : StateValue). x.floor) is, ap (λ (x : StateValue). x.budget) is)
same_words S (Pop i) to (h, at, (place, (next, pop, is))) = (ap (λ (x : StateValue). x.floor) is, ap (λ (x : StateValue). x.budget) is)
same_words S (Steal i g) to (h, at, (place, apart, (other, there, inl (empty, (next, tries, is))))) = (ap (λ (x : StateValue). x.floor) is, ap (λ (x : StateValue). x.budget) is)
same_words S (Steal i g) to (h, at, (place, apart, (other, there, inr (t, rest, deque, is)))) = (ap (λ (x : StateValue). x.floor) is, ap (λ (x : StateValue). x.budget) is)
same_words S (Draw i) to (h, at, (t, place, is)) = (ap (λ (x : StateValue). x.floor) is, ap (λ (x : StateValue). x.budget) is)
same_words S (Examine i) to (h, at, (t, ticket, place, (turn, children, is_turn, is))) = (ap (λ (x : StateValue). x.floor) is, ap (λ (x : StateValue). x.budget) is)
same_words S (Offer i) to (h, at, (p, place, is)) = (ap (λ (x : StateValue). x.floor) is, ap (λ (x : StateValue). x.budget) is)
same_words S (Push i) to (h, at, (place, (next, push, is))) = (ap (λ (x : StateValue). x.floor) is, ap (λ (x : StateValue). x.budget) is)
same_words S (Keep i) to (h, at, (place, (next, keep, is))) = (ap (λ (x : StateValue). x.floor) is, ap (λ (x : StateValue). x.budget) is)
same_words S (Leave i) to (h, at, (left, place, is)) = (ap (λ (x : StateValue). x.floor) is, ap (λ (x : StateValue). x.budget) is)

-- a turn leaves a run in order, with fewer steps to go
pub turn_goes : (T : TreeValue) (G : Sheet) (S : StateValue) → HasFacts T G S → IsOrderly S → (k : ℕ) (to : StateValue) → Moves S k to → IsOrderly to × (steps_left to < steps_left S)
turn_goes T G S facts orderly k to (event, live, free, step) =
    step_goes S orderly (λ i h at. (facts_of_hand T G S facts i h at).takes) event to free step

pub begun_orderly : (M : MetricValue) (side floor hands budget : ℕ) → 1 ≤ hands → hands ≤ 16 → IsOrderly (begun M side floor hands budget)
begun_orderly M side floor hands budget some few =
    let S = begun M side floor hands budget in
    record {
      few = omega (arith, length-replicate (hands - 1) (fresh side []), some, few);
      each = λ i h at.
          let new = at_seat (λ (x : HandValue). (x.place ≡ Ready) × (x.kept ≡ [])) S.hands (i - 1) h at.1 (All-cons (λ (x : HandValue). (x.place ≡ Ready) × (x.kept ≡ [])) (fresh side ((record { path = []; bound = side }) ∷ [])) (replicate (hands - 1) (fresh side [])) (refl, refl) (All-replicate (λ (x : HandValue). (x.place ≡ Ready) × (x.kept ≡ [])) (hands - 1) (fresh side []) (refl, refl))) in
          record { place = subst (IsInOrder S i h) (sym new.0) (omega arith); kept = inl new.1 };
    }
