-- What a step makes of a state, told by what it makes of the hands that it touches.
use Rattle.std.proofs.Common.{◌≡◌, ◌≢◌, inl, inr, ℕ, ◌+◌, ◌-◌, min, List, [], ◌∷◌, ◌++◌, Option, None, Some, MatchOption, get_or, length, set, refl, sym, ap, ◌∙◌, subst, arith}
use Rattle.std.proofs.lemmas.List.{get_or-set_other, set-get_or}
use Rattle.std.proofs.lemmas.Option.{get_or_from_slice_get}
use Rattle.bp_base.specs.declared.point.Placement.{Placement}
use Rattle.bp_base.specs.declared.record.Left.{Left}
use Rattle.bp_base.specs.declared.record.Task.{Task}
use Rattle.bp_turn.specs.declared.examining.Turn.{Turn}
use Rattle.bp_turn.specs.Turns.{IsTurn}
use Rattle.bp_machine.specs.declared.event.Event.{Event}
use Rattle.bp_machine.specs.declared.event.Event.TheVariants.{Pop, Steal, Draw, Load, Examine, Offer, Push, Keep, Leave}
use Rattle.bp_machine.specs.declared.place.Place.TheVariants.{Ready, Taking, Trying, Holding, Drawn, Offering, Pushing, Leaving, Gone}
use Rattle.bp_machine.specs.State.{HandValue, StateValue, IsHand}
use Rattle.bp_machine.specs.Steps.{Keeps, Pops, Pushes, Steps, TriesNext, drawn, examined, holds, loaded, offered, place_after, with_hand}

-- a step from a state is one from the same state told otherwise
pub seen_step : (S V : StateValue) (event : Event) (to : StateValue) → V ≡ S → Steps V event to → Steps S event to
seen_step S V event to same step = subst (λ (X : StateValue). Steps X event to) same step

pub seen_hand : (S V : StateValue) (i : ℕ) (h : HandValue) → V ≡ S → IsHand S i h → IsHand V i h
seen_hand S V i h same at = subst (λ (X : StateValue). IsHand X i h) (sym same) at

-- the task and the ticket of a hand that drew
pub drawn_task : (t v : Task) (n m : ℕ) → Drawn t n ≡ Drawn v m → t ≡ v
drawn_task t v n m same = cc

pub drawn_ticket : (t v : Task) (n m : ℕ) → Drawn t n ≡ Drawn v m → n ≡ m
drawn_ticket t v n m same = cc

-- what an examination makes of a hand, part by part
pub examined_of : (h to : HandValue) (turn : Turn) (children : List Task) → to.place ≡ place_after turn.record.kind turn.placement → to.deque ≡ h.deque → to.kept ≡ h.kept → to.unplaced ≡ children → to.known ≡ h.known → to.records ≡ h.records ++ turn.record ∷ [] → to.best ≡ h.best → to.empty_takes ≡ h.empty_takes → to ≡ examined h turn children
examined_of h to turn children place deque kept unplaced known records best takes = λ j. record {
  place = place j;
  deque = deque j;
  kept = kept j;
  unplaced = unplaced j;
  known = known j;
  records = records j;
  best = best j;
  empty_takes = takes j;
}

-- a steal, by what the other hand gave and what this one makes of it
pub steal_step : (S : StateValue) (i g : ℕ) (h other gave next : HandValue) → IsHand S i h → h.place ≡ Trying g → g ≢ i → IsHand S g other → (stolen : Option Task) → MatchOption stolen ((other.deque ≡ []) × (gave ≡ other)) (λ t. (rest : List Task) × (other.deque ≡ t ∷ rest) × (gave ≡ record other { deque = rest })) → MatchOption stolen (TriesNext (length S.hands) i g h next) (λ t. next ≡ holds h t) → Steps S (Steal i g) (record S { hands = set (set S.hands (g - 1) gave) (i - 1) next })
steal_step S i g h other gave next at place apart there None (empty, same) tries = (
  h,
  at,
  (
    place,
    apart,
    (
      other,
      there,
      inl (
        empty,
        (
          next,
          tries,
          ap (λ (hands : List HandValue). record S { hands = set hands (i - 1) next }) (ap (set S.hands (g - 1)) (same ∙ sym (get_or_from_slice_get S.hands (g - 1) other other there.1)) ∙ set-get_or S.hands (g - 1) other),
        ),
      ),
    ),
  ),
)
steal_step S i g h other gave next at place apart there (Some t) (rest, deque, same) is = (
  h,
  at,
  (
    place,
    apart,
    (
      other,
      there,
      inr (
        t,
        rest,
        deque,
        (λ j. record S { hands = set (set S.hands (g - 1) (same j)) (i - 1) (is j) }),
      ),
    ),
  ),
)

-- the same, by what is read at the two seats
pub steal_seen : (S : StateValue) (i g n : ℕ) (h other read gave mine next : HandValue) → IsHand S i h → h.place ≡ Trying g → g ≢ i → IsHand S g other → read ≡ get_or S.hands (g - 1) read → mine ≡ get_or (set S.hands (g - 1) gave) (i - 1) mine → n ≡ length S.hands → (stolen : Option Task) → MatchOption stolen ((read.deque ≡ []) × (gave ≡ read)) (λ t. (rest : List Task) × (read.deque ≡ t ∷ rest) × (gave ≡ record read { deque = rest })) → MatchOption stolen (TriesNext n i g mine next) (λ t. next ≡ holds mine t) → Steps S (Steal i g) (record S { hands = set (set S.hands (g - 1) gave) (i - 1) next })
steal_seen S i g n h other read gave mine next at place apart there is_read is_mine is_n stolen given received =
    let same_read : read ≡ other = is_read ∙ get_or_from_slice_get S.hands (g - 1) other read there.1 in
    let far : i - 1 ≢ g - 1 = λ same. apart (omega (arith, same, at.0, there.0)) in
    let same_mine : mine ≡ h = is_mine ∙ get_or-set_other S.hands (g - 1) (i - 1) gave mine far ∙ get_or_from_slice_get S.hands (i - 1) h mine at.1 in
    steal_step S i g h other gave next at place apart there stolen (subst (λ (x : HandValue). MatchOption stolen ((x.deque ≡ []) × (gave ≡ x)) (λ t. (rest : List Task) × (x.deque ≡ t ∷ rest) × (gave ≡ record x { deque = rest }))) same_read given) (subst (λ (m : ℕ). MatchOption stolen (TriesNext m i g h next) (λ t. next ≡ holds h t)) is_n (subst (λ (x : HandValue). MatchOption stolen (TriesNext n i g x next) (λ t. next ≡ holds x t)) same_mine received))

module _ (S : StateValue) (i : ℕ) (h : HandValue) (at : IsHand S i h) (old : HandValue) (is_old : old ≡ get_or S.hands (i - 1) old) (next : HandValue) where
  pub here : old ≡ h
  here = is_old ∙ get_or_from_slice_get S.hands (i - 1) h old at.1

  pub load_step : h.place ≡ Ready → next ≡ loaded S.side S.floor old → Steps S (Load i) (with_hand S i next)
  load_step place is = (h, at, (place, ap (λ (x : HandValue). with_hand S i x) (is ∙ ap (loaded S.side S.floor) here)))

  pub pop_step : h.place ≡ Taking → Pops (length S.hands) i old next → Steps S (Pop i) (with_hand S i next)
  pop_step place pops = (h, at, (place, (next, subst (λ (x : HandValue). Pops (length S.hands) i x next) here pops, refl)))

  pub draw_step : (t : Task) → old.place ≡ Holding t → next ≡ drawn S.tickets S.budget old t → Steps S (Draw i) (record (with_hand S i next) { tickets = S.tickets + 1 })
  draw_step t place is = (
    h,
    at,
    (
      t,
      subst (λ (x : HandValue). x.place ≡ Holding t) here place,
      ap (λ (x : HandValue). record (with_hand S i x) { tickets = S.tickets + 1 }) (is ∙ ap (λ (x : HandValue). drawn S.tickets S.budget x t) here),
    ),
  )

  pub examine_step : (t : Task) (n : ℕ) → old.place ≡ Drawn t n → (turn : Turn) (children : List Task) → IsTurn S.metric.tree S.metric.sheet t old.known n children turn → next ≡ examined old turn children → Steps S (Examine i) (with_hand S i next)
  examine_step t n place turn children judged is = (
    h,
    at,
    (
      t,
      n,
      subst (λ (x : HandValue). x.place ≡ Drawn t n) here place,
      (
        turn,
        children,
        subst (λ (x : HandValue). IsTurn S.metric.tree S.metric.sheet t x.known n children turn) here judged,
        ap (λ (x : HandValue). with_hand S i x) (is ∙ ap (λ (x : HandValue). examined x turn children) here),
      ),
    ),
  )

  pub offer_step : (p : Placement) → old.place ≡ Offering p → next ≡ offered old p → Steps S (Offer i) (record (with_hand S i next) { side = min S.side p.side })
  offer_step p place is = (
    h,
    at,
    (
      p,
      subst (λ (x : HandValue). x.place ≡ Offering p) here place,
      ap (λ (x : HandValue). record (with_hand S i x) { side = min S.side p.side }) (is ∙ ap (λ (x : HandValue). offered x p) here),
    ),
  )

  pub push_step : h.place ≡ Pushing → Pushes old next → Steps S (Push i) (with_hand S i next)
  push_step place pushes = (h, at, (place, (next, subst (λ (x : HandValue). Pushes x next) here pushes, refl)))

  pub keep_step : h.place ≡ Pushing → Keeps old next → Steps S (Keep i) (with_hand S i next)
  keep_step place keeps = (h, at, (place, (next, subst (λ (x : HandValue). Keeps x next) here keeps, refl)))

  pub leave_step : (l : Left) → old.place ≡ Leaving l → next ≡ record old { place = Gone l } → Steps S (Leave i) (with_hand S i next)
  leave_step l place is = (
    h,
    at,
    (
      l,
      subst (λ (x : HandValue). x.place ≡ Leaving l) here place,
      ap (λ (x : HandValue). with_hand S i x) (is ∙ ap (λ (x : HandValue). record x { place = Gone l }) here),
    ),
  )
