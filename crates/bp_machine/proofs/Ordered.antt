-- A step that keeps no child leaves a run in order.
use Rattle.std.proofs.Common.{◌≡◌, ◌≢◌, ◌⊎◌, inl, inr, ℕ, ◌+◌, ◌-◌, ◌*◌, ◌<◌, ◌≤◌, Bool, true, false, true≢false, ltb, eqb, List, [], ◌∷◌, ◌++◌, Option, None, Some, length, get_or, min, set, refl, sym, ap, ◌∙◌, subst, arith}
use Rattle.std.specs.List.{slice_get}
use Rattle.std.proofs.lemmas.Bool.{cond_both, eqb-false, eqb-true, ltb-true, ltb-false}
use Rattle.std.proofs.lemmas.Bool.Decides.{nat_tests}
use Rattle.std.proofs.lemmas.List.{length-append, length-set}
use Rattle.std.proofs.lemmas.Option.{get_or_from_slice_get, slice_get_cases, slice_get_within}
use Rattle.bp_base.specs.declared.point.Placement.{Placement}
use Rattle.bp_base.specs.declared.record.Left.{Left}
use Rattle.bp_base.specs.declared.record.Left.TheVariants.{AtFloor, Spent, Idle, Halted, NoMemory}
use Rattle.bp_base.specs.declared.record.RecordKind.{RecordKind}
use Rattle.bp_base.specs.declared.record.RecordKind.TheVariants.{Split, Closed}
use Rattle.bp_base.specs.declared.record.Task.{Task}
use Rattle.bp_turn.specs.declared.examining.Turn.{Turn}
use Rattle.bp_machine.specs.declared.event.Event.{Event}
use Rattle.bp_machine.specs.declared.event.Event.TheVariants.{Pop, Steal, Draw, Load, Examine, Offer, Push, Keep, Leave}
use Rattle.bp_machine.specs.declared.place.Place.{Place}
use Rattle.bp_machine.specs.declared.place.Place.TheVariants.{Ready, Taking, Trying, Holding, Drawn, Offering, Pushing, Leaving, Gone}
use Rattle.bp_machine.specs.Facts.{HasTakesLeft}
use Rattle.bp_machine.specs.Lawful.{IsLawful}
use Rattle.bp_machine.specs.Orderly.{HasCause, IsInOrder, IsOrderly, IsOrderlyHand, event_at}
use Rattle.bp_machine.specs.Runs.{IsLiveHand, Moves, is_keep, stays}
use Rattle.bp_machine.specs.State.{HandValue, IsHand, StateValue}
use Rattle.bp_machine.specs.Steps.{EndsTake, Pops, Pushes, Steals, Steps, StepsAt, TriesNext, drawn, examined, hand_of, holds, loaded, next_hand, offered, place_after, place_with}
use Rattle.bp_machine.proofs.Ranks.{examine_lower, falls, hold_lower, load_lower, offer_lower, pop_lower, push_lower, rank, rank_at, same_left, steps_left, try_lower}
use Rattle.bp_machine.proofs.Seats.{set_other, set_seat}
use Rattle.bp_machine.proofs.Standing.{hand_there}

-- after a move of hand i
abbrev after : StateValue → ℕ → HandValue → ℕ → ℕ → StateValue
after S i next side tickets = record S { hands = set S.hands (i - 1) next; side = side; tickets = tickets }

-- a cause stays one while the side falls and the tickets rise
module _ (S to : StateValue) (long : length to.hands ≡ length S.hands) (side : to.side ≤ S.side) (floor : to.floor ≡ S.floor) (tickets : S.tickets ≤ to.tickets) (budget : to.budget ≡ S.budget) where
  cause_later : (h : HandValue) (l : Left) → HasCause S h l → HasCause to h l
  cause_later h AtFloor is = omega (arith, is)
  cause_later h Spent is = omega (arith, is)
  cause_later h Idle is = is
  cause_later h Halted is = absurd is
  cause_later h NoMemory is = absurd is

  in_order_later : (i : ℕ) (h : HandValue) (p : Place) → IsInOrder S i h p → IsInOrder to i h p
  in_order_later i h Ready is = omega arith
  in_order_later i h Taking is = omega arith
  in_order_later i h (Trying g) (one, there, other, empty) = (one, omega (arith, there, long), other, empty)
  in_order_later i h (Holding t) is = omega arith
  in_order_later i h (Drawn t ticket) is = omega arith
  in_order_later i h (Offering p) is = omega arith
  in_order_later i h Pushing is = omega arith
  in_order_later i h (Leaving l) is = cause_later h l is
  in_order_later i h (Gone l) is = cause_later h l is

  kept_later : (kept : List Task) → (kept ≡ []) ⊎ (S.budget ≤ S.tickets) → (kept ≡ []) ⊎ (to.budget ≤ to.tickets)
  kept_later kept (inl none) = inl none
  kept_later kept (inr spent) = inr (omega (arith, spent))

  pub hand_later : (i : ℕ) (h : HandValue) → IsOrderlyHand S i h → IsOrderlyHand to i h
  hand_later i h is = record { place = in_order_later i h h.place is.place; kept = kept_later h.kept is.kept }

-- another seat is as it was
unset : (hands : List HandValue) (k j : ℕ) (v w g : HandValue) → j ≢ k → slice_get (set hands k w) j ≡ Some g → slice_get hands j ≡ Some g
unset hands k j v w g other at = found (slice_get_cases hands j).1
  where
    within : j < length hands
    within = omega (arith, slice_get_within (set hands k w) j g at, length-set hands k w)

    found : ((x : HandValue) × (j < length hands) × (slice_get hands j ≡ Some x) × (get_or hands j x ≡ x)) ⊎ ((length hands ≤ j) × (slice_get hands j ≡ None)) → slice_get hands j ≡ Some g
    found (inl (x, less, here, is)) = here ∙ sym (set_other hands k j x w other here) ∙ at
    found (inr (past, none)) = absurd (omega (arith, past, within))

module _ (S : StateValue) (orderly : IsOrderly S) (i : ℕ) (h next : HandValue) (side tickets : ℕ) (at : IsHand S i h) (low : side ≤ S.side) (high : S.tickets ≤ tickets) (mine : IsOrderlyHand S i next) where
  abbrev made : StateValue
  made = after S i next side tickets

  long : length made.hands ≡ length S.hands
  long = length-set S.hands (i - 1) next

  each_by : (j : ℕ) (g : HandValue) → IsHand made j g → (same : Bool) → eqb j i ≡ same → IsOrderlyHand made j g
  each_by j g (one, there) true is =
      let number : i ≡ j = sym (eqb-true j i is) in
      let seat : slice_get (set S.hands (i - 1) next) (j - 1) ≡ Some next = subst (λ (k : ℕ). slice_get (set S.hands (i - 1) next) (k - 1) ≡ Some next) number (set_seat S.hands (i - 1) h next at.1) in
      let hand : next ≡ g = sym (get_or_from_slice_get (set S.hands (i - 1) next) (j - 1) next next seat) ∙ get_or_from_slice_get (set S.hands (i - 1) next) (j - 1) g next there in
      hand_later S made long low refl high refl j g (subst (λ (x : HandValue). IsOrderlyHand S j x) hand (subst (λ (k : ℕ). IsOrderlyHand S k next) number mine))
  each_by j g (one, there) false is =
      let apart : j - 1 ≢ i - 1 = λ same. eqb-false j i is (omega (arith, same, one, at.0)) in
      hand_later S made long low refl high refl j g (orderly.each j g (one, unset S.hands (i - 1) (j - 1) h next g apart there))

  pub orderly_after : IsOrderly made
  orderly_after = record { few = omega (arith, long, orderly.few); each = λ j g there. each_by j g there (eqb j i) refl }

next_there : (n g : ℕ) → 1 ≤ n → (1 ≤ next_hand n g) × (next_hand n g ≤ n)
next_there n g some = (grind (arith, nat_tests), grind (arith, nat_tests))

not_none : (rest : List Task) (t : Task) → [] ≡ rest ++ t ∷ [] → ⊥
not_none rest t is = omega (arith, ap length is, length-append rest (t ∷ []))

-- what a step makes of the hand that takes it
module _ (S : StateValue) (i : ℕ) (some : 1 ≤ i) (within : i ≤ length S.hands) (h : HandValue) (kept : (h.kept ≡ []) ⊎ (S.budget ≤ S.tickets)) where
  abbrev Fine : HandValue → Type 0
  Fine x = IsOrderlyHand S i x

  pub load_fine : Fine (loaded S.side S.floor h)
  load_fine =
      cond_both (ltb S.floor S.side) Taking (Leaving AtFloor) (λ (q : Place). Fine (record h { known = S.side; place = q })) (λ above. record { place = omega arith; kept = kept }) (λ below. record { place = ltb-false S.floor S.side below; kept = kept })

  ends_fine : (to : HandValue) → h.deque ≡ [] → EndsTake h to → Fine to
  ends_fine to empty (inl (none, is)) =
      subst Fine (sym is) (cond_both (ltb (h.empty_takes + 1) 64) Ready (Leaving Idle) (λ (q : Place). Fine (record h { place = q; empty_takes = h.empty_takes + 1 })) (λ more. record { place = omega arith; kept = kept }) (λ last. record { place = empty; kept = kept }))
  ends_fine to empty (inr (rest, t, is_kept, is)) = subst Fine (sym is) (record { place = omega arith; kept = spent kept })
    where
      spent : (h.kept ≡ []) ⊎ (S.budget ≤ S.tickets) → (rest ≡ []) ⊎ (S.budget ≤ S.tickets)
      spent (inl none) = absurd (not_none rest t (sym none ∙ is_kept))
      spent (inr all) = inr all

  pub tries_fine : (g : ℕ) (to : HandValue) → h.deque ≡ [] → TriesNext (length S.hands) i g h to → Fine to
  tries_fine g to empty (inl (last, ends)) = ends_fine to empty ends
  tries_fine g to empty (inr (other, is)) =
      let there = next_there (length S.hands) g (omega (arith, some, within)) in
      subst Fine (sym is) (record { place = (there.0, there.1, other, empty); kept = kept })

  pub pop_fine : (to : HandValue) → Pops (length S.hands) i h to → Fine to
  pop_fine to (inl (empty, tries)) = tries_fine i to empty tries
  pop_fine to (inr (rest, t, deque, is)) = subst Fine (sym is) (record { place = omega arith; kept = kept })

  pub hold_fine : (t : Task) → Fine (holds h t)
  hold_fine t = record { place = omega arith; kept = kept }

  pub draw_fine : (t : Task) → Fine (drawn S.tickets S.budget h t)
  draw_fine t =
      cond_both (ltb S.tickets S.budget) (record h { place = Drawn t S.tickets }) (record h { kept = h.kept ++ t ∷ []; place = Leaving Spent }) Fine (λ below. record { place = omega arith; kept = kept }) (λ above. record { place = ltb-false S.tickets S.budget above; kept = inr (ltb-false S.tickets S.budget above) })

  fine_after : (x : HandValue) (kind : RecordKind) (placement : Option Placement) → IsInOrder S i x (place_after kind placement)
  fine_after x (Split p) placement = omega arith
  fine_after x (Closed claim) None = omega arith
  fine_after x (Closed claim) (Some p) = omega arith

  pub examine_fine : (turn : Turn) (children : List Task) → Fine (examined h turn children)
  examine_fine turn children = record { place = fine_after (examined h turn children) turn.record.kind turn.placement; kept = kept }

  pub offer_fine : (p : Placement) → Fine (offered h p)
  offer_fine p = record { place = omega arith; kept = kept }

  fine_with : (x : HandValue) (left : List Task) → IsInOrder S i x (place_with left)
  fine_with x [] = omega arith
  fine_with x (t ∷ ts) = omega arith

  pub push_fine : (to : HandValue) → Pushes h to → Fine to
  push_fine to (rest, t, unplaced, is) =
      let x : HandValue = record h { place = place_with rest; unplaced = rest; deque = h.deque ++ t ∷ [] } in
      subst Fine (sym is) (record { place = fine_with x rest; kept = kept })

  cause_stays : (l : Left) → HasCause S h l → HasCause S (record h { place = Gone l }) l
  cause_stays AtFloor is = is
  cause_stays Spent is = is
  cause_stays Idle is = is
  cause_stays Halted is = is
  cause_stays NoMemory is = is

  pub leave_fine : (l : Left) → HasCause S h l → Fine (record h { place = Gone l })
  leave_fine l cause = record { place = cause_stays l cause; kept = kept }

-- a hand that is stolen from stays in order
fewer_in_order : (S : StateValue) (g : ℕ) (other : HandValue) (t : Task) (rest : List Task) → other.deque ≡ t ∷ rest → (p : Place) → IsInOrder S g other p → IsInOrder S g (record other { deque = rest }) p
fewer_in_order S g other t rest deque Ready is = is
fewer_in_order S g other t rest deque Taking is = is
fewer_in_order S g other t rest deque (Trying f) (one, there, apart, empty) = absurd (omega (arith, ap length empty, ap length deque))
fewer_in_order S g other t rest deque (Holding u) is = is
fewer_in_order S g other t rest deque (Drawn u ticket) is = is
fewer_in_order S g other t rest deque (Offering p) is = is
fewer_in_order S g other t rest deque Pushing is = is
fewer_in_order S g other t rest deque (Leaving AtFloor) is = is
fewer_in_order S g other t rest deque (Leaving Spent) is = is
fewer_in_order S g other t rest deque (Leaving Idle) is = absurd (omega (arith, ap length is, ap length deque))
fewer_in_order S g other t rest deque (Leaving Halted) is = is
fewer_in_order S g other t rest deque (Leaving NoMemory) is = is
fewer_in_order S g other t rest deque (Gone AtFloor) is = is
fewer_in_order S g other t rest deque (Gone Spent) is = is
fewer_in_order S g other t rest deque (Gone Idle) is = absurd (omega (arith, ap length is, ap length deque))
fewer_in_order S g other t rest deque (Gone Halted) is = is
fewer_in_order S g other t rest deque (Gone NoMemory) is = is

module _ (S : StateValue) (orderly : IsOrderly S) (takes : (i : ℕ) (h : HandValue) → IsHand S i h → HasTakesLeft h.empty_takes h.place) where
  abbrev n : ℕ
  n = length S.hands

  -- the state after is in order, and fewer steps are left
  abbrev pub Goes : StateValue → Type 0
  Goes to = IsOrderly to × (steps_left to < steps_left S)

  goes : (i : ℕ) (h next : HandValue) (side tickets : ℕ) (to : StateValue) → IsHand S i h → side ≤ S.side → S.tickets ≤ tickets → IsOrderlyHand S i next → (S.budget - tickets) * 1400 + rank n i next < (S.budget - S.tickets) * 1400 + rank n i h → to ≡ after S i next side tickets → Goes to
  goes i h next side tickets to at low high mine less is =
      subst Goes (sym is) (orderly_after S orderly i h next side tickets at low high mine, falls S i h next side tickets at less)

  seat_within : (i : ℕ) (h : HandValue) → IsHand S i h → i ≤ n
  seat_within i h at = omega (arith, at.0, slice_get_within S.hands (i - 1) h at.1)

  steals_goes : (i g : ℕ) (h other : HandValue) (to : StateValue) → IsHand S i h → h.place ≡ Trying g → g ≢ i → IsHand S g other → Steals S i g h other to → Goes to
  steals_goes i g h other to at place apart there (inl (empty, (next, tries, is))) =
      let within = seat_within i h at in
      let (one, in_list, another, own_empty) = subst (IsInOrder S i h) place (orderly.each i h at).place in
      let few : h.empty_takes < 64 = subst (HasTakesLeft h.empty_takes) place (takes i h at) in
      goes i h next S.side S.tickets to at (omega arith) (omega arith) (tries_fine S i at.0 within h (orderly.each i h at).kept g next own_empty tries) (omega (arith, ap (rank_at n i h) place, try_lower n i at.0 within orderly.few h next g few one in_list apart tries)) is
  steals_goes i g h other to at place apart there (inr (t, rest, deque, is)) =
      let less : HandValue = record other { deque = rest } in
      let S1 : StateValue = record S { hands = set S.hands (g - 1) less } in
      let theirs = orderly.each g other there in
      let orderly1 : IsOrderly S1 = orderly_after S orderly g other less S.side S.tickets there (omega arith) (omega arith) (record { place = fewer_in_order S g other t rest deque other.place theirs.place; kept = theirs.kept }) in
      let far : i - 1 ≢ g - 1 = λ same. apart (omega (arith, same, at.0, there.0)) in
      let at1 : IsHand S1 i h = (at.0, set_other S.hands (g - 1) (i - 1) h less far at.1) in
      let long : length S1.hands ≡ n = length-set S.hands (g - 1) less in
      let within1 : i ≤ length S1.hands = omega (arith, long, seat_within i h at) in
      let few1 : length S1.hands ≤ 16 = omega (arith, long, orderly.few) in
      let fall : rank (length S1.hands) i (holds h t) < rank (length S1.hands) i h = omega (arith, ap (rank_at (length S1.hands) i h) place, hold_lower (length S1.hands) i at.0 within1 few1 h (holds h t) g t refl) in
      subst Goes (sym is) (
        orderly_after S1 orderly1 i h (holds h t) S.side S.tickets at1 (omega arith) (omega arith) (hold_fine S1 i at.0 within1 h (orderly1.each i h at1).kept t),
        omega (arith, falls S1 i h (holds h t) S.side S.tickets at1 (omega (arith, fall)), same_left S g other rest there),
      )

  draw_less : (i : ℕ) (h : HandValue) (t : Task) → h.place ≡ Holding t → (S.budget - (S.tickets + 1)) * 1400 + rank n i (drawn S.tickets S.budget h t) < (S.budget - S.tickets) * 1400 + rank n i h
  draw_less i h t place =
      let here : rank n i h ≡ 2 = ap (rank_at n i h) place in
      cond_both (ltb S.tickets S.budget) (record h { place = Drawn t S.tickets }) (record h { kept = h.kept ++ t ∷ []; place = Leaving Spent }) (λ (x : HandValue). (S.budget - (S.tickets + 1)) * 1400 + rank n i x < (S.budget - S.tickets) * 1400 + rank n i h) (λ below. let less = ltb-true S.tickets S.budget below in omega (arith, less, here)) (λ above. omega (arith, here))

  goes_at : (event : Event) (h : HandValue) (to : StateValue) → is_keep event ≡ false → IsHand S (hand_of event) h → StepsAt S h event to → Goes to
  goes_at (Load i) h to free at (place, is) =
      goes i h (loaded S.side S.floor h) S.side S.tickets to at (omega arith) (omega arith) (load_fine S i at.0 (seat_within i h at) h (orderly.each i h at).kept) (omega (arith, ap (rank_at n i h) place, load_lower n i at.0 (seat_within i h at) orderly.few h (loaded S.side S.floor h) S.side S.floor refl)) is
  goes_at (Pop i) h to free at (place, (next, pop, is)) =
      let few : h.empty_takes < 64 = subst (HasTakesLeft h.empty_takes) place (takes i h at) in
      goes i h next S.side S.tickets to at (omega arith) (omega arith) (pop_fine S i at.0 (seat_within i h at) h (orderly.each i h at).kept next pop) (omega (arith, ap (rank_at n i h) place, pop_lower n i at.0 (seat_within i h at) orderly.few h next few pop)) is
  goes_at (Steal i g) h to free at (place, apart, (other, there, steal)) = steals_goes i g h other to at place apart there steal
  goes_at (Draw i) h to free at (t, place, is) =
      goes i h (drawn S.tickets S.budget h t) S.side (S.tickets + 1) to at (omega arith) (omega arith) (draw_fine S i at.0 (seat_within i h at) h (orderly.each i h at).kept t) (draw_less i h t place) is
  goes_at (Examine i) h to free at (t, ticket, place, (turn, children, judged, is)) =
      goes i h (examined h turn children) S.side S.tickets to at (omega arith) (omega arith) (examine_fine S i at.0 (seat_within i h at) h (orderly.each i h at).kept turn children) (omega (arith, ap (rank_at n i h) place, examine_lower n i at.0 (seat_within i h at) orderly.few h (examined h turn children) S.metric.tree S.metric.sheet t h.known ticket children turn judged refl)) is
  goes_at (Offer i) h to free at (p, place, is) =
      goes i h (offered h p) (min S.side p.side) S.tickets to at (omega arith) (omega arith) (offer_fine S i at.0 (seat_within i h at) h (orderly.each i h at).kept p) (omega (arith, ap (rank_at n i h) place, offer_lower n i at.0 (seat_within i h at) orderly.few h (offered h p) p refl)) is
  goes_at (Push i) h to free at (place, (next, push, is)) =
      goes i h next S.side S.tickets to at (omega arith) (omega arith) (push_fine S i at.0 (seat_within i h at) h (orderly.each i h at).kept next push) (omega (arith, ap (rank_at n i h) place, push_lower n i at.0 (seat_within i h at) orderly.few h next push)) is
  goes_at (Keep i) h to free at step = absurd (true≢false free)
  goes_at (Leave i) h to free at (l, place, is) =
      goes i h (record h { place = Gone l }) S.side S.tickets to at (omega arith) (omega arith) (leave_fine S i at.0 (seat_within i h at) h (orderly.each i h at).kept l (subst (IsInOrder S i h) place (orderly.each i h at).place)) (omega (arith, ap (rank_at n i h) place)) is

  pub step_goes : (event : Event) (to : StateValue) → is_keep event ≡ false → Steps S event to → Goes to
  step_goes event to free (h, at, step) = goes_at event h to free at step

-- the event of a live hand's place is lawful
lawful_event : (S : StateValue) (i : ℕ) (h : HandValue) (p : Place) → IsHand S i h → h.place ≡ p → stays p ≡ true → IsInOrder S i h p → IsLawful S (event_at i p)
lawful_event S i h Ready at place live is = (h, at, place, tt)
lawful_event S i h Taking at place live is = (h, at, place, tt)
lawful_event S i h (Trying g) at place live (one, there, apart, empty) = (h, at, (place, apart), hand_there S g (one, there))
lawful_event S i h (Holding t) at place live is = (h, at, (t, place), tt)
lawful_event S i h (Drawn t ticket) at place live is = (h, at, (t, ticket, place), tt)
lawful_event S i h (Offering p) at place live is = (h, at, (p, place), tt)
lawful_event S i h Pushing at place live is = (h, at, place, tt)
lawful_event S i h (Leaving l) at place live is = (h, at, (l, place), tt)
lawful_event S i h (Gone l) at place live is = absurd (true≢false (sym live))

pub hand_event : (i : ℕ) (p : Place) → (hand_of (event_at i p) ≡ i) × (is_keep (event_at i p) ≡ false)
hand_event i Ready = (refl, refl)
hand_event i Taking = (refl, refl)
hand_event i (Trying g) = (refl, refl)
hand_event i (Holding t) = (refl, refl)
hand_event i (Drawn t ticket) = (refl, refl)
hand_event i (Offering p) = (refl, refl)
hand_event i Pushing = (refl, refl)
hand_event i (Leaving l) = (refl, refl)
hand_event i (Gone l) = (refl, refl)

-- the place that is read at the seat is the hand's
pub place_read : (S V : StateValue) (i : ℕ) (h read : HandValue) (place : Place) → V ≡ S → IsHand S i h → read ≡ get_or V.hands (i - 1) read → place ≡ read.place → place ≡ h.place
place_read S V i h read place same at is there =
    there ∙ ap (λ (x : HandValue). x.place) (is ∙ ap (λ (x : StateValue). get_or x.hands (i - 1) read) same ∙ get_or_from_slice_get S.hands (i - 1) h read at.1)

pub lawful_turn : (S : StateValue) (k i : ℕ) (place : Place) (event : Event) → IsOrderly S → (live : IsLiveHand S k i) → place ≡ live.0.place → event ≡ event_at i place → IsLawful S event
lawful_turn S k i place event orderly (h, at, live, count) same is =
    subst (λ (e : Event). IsLawful S e) (sym (is ∙ ap (event_at i) same)) (lawful_event S i h h.place at refl live (orderly.each i h at).place)

pub moves_turn : (S to : StateValue) (k i : ℕ) (place : Place) (event : Event) → IsLiveHand S k i → event ≡ event_at i place → Steps S event to → Moves S k to
moves_turn S to k i place event live is step =
    let number : i ≡ hand_of event = sym (ap hand_of is ∙ (hand_event i place).0) in
    (event, subst (IsLiveHand S k) number live, ap is_keep is ∙ (hand_event i place).1, step)
