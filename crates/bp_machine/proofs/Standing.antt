-- A step is only there for a lawful event, and the test of a place tells.
use Rattle.std.proofs.Common.{◌≡◌, ◌⊎◌, inl, inr, ◌<◌, ◌≤◌, ◌-◌, ℕ, List, [], ◌∷◌, ◌++◌, All, Some, None, length, get_or, true, false, true≢false, ◌==◌, not, refl, sym, ap, ◌∙◌, subst, arith}
use Rattle.std.specs.List.{slice_get, sum_by}
use Rattle.std.proofs.lemmas.List.Elements.{All-head}
use Rattle.std.proofs.lemmas.List.Sums.{sum_by-cons}
use Rattle.std.proofs.lemmas.Option.{get_or_from_slice_get, slice_get-get_or, slice_get_cases}
use Rattle.bp_base.specs.declared.point.Sheet.{Sheet}
use Rattle.bp_base.specs.declared.record.Left.TheVariants.{AtFloor, Spent, Idle, Halted, NoMemory}
use Rattle.bp_base.specs.declared.record.Task.{Task}
use Rattle.bp_base.specs.Limits.{most_number}
use Rattle.bp_base.specs.Tree.{TreeValue, IsTree}
use Rattle.bp_core.proofs.Small.{opening_small}
use Rattle.bp_core.specs.Underway.{IsLeft}
use Rattle.bp_branch.specs.Branches.{IsBranch}
use Rattle.bp_branch.proofs.Picked.{picked_branch, stated_picked}
use Rattle.bp_machine.specs.Facts.{HasFacts, HasHandFacts, IsPlaced, held, spends}
use Rattle.bp_machine.proofs.Moved.{parts}
use Rattle.bp_machine.proofs.Seats.{at_seat}
use Rattle.std.proofs.lemmas.Bool.{and_from, and_parts, eq-eqb, eqb-true, ne_eqb}
use Rattle.bp_machine.specs.declared.event.Event.{Event}
use Rattle.bp_machine.specs.declared.event.Event.TheVariants.{Pop, Steal, Draw, Load, Examine, Offer, Push, Keep, Leave}
use Rattle.bp_machine.specs.declared.place.Place.{Place}
use Rattle.bp_machine.specs.declared.place.Place.TheVariants.{Ready, Taking, Trying, Holding, Drawn, Offering, Pushing, Leaving, Gone}
use Rattle.bp_machine.specs.Lawful.{HasSource, IsLawful, StandsAt, stands}
use Rattle.bp_machine.specs.State.{HandValue, IsHand, StateValue}
use Rattle.bp_machine.specs.Steps.{Steps, hand_of}

pub lawful : (S : StateValue) (event : Event) (to : StateValue) → Steps S event to → IsLawful S event
lawful S (Load i) to (h, at, (place, is)) = (h, at, place, tt)
lawful S (Pop i) to (h, at, (place, step)) = (h, at, place, tt)
lawful S (Steal i g) to (h, at, (place, apart, (other, there, step))) = (h, at, (place, apart), (other, there))
lawful S (Draw i) to (h, at, (t, place, is)) = (h, at, (t, place), tt)
lawful S (Examine i) to (h, at, (t, ticket, place, step)) = (h, at, (t, ticket, place), tt)
lawful S (Offer i) to (h, at, (p, place, is)) = (h, at, (p, place), tt)
lawful S (Push i) to (h, at, (place, step)) = (h, at, place, tt)
lawful S (Keep i) to (h, at, (place, step)) = (h, at, place, tt)
lawful S (Leave i) to (h, at, (left, place, is)) = (h, at, (left, place), tt)

-- the place of an event, by its test
load_at : (p : Place) (i : ℕ) → stands p (Load i) ≡ true → p ≡ Ready
load_at Ready i is = refl
load_at p i is = absurd (true≢false (sym is))

pop_at : (p : Place) (i : ℕ) → stands p (Pop i) ≡ true → p ≡ Taking
pop_at Taking i is = refl
pop_at p i is = absurd (true≢false (sym is))

steal_at : (p : Place) (i g : ℕ) → stands p (Steal i g) ≡ true → StandsAt p (Steal i g)
steal_at (Trying from) i g is =
    let both = and_parts (from == g) (not (g == i)) is in
    (ap Trying (eqb-true from g both.0), λ same. true≢false (sym both.1 ∙ ap not (eq-eqb g i same)))
steal_at p i g is = absurd (true≢false (sym is))

draw_at : (p : Place) (i : ℕ) → stands p (Draw i) ≡ true → StandsAt p (Draw i)
draw_at (Holding t) i is = (t, refl)
draw_at p i is = absurd (true≢false (sym is))

examine_at : (p : Place) (i : ℕ) → stands p (Examine i) ≡ true → StandsAt p (Examine i)
examine_at (Drawn t ticket) i is = (t, ticket, refl)
examine_at p i is = absurd (true≢false (sym is))

offer_at : (p : Place) (i : ℕ) → stands p (Offer i) ≡ true → StandsAt p (Offer i)
offer_at (Offering placement) i is = (placement, refl)
offer_at p i is = absurd (true≢false (sym is))

push_at : (p : Place) (i : ℕ) → stands p (Push i) ≡ true → p ≡ Pushing
push_at Pushing i is = refl
push_at p i is = absurd (true≢false (sym is))

keep_at : (p : Place) (i : ℕ) → stands p (Keep i) ≡ true → p ≡ Pushing
keep_at Pushing i is = refl
keep_at p i is = absurd (true≢false (sym is))

leave_at : (p : Place) (i : ℕ) → stands p (Leave i) ≡ true → StandsAt p (Leave i)
leave_at (Leaving left) i is = (left, refl)
leave_at p i is = absurd (true≢false (sym is))

pub stands_true : (p : Place) (event : Event) → stands p event ≡ true → StandsAt p event
stands_true p (Load i) is = load_at p i is
stands_true p (Pop i) is = pop_at p i is
stands_true p (Steal i g) is = steal_at p i g is
stands_true p (Draw i) is = draw_at p i is
stands_true p (Examine i) is = examine_at p i is
stands_true p (Offer i) is = offer_at p i is
stands_true p (Push i) is = push_at p i is
stands_true p (Keep i) is = keep_at p i is
stands_true p (Leave i) is = leave_at p i is

-- and an event that stands at its place passes the test
pub true_stands : (p : Place) (event : Event) → StandsAt p event → stands p event ≡ true
true_stands p (Load i) is = ap (λ (q : Place). stands q (Load i)) is
true_stands p (Pop i) is = ap (λ (q : Place). stands q (Pop i)) is
true_stands p (Steal i g) is = ap (λ (q : Place). stands q (Steal i g)) is.0 ∙ and_from (g == g) (not (g == i)) (eq-eqb g g refl) (ap not (ne_eqb g i is.1))
true_stands p (Draw i) (t, is) = ap (λ (q : Place). stands q (Draw i)) is
true_stands p (Examine i) (t, ticket, is) = ap (λ (q : Place). stands q (Examine i)) is
true_stands p (Offer i) (placement, is) = ap (λ (q : Place). stands q (Offer i)) is
true_stands p (Push i) is = ap (λ (q : Place). stands q (Push i)) is
true_stands p (Keep i) is = ap (λ (q : Place). stands q (Keep i)) is
true_stands p (Leave i) (left, is) = ap (λ (q : Place). stands q (Leave i)) is

pub hand_there : (S : StateValue) (i : ℕ) → (1 ≤ i) × (i ≤ length S.hands) → (h : HandValue) × IsHand S i h
hand_there S i (some, within) = found (slice_get_cases S.hands (i - 1)).1
  where
    found : ((x : HandValue) × (i - 1 < length S.hands) × (slice_get S.hands (i - 1) ≡ Some x) × (get_or S.hands (i - 1) x ≡ x)) ⊎ ((length S.hands ≤ i - 1) × (slice_get S.hands (i - 1) ≡ None)) → (h : HandValue) × IsHand S i h
    found (inl (x, less, at, is)) = (x, (some, at))
    found (inr (past, none)) = absurd (omega (arith, past, some, within))

pub one_hand : (S : StateValue) (i : ℕ) (h g : HandValue) → IsHand S i h → IsHand S i g → h ≡ g
one_hand S i h g at there = sym (get_or_from_slice_get S.hands (i - 1) h h at.1) ∙ get_or_from_slice_get S.hands (i - 1) g h there.1

-- the hand that is found there is the one read
pub hand_read : (S : StateValue) (i : ℕ) (h : HandValue) → (1 ≤ i) × (i ≤ length S.hands) → h ≡ get_or S.hands (i - 1) h → IsHand S i h
hand_read S i h (some, within) is = (some, slice_get-get_or S.hands (i - 1) h (omega (arith, some, within)) ∙ ap Some (sym is))

-- the event's hand is the one read
pub hand_seen : (S V : StateValue) (event : Event) (n : ℕ) (h : HandValue) → V ≡ S → n ≡ hand_of event → (1 ≤ n) × (n ≤ length S.hands) → h ≡ get_or V.hands (n - 1) h → IsHand S (hand_of event) h
hand_seen S V event n h same number within read =
    subst (λ (k : ℕ). IsHand S k h) number (hand_read S n h within (read ∙ ap (λ (x : StateValue). get_or x.hands (n - 1) h) same))

pub lawful_at : (S : StateValue) (event : Event) (h : HandValue) → IsHand S (hand_of event) h → stands h.place event ≡ true → HasSource S event → IsLawful S event
lawful_at S event h at stand source = (h, at, stands_true h.place event stand, source)

pub unlawful_at : (S : StateValue) (event : Event) (h : HandValue) → IsHand S (hand_of event) h → stands h.place event ≡ false → IsLawful S event → ⊥
unlawful_at S event h at stand (g, there, at_place, source) =
    true≢false (sym (true_stands g.place event at_place) ∙ ap (λ (x : HandValue). stands x.place event) (one_hand S (hand_of event) g h there at) ∙ stand)

-- each hand spends at most one
spends_few : (p : Place) → spends p ≤ 1
spends_few (Leaving AtFloor) = omega arith
spends_few (Leaving Spent) = omega arith
spends_few (Leaving Idle) = omega arith
spends_few (Leaving Halted) = omega arith
spends_few (Leaving NoMemory) = omega arith
spends_few (Gone AtFloor) = omega arith
spends_few (Gone Spent) = omega arith
spends_few (Gone Idle) = omega arith
spends_few (Gone Halted) = omega arith
spends_few (Gone NoMemory) = omega arith
spends_few p = omega arith

pub spent_few : (hands : List HandValue) → sum_by (λ (h : HandValue). spends h.place) hands ≤ length hands
spent_few [] = omega arith
spent_few (h ∷ hands) = omega (arith, spends_few h.place, spent_few hands, sum_by-cons (λ (x : HandValue). spends x.place) h hands)

-- what a hand holds where an event of its own is lawful
module _ (T : TreeValue) (G : Sheet) (S : StateValue) (facts : HasFacts T G S) where
  pub facts_of_hand : (i : ℕ) (h : HandValue) → IsHand S i h → HasHandFacts T G facts.opening_side S.side h
  facts_of_hand i h at = at_seat (HasHandFacts T G facts.opening_side S.side) S.hands (i - 1) h at.1 facts.hands

  pub pushing : (i : ℕ) (h : HandValue) → IsHand S i h → h.place ≡ Pushing → 0 < length h.unplaced
  pushing i h at place = subst (IsPlaced T G h) place (facts_of_hand i h at).placed

  pub drawn_empty : (i : ℕ) (h : HandValue) (t : Task) (n : ℕ) → IsHand S i h → h.place ≡ Drawn t n → h.unplaced ≡ []
  drawn_empty i h t n at place = subst (IsPlaced T G h) place (facts_of_hand i h at).placed

  pub drawn_left : (i : ℕ) (h : HandValue) (t : Task) (n : ℕ) → IsHand S i h → h.place ≡ Drawn t n → IsLeft T G S.side t
  drawn_left i h t n at place =
      let all : All (IsLeft T G S.side) (h.deque ++ h.kept ++ h.unplaced ++ held (Drawn t n)) = subst (λ (p : Place). All (IsLeft T G S.side) (h.deque ++ h.kept ++ h.unplaced ++ held p)) place (facts_of_hand i h at).tasks in
      All-head (IsLeft T G S.side) t [] (parts (IsLeft T G S.side) h.deque h.kept h.unplaced (t ∷ []) all).3

  pub examining : IsTree T → (i : ℕ) → IsLawful S (Examine i) → (h : HandValue) × IsHand S i h × (h.unplaced ≡ []) × ((t : Task) × (n : ℕ) × (h.place ≡ Drawn t n) × IsBranch T t.path × (t.bound ≤ most_number))
  examining tree i (h, at, (t, n, place), tt) =
      let left = drawn_left i h t n at place in
      let u = facts.opening_side in (
        h,
        at,
        drawn_empty i h t n at place,
        (
          t,
          n,
          place,
          picked_branch T tree t.path (stated_picked T tree G u t.path (left.stated u facts.is_opening_side)),
          omega (arith, left.no_more u facts.is_opening_side, opening_small T tree G u facts.is_opening_side),
        ),
      )
