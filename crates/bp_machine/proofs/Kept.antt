-- Each step of the machine keeps its facts.
use Rattle.std.proofs.Common.{◌≡◌, ℕ, ◌+◌, ◌-◌, [], inl, inr, length, min, refl, ap, sym, subst}
use Rattle.bp_base.specs.declared.point.Sheet.{Sheet}
use Rattle.bp_base.specs.Tree.{TreeValue, IsTree}
use Rattle.bp_turn.specs.Turns.{IsTurn}
use Rattle.bp_machine.specs.declared.event.Event.{Event}
use Rattle.bp_machine.specs.declared.event.Event.TheVariants.{Pop, Steal, Draw, Load, Examine, Offer, Push, Keep, Leave}
use Rattle.bp_machine.specs.declared.place.Place.{Place}
use Rattle.bp_machine.specs.declared.place.Place.TheVariants.{Ready, Taking, Trying, Holding, Drawn, Offering, Pushing, Leaving, Gone}
use Rattle.bp_machine.specs.Facts.{HasFacts}
use Rattle.bp_machine.specs.State.{HandValue, IsHand, StateValue}
use Rattle.bp_machine.specs.Steps.{Keeps, Pops, Pushes, Steals, Steps, StepsAt, drawn, examined, hand_of, loaded, offered, with_hand}
use Rattle.bp_machine.proofs.Drawn.{draws}
use Rattle.bp_machine.proofs.Examined.{examines}
use Rattle.bp_machine.proofs.Moved.{IsMove, IsSoFar, after_move, facts_of, moved, so_far}
use Rattle.bp_machine.proofs.Offered.{offers}
use Rattle.bp_machine.proofs.Pushed.{keeps, pushes}
use Rattle.bp_machine.proofs.Stolen.{steals}
use Rattle.bp_machine.proofs.Taken.{at_place, facts_at, leaves, loads, pops, taking}

module _ (S : StateValue) (tree : IsTree S.metric.tree) (way : IsSoFar S.metric.tree S.metric.sheet S []) where
  abbrev T : TreeValue
  T = S.metric.tree

  abbrev G : Sheet
  G = S.metric.sheet

  abbrev Way : StateValue → Type 0
  Way to = IsSoFar T G to []

  -- the hand of this number is one that stands at this place, and its move gives this state
  moves : (i : ℕ) (h : HandValue) (p : Place) (after : HandValue → HandValue) (side tickets : ℕ) (to : StateValue) → h.place ≡ p → IsHand S i h → ((x : HandValue) → IsHand S i (record x { place = p }) → IsMove T G S [] [] way.opening_side side tickets (record x { place = p }) (after (record x { place = p }))) → to ≡ after_move S (i - 1) (after h) side tickets → Way to
  moves i h p after side tickets to place at move is =
      at_place h p place (λ (x : HandValue). IsHand S i x → to ≡ after_move S (i - 1) (after x) side tickets → Way to) (λ here end. subst Way (sym end) (moved T G S [] way (i - 1) (record h { place = p }) (after (record h { place = p })) here.1 [] side tickets (move h here))) at is

  -- the same for a move that may have several ends
  ends : (i : ℕ) (h next : HandValue) (p : Place) (Ends : HandValue → HandValue → Type 0) (to : StateValue) → h.place ≡ p → IsHand S i h → ((x : HandValue) → IsHand S i (record x { place = p }) → Ends (record x { place = p }) next → IsMove T G S [] [] way.opening_side S.side S.tickets (record x { place = p }) next) → Ends h next → to ≡ with_hand S i next → Way to
  ends i h next p Ends to place at move end is =
      at_place h p place (λ (x : HandValue). IsHand S i x → Ends x next → Way to) (λ here there. subst Way (sym is) (moved T G S [] way (i - 1) (record h { place = p }) next here.1 [] S.side S.tickets (move h here there))) at end

  kept_at : (h : HandValue) (event : Event) (to : StateValue) → IsHand S (hand_of event) h → StepsAt S h event to → Way to
  kept_at h (Load i) to at (place, is) =
      moves i h Ready (loaded S.side S.floor) S.side S.tickets to place at (λ x here. loads T G S [] way x (facts_at T G S [] way (i - 1) (record x { place = Ready }) here.1)) is
  kept_at h (Pop i) to at (place, (next, pop, is)) =
      ends i h next Taking (Pops (length S.hands) i) to place at (λ x here there. pops T G S [] way x Taking (facts_at T G S [] way (i - 1) (record x { place = Taking }) here.1) taking refl (λ few. few) (length S.hands) i next there) pop is
  kept_at h (Steal i g) to at (place, apart, (other, there, steal)) =
      at_place h (Trying g) place (λ (x : HandValue). IsHand S i x → Steals S i g x other to → Way to) (λ here taken. steals T G S way i g apart h other here there to taken) at steal
  kept_at h (Draw i) to at (t, place, is) =
      moves i h (Holding t) (λ x. drawn S.tickets S.budget x t) S.side (S.tickets + 1) to place at (λ x here. draws T G S way x t (facts_at T G S [] way (i - 1) (record x { place = Holding t }) here.1)) is
  kept_at h (Examine i) to at (t, ticket, place, (turn, children, is_turn, is)) =
      at_place h (Drawn t ticket) place (λ (x : HandValue). IsHand S i x → IsTurn T G t x.known ticket children turn → to ≡ with_hand S i (examined x turn children) → Way to) (λ here judged end. subst Way (sym end) (moved T G S [] way (i - 1) (record h { place = Drawn t ticket }) (examined (record h { place = Drawn t ticket }) turn children) here.1 [] S.side S.tickets (examines T G tree S way h t ticket (facts_at T G S [] way (i - 1) (record h { place = Drawn t ticket }) here.1) turn children judged))) at is_turn is
  kept_at h (Offer i) to at (p, place, is) =
      moves i h (Offering p) (λ x. offered x p) (min S.side p.side) S.tickets to place at (λ x here. offers T G S way x p (facts_at T G S [] way (i - 1) (record x { place = Offering p }) here.1)) is
  kept_at h (Push i) to at (place, (next, push, is)) =
      ends i h next Pushing Pushes to place at (λ x here there. pushes T G S way x (facts_at T G S [] way (i - 1) (record x { place = Pushing }) here.1) next there) push is
  kept_at h (Keep i) to at (place, (next, keep, is)) =
      ends i h next Pushing Keeps to place at (λ x here there. keeps T G S way x (facts_at T G S [] way (i - 1) (record x { place = Pushing }) here.1) next there) keep is
  kept_at h (Leave i) to at (left, place, is) =
      moves i h (Leaving left) (λ x. record x { place = Gone left }) S.side S.tickets to place at (λ x here. leaves T G S [] way x left (facts_at T G S [] way (i - 1) (record x { place = Leaving left }) here.1)) is

pub kept : (S : StateValue) (event : Event) (to : StateValue) → IsTree S.metric.tree → HasFacts S.metric.tree S.metric.sheet S → Steps S event to → HasFacts S.metric.tree S.metric.sheet to
kept S event to tree facts (h, at, step) =
    facts_of S.metric.tree S.metric.sheet to (kept_at S tree (so_far S.metric.tree S.metric.sheet S facts) h event to at step)

-- a step leaves the tree and the sheet
pub same_metric : (S : StateValue) (event : Event) (to : StateValue) → Steps S event to → to.metric ≡ S.metric
same_metric S (Load i) to (h, at, (place, is)) = ap (λ (x : StateValue). x.metric) is
same_metric S (Pop i) to (h, at, (place, (next, pop, is))) = ap (λ (x : StateValue). x.metric) is
same_metric S (Steal i g) to (h, at, (place, apart, (other, there, inl (empty, (next, tries, is))))) = ap (λ (x : StateValue). x.metric) is
same_metric S (Steal i g) to (h, at, (place, apart, (other, there, inr (t, rest, deque, is)))) = ap (λ (x : StateValue). x.metric) is
same_metric S (Draw i) to (h, at, (t, place, is)) = ap (λ (x : StateValue). x.metric) is
same_metric S (Examine i) to (h, at, (t, ticket, place, (turn, children, is_turn, is))) = ap (λ (x : StateValue). x.metric) is
same_metric S (Offer i) to (h, at, (p, place, is)) = ap (λ (x : StateValue). x.metric) is
same_metric S (Push i) to (h, at, (place, (next, push, is))) = ap (λ (x : StateValue). x.metric) is
same_metric S (Keep i) to (h, at, (place, (next, keep, is))) = ap (λ (x : StateValue). x.metric) is
same_metric S (Leave i) to (h, at, (left, place, is)) = ap (λ (x : StateValue). x.metric) is
