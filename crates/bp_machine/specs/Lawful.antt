-- Which events are lawful: those that stand at the place of their hand, where their hands are there. A step is there exactly for them.
use Rattle.std.specs.Prelude.{◌≡◌, ◌≢◌, ℕ, Bool, true, false, ◌&&◌, ◌==◌, not}
use Rattle.bp_base.specs.declared.point.Placement.{Placement}
use Rattle.bp_base.specs.declared.record.Left.{Left}
use Rattle.bp_base.specs.declared.record.Task.{Task}
use Rattle.bp_machine.specs.declared.event.Event.{Event}
use Rattle.bp_machine.specs.declared.event.Event.TheVariants.{Pop, Steal, Draw, Load, Examine, Offer, Push, Keep, Leave}
use Rattle.bp_machine.specs.declared.place.Place.{Place}
use Rattle.bp_machine.specs.declared.place.Place.TheVariants.{Ready, Taking, Trying, Holding, Drawn, Offering, Pushing, Leaving}
use Rattle.bp_machine.specs.State.{HandValue, StateValue, IsHand}
use Rattle.bp_machine.specs.Steps.{hand_of}

-- the place is that of the event
abbrev pub StandsAt : Place → Event → Type 0
StandsAt p (Load i) = p ≡ Ready
StandsAt p (Pop i) = p ≡ Taking
StandsAt p (Steal i g) = (p ≡ Trying g) × (g ≢ i)
StandsAt p (Draw i) = (t : Task) × (p ≡ Holding t)
StandsAt p (Examine i) = (t : Task) × (ticket : ℕ) × (p ≡ Drawn t ticket)
StandsAt p (Offer i) = (placement : Placement) × (p ≡ Offering placement)
StandsAt p (Push i) = p ≡ Pushing
StandsAt p (Keep i) = p ≡ Pushing
StandsAt p (Leave i) = (left : Left) × (p ≡ Leaving left)

-- the same, tested
abbrev pub stands : Place → Event → Bool
stands Ready (Load i) = true
stands Taking (Pop i) = true
stands (Trying from) (Steal i g) = (from == g) && not (g == i)
stands (Holding t) (Draw i) = true
stands (Drawn t ticket) (Examine i) = true
stands (Offering placement) (Offer i) = true
stands Pushing (Push i) = true
stands Pushing (Keep i) = true
stands (Leaving left) (Leave i) = true
stands p event = false

-- the hand that is stolen from is there
abbrev pub HasSource : StateValue → Event → Type 0
HasSource S (Steal i g) = (other : HandValue) × IsHand S g other
HasSource S event = Unit {0}

abbrev pub IsLawful : StateValue → Event → Type 0
IsLawful S event = (h : HandValue) × IsHand S (hand_of event) h × StandsAt h.place event × HasSource S event
