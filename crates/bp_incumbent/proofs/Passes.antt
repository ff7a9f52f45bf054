-- A pass stays a pass.
use Rattle.std.proofs.Common.{◌≡◌, ℕ, zero, suc, ◌<◌, leb, List, [], ◌∷◌, ◌++◌, get_or, All, sym, refl, ap, ◌∙◌, subst, arith, append-nil}
use Rattle.std.specs.List.{Contains}
use Rattle.std.proofs.lemmas.List.Concat.{flat_map-cons}
use Rattle.std.proofs.lemmas.List.Elements.{All-append, Contains-append_left, Contains-append_right}
use Rattle.bp_incumbent.specs.Entries.{at_first}
use Rattle.bp_incumbent.specs.declared.pass.Pass.TheInside.{Inside}
use Rattle.bp_incumbent.specs.declared.side.Offers.{Offers}
use Rattle.bp_incumbent.specs.declared.tickets.Ticket.{Ticket}
use Rattle.bp_incumbent.specs.declared.tickets.Drawn.{Drawn}
use Rattle.bp_incumbent.specs.declared.tickets.TicketView.{TicketView}
use Rattle.bp_incumbent.specs.declared.halt.Halts.{Halts}
use Rattle.bp_incumbent.specs.Side as side
use Rattle.bp_incumbent.specs.Tickets as tickets
use Rattle.bp_incumbent.specs.Tickets.{is_spent, ticket, ticket_view, tickets_of, with_ticket}
use Rattle.bp_incumbent.specs.Passes.{IsPass}
use Rattle.bp_incumbent.proofs.Draws.{spent_last}

pub contains_last : (xs : List ℕ) (y : ℕ) → Contains (xs ++ y ∷ []) y
contains_last xs y = Contains-append_right xs (y ∷ []) y (0, omega arith, refl)

-- the passes of a side seat that stands for the pass of number n
abbrev One : List Offers → ℕ → Type 0
One ps n = (o : Offers) × (ps ≡ o ∷ []) × (o.number ≡ n)

-- another side seat, which has seen as much and more
pub with_side : (p q : Inside) → IsPass p → q.number ≡ p.number → q.seats.tickets ≡ p.seats.tickets → q.seats.halt ≡ p.seats.halt → q.seats.side.me.1 ≡ p.seats.side.me.1 → One q.seats.side.me.0.passes p.number
    → (xs : List ℕ) → q.seats.side.me.0.seen ≡ p.seats.side.me.0.seen ++ xs → Contains q.seats.side.me.0.seen q.last → IsPass q
with_side p q was number drawn halt slot one xs seen last = record {
  no_slots = (slot ∙ was.no_slots.0, ap (λ s. s.me.1) drawn ∙ was.no_slots.1, ap (λ s. s.me.1) halt ∙ was.no_slots.2);
  one = (one.0, one.1, one.2 ∙ sym number);
  one_drawn = (was.one_drawn.0, ap (λ s. s.me.0.passes) drawn ∙ was.one_drawn.1, was.one_drawn.2 ∙ sym number);
  one_halts = (was.one_halts.0, ap (λ s. s.me.0.passes) halt ∙ was.one_halts.1, was.one_halts.2 ∙ sym number);
  last_seen = last;
  carried = subst (λ (ts : List Ticket). All (λ (t : Ticket). Contains q.seats.side.me.0.seen t.side) ts) (sym (ap (λ s. tickets_of s.me.0) drawn))
      (λ k d lt. subst (λ (l : List ℕ). Contains l (get_or (tickets_of p.seats.tickets.me.0) k d).side) (sym seen) (Contains-append_left p.seats.side.me.0.seen xs _ (was.carried k d lt)));
}

-- the same passes as before
pub same_one : (ps qs : List Offers) (n : ℕ) → qs ≡ ps → One ps n → One qs n
same_one ps qs n same one = (one.0, same ∙ one.1, one.2)

pub offered_one : (ps qs : List Offers) (offer n : ℕ) → qs ≡ at_first (side.one_more offer) ps → One ps n → One qs n
offered_one ps qs offer n is one = (side.one_more offer one.0, is ∙ ap (at_first (side.one_more offer)) one.1, one.2)

-- the tickets of a seat that stands for one pass

pub of_one : (v : TicketView) (d : Drawn) → v.passes ≡ d ∷ [] → tickets_of v ≡ d.tickets
of_one v d is = ap (λ (ps : List Drawn). tickets_of (ticket_view ps)) is ∙ flat_map-cons (λ (d : Drawn). d.tickets) d [] ∙ append-nil d.tickets

pub of_drawn : (v : TicketView) (d : Drawn) (number carried : ℕ) → v.passes ≡ d ∷ [] → tickets_of (with_ticket v number carried) ≡ tickets_of v ++ ticket number carried ∷ []
of_drawn v d number carried is = let t = ticket number carried in
    of_one (with_ticket v number carried) (tickets.one_more t d) (ap (at_first (tickets.one_more t)) is) ∙ ap (λ (l : List Ticket). l ++ t ∷ []) (sym (of_one v d is))

-- another ticket seat, which has one more ticket
pub with_tickets : (p q : Inside) (n : ℕ) → IsPass p → q.number ≡ p.number → q.seats.side ≡ p.seats.side → q.seats.halt ≡ p.seats.halt → q.last ≡ p.last → q.seats.tickets.me ≡ (with_ticket p.seats.tickets.me.0 n p.last, p.seats.tickets.me.1) → IsPass q
with_tickets p q n was number kept halt last drawn =
    let d = was.one_drawn.0 in let t = ticket n p.last in
    let seen : q.seats.side.me.0.seen ≡ p.seats.side.me.0.seen = ap (λ s. s.me.0.seen) kept in
    let sees : List ℕ → Ticket → Type 0 = λ l t. Contains l t.side in
    record {
      no_slots = (ap (λ s. s.me.1) kept ∙ was.no_slots.0, ap (λ m. m.1) drawn ∙ was.no_slots.1, ap (λ s. s.me.1) halt ∙ was.no_slots.2);
      one = (was.one.0, ap (λ s. s.me.0.passes) kept ∙ was.one.1, was.one.2 ∙ sym number);
      one_drawn = (tickets.one_more t d, ap (λ m. m.0.passes) drawn ∙ ap (at_first (tickets.one_more t)) was.one_drawn.1, was.one_drawn.2 ∙ sym number);
      one_halts = (was.one_halts.0, ap (λ s. s.me.0.passes) halt ∙ was.one_halts.1, was.one_halts.2 ∙ sym number);
      last_seen = subst (λ (x : List ℕ × ℕ). Contains x.0 x.1) (λ i. (sym seen i, sym last i)) was.last_seen;
      carried = subst (λ (l : List ℕ). All (sees l) (tickets_of q.seats.tickets.me.0)) (sym seen)
          (subst (All (sees p.seats.side.me.0.seen)) (sym (ap (λ m. tickets_of m.0) drawn ∙ of_drawn p.seats.tickets.me.0 d n p.last was.one_drawn.1))
          (All-append (sees p.seats.side.me.0.seen) (tickets_of p.seats.tickets.me.0) (t ∷ []) was.carried (λ k e lt. one_only (sees p.seats.side.me.0.seen) t was.last_seen k e lt)));
    }
  where
    one_only : (P : Ticket → Type 0) (t : Ticket) → P t → (k : ℕ) (e : Ticket) → k < 1 → P (get_or (t ∷ []) k e)
    one_only P t h zero e lt = h
    one_only P t h (suc k) e lt = absurd (omega arith)

-- another halt seat, which stands for the same pass
pub with_halt : (p q : Inside) (change : Halts → Halts) → ((h : Halts) → (change h).number ≡ h.number) → IsPass p → q.number ≡ p.number → q.seats.side ≡ p.seats.side → q.seats.tickets ≡ p.seats.tickets → q.last ≡ p.last → q.seats.halt.me.1 ≡ p.seats.halt.me.1
    → q.seats.halt.me.0.passes ≡ at_first change p.seats.halt.me.0.passes → IsPass q
with_halt p q change same was number kept drawn last slot passes =
    let sees : List ℕ → Ticket → Type 0 = λ l t. Contains l t.side in
    let seen : q.seats.side.me.0.seen ≡ p.seats.side.me.0.seen = ap (λ s. s.me.0.seen) kept in
    record {
      no_slots = (ap (λ s. s.me.1) kept ∙ was.no_slots.0, ap (λ s. s.me.1) drawn ∙ was.no_slots.1, slot ∙ was.no_slots.2);
      one = (was.one.0, ap (λ s. s.me.0.passes) kept ∙ was.one.1, was.one.2 ∙ sym number);
      one_drawn = (was.one_drawn.0, ap (λ s. s.me.0.passes) drawn ∙ was.one_drawn.1, was.one_drawn.2 ∙ sym number);
      one_halts = (change was.one_halts.0, passes ∙ ap (at_first change) was.one_halts.1, same was.one_halts.0 ∙ was.one_halts.2 ∙ sym number);
      last_seen = subst (λ (x : List ℕ × ℕ). Contains x.0 x.1) (λ i. (sym seen i, sym last i)) was.last_seen;
      carried = subst (λ (x : List ℕ × List Ticket). All (sees x.0) x.1) (λ i. (sym seen i, sym (ap (λ s. tickets_of s.me.0) drawn) i)) was.carried;
    }

-- what holds of each ticket of the one pass holds of each ticket of the seat
pub all_of : (P : Ticket → Type 0) (v : TicketView) (d : Drawn) → v.passes ≡ d ∷ [] → All (λ (p : Drawn). All P p.tickets) v.passes → All P (tickets_of v)
all_of P v d is all = subst (All P) (sym (of_one v d is)) (subst (λ (l : List Drawn). All (λ (p : Drawn). All P p.tickets) l) is all 0 d (omega arith))

pub spent_after : (limit n carried : ℕ) (ts us : List Ticket) → us ≡ ts ++ ticket n carried ∷ [] → is_spent limit us ≡ leb limit n
spent_after limit n carried ts us is = ap (is_spent limit) is ∙ spent_last limit ts (ticket n carried)
