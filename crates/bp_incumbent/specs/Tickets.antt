-- The rule of the tickets table, and what each step on it tells.
use Rattle.std.specs.Prelude.{◌≡◌, ℕ, ◌+◌, ◌<◌, ◌≤◌, Bool, false, leb, List, [], ◌∷◌, ◌++◌, drop, take, All}
use Rattle.std.specs.List.{sum_by, flat_map, range_with_len}
use mathlib.Core.Option.{some}
use lib.ListN.{get_elem?}
use Rattle.atomic_table.specs.Table.{State, Me}
use Rattle.bp_incumbent.specs.Entries.{flag, at_first, numbered}
use Rattle.bp_incumbent.specs.declared.tickets.TicketKey.{TicketKey}
use Rattle.bp_incumbent.specs.declared.tickets.Ticket.{Ticket}
use Rattle.bp_incumbent.specs.declared.tickets.Drawn.{Drawn}
use Rattle.bp_incumbent.specs.declared.tickets.TicketView.{TicketView}

-- A pass is spent where its last ticket is at or above the limit.
abbrev pub is_spent : ℕ → List Ticket → Bool
is_spent limit [] = false
is_spent limit (t ∷ []) = leb limit t.number
is_spent limit (t ∷ u ∷ us) = is_spent limit (u ∷ us)

-- The tickets rise, and only the last may be at or above the limit.
abbrev pub IsRising : ℕ → List Ticket → Type 0
IsRising limit [] = Unit {0}
IsRising limit (t ∷ []) = Unit {0}
IsRising limit (t ∷ u ∷ us) = (t.number < u.number) × (t.number < limit) × IsRising limit (u ∷ us)

abbrev pub AllRising : ℕ → TicketView → Type 0
AllRising limit v = All (λ (p : Drawn). IsRising limit p.tickets) v.passes

-- Sums over all views: the numbers, weighed; the tickets, weighed; the spent passes.
abbrev pub all_numbers : (ℕ → ℕ) → List TicketView → ℕ
all_numbers h views = sum_by (λ (v : TicketView). sum_by (λ (p : Drawn). h p.number) v.passes) views

abbrev pub weight_of : (ℕ → ℕ) → Drawn → ℕ
weight_of h p = sum_by (λ (t : Ticket). h t.number) p.tickets

abbrev pub all_tickets : (ℕ → ℕ) → List TicketView → ℕ
all_tickets h views = sum_by (λ (v : TicketView). sum_by (weight_of h) v.passes) views

abbrev pub all_spent : ℕ → List TicketView → ℕ
all_spent limit views = sum_by (λ (v : TicketView). sum_by (λ (p : Drawn). flag (is_spent limit p.tickets)) v.passes) views

-- Each number stands in one view. The tickets are the numbers below the word, each once. The word is at most the limit and the number of spent passes.
pub record KeepsTickets (limit passes word : ℕ) (views : List TicketView) : Type 0 where
  pub numbers : (h : ℕ → ℕ) → all_numbers h views ≡ sum_by h (range_with_len 1 passes)
  pub once : (h : ℕ → ℕ) → all_tickets h views ≡ sum_by h (range_with_len 0 word)
  pub few : word ≤ limit + all_spent limit views
  pub rising : (i : ℕ) (v : TicketView) → get_elem? views i ≡ some v → AllRising limit v

abbrev pub TicketHolds : {S : Type 0} → TicketKey → State S TicketView → Type 0
TicketHolds key s = (word : ℕ) × (s.words ≡ word ∷ []) × KeepsTickets key.limit key.passes word s.views

abbrev pub drawn : ℕ → List Ticket → Drawn
drawn number tickets = record { number = number; tickets = tickets }

abbrev pub ticket : ℕ → ℕ → Ticket
ticket number side = record { number = number; side = side }

abbrev pub ticket_view : List Drawn → TicketView
ticket_view passes = record { passes = passes }

-- the passes from number k on, n of them, with nothing drawn
abbrev pub undrawn : ℕ → ℕ → List Drawn
undrawn k n = numbered (λ number. drawn number []) k n

-- The first seat has all numbers. Each split of `open` cuts one off.
abbrev pub dealt : TicketKey → TicketView
dealt key = ticket_view (undrawn 1 key.passes)

abbrev pub dealt_rest : TicketView → TicketView
dealt_rest v = ticket_view (drop 1 v.passes)

abbrev pub dealt_one : TicketView → TicketView
dealt_one v = ticket_view (take 1 v.passes)

abbrev pub both : TicketView → TicketView → TicketView
both v w = ticket_view (v.passes ++ w.passes)

abbrev pub none : TicketView
none = ticket_view []

abbrev pub tickets_of : TicketView → List Ticket
tickets_of v = flat_map (λ (p : Drawn). p.tickets) v.passes

abbrev pub one_more : Ticket → Drawn → Drawn
one_more t p = drawn p.number (p.tickets ++ t ∷ [])

abbrev pub with_ticket : TicketView → ℕ → ℕ → TicketView
with_ticket v number side = ticket_view (at_first (one_more (ticket number side)) v.passes)

-- the view stands for one pass, which isn't spent
abbrev pub NamesUnspent : ℕ → TicketView → Type 0
NamesUnspent limit v = (p : Drawn) × (v.passes ≡ p ∷ []) × (is_spent limit p.tickets ≡ false)

-- greater than each ticket of the view
abbrev pub IsAbove : ℕ → TicketView → Type 0
IsAbove number v = All (λ (p : Drawn). All (λ (t : Ticket). t.number < number) p.tickets) v.passes

abbrev pub Drew : {S : Type 0} → Me S TicketView → ℕ → ℕ → Me S TicketView → Type 0
Drew me found side after = (after ≡ (with_ticket me.0 found side, me.1)) × IsAbove found me.0
