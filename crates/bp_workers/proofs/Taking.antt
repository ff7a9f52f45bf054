-- A turn of a worker: a task is taken or was in keeping, and a ticket is drawn for it.
use Rattle.std.proofs.Common.{◌≡◌, ◌⊎◌, inl, inr, ℕ, ◌+◌, ◌<◌, ◌≤◌, Bool, List, [], ◌∷◌, ◌++◌, length, All, Any, Option, None, Some, MatchOption, refl, sym, ◌∙◌, subst, arith, append-nil}
use Rattle.std.specs.Option.{option_to_list}
use Rattle.std.proofs.lemmas.List.{get_or_at, length_push}
use Rattle.bp_base.specs.declared.point.Placement.{Placement}
use Rattle.bp_base.specs.declared.point.Sheet.{Sheet}
use Rattle.bp_base.specs.declared.record.Record.{Record}
use Rattle.bp_base.specs.declared.record.Task.{Task}
use Rattle.bp_base.specs.Limits.{most_number}
use Rattle.bp_base.specs.Tree.{TreeValue}
use Rattle.bp_incumbent.specs.declared.tickets.Ticket.{Ticket}
use Rattle.bp_incumbent.specs.Board.{BoardView, PassView, read_halt, saw}
use Rattle.bp_incumbent.specs.Tickets.{ticket}
use Rattle.bp_pool.specs.Hands.{HandView}
use Rattle.bp_workers.specs.Agrees.{Keeps}
use Rattle.bp_workers.proofs.Steps.{read_keeps, saw_keeps, saw_small}

module _ (T : TreeValue) (G : Sheet) (board : BoardView) (hand : HandView) (pass : PassView) (records : List Record) (best : Option Placement) where
  -- the last task in keeping, if there is one, is in hand
  pub popped : (ks ns : List Task) (result : Option Task) → ks ≡ ns ++ option_to_list result → Keeps T G board hand pass records ks best → MatchOption result (Keeps T G board hand pass records ns best) (λ t. Keeps T G board hand pass records (ns ++ t ∷ []) best)
  popped ks ns None is k = subst (λ (xs : List Task). Keeps T G board hand pass records xs best) (is ∙ append-nil ns) k
  popped ks ns (Some t) is k = subst (λ (xs : List Task). Keeps T G board hand pass records xs best) is k

  -- halt was read, and then the side
  module _ (halt : PassView) (set : Bool) (halt_is : halt ≡ read_halt pass set) (ks : List Task) (keeps : Keeps T G board hand pass records ks best) where
    read : Keeps T G board hand halt records ks best
    read = subst (λ (p : PassView). Keeps T G board hand p records ks best) (sym halt_is) (read_keeps T G board hand pass records best ks set keeps)

    pub looked : (seen : PassView) (side : ℕ) → seen ≡ saw halt side → Keeps T G board hand seen records ks best
    looked seen side seen_is = subst (λ (p : PassView). Keeps T G board hand p records ks best) (sym seen_is) (saw_keeps T G board hand halt records best ks side read)

    pub looked_small : (side : ℕ) → All (λ y. side ≤ y) (halt.seen ++ halt.offers) → side ≤ most_number
    looked_small side least = saw_small T G board hand halt records best ks side read least

-- each ticket drawn from now on is at least this number
abbrev pub IsNext : ℕ → List Ticket → Type 0
IsNext next ts = (next ≡ 0) ⊎ Any (λ (t : Ticket). next ≤ t.number + 1) ts

pub next_below : (next number : ℕ) (ts : List Ticket) → IsNext next ts → All (λ (t : Ticket). t.number < number) ts → next ≤ number
next_below next number ts (inl none) rises = omega (arith, none)
next_below next number ts (inr (k, t, less, at, most)) rises =
    let here : t.number < number = subst (λ (x : Ticket). x.number < number) at (rises k t less) in
    omega (arith, here, most)

pub next_after : (number side : ℕ) (ts : List Ticket) → IsNext (number + 1) (ts ++ ticket number side ∷ [])
next_after number side ts =
    inr (length ts, ticket number side, omega (arith, length_push ts (ticket number side)), get_or_at ts (ticket number side) [] (ticket number side) (length ts) refl, omega arith)
