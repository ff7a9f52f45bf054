-- Each step on the tickets table keeps its rule, and what the tickets then are.
use Rattle.std.proofs.Common.{◌≡◌, ◌≢◌, ℕ, zero, suc, ◌+◌, ◌%◌, ◌<◌, ◌≤◌, Bool, true, false, leb, List, [], ◌∷◌, ◌++◌, map, length, set, slice_set, slice_index, get_or, All, sym, refl, ap, ◌∙◌, subst, ⊎_elim, arith}
use Rattle.std.specs.List.{sum_by, range_with_len}
use Rattle.std.proofs.lemmas.Bool.Decides.{nat_tests}
use Rattle.std.proofs.lemmas.List.Sums.{sum_by-cons, sum_by-append, sum_by_push}
use Rattle.std.proofs.lemmas.List.Elements.{All-append, All-take, All-drop}
use mathlib.Core.Option.{some, some-injective, some-ne-none}
use lib.ListN.{get_elem?}
use Rattle.atomic_table.specs.Table.{Me, Allows, Splits, Joins, keeps, Final, Seen}
use Rattle.atomic_table.proofs.Lists.{at_set, at_snoc}
use Rattle.bp_base.specs.Bags.{AreSame}
use Rattle.bp_base.specs.Limits.{most_budget, most_hands}
use Rattle.bp_base.proofs.Bags.{total_set, total_at, sum_by-map, sum_by-flat_map, sum_by-mono}
use Rattle.bp_incumbent.specs.Entries.{flag, at_first}
use Rattle.bp_incumbent.specs.declared.tickets.TicketKey.{TicketKey}
use Rattle.bp_incumbent.specs.declared.tickets.Ticket.{Ticket}
use Rattle.bp_incumbent.specs.declared.tickets.Drawn.{Drawn}
use Rattle.bp_incumbent.specs.declared.tickets.TicketView.{TicketView}
use Rattle.bp_incumbent.specs.Tickets.{is_spent, IsRising, AllRising, weight_of, all_spent, KeepsTickets, TicketHolds, drawn, ticket, ticket_view, undrawn, dealt_rest, dealt_one, both, none, tickets_of, one_more, with_ticket, NamesUnspent, IsAbove, Drew}
use Rattle.bp_incumbent.proofs.Entries.{cut, only, only_changed, unchanged, part_le, new_numbers, new_none, all_here, ones_up_to, below_more, none_at_end}

-- What a view adds to each sum.

abbrev numbers : (ℕ → ℕ) → TicketView → ℕ
numbers h v = sum_by (λ (p : Drawn). h p.number) v.passes

abbrev tickets : (ℕ → ℕ) → TicketView → ℕ
tickets h v = sum_by (weight_of h) v.passes

abbrev spent_entry : ℕ → Drawn → ℕ
spent_entry limit p = flag (is_spent limit p.tickets)

abbrev spent : ℕ → TicketView → ℕ
spent limit v = sum_by (spent_entry limit) v.passes

-- no more passes are spent than there are
spent_le : (limit passes word : ℕ) (views : List TicketView) → KeepsTickets limit passes word views → all_spent limit views ≤ passes
spent_le limit passes word views kept =
    omega (arith, sum_by-mono (spent limit) (numbers (λ x. 1)) views (λ v. sum_by-mono (spent_entry limit) (λ (p : Drawn). 1) v.passes (λ p. flag_le (is_spent limit p.tickets))), kept.numbers (λ x. 1), ones_up_to passes)
  where
    flag_le : (b : Bool) → flag b ≤ 1
    flag_le true = omega arith
    flag_le false = omega arith

pub spent_last : (limit : ℕ) (ts : List Ticket) (t : Ticket) → is_spent limit (ts ++ t ∷ []) ≡ leb limit t.number
spent_last limit [] t = refl
spent_last limit (u ∷ []) t = refl
spent_last limit (u ∷ v ∷ vs) t = spent_last limit (v ∷ vs) t

unspent_below : (limit n : ℕ) → leb limit n ≡ false → n < limit
unspent_below limit n e = grind (arith, nat_tests)

rising_push : (limit n side : ℕ) (ts : List Ticket) → IsRising limit ts → is_spent limit ts ≡ false → All (λ (t : Ticket). t.number < n) ts → IsRising limit (ts ++ ticket n side ∷ [])
rising_push limit n side [] r u above = tt
rising_push limit n side (t ∷ []) r u above = (above 0 t (omega arith), unspent_below limit t.number u, tt)
rising_push limit n side (t ∷ v ∷ vs) r u above = (r.0, r.1, rising_push limit n side (v ∷ vs) r.2 u (λ k d lt. above (suc k) d (omega arith)))

-- each ticket of a view is below the word
above : (limit passes word i : ℕ) (views : List TicketView) (v : TicketView) → KeepsTickets limit passes word views → get_elem? views i ≡ some v → IsAbove word v
above limit passes word i views v kept at k d lt j e less =
    let p : Drawn = get_or v.passes k d in
    let t : Ticket = get_or p.tickets j e in
    let h : ℕ → ℕ = λ y. flag (leb word y) in
    below t.number word (omega (
      arith,
      kept.once h,
      none_at_end word 0 word (omega arith),
      total_at (tickets h) views i v at,
      part_le (weight_of h) v.passes k d lt,
      part_le (λ (u : Ticket). h u.number) p.tickets j e less,
    ))
  where
    below : (x word : ℕ) → flag (leb word x) ≡ 0 → x < word
    below x word z = grind (arith, nat_tests)

one_all : {E : Type 0} (P : E → Type 0) (e : E) → P e → All P (e ∷ [])
one_all P e h zero d lt = h
one_all P e h (suc k) d lt = absurd (omega arith)

rises : (limit n side : ℕ) (ps : List Drawn) (p : Drawn) → ps ≡ p ∷ [] → is_spent limit p.tickets ≡ false → All (λ (q : Drawn). IsRising limit q.tickets) ps → All (λ (q : Drawn). All (λ (t : Ticket). t.number < n) q.tickets) ps
    → All (λ (q : Drawn). IsRising limit q.tickets) (at_first (one_more (ticket n side)) ps)
rises limit n side ps p is u =
    let F : List Drawn → Type 0 = λ l. All (λ (q : Drawn). IsRising limit q.tickets) l → All (λ (q : Drawn). All (λ (t : Ticket). t.number < n) q.tickets) l → All (λ (q : Drawn). IsRising limit q.tickets) (at_first (one_more (ticket n side)) l) in
    subst F (sym is) (λ r a. one_all (λ (q : Drawn). IsRising limit q.tickets) (one_more (ticket n side) p) (rising_push limit n side p.tickets (r 0 p (omega arith)) u (a 0 p (omega arith))))

-- the passes that are spent after a draw
more_spent : (limit n side old new : ℕ) (v : TicketView) (named : NamesUnspent limit v) → new + spent limit v ≡ old + spent limit (with_ticket v n side) → n ≤ limit + old → n + 1 ≤ limit + new
more_spent limit n side old new v named set few =
    let before = only (spent_entry limit) v.passes named.0 named.1 in
    let after = only_changed (spent_entry limit) (one_more (ticket n side)) v.passes named.0 named.1 in
    let unspent = ap flag named.2 in
    go (omega (arith, before, after, unspent, set, ap flag (spent_last limit named.0.tickets (ticket n side))))
  where
    go : new ≡ old + flag (leb limit n) → n + 1 ≤ limit + new
    go e = grind (arith, nat_tests)

draws : (limit passes word i side : ℕ) (views : List TicketView) (v : TicketView) → NamesUnspent limit v → KeepsTickets limit passes word views → get_elem? views i ≡ some v → KeepsTickets limit passes (word + 1) (set views i (with_ticket v word side))
draws limit passes word i side views v named kept at =
    let w = with_ticket v word side in let p = named.0 in let more = one_more (ticket word side) in
    record {
      numbers = λ h. omega (arith, total_set (numbers h) views i v w at, unchanged (λ (p : Drawn). h p.number) more (λ p. refl) v.passes, kept.numbers h);
      once = λ h.
          let last : weight_of h (more p) ≡ weight_of h p + h word = sum_by_push (λ (t : Ticket). h t.number) p.tickets (ticket word side) in
          let next : sum_by h (range_with_len 0 (word + 1)) ≡ sum_by h (range_with_len 0 word) + h word = below_more h word in
          omega (arith, total_set (tickets h) views i v w at, only (weight_of h) v.passes p named.1, only_changed (weight_of h) more v.passes p named.1, last, kept.once h, next);
      few = more_spent limit word side _ _ v named (total_set (spent limit) views i v w at) kept.few;
      rising = λ j t e. ⊎_elim (λ (x : (j ≡ i) × (w ≡ t)). subst (AllRising limit) x.1 (rises limit word side v.passes p named.1 named.2 (kept.rising i v at) (above limit passes word i views v kept at)))
          (λ (x : (j ≢ i) × (get_elem? views j ≡ some t)). kept.rising j t x.1) (at_set views i j w t e);
    }

no_wrap : (word limit : ℕ) → word ≤ limit + most_hands → limit ≤ most_budget → (word + 1) % 18446744073709551616 ≡ word + 1
no_wrap word limit le small = omega arith

pub draws_allowed : {S : Type 0} (key : TicketKey) (slots id side : ℕ) (me : Me S TicketView) → NamesUnspent key.limit me.0 → key.limit ≤ most_budget → key.passes ≤ most_hands
    → Allows (TicketHolds key) slots id me 0 (λ n. (n + 1) % 18446744073709551616) (λ found after. Drew me found side after)
draws_allowed key slots id side me named small few s holds _ at _ =
    let n : ℕ = slice_index s.words 0 in
    let kept : KeepsTickets key.limit key.passes n s.views = subst (λ (k : ℕ). KeepsTickets key.limit key.passes k s.views) (sym (ap (λ (l : List ℕ). slice_index l 0) holds.1)) holds.2 in
    let le : n ≤ key.limit + most_hands = omega (arith, kept.few, spent_le key.limit key.passes n s.views kept) in
    let next = no_wrap n key.limit le small in (
      with_ticket me.0 n side,
      keeps,
      tt,
      (
        (n + 1) % 18446744073709551616,
        ap (λ (l : List ℕ). slice_set l 0 ((n + 1) % 18446744073709551616)) holds.1,
        subst (λ (k : ℕ). KeepsTickets key.limit key.passes k (set s.views id (with_ticket me.0 n side))) (sym next) (draws key.limit key.passes n id side s.views me.0 named kept at),
      ),
      (refl, above key.limit key.passes n id s.views me.0 kept at),
    )

still_rising : (limit : ℕ) (views : List TicketView) (i : ℕ) (w : TicketView) → ((j : ℕ) (v : TicketView) → get_elem? views j ≡ some v → AllRising limit v) → AllRising limit w → (j : ℕ) (v : TicketView) → get_elem? (set views i w) j ≡ some v → AllRising limit v
still_rising limit views i w rising new j v e = ⊎_elim (λ (x : (j ≡ i) × (w ≡ v)). subst (AllRising limit) x.1 new) (λ (x : (j ≢ i) × (get_elem? views j ≡ some v)). rising j v x.1) (at_set views i j w v e)

pub deals : {S : Type 0} (key : TicketKey) (id : ℕ) (v : TicketView) → Splits {S = S} (TicketHolds key) id v (dealt_rest v) (dealt_one v)
deals key id v s holds at =
    let l = dealt_rest v in let r = dealt_one v in let vs = set s.views id l in let kept = holds.2 in
    let P : Drawn → Type 0 = λ p. IsRising key.limit p.tickets in (
      holds.0,
      holds.1,
      record {
        numbers = λ h. omega (arith, total_set (numbers h) s.views id v l at, sum_by_push (numbers h) vs r, cut (λ (p : Drawn). h p.number) v.passes, kept.numbers h);
        once = λ h. omega (arith, total_set (tickets h) s.views id v l at, sum_by_push (tickets h) vs r, cut (weight_of h) v.passes, kept.once h);
        few = omega (arith, total_set (spent key.limit) s.views id v l at, sum_by_push (spent key.limit) vs r, cut (spent_entry key.limit) v.passes, kept.few);
        rising = λ j u e. ⊎_elim (λ (old : get_elem? vs j ≡ some u). still_rising key.limit s.views id l kept.rising (All-drop P 1 v.passes (kept.rising id v at)) j u old)
            (λ (new : r ≡ u). subst (AllRising key.limit) new (All-take P 1 v.passes (kept.rising id v at))) (at_snoc vs r u j e);
      },
    )

pub adds : {S : Type 0} (key : TicketKey) (id : ℕ) (v : TicketView) (other : ℕ) (w : TicketView) → Joins {S = S} (TicketHolds key) id v other w (both v w) none
adds key id v other w s holds at apart at_other =
    let b = both v w in let vs = set s.views id b in let kept = holds.2 in
    let was : get_elem? s.views other ≡ some w = ⊎_elim (λ (x : (other ≡ id) × (b ≡ w)). absurd (apart x.0)) (λ (x : (other ≢ id) × (get_elem? s.views other ≡ some w)). x.1) (at_set s.views id other b w at_other) in (
      holds.0,
      holds.1,
      record {
        numbers = λ h. omega (arith, total_set (numbers h) s.views id v b at, total_set (numbers h) vs other w none at_other, sum_by-append (λ (p : Drawn). h p.number) v.passes w.passes, kept.numbers h);
        once = λ h. omega (arith, total_set (tickets h) s.views id v b at, total_set (tickets h) vs other w none at_other, sum_by-append (weight_of h) v.passes w.passes, kept.once h);
        few = omega (arith, total_set (spent key.limit) s.views id v b at, total_set (spent key.limit) vs other w none at_other, sum_by-append (spent_entry key.limit) v.passes w.passes, kept.few);
        rising = still_rising key.limit vs other none (still_rising key.limit s.views id b kept.rising (All-append (λ (p : Drawn). IsRising key.limit p.tickets) v.passes w.passes (kept.rising id v at) (kept.rising other w was))) (λ k d lt. absurd (omega arith));
      },
    )

pub ends_once : {S : Type 0} (key : TicketKey) (id : ℕ) (v : TicketView) (ws : List ℕ) (xs : List S) (n : ℕ) → Final {S = S} (Seen (TicketHolds key) id v) ws xs → length v.passes ≡ key.passes → get_elem? ws 0 ≡ some n
    → AreSame (map (λ (t : Ticket). t.number) (tickets_of v)) (range_with_len 0 n)
ends_once key id v ws xs n end all is h =
    let s = end.0 in let holds = end.1.0 in let at = end.1.1 in let kept = holds.2 in
    let e : holds.0 ≡ n = some-injective holds.0 n (sym (ap (λ (l : List ℕ). get_elem? l 0) holds.1) ∙ ap (λ (l : List ℕ). get_elem? l 0) end.2 ∙ is) in
    let here = all_here (λ (v : TicketView). v.passes) (weight_of h) s.views id v (kept.numbers (λ x. 1) ∙ ones_up_to key.passes ∙ sym all) at in
    sum_by-map h (λ (t : Ticket). t.number) (tickets_of v) ∙ sum_by-flat_map (λ (t : Ticket). h t.number) (λ (p : Drawn). p.tickets) v.passes ∙ sym here ∙ kept.once h ∙ ap (λ (k : ℕ). sum_by h (range_with_len 0 k)) e

pub begins : (limit p : ℕ) → KeepsTickets limit p 0 (ticket_view (undrawn 1 p) ∷ [])
begins limit p = let v = ticket_view (undrawn 1 p) in record {
  numbers = λ h. omega (arith, sum_by-cons (numbers h) v [], new_numbers (λ (q : Drawn). h q.number) (λ number. drawn number []) h 1 p (λ i. refl));
  once = λ h. omega (arith, sum_by-cons (tickets h) v [], new_none (weight_of h) (λ number. drawn number []) 1 p (λ i. refl));
  few = omega arith;
  rising = first_rising;
}
  where
    new_rising : (k n : ℕ) → All (λ (q : Drawn). IsRising limit q.tickets) (undrawn k n)
    new_rising k zero i d lt = absurd (omega arith)
    new_rising k (suc n) zero d lt = tt
    new_rising k (suc n) (suc i) d lt = new_rising (k + 1) n i d (omega arith)

    first_rising : (i : ℕ) (u : TicketView) → get_elem? (ticket_view (undrawn 1 p) ∷ []) i ≡ some u → AllRising limit u
    first_rising zero u e = subst (AllRising limit) (some-injective (ticket_view (undrawn 1 p)) u e) (new_rising 1 p)
    first_rising (suc i) u e = absurd (some-ne-none u (sym e))
