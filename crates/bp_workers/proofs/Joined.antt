-- What two workers have done, taken together, is what one could have done.
use Rattle.std.proofs.Common.{◌≡◌, ◌⊎◌, inl, inr, ℕ, suc, ◌+◌, ◌<◌, ◌≤◌, Bool, true, false, cond, leb, min, List, [], ◌∷◌, ◌++◌, map, length, get_or, Any, Option, None, Some, refl, sym, ap, ◌∙◌, subst, arith, append-nil}
use Rattle.std.specs.List.{Contains, flat_map, sum_by}
use Rattle.std.proofs.lemmas.Bool.Decides.{nat_tests}
use Rattle.std.proofs.lemmas.List.{get_or_append_left, length-append}
use Rattle.std.proofs.lemmas.List.Elements.{All-append, Contains-append_cases, Contains-append_left, Contains-append_right}
use Rattle.std.proofs.lemmas.List.Sums.{sum_by-append, sum_by-cons}
use Rattle.bp_base.specs.declared.point.Placement.{Placement}
use Rattle.bp_base.specs.declared.point.Sheet.{Sheet}
use Rattle.bp_base.specs.declared.record.Record.{Record}
use Rattle.bp_base.specs.declared.record.Task.{Task}
use Rattle.bp_base.specs.Bags.{AreSame}
use Rattle.bp_base.specs.Tree.{TreeValue}
use Rattle.bp_base.proofs.Bags.{sum_by-map, sum_by-flat_map}
use Rattle.bp_incumbent.specs.declared.tickets.Ticket.{Ticket}
use Rattle.bp_workers.specs.Worked.{HasBound, HasKind, IsBest, IsWorked, born_of, below, lesser, task_of, ticket_of}
use Rattle.bp_workers.proofs.Steps.{all_back, all_front, offers_joined}

any_left : {X : Type 0} (P : X → Type 0) (xs ys : List X) → Any P xs → Any P (xs ++ ys)
any_left P xs ys (k, x, less, at, holds) = (k, x, omega (arith, length-append xs ys, less), get_or_append_left xs ys x k less ∙ at, holds)

any_right : {X : Type 0} (P : X → Type 0) (xs ys : List X) → Any P ys → Any P (xs ++ ys)
any_right P [] ys found = found
any_right P (z ∷ xs) ys found = let (k, x, less, at, holds) = any_right P xs ys found in (suc k, x, omega (arith, less), at, holds)

below_joined : (limit : ℕ) (h : ℕ → ℕ) (ts us : List Ticket) → sum_by h (below limit (ts ++ us)) ≡ sum_by h (below limit ts) + sum_by h (below limit us)
below_joined limit h [] us = omega arith
below_joined limit h (t ∷ ts) us = go (leb limit t.number) (below_joined limit h ts us)
  where
    go : (b : Bool) → sum_by h (below limit (ts ++ us)) ≡ sum_by h (below limit ts) + sum_by h (below limit us) → sum_by h (cond b (below limit (ts ++ us)) (t.number ∷ below limit (ts ++ us))) ≡ sum_by h (cond b (below limit ts) (t.number ∷ below limit ts)) + sum_by h (below limit us)
    go true rest = rest
    go false rest = omega (arith, rest, sum_by-cons h t.number (below limit (ts ++ us)), sum_by-cons h t.number (below limit ts))

module _ (T : TreeValue) (G : Sheet) where
  pub joined : (limit : ℕ) (taken pushed : List Task) (records : List Record) (kept : List Task) (tickets : List Ticket) (offers : List ℕ) (taken' pushed' : List Task) (records' : List Record) (kept' : List Task) (tickets' : List Ticket) (offers' : List ℕ) → IsWorked T G limit taken pushed records kept tickets offers → IsWorked T G limit taken' pushed' records' kept' tickets' offers' → IsWorked T G limit (taken ++ taken') (pushed ++ pushed') (records ++ records') (kept ++ kept') (tickets ++ tickets') (offers ++ offers')
  joined limit taken pushed records kept tickets offers taken' pushed' records' kept' tickets' offers' a b = record {
    tasks = tasks;
    judged = All-append (HasKind T G) records records' a.judged b.judged;
    tickets_are = drawn;
    bounds = All-append (HasBound (tickets ++ tickets')) records records' (λ k d less. any_left (is_at (get_or records k d)) tickets tickets' (a.bounds k d less)) (λ k d less. any_right (is_at (get_or records' k d)) tickets tickets' (b.bounds k d less));
    offers_are = offers_joined T G records records' offers offers' a.offers_are b.offers_are;
  }
    where
      is_at : Record → Ticket → Type 0
      is_at r t = (t.number ≡ r.ticket) × (r.bound ≡ min t.side r.given)

      tasks : AreSame ((taken ++ taken') ++ flat_map (born_of T G) (records ++ records')) (map task_of (records ++ records') ++ ((pushed ++ pushed') ++ (kept ++ kept')))
      tasks h =
          let C : Record → ℕ = λ q. sum_by h (born_of T G q) in
          let R : Record → ℕ = λ q. h (task_of q) in
          omega (
            arith,
            a.tasks h,
            b.tasks h,
            sum_by-append h (taken ++ taken') (flat_map (born_of T G) (records ++ records')),
            sum_by-append h taken taken',
            sum_by-append h taken (flat_map (born_of T G) records),
            sum_by-append h taken' (flat_map (born_of T G) records'),
            sum_by-flat_map h (born_of T G) (records ++ records'),
            sum_by-flat_map h (born_of T G) records,
            sum_by-flat_map h (born_of T G) records',
            sum_by-append C records records',
            sum_by-append h (map task_of (records ++ records')) ((pushed ++ pushed') ++ (kept ++ kept')),
            sum_by-append h (map task_of records) (pushed ++ kept),
            sum_by-append h (map task_of records') (pushed' ++ kept'),
            sum_by-map h task_of (records ++ records'),
            sum_by-map h task_of records,
            sum_by-map h task_of records',
            sum_by-append R records records',
            sum_by-append h (pushed ++ pushed') (kept ++ kept'),
            sum_by-append h pushed pushed',
            sum_by-append h kept kept',
            sum_by-append h pushed kept,
            sum_by-append h pushed' kept',
          )

      drawn : AreSame (map ticket_of (records ++ records')) (below limit (tickets ++ tickets'))
      drawn h =
          let N : Record → ℕ = λ q. h q.ticket in
          omega (
            arith,
            a.tickets_are h,
            b.tickets_are h,
            below_joined limit h tickets tickets',
            sum_by-map h ticket_of (records ++ records'),
            sum_by-map h ticket_of records,
            sum_by-map h ticket_of records',
            sum_by-append N records records',
          )

  -- nothing done
  pub idle : (limit : ℕ) → IsWorked T G limit [] [] [] [] [] []
  idle limit = record {
    tasks = λ h. refl;
    judged = λ k d less. absurd (omega (arith, less));
    tickets_are = λ h. refl;
    bounds = λ k d less. absurd (omega (arith, less));
    offers_are = refl;
  }

  -- of the offers of both, the lesser placement has the least
  pub lesser_best : (a b : Option Placement) (vs ws : List ℕ) → IsBest T G a vs → IsBest T G b ws → IsBest T G (lesser a b) (vs ++ ws)
  lesser_best None b vs ws none is = subst (λ (us : List ℕ). IsBest T G b (us ++ ws)) (sym none) is
  lesser_best (Some p) None vs ws is none =
      subst (λ (us : List ℕ). IsBest T G (Some p) (vs ++ us)) (sym none) (subst (λ (us : List ℕ). IsBest T G (Some p) us) (sym (append-nil vs)) is)
  lesser_best (Some p) (Some q) vs ws first second = go (leb q.side p.side) refl
    where
      go : (c : Bool) → leb q.side p.side ≡ c → IsBest T G (cond c (Some q) (Some p)) (vs ++ ws)
      go true is =
          let low : q.side ≤ p.side = grind (arith, nat_tests) in
          (second.0, Contains-append_right vs ws q.side second.1, All-append (λ y. q.side ≤ y) vs ws (λ k d less. let all = first.2 k d less in omega (arith, all, low)) second.2)
      go false is =
          let low : p.side < q.side = grind (arith, nat_tests) in
          (first.0, Contains-append_left vs ws p.side first.1, All-append (λ y. p.side ≤ y) vs ws first.2 (λ k d less. let all = second.2 k d less in omega (arith, all, low)))

  -- the offers may stand in the other order
  pub best_swapped : (a : Option Placement) (vs ws : List ℕ) → IsBest T G a (vs ++ ws) → IsBest T G a (ws ++ vs)
  best_swapped None [] [] is = is
  best_swapped None (v ∷ vs) ws is = absurd (let none = ap (λ (us : List ℕ). length us) is in omega (arith, none))
  best_swapped None [] (w ∷ ws) is = absurd (let none = ap (λ (us : List ℕ). length us) is in omega (arith, none))
  best_swapped (Some p) vs ws is =
      (is.0, there (Contains-append_cases vs ws p.side is.1), All-append (λ y. p.side ≤ y) ws vs (all_back (λ y. p.side ≤ y) vs ws is.2) (all_front (λ y. p.side ≤ y) vs ws is.2))
    where
      there : Contains vs p.side ⊎ Contains ws p.side → Contains (ws ++ vs) p.side
      there (inl c) = Contains-append_right ws vs p.side c
      there (inr c) = Contains-append_left ws vs p.side c
