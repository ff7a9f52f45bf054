-- What each step of a worker's turn does to the facts by which it agrees.
use Rattle.std.proofs.Common.{◌≡◌, ℕ, suc, ◌+◌, ◌≤◌, Bool, true, false, cond, leb, min, List, [], ◌∷◌, ◌++◌, map, length, get_or, All, Any, Option, None, Some, refl, sym, ap, ◌∙◌, subst, arith}
use Rattle.std.specs.List.{flat_map, sum_by}
use Rattle.std.proofs.lemmas.List.{get_or_append_left, get_or_at, length-append, length_push}
use Rattle.std.proofs.lemmas.List.Elements.{All-append, All-push}
use Rattle.std.proofs.lemmas.List.Sums.{sum_by-append, sum_by-cons, sum_by_push}
use Rattle.bp_base.specs.declared.point.Placement.{Placement}
use Rattle.bp_base.specs.declared.point.Sheet.{Sheet}
use Rattle.bp_base.specs.declared.record.Record.{Record}
use Rattle.bp_base.specs.declared.record.Task.{Task}
use Rattle.bp_base.specs.Bags.{AreSame}
use Rattle.bp_base.specs.Limits.{most_number}
use Rattle.bp_base.specs.Tree.{TreeValue, leaf_count}
use Rattle.bp_base.proofs.Bags.{sum_by-map, sum_by-flat_map}
use Rattle.bp_incumbent.specs.declared.tickets.Ticket.{Ticket}
use Rattle.bp_incumbent.specs.Board.{BoardView, PassView, drew, offered, read_halt, saw}
use Rattle.bp_incumbent.specs.Tickets.{ticket}
use Rattle.bp_pool.specs.Hands.{HandView}
use Rattle.bp_pool.specs.Shares.{IsTaskOf}
use Rattle.bp_workers.specs.Worked.{AreOffers, HasBound, HasKind, IsBest, IsOffer, IsWorked, born_of, below, task_of, ticket_of, with_offer}
use Rattle.bp_workers.specs.Agrees.{Keeps}

-- Lists.

any_front : {X : Type 0} (P : X → Type 0) (xs ys : List X) → Any P xs → Any P (xs ++ ys)
any_front P xs ys (k, x, less, at, holds) = (k, x, omega (arith, length-append xs ys, less), get_or_append_left xs ys x k less ∙ at, holds)

any_last : {X : Type 0} (P : X → Type 0) (xs : List X) (x : X) → P x → Any P (xs ++ x ∷ [])
any_last P xs x holds = (length xs, x, omega (arith, length_push xs x), get_or_at xs x [] x (length xs) refl, holds)

pub all_last : {X : Type 0} (P : X → Type 0) (xs : List X) (x : X) → All P (xs ++ x ∷ []) → P x
all_last P xs x all = subst P (get_or_at xs x [] x (length xs) refl) (all (length xs) x (omega (arith, length_push xs x)))

pub all_front : {X : Type 0} (P : X → Type 0) (xs ys : List X) → All P (xs ++ ys) → All P xs
all_front P xs ys all k d less = subst P (get_or_append_left xs ys d k less) (all k d (omega (arith, length-append xs ys, less)))

pub all_back : {X : Type 0} (P : X → Type 0) (xs ys : List X) → All P (xs ++ ys) → All P ys
all_back P [] ys all = all
all_back P (x ∷ xs) ys all = all_back P xs ys (λ k d less. all (suc k) d (omega (arith, less)))

below_over : (limit : ℕ) (ts : List Ticket) (t : Ticket) → leb limit t.number ≡ true → below limit (ts ++ t ∷ []) ≡ below limit ts
below_over limit [] t over = ap (λ (b : Bool). cond b [] (t.number ∷ [])) over
below_over limit (s ∷ ts) t over =
    ap (λ (ns : List ℕ). cond (leb limit s.number) ns (s.number ∷ ns)) (below_over limit ts t over)

-- a ticket below the limit is one more
below_more : (limit : ℕ) (ts : List Ticket) (t : Ticket) (h : ℕ → ℕ) → leb limit t.number ≡ false → sum_by h (below limit (ts ++ t ∷ [])) ≡ sum_by h (below limit ts) + h t.number
below_more limit [] t h under =
    omega (arith, ap (λ (b : Bool). sum_by h (cond b [] (t.number ∷ []))) under, sum_by-cons h t.number [])
below_more limit (s ∷ ts) t h under = go (leb limit s.number) refl (below_more limit ts t h under)
  where
    go : (b : Bool) → leb limit s.number ≡ b → sum_by h (below limit (ts ++ t ∷ [])) ≡ sum_by h (below limit ts) + h t.number → sum_by h (below limit ((s ∷ ts) ++ t ∷ [])) ≡ sum_by h (below limit (s ∷ ts)) + h t.number
    go b is rest =
        let more : sum_by h (below limit ((s ∷ ts) ++ t ∷ [])) ≡ sum_by h (cond b (below limit (ts ++ t ∷ [])) (s.number ∷ below limit (ts ++ t ∷ []))) = ap (λ (c : Bool). sum_by h (cond c (below limit (ts ++ t ∷ [])) (s.number ∷ below limit (ts ++ t ∷ [])))) is in
        let less : sum_by h (below limit (s ∷ ts)) ≡ sum_by h (cond b (below limit ts) (s.number ∷ below limit ts)) = ap (λ (c : Bool). sum_by h (cond c (below limit ts) (s.number ∷ below limit ts))) is in
        by_case b more less
      where
        by_case : (c : Bool) → sum_by h (below limit ((s ∷ ts) ++ t ∷ [])) ≡ sum_by h (cond c (below limit (ts ++ t ∷ [])) (s.number ∷ below limit (ts ++ t ∷ []))) → sum_by h (below limit (s ∷ ts)) ≡ sum_by h (cond c (below limit ts) (s.number ∷ below limit ts)) → sum_by h (below limit ((s ∷ ts) ++ t ∷ [])) ≡ sum_by h (below limit (s ∷ ts)) + h t.number
        by_case true more less = omega (arith, more, less, rest)
        by_case false more less =
            omega (arith, more, less, rest, sum_by-cons h s.number (below limit (ts ++ t ∷ [])), sum_by-cons h s.number (below limit ts))

-- one more record, and what it makes its worker offer
abbrev pub then_offer : List ℕ → Option ℕ → List ℕ
then_offer offers None = offers
then_offer offers (Some side) = offers ++ side ∷ []

module _ (T : TreeValue) (G : Sheet) where
  offers_more : (rs : List Record) (offers : List ℕ) (r : Record) (o : Option ℕ) → AreOffers T G rs offers → IsOffer T G r o → AreOffers T G (rs ++ r ∷ []) (then_offer offers o)
  offers_more [] offers r None are is = (None, [], is, are, refl)
  offers_more [] offers r (Some side) are is = (Some side, [], is, ap (λ (vs : List ℕ). vs ++ side ∷ []) are, refl)
  offers_more (q ∷ rs) offers r o (first, more, is_first, same, rest) is =
      (first, then_offer more o, is_first, ap (λ (vs : List ℕ). then_offer vs o) same ∙ through first o, offers_more rs more r o rest is)
    where
      through : (f p : Option ℕ) → then_offer (with_offer f more) p ≡ with_offer f (then_offer more p)
      through None p = refl
      through (Some side) None = refl
      through (Some side) (Some other) = refl

  pub offers_joined : (rs qs : List Record) (vs ws : List ℕ) → AreOffers T G rs vs → AreOffers T G qs ws → AreOffers T G (rs ++ qs) (vs ++ ws)
  offers_joined [] qs vs ws are others = subst (λ (us : List ℕ). AreOffers T G qs (us ++ ws)) (sym are) others
  offers_joined (r ∷ rs) qs vs ws (None, more, is, same, rest) others =
      (None, more ++ ws, is, ap (λ (us : List ℕ). us ++ ws) same, offers_joined rs qs more ws rest others)
  offers_joined (r ∷ rs) qs vs ws (Some side, more, is, same, rest) others =
      (Some side, more ++ ws, is, ap (λ (us : List ℕ). us ++ ws) same, offers_joined rs qs more ws rest others)

module _ (T : TreeValue) (G : Sheet) (board : BoardView) (hand : HandView) (pass : PassView) (records : List Record) (best : Option Placement) where
  -- halt was read
  pub read_keeps : (ks : List Task) (set : Bool) → Keeps T G board hand pass records ks best → Keeps T G board hand (read_halt pass set) records ks best
  read_keeps ks set k = record {
    of_board = k.of_board;
    of_leaves = k.of_leaves;
    worked = k.worked;
    best_is = k.best_is;
    of_pairs = k.of_pairs;
    small = k.small;
  }

  -- the side was loaded
  pub saw_keeps : (ks : List Task) (side : ℕ) → Keeps T G board hand pass records ks best → Keeps T G board hand (saw pass side) records ks best
  saw_keeps ks side k = record {
    of_board = k.of_board;
    of_leaves = k.of_leaves;
    worked = k.worked;
    best_is = k.best_is;
    of_pairs = k.of_pairs;
    small = any_front (λ y. y ≤ most_number) pass.seen (side ∷ []) k.small;
  }

  -- a side that was loaded is a number of a document
  pub saw_small : (ks : List Task) (side : ℕ) → Keeps T G board hand pass records ks best → All (λ y. side ≤ y) (pass.seen ++ pass.offers) → side ≤ most_number
  saw_small ks side k least =
      let (i, y, less, at, small) = k.small in
      let here : side ≤ get_or pass.seen i y = all_front (λ z. side ≤ z) pass.seen pass.offers least i y less in
      omega (arith, here, at, small)

  -- a task was taken
  pub took_keeps : (new : HandView) (ks : List Task) (t : Task) → Keeps T G board hand pass records ks best → new.pool ≡ hand.pool → new.pushed ≡ hand.pushed → AreSame new.taken (hand.taken ++ t ∷ []) → IsTaskOf hand.pool.leaves t → Keeps T G board new pass records (ks ++ t ∷ []) best
  took_keeps new ks t k pool pushed taken good = record {
    of_board = k.of_board;
    of_leaves = ap (λ p. p.leaves) pool ∙ k.of_leaves;
    worked = record {
      tasks = tasks;
      judged = k.worked.judged;
      tickets_are = k.worked.tickets_are;
      bounds = k.worked.bounds;
      offers_are = k.worked.offers_are;
    };
    best_is = k.best_is;
    of_pairs = All-push (IsTaskOf (leaf_count T)) ks t k.of_pairs (subst (λ (n : ℕ). IsTaskOf n t) k.of_leaves good);
    small = k.small;
  }
    where
      tasks : AreSame (new.taken ++ flat_map (born_of T G) records) (map task_of records ++ (new.pushed ++ (ks ++ t ∷ [])))
      tasks h =
          omega (
            arith,
            k.worked.tasks h,
            taken h,
            ap (sum_by h) pushed,
            sum_by-append h new.taken (flat_map (born_of T G) records),
            sum_by-append h hand.taken (flat_map (born_of T G) records),
            sum_by_push h hand.taken t,
            sum_by-append h (map task_of records) (new.pushed ++ (ks ++ t ∷ [])),
            sum_by-append h (map task_of records) (hand.pushed ++ ks),
            sum_by-append h new.pushed (ks ++ t ∷ []),
            sum_by-append h hand.pushed ks,
            sum_by_push h ks t,
          )

  -- nothing was taken
  pub idle_keeps : (new : HandView) (ks : List Task) → Keeps T G board hand pass records ks best → new.pool ≡ hand.pool → new.pushed ≡ hand.pushed → AreSame new.taken hand.taken → Keeps T G board new pass records ks best
  idle_keeps new ks k pool pushed taken = record {
    of_board = k.of_board;
    of_leaves = ap (λ p. p.leaves) pool ∙ k.of_leaves;
    worked = record {
      tasks = tasks;
      judged = k.worked.judged;
      tickets_are = k.worked.tickets_are;
      bounds = k.worked.bounds;
      offers_are = k.worked.offers_are;
    };
    best_is = k.best_is;
    of_pairs = k.of_pairs;
    small = k.small;
  }
    where
      tasks : AreSame (new.taken ++ flat_map (born_of T G) records) (map task_of records ++ (new.pushed ++ ks))
      tasks h =
          omega (
            arith,
            k.worked.tasks h,
            taken h,
            ap (λ (ts : List Task). sum_by h (map task_of records ++ (ts ++ ks))) pushed,
            sum_by-append h new.taken (flat_map (born_of T G) records),
            sum_by-append h hand.taken (flat_map (born_of T G) records),
          )

  -- the last task in keeping was pushed
  pub pushed_keeps : (new : HandView) (ks : List Task) (t : Task) → Keeps T G board hand pass records (ks ++ t ∷ []) best → new.pool ≡ hand.pool → new.pushed ≡ hand.pushed ++ t ∷ [] → new.taken ≡ hand.taken → Keeps T G board new pass records ks best
  pushed_keeps new ks t k pool pushed taken = record {
    of_board = k.of_board;
    of_leaves = ap (λ p. p.leaves) pool ∙ k.of_leaves;
    worked = record {
      tasks = tasks;
      judged = k.worked.judged;
      tickets_are = k.worked.tickets_are;
      bounds = k.worked.bounds;
      offers_are = k.worked.offers_are;
    };
    best_is = k.best_is;
    of_pairs = all_front (IsTaskOf (leaf_count T)) ks (t ∷ []) k.of_pairs;
    small = k.small;
  }
    where
      tasks : AreSame (new.taken ++ flat_map (born_of T G) records) (map task_of records ++ (new.pushed ++ ks))
      tasks h =
          omega (
            arith,
            k.worked.tasks h,
            ap (λ (ts : List Task). sum_by h (ts ++ flat_map (born_of T G) records)) taken,
            ap (sum_by h) pushed,
            sum_by-append h (map task_of records) (new.pushed ++ ks),
            sum_by-append h (map task_of records) (hand.pushed ++ (ks ++ t ∷ [])),
            sum_by-append h new.pushed ks,
            sum_by-append h hand.pushed (ks ++ t ∷ []),
            sum_by_push h hand.pushed t,
            sum_by_push h ks t,
          )

  -- tasks in keeping may stand in another order
  pub other_order : (ks ls : List Task) → Keeps T G board hand pass records ks best → AreSame ls ks → All (IsTaskOf (leaf_count T)) ls → Keeps T G board hand pass records ls best
  other_order ks ls k same of_pairs = record {
    of_board = k.of_board;
    of_leaves = k.of_leaves;
    worked = record {
      tasks = λ h. omega (
        arith,
        k.worked.tasks h,
        same h,
        sum_by-append h (map task_of records) (hand.pushed ++ ks),
        sum_by-append h (map task_of records) (hand.pushed ++ ls),
        sum_by-append h hand.pushed ks,
        sum_by-append h hand.pushed ls,
      );
      judged = k.worked.judged;
      tickets_are = k.worked.tickets_are;
      bounds = k.worked.bounds;
      offers_are = k.worked.offers_are;
    };
    best_is = k.best_is;
    of_pairs = of_pairs;
    small = k.small;
  }

  -- a ticket at or above the limit was drawn
  pub spent_keeps : (ks : List Task) (number : ℕ) → Keeps T G board hand pass records ks best → leb board.limit number ≡ true → Keeps T G board hand (drew pass number) records ks best
  spent_keeps ks number k over = record {
    of_board = k.of_board;
    of_leaves = k.of_leaves;
    worked = record {
      tasks = k.worked.tasks;
      judged = k.worked.judged;
      tickets_are = λ h. k.worked.tickets_are h ∙ ap (sum_by h) (sym (below_over board.limit pass.tickets (ticket number pass.last) over));
      bounds = λ i d less. any_front (λ (t : Ticket). (t.number ≡ (get_or records i d).ticket) × ((get_or records i d).bound ≡ min t.side (get_or records i d).given)) pass.tickets (ticket number pass.last ∷ []) (k.worked.bounds i d less);
      offers_are = k.worked.offers_are;
    };
    best_is = k.best_is;
    of_pairs = k.of_pairs;
    small = k.small;
  }

  -- a task in hand got its record, and its children are in keeping in its place
  module _ (ks : List Task) (t : Task) (number : ℕ) (r : Record) (born : List Task) (k : Keeps T G board hand pass records (ks ++ t ∷ []) best) (under : leb board.limit number ≡ false) (is_task : task_of r ≡ t) (is_ticket : r.ticket ≡ number) (is_bound : r.bound ≡ min pass.last r.given) (judged : HasKind T G r) (is_born : born ≡ born_of T G r) (of_pairs : All (IsTaskOf (leaf_count T)) born) where
    abbrev drawn : List Ticket
    drawn = pass.tickets ++ ticket number pass.last ∷ []

    tasks : AreSame (hand.taken ++ flat_map (born_of T G) (records ++ r ∷ [])) (map task_of (records ++ r ∷ []) ++ (hand.pushed ++ (ks ++ born)))
    tasks h =
        let C : Record → ℕ = λ q. sum_by h (born_of T G q) in
        let R : Record → ℕ = λ q. h (task_of q) in
        omega (
          arith,
          k.worked.tasks h,
          ap h is_task,
          ap (sum_by h) is_born,
          sum_by-append h hand.taken (flat_map (born_of T G) (records ++ r ∷ [])),
          sum_by-append h hand.taken (flat_map (born_of T G) records),
          sum_by-flat_map h (born_of T G) (records ++ r ∷ []),
          sum_by-flat_map h (born_of T G) records,
          sum_by_push C records r,
          sum_by-append h (map task_of (records ++ r ∷ [])) (hand.pushed ++ (ks ++ born)),
          sum_by-append h (map task_of records) (hand.pushed ++ (ks ++ t ∷ [])),
          sum_by-map h task_of (records ++ r ∷ []),
          sum_by-map h task_of records,
          sum_by_push R records r,
          sum_by-append h hand.pushed (ks ++ born),
          sum_by-append h hand.pushed (ks ++ t ∷ []),
          sum_by-append h ks born,
          sum_by_push h ks t,
        )

    tickets : AreSame (map ticket_of (records ++ r ∷ [])) (below board.limit drawn)
    tickets h =
        let N : Record → ℕ = λ q. h q.ticket in
        omega (
          arith,
          k.worked.tickets_are h,
          sum_by-map h ticket_of (records ++ r ∷ []),
          sum_by-map h ticket_of records,
          sum_by_push N records r,
          ap h is_ticket,
          below_more board.limit pass.tickets (ticket number pass.last) h under,
        )

    bounds : All (HasBound drawn) (records ++ r ∷ [])
    bounds =
        All-push (HasBound drawn) records r (λ i d less. any_front (λ (x : Ticket). (x.number ≡ (get_or records i d).ticket) × ((get_or records i d).bound ≡ min x.side (get_or records i d).given)) pass.tickets (ticket number pass.last ∷ []) (k.worked.bounds i d less)) (any_last (λ (x : Ticket). (x.number ≡ r.ticket) × (r.bound ≡ min x.side r.given)) pass.tickets (ticket number pass.last) (sym is_ticket, is_bound))

    abbrev together : List ℕ → Type 0
    together offers = IsWorked T G board.limit hand.taken hand.pushed (records ++ r ∷ []) (ks ++ born) drawn offers

    worked : (o : Option ℕ) → IsOffer T G r o → together (then_offer pass.offers o)
    worked o is = record {
      tasks = tasks;
      judged = All-push (HasKind T G) records r k.worked.judged judged;
      tickets_are = tickets;
      bounds = bounds;
      offers_are = offers_more T G records pass.offers r o k.worked.offers_are is;
    }

    in_keeping : All (IsTaskOf (leaf_count T)) (ks ++ born)
    in_keeping = All-append (IsTaskOf (leaf_count T)) ks born (all_front (IsTaskOf (leaf_count T)) ks (t ∷ []) k.of_pairs) of_pairs

    -- nothing is offered
    pub recorded_keeps : IsOffer T G r None → Keeps T G board hand (drew pass number) (records ++ r ∷ []) (ks ++ born) best
    recorded_keeps none = record {
      of_board = k.of_board;
      of_leaves = k.of_leaves;
      worked = worked None none;
      best_is = k.best_is;
      of_pairs = in_keeping;
      small = k.small;
    }

    -- a side is offered
    pub solved_keeps : (side found : ℕ) (after : Option Placement) → IsOffer T G r (Some side) → IsBest T G after (pass.offers ++ side ∷ []) → Keeps T G board hand (offered (drew pass number) side found) (records ++ r ∷ []) (ks ++ born) after
    solved_keeps side found after is best_is = record {
      of_board = k.of_board;
      of_leaves = k.of_leaves;
      worked = worked (Some side) is;
      best_is = best_is;
      of_pairs = in_keeping;
      small = any_front (λ y. y ≤ most_number) pass.seen (found ∷ []) k.small;
    }
