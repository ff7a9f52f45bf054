-- Once all hands are back, their search is under way. Bounds are followed from the root on: each is the opening's side or one that was seen.
use Rattle.std.proofs.Common.{◌≡◌, ◌⊎◌, inl, inr, ℕ, zero, suc, ◌<◌, ◌≤◌, Bool, true, false, cond, leb, min, List, [], ◌∷◌, ◌++◌, map, length, get_or, All, Any, None, Some, refl, sym, ap, ◌∙◌, subst, arith}
use Rattle.std.specs.List.{Contains, flat_map, range_with_len, sum_by}
use Rattle.std.proofs.lemmas.Bool.{cases_lt}
use Rattle.std.proofs.lemmas.List.{get_or_default, length_push}
use Rattle.std.proofs.lemmas.List.Elements.{All-contains, Contains-append_left, Contains-append_right}
use Rattle.std.proofs.lemmas.List.Sums.{sum_by-append, sum_by-cons}
use Rattle.bp_base.specs.declared.chain.Claim.{Claim}
use Rattle.bp_base.specs.declared.chain.Claim.TheVariants.{Walk, Cycle}
use Rattle.bp_base.specs.declared.path.Step.{Step}
use Rattle.bp_base.specs.declared.point.Axis.TheVariants.{X, Y}
use Rattle.bp_base.specs.declared.point.Point.{Point}
use Rattle.bp_base.specs.declared.point.Sheet.{Sheet}
use Rattle.bp_base.specs.declared.record.Record.{Record}
use Rattle.bp_base.specs.declared.record.RecordKind.{RecordKind}
use Rattle.bp_base.specs.declared.record.RecordKind.TheVariants as kind
use Rattle.bp_base.specs.declared.record.Task.{Task}
use Rattle.bp_base.specs.Bags.{AreSame}
use Rattle.bp_base.specs.Tree.{TreeValue, IsTree, leaf_count}
use Rattle.bp_base.proofs.Bags.{kept, same_sym, sum_by-map, sum_by-flat_map}
use Rattle.bp_metric.specs.Chains.{HasCycle}
use Rattle.bp_metric.specs.Choices.{allowed}
use Rattle.bp_metric.specs.Coordinates.{IsCycleShown}
use Rattle.bp_metric.specs.Opening.{IsOpeningSide, side_of}
use Rattle.bp_metric.specs.Records.{IsBalanced, IsJudged, IsSound, children_of, children_of_kind}
use Rattle.bp_metric.specs.Refutation.{extended}
use Rattle.bp_metric.specs.Stated.{IsInner, IsStatedFor}
use Rattle.bp_metric.specs.Valid.{Valid}
use Rattle.bp_branch.specs.Branches.{IsBranch}
use Rattle.bp_branch.proofs.Picked.{child_stated, picked_branch, stated_picked}
use Rattle.bp_opening.proofs.Unique.{one_opening}
use Rattle.bp_core.specs.Settled.{IsLeastFound, Solves}
use Rattle.bp_core.specs.Underway.{IsLeft, IsUnderway}
use Rattle.bp_turn.specs.Turns.{child, tasks_of}
use Rattle.bp_turn.proofs.Forced.{one_forced}
use Rattle.bp_incumbent.specs.declared.tickets.Ticket.{Ticket}
use Rattle.bp_workers.specs.Worked.{AreOffers, Forces, HasKind, IsKind, born_of, below, task_of, ticket_of}
use Rattle.bp_workers.specs.Gathered.{Deeds, IsGathered, come_to, number_of, root}
use Rattle.bp_workers.proofs.Lists.{from_flat, from_map, to_map, under, under_range}

one_side : (T : TreeValue) (G : Sheet) (u v : ℕ) → IsOpeningSide T G u → IsOpeningSide T G v → u ≡ v
one_side T G u v first second =
    first.is_side ∙ ap (side_of G) (one_opening T G first.opening second.opening first.is_opening second.is_opening) ∙ sym second.is_side

-- a cycle that is shown is a cycle
pub shows_cycle : (n : ℕ) (path : List Step) (claim : Claim) → IsCycleShown n path claim → HasCycle n path
shows_cycle n path (Walk axis chain) shown = absurd shown
shows_cycle n path (Cycle X chain) shown = (X, (chain, shown.cycle))
shows_cycle n path (Cycle Y chain) shown = (Y, (chain, shown.0.cycle))

-- the children of a record, path by path
born_paths : (T : TreeValue) (G : Sheet) (h : List Step → ℕ) (path : List Step) (given ticket bound : ℕ) (k : RecordKind) → sum_by (λ (t : Task). h t.path) (tasks_of T G path bound k) ≡ sum_by h (children_of_kind T G path k)
born_paths T G h path given ticket bound (kind.Split p) =
    sum_by-map (λ (t : Task). h t.path) (child path bound p) (allowed T G p) ∙ sym (sum_by-map h (extended path p) (allowed T G p))
born_paths T G h path given ticket bound (kind.Closed claim) = refl

-- the tickets below the limit, weighed
below_weighs : (limit : ℕ) (h : ℕ → ℕ) (ts : List Ticket) → sum_by h (below limit ts) ≡ sum_by (under limit h) (map number_of ts)
below_weighs limit h [] = refl
below_weighs limit h (t ∷ ts) = go (leb limit t.number) refl (below_weighs limit h ts)
  where
    go : (b : Bool) → leb limit t.number ≡ b → sum_by h (below limit ts) ≡ sum_by (under limit h) (map number_of ts) → sum_by h (below limit (t ∷ ts)) ≡ sum_by (under limit h) (map number_of (t ∷ ts))
    go true is rest =
        let none : under limit h t.number ≡ 0 = ap (λ (b : Bool). cond b 0 (h t.number)) is in
        let same : sum_by h (below limit (t ∷ ts)) ≡ sum_by h (below limit ts) = ap (λ (b : Bool). sum_by h (cond b (below limit ts) (t.number ∷ below limit ts))) is in
        omega (arith, same, none, sum_by-cons (under limit h) t.number (map number_of ts), rest)
    go false is rest =
        let one : under limit h t.number ≡ h t.number = ap (λ (b : Bool). cond b 0 (h t.number)) is in
        let same : sum_by h (below limit (t ∷ ts)) ≡ sum_by h (t.number ∷ below limit ts) = ap (λ (b : Bool). sum_by h (cond b (below limit ts) (t.number ∷ below limit ts))) is in
        omega (arith, same, one, sum_by-cons h t.number (below limit ts), sum_by-cons (under limit h) t.number (map number_of ts), rest)

module _ (T : TreeValue) (G : Sheet) where
  -- a side that a record's path forces below its bound is offered
  pub is_offered : (rs : List Record) (offers : List ℕ) (k : ℕ) (d : Record) (v : ℕ) → AreOffers T G rs offers → k < length rs → Forces T G (get_or rs k d) v → Contains offers v
  is_offered [] offers k d v are less forces = absurd (omega (arith, less))
  is_offered (r ∷ rs) offers zero d v (None, more, is, same, rest) less forces = absurd (is v forces)
  is_offered (r ∷ rs) offers zero d v (Some w, more, is, same, rest) less forces =
      let one : w ≡ v = one_forced T r.path G w v is.solved.forced forces.solved.forced in
      subst (λ (vs : List ℕ). Contains vs v) (sym same) (0, omega arith, one)
  is_offered (r ∷ rs) offers (suc k) d v (None, more, is, same, rest) less forces =
      subst (λ (vs : List ℕ). Contains vs v) (sym same) (is_offered rs more k d v rest (omega (arith, less)) forces)
  is_offered (r ∷ rs) offers (suc k) d v (Some w, more, is, same, rest) less forces =
      let c = is_offered rs more k d v rest (omega (arith, less)) forces in
      subst (λ (vs : List ℕ). Contains vs v) (sym same) (suc c.0, omega (arith, c.1), c.2)

  -- an offer is a side that some record's path forces
  pub offered_by : (rs : List Record) (offers : List ℕ) (v : ℕ) → AreOffers T G rs offers → Contains offers v → Any (λ (r : Record). Forces T G r v) rs
  offered_by [] offers v are there = absurd (let c = subst (λ (vs : List ℕ). Contains vs v) are there in omega (arith, c.1))
  offered_by (r ∷ rs) offers v (None, more, is, same, rest) there =
      let (k, q, less, at, forces) = offered_by rs more v rest (subst (λ (vs : List ℕ). Contains vs v) same there) in
      (suc k, q, omega (arith, less), at, forces)
  offered_by (r ∷ rs) offers v (Some w, more, is, same, rest) there = go (λ later. offered_by rs more v rest later) (subst (λ (vs : List ℕ). Contains vs v) same there)
    where
      go : (Contains more v → Any (λ (q : Record). Forces T G q v) rs) → Contains (w ∷ more) v → Any (λ (q : Record). Forces T G q v) (r ∷ rs)
      go others (zero, less, at) = (0, r, omega arith, refl, subst (Forces T G r) at is)
      go others (suc k, less, at) =
          let (j, q, within, there_is, forces) = others (k, omega (arith, less), at) in
          (suc j, q, omega (arith, within), there_is, forces)

module _ (T : TreeValue) (t : IsTree T) (G : Sheet) (limit : ℕ) (d : Deeds) (left : List Task) (u side drawn : ℕ) (g : IsGathered T G limit d left u side drawn) where
  abbrev born : List Task
  born = root u ∷ flat_map (born_of T G) d.records

  abbrev dead : List Task
  dead = map task_of d.records ++ (left ++ d.kept)

  -- the root and all children are the tasks of the records and those left, as whole tasks
  whole : AreSame born dead
  whole h =
      omega (
        arith,
        g.worked.tasks h,
        g.pool h,
        sum_by-append h d.taken (flat_map (born_of T G) d.records),
        sum_by-append h (map task_of d.records) (d.pushed ++ d.kept),
        sum_by-append h d.pushed d.kept,
        sum_by-cons h (root u) d.pushed,
        sum_by-append h d.taken left,
        sum_by-cons h (root u) (flat_map (born_of T G) d.records),
        sum_by-append h (map task_of d.records) (left ++ d.kept),
        sum_by-append h left d.kept,
      )

  -- no record was judged against less than the last side, nor against more than its task's bound
  bound_of : (k : ℕ) (e : Record) → k < length d.records → (side ≤ (get_or d.records k e).given → side ≤ (get_or d.records k e).bound) × ((get_or d.records k e).bound ≤ (get_or d.records k e).given)
  bound_of k e less =
      let r = get_or d.records k e in
      let (j, ticket, within, at, (number, bound)) = g.worked.bounds k e less in
      let seen : side ≤ ticket.side = subst (λ (x : Ticket). side ≤ x.side) at (g.seen j ticket within) in
      ((λ enough. omega (arith, bound, seen, enough)), omega (arith, bound))

  root_left : IsLeft T G side (root u)
  root_left = record {
    stated = λ v opening k less. absurd (omega (arith, less));
    no_less = g.least.below_opening;
    no_more = λ v opening. omega (arith, one_side T G u v g.opening opening);
  }

  child_left : (r : Record) (k : RecordKind) (x : Task) → IsLeft T G side (task_of r) → side ≤ r.bound → r.bound ≤ r.given → IsKind T G r.path r.bound k → Contains (tasks_of T G r.path r.bound k) x → IsLeft T G side x
  child_left r (kind.Closed claim) x from enough within judged (k, less, at) = absurd (omega (arith, less))
  child_left r (kind.Split p) x from enough within judged there =
      let (c, among, is) = from_map (child r.path r.bound p) (allowed T G p) x there in
      let inner : (v : ℕ) → IsOpeningSide T G v → IsInner T G v r.path p = λ v opening. record { forced = judged.0.side; is_forced = judged.0.forced; below = omega (arith, judged.0.below, within, from.no_more v opening); next = judged.1 } in
      subst (IsLeft T G side) is
      (record {
        stated = λ v opening. child_stated T t G v r.path p c (from.stated v opening) (inner v opening) among;
        no_less = enough;
        no_more = λ v opening. omega (arith, within, from.no_more v opening);
      })

  shorter : (r : Record) (k : RecordKind) (x : Task) → Contains (tasks_of T G r.path r.bound k) x → length r.path < length x.path
  shorter r (kind.Closed claim) x (k, less, at) = absurd (omega (arith, less))
  shorter r (kind.Split p) x there =
      let (c, among, is) = from_map (child r.path r.bound p) (allowed T G p) x there in
      subst (λ (y : Task). length r.path < length y.path) is (omega (arith, length_push r.path (record { pair = p; choice = c })))

  -- each task that came to be is stated, and its bound is no less than the last side, by induction on the length of its path
  good : (n : ℕ) (x : Task) → length x.path < n → Contains born x → IsLeft T G side x
  good zero x short there = absurd (omega (arith, short))
  good (suc n) x short (zero, less, at) = subst (IsLeft T G side) at root_left
  good (suc n) x short (suc j, less, at) =
      let (k, r, within, is, there) = from_flat (born_of T G) d.records x (j, omega (arith, less), at) in
      let came : Contains born (task_of r) = kept dead born (task_of r) (same_sym born dead whole) (Contains-append_left (map task_of d.records) (left ++ d.kept) (task_of r) (subst (λ (q : Record). Contains (map task_of d.records) (task_of q)) is (to_map task_of d.records k r within))) in
      let from : IsLeft T G side (task_of r) = good n (task_of r) (omega (arith, short, shorter r r.kind x there)) came in
      let bounds = subst (λ (q : Record). (side ≤ q.given → side ≤ q.bound) × (q.bound ≤ q.given)) is (bound_of k r within) in
      let judged : HasKind T G r = subst (HasKind T G) is (g.worked.judged k r within) in
      child_left r r.kind x from (bounds.0 from.no_less) bounds.1 judged there

  of_born : (x : Task) → Contains born x → IsLeft T G side x
  of_born x there = good (suc (length x.path)) x (omega arith) there

  of_dead : (x : Task) → Contains dead x → IsLeft T G side x
  of_dead x there = of_born x (kept dead born x (same_sym born dead whole) there)

  record_left : (k : ℕ) (e : Record) → k < length d.records → IsLeft T G side (task_of (get_or d.records k e))
  record_left k e less =
      of_dead (task_of (get_or d.records k e)) (Contains-append_left (map task_of d.records) (left ++ d.kept) (task_of (get_or d.records k e)) (to_map task_of d.records k e less))

  branch_of : (path : List Step) → IsStatedFor T G u path → IsBranch T path
  branch_of path stated = picked_branch T t path (stated_picked T t G u path stated)

  judged_of : (r : Record) (k : RecordKind) → IsStatedFor T G u r.path → r.bound ≤ u → IsKind T G r.path r.bound k → IsJudged T G u r k
  judged_of r (kind.Split p) stated within is =
      (record { forced = is.0.side; is_forced = is.0.forced; below = omega (arith, is.0.below, within); next = is.1 }, λ v forced. omega (arith, is.0.below, one_forced T r.path G v is.0.side forced is.0.forced))
  judged_of r (kind.Closed claim) stated within (inl cyclic) =
      absurd ((branch_of r.path stated).no_cycle (shows_cycle (leaf_count T) r.path claim cyclic))
  judged_of r (kind.Closed claim) stated within (inr (inl closed)) =
      (closed.0, inl (λ v forced. omega (arith, closed.1.enough, one_forced T r.path G v closed.1.side forced closed.1.forced)))
  judged_of r (kind.Closed claim) stated within (inr (inr (v, solved))) = (solved.0, inr solved.1.no_next)

  sound : All (IsSound T G side) d.records
  sound k e less =
      let r = get_or d.records k e in
      let task = record_left k e less in
      let bounds = bound_of k e less in
      let within : r.bound ≤ u = omega (arith, bounds.1, task.no_more u g.opening) in
      record {
        opening_side = u;
        is_opening_side = g.opening;
        stated = task.stated u g.opening;
        no_less = bounds.0 task.no_less;
        no_more = within;
        judged = judged_of r r.kind (task.stated u g.opening) within (g.worked.judged k e less);
      }

  least_found : IsLeastFound T G side d.records
  least_found = record {
    opening_side = u;
    is_opening_side = g.opening;
    no_more = g.least.below_opening;
    least = least;
    reached = reached g.least.is_one;
  }
    where
      least : (v : ℕ) → Any (Solves T G v) d.records → side ≤ v
      least v (k, r, less, at, solves) =
          let q = get_or d.records k r in
          let s : Solves T G v q = subst (Solves T G v) (sym at) solves in
          elim (cases_lt v q.bound) [
            | inl low ↦ All-contains (λ y. side ≤ y) d.offers v g.least.below_offers (is_offered T G d.records d.offers k r v g.worked.offers_are less (record { no_cycle = (branch_of q.path ((record_left k r less).stated u g.opening)).no_cycle; solved = record { forced = s.0; below = low; no_next = s.1 } }))
            | inr high ↦ (let enough = (bound_of k r less).0 (record_left k r less).no_less in omega (arith, high, enough))
          ]

      reached : (side ≡ u) ⊎ Contains d.offers side → (side ≡ u) ⊎ Any (Solves T G side) d.records
      reached (inl same) = inl same
      reached (inr there) =
          let (k, r, less, at, forces) = offered_by T G d.records d.offers side g.worked.offers_are there in
          inr (k, r, less, at, (forces.solved.forced, forces.solved.no_next))

  balanced : IsBalanced T G d.records (left ++ d.kept)
  balanced h =
      let H : Task → ℕ = λ x. h x.path in
      let path : Record → List Step = λ r. r.path in
      let of_task : Task → List Step = λ x. x.path in
      let same : sum_by (λ (r : Record). sum_by H (born_of T G r)) d.records ≡ sum_by (λ (r : Record). sum_by h (children_of T G r)) d.records = ap (λ (f : Record → ℕ). sum_by f d.records) (λ i r. born_paths T G h r.path r.given r.ticket r.bound r.kind i) in
      omega (
        arith,
        whole H,
        same,
        sum_by-cons H (root u) (flat_map (born_of T G) d.records),
        sum_by-flat_map H (born_of T G) d.records,
        sum_by-append H (map task_of d.records) (left ++ d.kept),
        sum_by-map H task_of d.records,
        sum_by-cons h [] (flat_map (children_of T G) d.records),
        sum_by-flat_map h (children_of T G) d.records,
        sum_by-append h (map path d.records) (map of_task (left ++ d.kept)),
        sum_by-map h path d.records,
        sum_by-map h of_task (left ++ d.kept),
      )

  tickets : AreSame (map ticket_of d.records) (range_with_len 0 (min drawn limit))
  tickets h = g.worked.tickets_are h ∙ below_weighs limit h d.tickets ∙ g.numbers (under limit h) ∙ under_range limit drawn h

  pub underway : (points : List Point) → Valid T G 1 side points → IsUnderway T G limit (come_to limit d left side drawn points)
  underway points valid = record {
    balanced = balanced;
    tickets = tickets;
    within_budget = omega arith;
    sound = sound;
    given = λ k e less. (bound_of k e less).1;
    least = least_found;
    valid = valid;
    left = λ k e less. of_dead (get_or (left ++ d.kept) k e) (Contains-append_right (map task_of d.records) (left ++ d.kept) (get_or (left ++ d.kept) k e) (k, less, get_or_default (left ++ d.kept) k (get_or (left ++ d.kept) k e) e less));
  }
