-- A hand examines its task: it has a record more, and the children of a split in place of the task.
use Rattle.std.proofs.Common.{◌≡◌, ◌⊎◌, inl, inr, ℕ, ◌+◌, ◌-◌, ◌<◌, ◌≤◌, min, List, [], ◌∷◌, ◌++◌, All, Any, Option, None, Some, cond, get_or, length, map, take, refl, sym, ap, ◌∙◌, subst, arith}
use Rattle.std.specs.List.{Contains, slice_get, sum_by}
use Rattle.std.proofs.lemmas.Bool.{cond_both}
use Rattle.std.proofs.lemmas.List.{get_or_at, get_or_default, length-map, length_push, take_all, take-append-le}
use Rattle.std.proofs.lemmas.List.Elements.{All-head, All-map, All-push}
use Rattle.std.proofs.lemmas.List.Sums.{sum_by-append, sum_by_push}
use Rattle.std.proofs.lemmas.Option.{slice_get-get_or}
use Rattle.bp_base.specs.declared.chain.Claim.{Claim}
use Rattle.bp_base.specs.declared.path.Choice.{Choice}
use Rattle.bp_base.specs.declared.path.Choice.TheVariants.{Left, Right, Below, Above}
use Rattle.bp_base.specs.declared.path.Pair.{Pair}
use Rattle.bp_base.specs.declared.path.Step.{Step}
use Rattle.bp_base.specs.declared.point.Placement.{Placement}
use Rattle.bp_base.specs.declared.point.Sheet.{Sheet}
use Rattle.bp_base.specs.declared.point.Sheet.TheVariants.{Square, Strip}
use Rattle.bp_base.specs.declared.record.Record.{Record}
use Rattle.bp_base.specs.declared.record.RecordKind.{RecordKind}
use Rattle.bp_base.specs.declared.record.RecordKind.TheVariants.{Closed, Split}
use Rattle.bp_base.specs.declared.record.Task.{Task}
use Rattle.bp_base.specs.Bags.{AreSame}
use Rattle.bp_base.specs.Limits.{most_number}
use Rattle.bp_base.specs.Tree.{TreeValue, IsTree}
use Rattle.bp_base.proofs.Bags.{sum_by-map}
use Rattle.bp_metric.specs.Choices.{allowed, allowed_later, are_late_twins, is_pair_of}
use Rattle.bp_metric.specs.Coordinates.{IsForced, IsShown}
use Rattle.bp_metric.specs.Next.{IsNextPair}
use Rattle.bp_metric.specs.Records.{IsJudged, IsSound, children, children_of, paths_left}
use Rattle.bp_metric.specs.Refutation.{extended}
use Rattle.bp_metric.specs.Stated.{IsInner, IsStatedFor}
use Rattle.bp_metric.specs.Valid.{Valid}
use Rattle.bp_core.proofs.Small.{opening_small}
use Rattle.bp_branch.specs.Branches.{IsBranch}
use Rattle.bp_branch.specs.Outcomes.{IsClosed, IsSolved, IsSplit}
use Rattle.bp_branch.proofs.Picked.{child_stated, picked_branch, stated_picked}
use Rattle.bp_core.specs.Settled.{Solves}
use Rattle.bp_core.specs.Underway.{IsGiven, IsLeft}
use Rattle.bp_turn.specs.declared.examining.Turn.{Turn}
use Rattle.bp_turn.specs.Turns.{AreLowPoints, IsFound, IsTurn, child, tasks_of as tasks_from}
use Rattle.bp_turn.proofs.Forced.{one_forced}
use Rattle.bp_machine.specs.declared.place.Place.{Place}
use Rattle.bp_machine.specs.declared.place.Place.TheVariants.{Drawn, Offering, Pushing, Ready}
use Rattle.bp_machine.specs.Facts.{HasHandFacts, HasTakesLeft, IsPlaced, held, held_ticket, told}
use Rattle.bp_machine.specs.State.{HandValue, StateValue}
use Rattle.bp_machine.specs.Steps.{examined, place_after}
use Rattle.bp_machine.proofs.Lows.{low_valid}
use Rattle.bp_machine.proofs.Moved.{IsMove, IsSoFar, born, drew, owed, owned, parts, tasks_weigh, whole}
use Rattle.bp_machine.proofs.Seats.{any_left, any_push_cases}

-- each pair has an allowed choice
some_later : (T : TreeValue) (p : Pair) → 0 < length (allowed_later T p)
some_later T p =
    cond_both (are_late_twins T p) (Left ∷ Below ∷ []) (Left ∷ Right ∷ Below ∷ Above ∷ []) (λ (cs : List Choice). 0 < length cs) (λ twins. omega arith) (λ others. omega arith)

some_allowed : (T : TreeValue) (G : Sheet) (p : Pair) → 0 < length (allowed T G p)
unfolding allowed
some_allowed T Square p =
    cond_both (is_pair_of 1 2 p) (Left ∷ []) (cond (is_pair_of 1 3 p) (Left ∷ Right ∷ Below ∷ []) (allowed_later T p)) (λ (cs : List Choice). 0 < length cs) (λ first. omega arith) (λ others. cond_both (is_pair_of 1 3 p) (Left ∷ Right ∷ Below ∷ []) (allowed_later T p) (λ (cs : List Choice). 0 < length cs) (λ second. omega arith) (λ rest. some_later T p))
some_allowed T (Strip width) p =
    cond_both (is_pair_of 1 2 p) (Left ∷ Below ∷ []) (allowed_later T p) (λ (cs : List Choice). 0 < length cs) (λ first. omega arith) (λ others. some_later T p)

module _ (T : TreeValue) (G : Sheet) (tree : IsTree T) (S : StateValue) (way : IsSoFar T G S []) (h : HandValue) (t : Task) (n : ℕ) (f : HasHandFacts T G way.opening_side S.side (record h { place = Drawn t n })) where
  abbrev before : HandValue
  before = record h { place = Drawn t n }

  abbrev u : ℕ
  u = way.opening_side

  abbrev Moves : HandValue → Type 0
  Moves to = IsMove T G S [] [] u S.side S.tickets before to

  in_hand : IsLeft T G S.side t
  in_hand = All-head (IsLeft T G S.side) t [] (parts (IsLeft T G S.side) h.deque h.kept h.unplaced (t ∷ []) f.tasks).3

  stated : IsStatedFor T G u t.path
  stated = in_hand.stated u way.is_opening_side

  pub drawn_branch : IsBranch T t.path
  drawn_branch = picked_branch T tree t.path (stated_picked T tree G u t.path stated)

  pub drawn_small : t.bound ≤ most_number
  drawn_small = omega (arith, in_hand.no_more u way.is_opening_side, opening_small T tree G u way.is_opening_side)

  module _ (b : ℕ) (is_b : b ≡ min h.known t.bound) where
    abbrev made : RecordKind → Record
    made kind = record { path = t.path; kind = kind; ticket = n; given = t.bound; bound = b }

    abbrev after : RecordKind → Place → List Task → HandValue
    after kind q children = record before { place = q; unplaced = children; records = h.records ++ made kind ∷ [] }

    b_above : S.side ≤ b
    b_above = omega (arith, is_b, f.known_no_less, in_hand.no_less)

    b_below : b ≤ u
    b_below = omega (arith, is_b, f.known_no_more)

    weighs : (kind : RecordKind) (q : Place) (children : List Task) → held q ≡ [] → AreSame (children_of T G (made kind)) (paths_left children) → (w : List Step → ℕ) → owned w (after kind q children) + owed w [] + born T G w before ≡ owned w before + owed w [] + born T G w (after kind q children)
    weighs kind q children none same w =
        let g : Task → ℕ = λ x. w x.path in
        let of_task : Task → List Step = λ x. x.path in
        let to = after kind q children in
        let empty : h.unplaced ≡ [] = f.placed in
        omega (
          arith,
          tasks_weigh g to,
          tasks_weigh g before,
          ap (sum_by g) none,
          ap (sum_by g) empty,
          sum_by_push g [] t,
          sum_by_push (λ (r : Record). w r.path) h.records (made kind),
          sum_by_push (λ (r : Record). sum_by w (children_of T G r)) h.records (made kind),
          same w,
          sum_by-map w of_task children,
        )

    draws : (kind : RecordKind) (q : Place) (children : List Task) → held_ticket q ≡ [] → (w : ℕ → ℕ) → drew w (after kind q children) ≡ drew w before
    draws kind q children none w =
        let ticket : Record → ℕ = λ r. r.ticket in
        omega (
          arith,
          sum_by-append w (map ticket (h.records ++ made kind ∷ [])) (held_ticket q),
          ap (sum_by w) none,
          sum_by-map w ticket (h.records ++ made kind ∷ []),
          sum_by_push (λ (r : Record). w r.ticket) h.records (made kind),
          sum_by_push w (map ticket h.records) n,
          sum_by-map w ticket h.records,
        )

    turns : (kind : RecordKind) (q : Place) (children : List Task) → held q ≡ [] → held_ticket q ≡ [] → AreSame (children_of T G (made kind)) (paths_left children) → IsJudged T G u (made kind) kind → All (IsLeft T G S.side) children → ((v : ℕ) → Any (Solves T G v) (told (after kind q children) q) → Any (Solves T G v) h.records ⊎ (S.side ≤ v)) → (Any (Solves T G S.side) h.records → Any (Solves T G S.side) (told (after kind q children) q)) → IsPlaced T G (after kind q children) q → HasTakesLeft h.empty_takes q → Moves (after kind q children)
    turns kind q children none no_ticket same judged left least reached placed takes = record {
      even = weighs kind q children none same;
      drawn = λ w. omega (arith, draws kind q children no_ticket w);
      word = inl (omega arith);
      below = omega arith;
      least = least;
      reached = inl (refl, reached);
      hand = record {
        known_no_less = f.known_no_less;
        known_no_more = f.known_no_more;
        sound = All-push (IsSound T G S.side) h.records (made kind) f.sound (record { opening_side = u; is_opening_side = way.is_opening_side; stated = stated; no_less = b_above; no_more = b_below; judged = judged });
        given = All-push IsGiven h.records (made kind) f.given (omega (arith, is_b));
        tasks =
            let all = parts (IsLeft T G S.side) h.deque h.kept h.unplaced (t ∷ []) f.tasks in
            subst (λ (x : List Task). All (IsLeft T G S.side) (h.deque ++ h.kept ++ children ++ x)) (sym none) (whole (IsLeft T G S.side) h.deque h.kept children [] all.0 all.1 left (λ k d less. absurd (omega (arith, less))));
        best = f.best;
        placed = placed;
        takes = takes;
      };
      best = inl (refl, λ found. found);
    }

    no_task : All (IsLeft T G S.side) []
    no_task k d less = absurd (omega (arith, less))

    -- of the records now, one from before solves, or the new one
    solvers : (kind : RecordKind) → ((v : ℕ) → Solves T G v (made kind) → S.side ≤ v) → (v : ℕ) → Any (Solves T G v) (h.records ++ made kind ∷ []) → Any (Solves T G v) h.records ⊎ (S.side ≤ v)
    solvers kind new v found = by (any_push_cases (Solves T G v) h.records (made kind) found)
      where
        by : Any (Solves T G v) h.records ⊎ Solves T G v (made kind) → Any (Solves T G v) h.records ⊎ (S.side ≤ v)
        by (inl old) = inl old
        by (inr solves) = inr (new v solves)

    closed : (claim : Claim) → IsShown T G t.path claim → IsClosed T G t.path b → Moves (after (Closed claim) Ready [])
    closed claim shown is =
        turns (Closed claim) Ready [] refl refl (λ w. refl) (shown, inl above) no_task (solvers (Closed claim) (λ v solves. omega (arith, b_above, above v solves.0))) (any_left (Solves T G S.side) h.records (made (Closed claim) ∷ [])) refl f.takes
      where
        above : (v : ℕ) → IsForced T G t.path v → b ≤ v
        above v forced = omega (arith, is.enough, one_forced T t.path G v is.side forced is.forced)

    solved : (claim : Claim) (p : Placement) → IsShown T G t.path claim → IsSolved T G t.path b p.side → AreLowPoints T t.path p.points → Moves (after (Closed claim) (Offering p) [])
    solved claim p shown is low =
        let r = made (Closed claim) in
        let rs = h.records ++ r ∷ [] in
        let long : length rs ≡ length h.records + 1 = length_push h.records r in
        let last : length rs - 1 ≡ length h.records = omega (arith, long) in
        let front : take (length rs - 1) rs ≡ h.records =
        ap (λ (k : ℕ). take k rs) last ∙ take-append-le (length h.records) h.records (r ∷ []) (omega arith) ∙ take_all (length h.records) h.records (omega arith) in
        let at : slice_get rs (length rs - 1) ≡ Some r =
        slice_get-get_or rs (length rs - 1) r (omega (arith, long)) ∙ ap Some (ap (λ (k : ℕ). get_or rs k r) last ∙ get_or_at h.records r [] r (length h.records) refl) in
        let valid : Valid T G 1 p.side p.points = low_valid T G t.path claim p.points b p.side drawn_branch.no_cycle shown is low (omega (arith, is_b, drawn_small)) in
        turns (Closed claim) (Offering p) [] refl refl (λ w. refl) (shown, inr is.no_next) no_task (λ v found. inl (subst (Any (Solves T G v)) front found)) (λ found. subst (Any (Solves T G S.side)) (sym front) found) (refl, valid, (r, at, (is.forced, is.no_next), low)) f.takes

    split : (p : Pair) → IsSplit T G t.path b → IsNextPair T t.path p → Moves (after (Split p) Pushing (tasks_from T G t.path b (Split p)))
    split p is next =
        turns (Split p) Pushing tasks refl refl same (inner u b_below, λ v forced. omega (arith, is.below, one_forced T t.path G v is.side forced is.forced)) tasks_left (solvers (Split p) (λ v solves. absurd (solves.1 p next.pair next.near))) (any_left (Solves T G S.side) h.records (made (Split p) ∷ [])) some f.takes
      where
        tasks : List Task
        tasks = tasks_from T G t.path b (Split p)

        some : 0 < length tasks
        some = omega (arith, length-map (allowed T G p) (child t.path b p), some_allowed T G p)

        inner : (w : ℕ) → b ≤ w → IsInner T G w t.path p
        inner w most = record { forced = is.side; is_forced = is.forced; below = omega (arith, is.below, most); next = next }

        same : AreSame (children T G t.path p) (paths_left tasks)
        same w =
            let of_task : Task → List Step = λ v. v.path in
            omega (
              arith,
              sum_by-map w (extended t.path p) (allowed T G p),
              sum_by-map w of_task tasks,
              sum_by-map (λ (v : Task). w v.path) (child t.path b p) (allowed T G p),
            )

        child_left : (c : Choice) → Contains (allowed T G p) c → IsLeft T G S.side (child t.path b p c)
        child_left c among = record {
          stated = λ w side. child_stated T tree G w t.path p c (in_hand.stated w side) (inner w (omega (arith, is_b, in_hand.no_more w side))) among;
          no_less = b_above;
          no_more = λ w side. omega (arith, is_b, in_hand.no_more w side);
        }

        tasks_left : All (IsLeft T G S.side) tasks
        tasks_left = All-map (IsLeft T G S.side) (child t.path b p) (allowed T G p) (λ k d less. child_left (get_or (allowed T G p) k d) (k, less, get_or_default (allowed T G p) k (get_or (allowed T G p) k d) d less))

    found : (kind : RecordKind) (placement : Option Placement) → IsFound T G t.path b kind placement → Moves (after kind (place_after kind placement) (tasks_from T G t.path b kind))
    found (Split p) None is = split p is.0 is.1
    found (Split p) (Some placement) is = absurd is
    found (Closed claim) None is = closed claim is.0 is.1
    found (Closed claim) (Some placement) is = solved claim placement is.0 is.1 is.2

  pub examines : (turn : Turn) (children : List Task) → IsTurn T G t h.known n children turn → Moves (examined before turn children)
  examines turn children is =
      let b = turn.record.bound in
      let kind = turn.record.kind in
      let q = place_after kind turn.placement in
      let same : turn.record ≡ record { path = t.path; kind = kind; ticket = n; given = t.bound; bound = b } =
      λ i. record { path = is.path i; kind = kind; ticket = is.ticket i; given = is.given i; bound = b } in
      subst (λ (r : Record). Moves (record before { place = q; unplaced = children; records = h.records ++ r ∷ [] })) (sym same)
      (subst (λ (ts : List Task). Moves (record before { place = q; unplaced = ts; records = h.records ++ (record { path = t.path; kind = kind; ticket = n; given = t.bound; bound = b }) ∷ [] })) (sym is.children) (found b is.bound kind turn.placement is.found))
