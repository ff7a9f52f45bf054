-- What a run has come to once all hands have left.
use Rattle.std.proofs.Common.{◌≡◌, ◌⊎◌, inl, inr, ℕ, ◌+◌, ◌-◌, ◌≤◌, Bool, true, false, cond, get_or, List, [], ◌∷◌, ◌++◌, All, Any, Option, Some, MatchOption, length, map, min, refl, sym, ap, ◌∙◌, subst, arith}
use Rattle.std.specs.List.{count_by, flat_map, range_with_len, slice_get, sum_by}
use Rattle.std.proofs.lemmas.List.Concat.{flat_map-cons}
use Rattle.std.proofs.lemmas.List.Elements.{All-append, All-cons, All-head, All-tail}
use Rattle.std.proofs.lemmas.List.Sums.{sum_by-append, sum_by-cons}
use Rattle.std.proofs.lemmas.Option.{slice_get-get_or}
use Rattle.bp_base.specs.declared.point.Placement.{Placement}
use Rattle.bp_base.specs.declared.point.Point.{Point}
use Rattle.bp_base.specs.declared.point.Sheet.{Sheet}
use Rattle.bp_base.specs.declared.record.Left.{Left}
use Rattle.bp_base.specs.declared.record.Left.TheVariants.{AtFloor, Spent, Idle, Halted, NoMemory}
use Rattle.bp_base.specs.declared.record.Record.{Record}
use Rattle.bp_base.specs.declared.record.Settled.{Settled}
use Rattle.bp_base.specs.declared.record.Task.{Task}
use Rattle.bp_base.specs.Bags.{AreSame}
use Rattle.bp_base.specs.Tree.{TreeValue}
use Rattle.bp_base.proofs.Bags.{same-append, same-length, same-map, same_refl, same_sym, same_trans, sum_by-flat_map, sum_by-map}
use Rattle.bp_metric.specs.Floor.{IsFloorSide}
use Rattle.bp_metric.specs.Opening.{IsOpening, side_of}
use Rattle.bp_metric.specs.Records.{IsBalanced, IsSound, children_of, paths_left, paths_of}
use Rattle.bp_metric.specs.Valid.{Valid}
use Rattle.bp_opening.proofs.Packing.{opening_valid}
use Rattle.bp_opening.proofs.Unique.{one_opening}
use Rattle.bp_core.proofs.Left.{one_side}
use Rattle.bp_core.specs.Settled.{IsAtEnd, IsLeastFound, IsSettled}
use Rattle.bp_machine.specs.declared.place.Place.{Place}
use Rattle.bp_machine.specs.declared.place.Place.TheVariants.{Gone}
use Rattle.bp_machine.specs.Facts.{HasFacts, HasHandFacts, IsBest, IsPlaced, IsReached, all_records, all_tasks, all_tickets, all_told, held, held_ticket, tasks_of, tickets_of, told}
use Rattle.bp_machine.specs.Orderly.{HasCause, IsInOrder, IsOrderly, IsOrderlyHand, all_set_aside}
use Rattle.bp_machine.specs.Runs.{ArePicked, CanWake, IsOutcome, is_live, live_count, stays}
use Rattle.bp_machine.specs.State.{HandValue, IsHand, StateValue}
use Rattle.bp_machine.proofs.Moved.{tasks_weigh}
use Rattle.bp_machine.proofs.Seats.{at_seat}

gone_at : (p : Place) → stays p ≡ false → (l : Left) × (p ≡ Gone l)
gone_at (Gone l) is = (l, refl)
gone_at p is = absurd (cc)

-- no live hand is counted where none is
count_zero : (hands : List HandValue) → count_by is_live hands ≡ 0 → All (λ (h : HandValue). is_live h ≡ false) hands
count_zero [] none = λ k d less. absurd (omega (arith, less))
count_zero (h ∷ hands) none = count_case (is_live h) refl (sym (sum_by-cons (λ (x : HandValue). cond (is_live x) 1 0) h hands) ∙ none) (count_zero hands)
  where
    count_case : (b : Bool) → is_live h ≡ b → cond b 1 0 + count_by is_live hands ≡ 0 → (count_by is_live hands ≡ 0 → All (λ (x : HandValue). is_live x ≡ false) hands) → All (λ (x : HandValue). is_live x ≡ false) (h ∷ hands)
    count_case true is count rest = absurd (omega (arith, count))
    count_case false is count rest = All-cons (λ (x : HandValue). is_live x ≡ false) h hands is (rest (omega (arith, count)))

-- the sums of two meanings are the same where each hand's are
same_sums : (f g : HandValue → ℕ) (hands : List HandValue) → All (λ (h : HandValue). f h ≡ g h) hands → sum_by f hands ≡ sum_by g hands
same_sums f g [] all = refl
same_sums f g (h ∷ hands) all =
    omega (arith, sum_by-cons f h hands, sum_by-cons g h hands, All-head (λ (x : HandValue). f x ≡ g x) h hands all, same_sums f g hands (All-tail (λ (x : HandValue). f x ≡ g x) h hands all))

same_lists : {A : Type 0} (f g : HandValue → List A) (hands : List HandValue) → All (λ (h : HandValue). f h ≡ g h) hands → flat_map f hands ≡ flat_map g hands
same_lists f g [] all = refl
same_lists f g (h ∷ hands) all =
    flat_map-cons f h hands
    ∙ (λ j. All-head (λ (x : HandValue). f x ≡ g x) h hands all j ++ same_lists f g hands (All-tail (λ (x : HandValue). f x ≡ g x) h hands all) j)
    ∙ sym (flat_map-cons g h hands)

each_weaker : {P Q : HandValue → Type 0} (hands : List HandValue) → All P hands → ((h : HandValue) → P h → Q h) → All Q hands
each_weaker hands all more = λ k d less. more _ (all k d less)

-- what the hands' records keep, all records keep
all_of : {A : Type 0} (P : A → Type 0) (f : HandValue → List A) (hands : List HandValue) → All (λ (h : HandValue). All P (f h)) hands → All P (flat_map f hands)
all_of P f [] all = λ k d less. absurd (omega (arith, less))
all_of P f (h ∷ hands) all =
    subst (All P) (sym (flat_map-cons f h hands)) (All-append P (f h) (flat_map f hands) (All-head (λ (x : HandValue). All P (f x)) h hands all) (all_of P f hands (All-tail (λ (x : HandValue). All P (f x)) h hands all)))

-- one hand that has left
pub record HasLeft (T : TreeValue) (G : Sheet) (S : StateValue) (h : HandValue) : Type 0 where
  pub left : Left
  pub place : h.place ≡ Gone left
  pub unplaced : h.unplaced ≡ []
  pub cause : HasCause S h left
  pub kept : (h.kept ≡ []) ⊎ (S.budget ≤ S.tickets)

module _ (T : TreeValue) (G : Sheet) (S : StateValue) (facts : HasFacts T G S) (orderly : IsOrderly S) (all_left : live_count S ≡ 0) where
  abbrev u : ℕ
  u = facts.opening_side

  left_one : (i : ℕ) (h : HandValue) → is_live h ≡ false → HasHandFacts T G u S.side h → IsOrderlyHand S i h → HasLeft T G S h
  left_one i h live f o =
      let gone = gone_at h.place live in
      record {
        left = gone.0;
        place = gone.1;
        unplaced = subst (IsPlaced T G h) gone.1 f.placed;
        cause = subst (IsInOrder S i h) gone.1 o.place;
        kept = o.kept;
      }

  left_hands : All (HasLeft T G S) S.hands
  left_hands = λ k d less.
      let h : HandValue = get_or S.hands k d in
      let seat : k ≡ k + 1 - 1 = omega arith in
      let at : IsHand S (k + 1) h = (omega arith, subst (λ (j : ℕ). slice_get S.hands j ≡ Some h) seat (slice_get-get_or S.hands k d less)) in
      left_one (k + 1) h (count_zero S.hands all_left k d less) (facts.hands k d less) (orderly.each (k + 1) h at)

  abbrev Ends : List Task → Type 0
  Ends tasks = (tasks ≡ []) ⊎ ((S.budget ≤ S.tickets) ⊎ (S.side ≤ S.floor))

  end_one : (h : HandValue) (l : Left) → HasCause S h l → (h.kept ≡ []) ⊎ (S.budget ≤ S.tickets) → Ends (h.kept ++ h.deque)
  end_one h AtFloor cause kept = inr (inr cause)
  end_one h Spent cause kept = inr (inl cause)
  end_one h Idle cause (inl none) = inl (λ j. none j ++ cause j)
  end_one h Idle cause (inr spent) = inr (inl spent)
  end_one h Halted cause kept = absurd cause
  end_one h NoMemory cause kept = absurd cause

  end_both : (xs ys : List Task) → Ends xs → Ends ys → Ends (xs ++ ys)
  end_both xs ys (inl none) (inl nothing) = inl (λ j. none j ++ nothing j)
  end_both xs ys (inl none) (inr why) = inr why
  end_both xs ys (inr why) other = inr why

  end_of : (hands : List HandValue) → All (HasLeft T G S) hands → Ends (flat_map (λ (h : HandValue). h.kept ++ h.deque) hands)
  end_of [] all = inl refl
  end_of (h ∷ hands) all =
      let first = All-head (HasLeft T G S) h hands all in
      subst Ends (sym (flat_map-cons (λ (x : HandValue). x.kept ++ x.deque) h hands)) (end_both (h.kept ++ h.deque) (flat_map (λ (x : HandValue). x.kept ++ x.deque) hands) (end_one h first.left first.cause first.kept) (end_of hands (All-tail (HasLeft T G S) h hands all)))

  abbrev ended : Ends (all_set_aside S)
  ended = end_of S.hands left_hands

  weighs_same : (w : Task → ℕ) → sum_by w (all_set_aside S) ≡ sum_by w (all_tasks S)
  weighs_same w =
      sum_by-flat_map w (λ (h : HandValue). h.kept ++ h.deque) S.hands
      ∙ same_sums (λ (h : HandValue). sum_by w (h.kept ++ h.deque)) (λ (h : HandValue). sum_by w (tasks_of h)) S.hands (each_weaker S.hands left_hands (λ h left. each h left))
      ∙ sym (sum_by-flat_map w tasks_of S.hands)
    where
      each : (h : HandValue) → HasLeft T G S h → sum_by w (h.kept ++ h.deque) ≡ sum_by w (tasks_of h)
      each h left = omega (arith, sum_by-append w h.kept h.deque, tasks_weigh w h, ap (sum_by w) left.unplaced, ap (λ (p : Place). sum_by w (held p)) left.place)

  wakes_not : Ends (all_set_aside S) → CanWake S → ⊥
  wakes_not (inl none) (live, some, below, above) = omega (arith, some, ap length none, same-length (all_set_aside S) (all_tasks S) weighs_same)
  wakes_not (inr (inl spent)) (live, some, below, above) = omega (arith, spent, below)
  wakes_not (inr (inr low)) (live, some, below, above) = omega (arith, low, above)

  pub no_wake : CanWake S → ⊥
  no_wake = wakes_not ended

  abbrev ticket_of : Record → ℕ
  ticket_of r = r.ticket

  tickets_same : AreSame (map ticket_of (all_records S)) (all_tickets S)
  tickets_same w =
      sum_by-map w ticket_of (all_records S)
      ∙ sum_by-flat_map (λ (r : Record). w r.ticket) (λ (h : HandValue). h.records) S.hands
      ∙ same_sums (λ (h : HandValue). sum_by (λ (r : Record). w r.ticket) h.records) (λ (h : HandValue). sum_by w (tickets_of h)) S.hands (each_weaker S.hands left_hands (λ h left. each h left))
      ∙ sym (sum_by-flat_map w tickets_of S.hands)
    where
      each : (h : HandValue) → HasLeft T G S h → sum_by (λ (r : Record). w r.ticket) h.records ≡ sum_by w (tickets_of h)
      each h left = omega (arith, sum_by-append w (map ticket_of h.records) (held_ticket h.place), sum_by-map w ticket_of h.records, ap (λ (p : Place). sum_by w (held_ticket p)) left.place)

  told_same : all_told S ≡ all_records S
  told_same = same_lists (λ (h : HandValue). told h h.place) (λ (h : HandValue). h.records) S.hands (each_weaker {P = HasLeft T G S} S.hands left_hands (λ h left. ap (told h) left.place))

  at_end : (Z : Settled) → Z.left ≡ all_set_aside S → Z.side ≡ S.side → Z.examined ≡ min S.tickets S.budget → IsFloorSide T G S.floor → Ends (all_set_aside S) → IsAtEnd T G S.budget Z
  at_end Z left side examined floor (inl none) = inl (left ∙ none)
  at_end Z left side examined floor (inr (inl spent)) = inr (inl (omega (arith, examined, spent)))
  at_end Z left side examined floor (inr (inr low)) = inr (inr (S.floor, floor, omega (arith, side, low)))

  module _ (opening : Placement) (is_opening : IsOpening T G opening.points) (is_side : opening.side ≡ side_of G opening.points) where
    pub has_best : (S.side ≡ opening.side) ⊎ Any (IsReached S.side) S.hands
    has_best = known facts.best
      where
        known : (S.side ≡ u) ⊎ Any (IsReached S.side) S.hands → (S.side ≡ opening.side) ⊎ Any (IsReached S.side) S.hands
        known (inl same) = inl (same ∙ one_side T G (one_opening T G) u opening.side facts.is_opening_side (record { opening = opening.points; is_opening = is_opening; is_side = is_side }))
        known (inr reached) = inr reached

    valid_picked : (points : List Point) → ArePicked opening S points → Valid T G 1 S.side points
    valid_picked points (inl (same, are)) =
        subst (λ (s : ℕ). Valid T G 1 s points) (sym (same ∙ is_side)) (subst (λ (ps : List Point). Valid T G 1 (side_of G opening.points) ps) (sym are) (opening_valid T G opening.points is_opening))
    valid_picked points (inr (other, (k, h, p, at, best, side, are, least))) =
        let f = at_seat (HasHandFacts T G u S.side) S.hands k h at facts.hands in
        let is : IsBest T G S.side p = subst (λ (b : Option Placement). MatchOption b (S.side ≤ u) (IsBest T G S.side)) best f.best in
        subst (λ (s : ℕ). Valid T G 1 s points) side (subst (λ (ps : List Point). Valid T G 1 p.side ps) (sym are) is.1)

    module _ (Z : Settled) (records : Z.records ≡ all_records S) (left : Z.left ≡ all_set_aside S) (side : Z.side ≡ S.side) (examined : Z.examined ≡ min S.tickets S.budget) (picked : ArePicked opening S Z.points) where
      same_left : AreSame Z.left (all_tasks S)
      same_left = subst (λ (ts : List Task). AreSame ts (all_tasks S)) (sym left) weighs_same

      pub is_outcome : IsOutcome opening S Z
      is_outcome = record { records = λ w. ap (sum_by w) records; left = same_left; side = side; examined = examined; points = picked }

      abbrev Balanced : List Record → Type 0
      Balanced rs = IsBalanced T G rs Z.left

      pub is_settled : IsFloorSide T G S.floor → IsSettled T G S.budget Z
      is_settled floor = record {
        balanced = subst Balanced (sym records) (same_trans ([] ∷ flat_map (children_of T G) (all_records S)) (paths_of (all_records S) ++ paths_left (all_tasks S)) (paths_of (all_records S) ++ paths_left Z.left) facts.conservation (same-append (paths_of (all_records S)) (paths_of (all_records S)) (paths_left (all_tasks S)) (paths_left Z.left) (same_refl (paths_of (all_records S))) (same-map (λ (t : Task). t.path) (all_tasks S) Z.left (same_sym Z.left (all_tasks S) same_left))));
        tickets = subst (λ (rs : List Record). AreSame (map ticket_of rs) (range_with_len 0 Z.examined)) (sym records) (subst (λ (n : ℕ). AreSame (map ticket_of (all_records S)) (range_with_len 0 n)) (sym examined) (same_trans (map ticket_of (all_records S)) (all_tickets S) (range_with_len 0 (min S.tickets S.budget)) tickets_same facts.tickets));
        within_budget = omega (arith, examined);
        sound = subst (λ (s : ℕ). All (IsSound T G s) Z.records) (sym side) (subst (All (IsSound T G S.side)) (sym records) (all_of (IsSound T G S.side) (λ (h : HandValue). h.records) S.hands (each_weaker {P = HasHandFacts T G u S.side} S.hands facts.hands (λ h f. f.sound))));
        least = subst (λ (rs : List Record). IsLeastFound T G Z.side rs) (told_same ∙ sym records) (subst (λ (s : ℕ). IsLeastFound T G s (all_told S)) (sym side) (record {
          opening_side = u;
          is_opening_side = facts.is_opening_side;
          no_more = facts.least_side.no_more;
          least = facts.least_side.least;
          reached = facts.least_side.reached;
        }));
        valid = subst (λ (s : ℕ). Valid T G 1 s Z.points) (sym side) (valid_picked Z.points picked);
        at_end = at_end Z left side examined floor ended;
      }
