-- A branch in hand is examined: what holds of the search before still holds with its record and what follows of it.
use Rattle.std.proofs.Common.{◌≡◌, ◌⊎◌, inl, inr, ℕ, ◌+◌, ◌≤◌, min, List, [], ◌∷◌, ◌++◌, reverse, get_or, All, Any, Option, None, Some, MatchOption, refl, sym, ◌∙◌, subst, arith}
use Rattle.std.specs.List.{Contains}
use Rattle.std.proofs.lemmas.List.{get_or_default}
use Rattle.std.proofs.lemmas.List.Elements.{All-append, All-map, All-push}
use Rattle.std.proofs.lemmas.List.Quantifiers.{Any-push}
use Rattle.bp_base.specs.declared.path.Choice.{Choice}
use Rattle.bp_base.specs.declared.path.Pair.{Pair}
use Rattle.bp_base.specs.declared.path.Step.{Step}
use Rattle.bp_base.specs.declared.chain.Claim.{Claim}
use Rattle.bp_base.specs.declared.point.Placement.{Placement}
use Rattle.bp_base.specs.declared.point.Point.{Point}
use Rattle.bp_base.specs.declared.point.Sheet.{Sheet}
use Rattle.bp_base.specs.declared.record.Record.{Record}
use Rattle.bp_base.specs.declared.record.RecordKind.{RecordKind}
use Rattle.bp_base.specs.declared.record.RecordKind.TheVariants.{Closed, Split}
use Rattle.bp_base.specs.declared.record.Settled.{Settled}
use Rattle.bp_base.specs.declared.record.Task.{Task}
use Rattle.bp_base.specs.Bags.{AreSame}
use Rattle.bp_base.specs.Limits.{most_number}
use Rattle.bp_base.specs.Tree.{TreeValue, IsTree}
use Rattle.bp_base.proofs.Bags.{sum_by-map}
use Rattle.bp_metric.specs.Choices.{allowed}
use Rattle.bp_metric.specs.Coordinates.{IsForced, IsShown}
use Rattle.bp_metric.specs.Next.{IsNextPair}
use Rattle.bp_metric.specs.Records.{IsJudged, IsSound, children, children_of, paths_left}
use Rattle.bp_metric.specs.Refutation.{extended}
use Rattle.bp_metric.specs.Stated.{IsInner, IsStatedFor}
use Rattle.bp_metric.specs.Valid.{Valid}
use Rattle.bp_branch.specs.Branches.{IsBranch}
use Rattle.bp_branch.specs.Outcomes.{IsClosed, IsSolved, IsSplit}
use Rattle.bp_branch.proofs.Picked.{child_stated, picked_branch, stated_picked}
use Rattle.bp_core.specs.Settled.{Solves}
use Rattle.bp_core.specs.Underway.{IsGiven, IsLeft}
use Rattle.bp_turn.specs.declared.examining.Turn.{Turn}
use Rattle.bp_turn.specs.Turns.{IsFound, IsTurn, child, tasks_of}
use Rattle.bp_turn.proofs.Forced.{one_forced}
use Rattle.bp_stack.specs.Turns.{IsOnItsWay, IsTaken, followed}
use Rattle.bp_stack.proofs.Lists.{all_front, all_last, all_reverse, any_front, any_push_cases, balanced_more, same_reverse, tickets_more}
use Rattle.bp_core.proofs.Small.{opening_small}

module _ (T : TreeValue) (G : Sheet) where
  -- where the side falls, records stay sound and branches left stay so
  sound_below : (side less : ℕ) (records : List Record) → less ≤ side → All (IsSound T G side) records → All (IsSound T G less) records
  sound_below side less records below all k d in_list =
      let s = all k d in_list in
      record {
        opening_side = s.opening_side;
        is_opening_side = s.is_opening_side;
        stated = s.stated;
        no_less = omega (arith, s.no_less, below);
        no_more = s.no_more;
        judged = s.judged;
      }

  left_below : (side less : ℕ) (tasks : List Task) → less ≤ side → All (IsLeft T G side) tasks → All (IsLeft T G less) tasks
  left_below side less tasks below all k d in_list =
      let s = all k d in_list in
      record { stated = s.stated; no_less = omega (arith, s.no_less, below); no_more = s.no_more }

module _ (T : TreeValue) (G : Sheet) (t : IsTree T) (Z : Settled) (path : List Step) (given : ℕ) (taken : IsTaken T G Z (record { path = path; bound = given })) where
  abbrev task : Task
  task = record { path = path; bound = given }

  in_hand : IsLeft T G Z.side task
  in_hand = all_last (IsLeft T G Z.side) Z.left task taken.left

  others : All (IsLeft T G Z.side) Z.left
  others = all_front (IsLeft T G Z.side) Z.left (task ∷ []) taken.left

  abbrev u : ℕ
  u = taken.least.opening_side

  stated : IsStatedFor T G u path
  stated = in_hand.stated u taken.least.is_opening_side

  pub taken_branch : IsBranch T path
  taken_branch = picked_branch T t path (stated_picked T t G u path stated)

  pub taken_small : given ≤ most_number
  taken_small = omega (arith, in_hand.no_more u taken.least.is_opening_side, opening_small T t G u taken.least.is_opening_side)

  module _ (b : ℕ) (is_b : b ≡ min Z.side given) where
    abbrev made : RecordKind → Record
    made kind = record { path = path; kind = kind; ticket = Z.examined; given = given; bound = b }

    b_is : b ≡ Z.side
    b_is = omega (arith, in_hand.no_less)

    b_below : b ≤ u
    b_below = omega (arith, b_is, taken.least.no_more)

    -- the record is made, and the task's children are left in its place
    turn_more : (kind : RecordKind) (side : ℕ) (points : List Point) (more : List Task) → side ≤ Z.side → AreSame (children_of T G (made kind)) (paths_left more) → IsJudged T G u (made kind) kind → ((v : ℕ) → Solves T G v (made kind) → side ≤ v) → (side ≡ Z.side) ⊎ Solves T G side (made kind) → Valid T G 1 side points → All (IsLeft T G side) more → IsOnItsWay T G (record { records = Z.records ++ made kind ∷ []; left = Z.left ++ more; side = side; points = points; examined = Z.examined + 1 })
    turn_more kind side points more below same judged least reached valid left = record {
      balanced = balanced_more T G Z.records Z.left more task (made kind) taken.balanced refl same;
      tickets = tickets_more Z.records (made kind) Z.examined taken.tickets refl;
      within_budget = omega arith;
      sound = All-push (IsSound T G side) Z.records (made kind) (sound_below T G Z.side side Z.records below taken.sound) sound;
      given = All-push IsGiven Z.records (made kind) taken.given (omega (arith, is_b));
      least = record {
        opening_side = u;
        is_opening_side = taken.least.is_opening_side;
        no_more = omega (arith, below, taken.least.no_more);
        least = λ v found. lowest v (any_push_cases (Solves T G v) Z.records (made kind) found);
        reached = found_at reached;
      };
      valid = valid;
      left = All-append (IsLeft T G side) Z.left more (left_below T G Z.side side Z.left below others) left;
    }
      where
        sound : IsSound T G side (made kind)
        sound = record {
          opening_side = u;
          is_opening_side = taken.least.is_opening_side;
          stated = stated;
          no_less = omega (arith, b_is, below);
          no_more = b_below;
          judged = judged;
        }

        lowest : (v : ℕ) → Any (Solves T G v) Z.records ⊎ Solves T G v (made kind) → side ≤ v
        lowest v (inl before) = omega (arith, below, taken.least.least v before)
        lowest v (inr here) = least v here

        before : (side ≡ Z.side) → (Z.side ≡ u) ⊎ Any (Solves T G Z.side) Z.records → (side ≡ u) ⊎ Any (Solves T G side) (Z.records ++ made kind ∷ [])
        before same_side (inl is) = inl (same_side ∙ is)
        before same_side (inr there) =
            inr (any_front (Solves T G side) Z.records (made kind ∷ []) (subst (λ (v : ℕ). Any (Solves T G v) Z.records) (sym same_side) there))

        found_at : (side ≡ Z.side) ⊎ Solves T G side (made kind) → (side ≡ u) ⊎ Any (Solves T G side) (Z.records ++ made kind ∷ [])
        found_at (inl same_side) = before same_side taken.least.reached
        found_at (inr solves) = inr (Any-push (Solves T G side) Z.records (made kind) solves)

    no_task : (side : ℕ) → All (IsLeft T G side) []
    no_task side k d less = absurd (omega (arith, less))

    closed : (claim : Claim) → IsShown T G path claim → IsClosed T G path b → IsOnItsWay T G (followed Z (made (Closed claim)) None [])
    closed claim shown is =
        turn_more (Closed claim) Z.side Z.points [] (omega arith) (λ h. refl) (shown, inl above) (λ v solves. omega (arith, b_is, above v solves.0)) (inl refl) taken.valid (no_task Z.side)
      where
        above : (v : ℕ) → IsForced T G path v → b ≤ v
        above v forced = omega (arith, is.enough, one_forced T path G v is.side forced is.forced)

    solved : (claim : Claim) (p : Placement) → IsShown T G path claim → IsSolved T G path b p.side → Valid T G 1 p.side p.points → IsOnItsWay T G (followed Z (made (Closed claim)) (Some p) [])
    solved claim p shown is valid =
        turn_more (Closed claim) p.side p.points [] (omega (arith, b_is, is.below)) (λ h. refl) (shown, inr is.no_next) (λ v solves. omega (arith, one_forced T path G v p.side solves.0 is.forced)) (inr (is.forced, is.no_next)) valid (no_task p.side)

    split : (p : Pair) → IsSplit T G path b → IsNextPair T path p → IsOnItsWay T G (followed Z (made (Split p)) None (tasks_of T G path b (Split p)))
    split p is next =
        turn_more (Split p) Z.side Z.points (reverse tasks) (omega arith) same (inner u b_below, λ v forced. omega (arith, is.below, one_forced T path G v is.side forced is.forced)) (λ v solves. absurd (solves.1 p next.pair next.near)) (inl refl) taken.valid (all_reverse (IsLeft T G Z.side) tasks tasks_left)
      where
        tasks : List Task
        tasks = tasks_of T G path b (Split p)

        inner : (w : ℕ) → b ≤ w → IsInner T G w path p
        inner w most = record { forced = is.side; is_forced = is.forced; below = omega (arith, is.below, most); next = next }

        same : AreSame (children T G path p) (paths_left (reverse tasks))
        same h =
            let choices = allowed T G p in
            let of_task : Task → List Step = λ v. v.path in
            omega (
              arith,
              sum_by-map h (extended path p) choices,
              sum_by-map h of_task (reverse tasks),
              same_reverse tasks (λ v. h v.path),
              sum_by-map (λ (v : Task). h v.path) (child path b p) choices,
            )

        child_left : (c : Choice) → Contains (allowed T G p) c → IsLeft T G Z.side (child path b p c)
        child_left c among = record {
          stated = λ w side. child_stated T t G w path p c (in_hand.stated w side) (inner w (omega (arith, is_b, in_hand.no_more w side))) among;
          no_less = omega (arith, b_is);
          no_more = λ w side. omega (arith, is_b, in_hand.no_more w side);
        }

        tasks_left : All (IsLeft T G Z.side) tasks
        tasks_left = All-map (IsLeft T G Z.side) (child path b p) (allowed T G p) (λ k d less. child_left (get_or (allowed T G p) k d) (k, less, get_or_default (allowed T G p) k (get_or (allowed T G p) k d) d less))

    found : (kind : RecordKind) (placement : Option Placement) → IsFound T G path b kind placement → MatchOption placement (1 ≤ 1) (λ (p : Placement). Valid T G 1 p.side p.points) → IsOnItsWay T G (followed Z (made kind) placement (tasks_of T G path b kind))
    found (Split p) None is valid = split p is.0 is.1
    found (Split p) (Some placement) is valid = absurd is
    found (Closed claim) None is valid = closed claim is.0 is.1
    found (Closed claim) (Some placement) is valid = solved claim placement is.0 is.1 valid

  -- the search is on its way after a turn
  pub turned : (tasks : List Task) (turn : Turn) → IsTurn T G task Z.side Z.examined tasks turn → MatchOption turn.placement (1 ≤ 1) (λ (p : Placement). Valid T G 1 p.side p.points) → IsOnItsWay T G (followed Z turn.record turn.placement tasks)
  turned tasks turn is valid =
      let b = turn.record.bound in
      let kind = turn.record.kind in
      let same : turn.record ≡ record { path = path; kind = kind; ticket = Z.examined; given = given; bound = b } =
      λ i. record { path = is.path i; kind = kind; ticket = is.ticket i; given = is.given i; bound = b } in
      subst (λ (r : Record). IsOnItsWay T G (followed Z r turn.placement tasks)) (sym same)
      (subst (λ (ts : List Task). IsOnItsWay T G (followed Z (record { path = path; kind = kind; ticket = Z.examined; given = given; bound = b }) turn.placement ts)) (sym is.children) (found b is.bound kind turn.placement is.found valid))
