-- A branch in hand is examined: what holds of a revision before still holds with its record and what follows of it.
use Rattle.std.proofs.Common.{◌≡◌, ◌⊎◌, inl, inr, ℕ, zero, suc, ◌+◌, ◌<◌, ◌≤◌, List, [], ◌∷◌, ◌++◌, reverse, length, map, get_or, All, Any, Option, None, Some, MatchOption, refl, sym, ap, ◌∙◌, subst, arith, append_assoc}
use Rattle.std.specs.List.{Contains, flat_map, sum_by}
use Rattle.std.proofs.lemmas.List.{get_or_default, get_or_append_left, get_or_at, length-append, length_push, reverse-append}
use Rattle.std.proofs.lemmas.List.Elements.{All-append, All-map, All-push}
use Rattle.std.proofs.lemmas.List.Quantifiers.{Any-push}
use Rattle.std.proofs.lemmas.List.Sums.{sum_by-append, sum_by-cons, sum_by_push}
use Rattle.std.proofs.lemmas.List.Sorted.{IsPermutation-reverse}
use Rattle.bp_base.specs.declared.chain.Claim.{Claim}
use Rattle.bp_base.specs.declared.chain.Claim.TheVariants.{Walk, Cycle}
use Rattle.bp_base.specs.declared.path.Choice.{Choice}
use Rattle.bp_base.specs.declared.path.Pair.{Pair}
use Rattle.bp_base.specs.declared.path.Step.{Step}
use Rattle.bp_base.specs.declared.point.Axis.TheVariants.{X, Y}
use Rattle.bp_base.specs.declared.point.Placement.{Placement}
use Rattle.bp_base.specs.declared.point.Point.{Point}
use Rattle.bp_base.specs.declared.point.Sheet.{Sheet}
use Rattle.bp_base.specs.declared.record.Record.{Record}
use Rattle.bp_base.specs.declared.record.RecordKind.{RecordKind}
use Rattle.bp_base.specs.declared.record.RecordKind.TheVariants.{Closed, Split}
use Rattle.bp_base.specs.declared.record.Settled.{Settled}
use Rattle.bp_base.specs.declared.record.Task.{Task}
use Rattle.bp_base.specs.Bags.{AreSame}
use Rattle.bp_base.specs.Limits.{most_number}
use Rattle.bp_base.specs.Tree.{TreeValue, IsTree, leaf_count}
use Rattle.bp_base.proofs.Bags.{sum_by-map, sum_by-flat_map, same-IsPermutation}
use Rattle.bp_metric.specs.Chains.{HasCycle}
use Rattle.bp_metric.specs.Choices.{allowed}
use Rattle.bp_metric.specs.Coordinates.{IsCycleShown, IsForced, IsShown, IsShownOrCycle}
use Rattle.bp_metric.specs.Next.{IsNextPair}
use Rattle.bp_metric.specs.Nodes.{Part, SplitOf, ClosedBy, OpenBy, counted}
use Rattle.bp_metric.specs.Records.{IsBalanced, children, children_of, paths_left}
use Rattle.bp_metric.specs.Refutation.{CanSplit, extended}
use Rattle.bp_metric.specs.Valid.{Valid}
use Rattle.bp_branch.specs.Outcomes.{IsClosed, IsSplit}
use Rattle.bp_branch.specs.Outcomes as outcomes
use Rattle.bp_check.specs.Written.{CountsFrom}
use Rattle.bp_turn.specs.Turns.{AreLowPoints, IsCycleFound, IsFound, IsFoundOrCyclic, child, tasks_of}
use Rattle.bp_turn.proofs.Forced.{one_forced}
use Rattle.bp_join.specs.Joined.{part_of}
use Rattle.bp_written.specs.Told.{IsOfPairs}
use Rattle.bp_revise.specs.Course.{IsLeft, IsMade, IsOnCourse, Solves, placed, with_task}
use Rattle.bp_revise.specs.Revised.{AreSolvedPoints, IsOtherPart, SolvedPart}
use Rattle.bp_revise.specs.Revised.IsGrown.{child as grown_child}
use Rattle.bp_written.proofs.PathPairs.{longer_pairs, next_can}
use Rattle.bp_written.proofs.ShownCounts.{shown_counts}

-- Lists with one element more.

module _ {X : Type 0} (P : X → Type 0) where
  pub all_last : (xs : List X) (x : X) → All P (xs ++ x ∷ []) → P x
  all_last xs x all = subst P (get_or_at xs x [] x (length xs) refl) (all (length xs) x (omega (arith, length_push xs x)))

  pub all_front : (xs ys : List X) → All P (xs ++ ys) → All P xs
  all_front xs ys all k d less = subst P (get_or_append_left xs ys d k less) (all k d (omega (arith, length-append xs ys, less)))

  pub any_front : (xs ys : List X) → Any P xs → Any P (xs ++ ys)
  any_front xs ys (k, x, less, at, holds) = (k, x, omega (arith, length-append xs ys, less), get_or_append_left xs ys x k less ∙ at, holds)

  pub any_push_cases : (xs : List X) (y : X) → Any P (xs ++ y ∷ []) → Any P xs ⊎ P y
  any_push_cases [] y (zero, x, less, at, holds) = inr (subst P (sym at) holds)
  any_push_cases [] y (suc k, x, less, at, holds) = absurd (omega (arith, less))
  any_push_cases (a ∷ xs) y (zero, x, less, at, holds) = inl (zero, x, omega arith, at, holds)
  any_push_cases (a ∷ xs) y (suc k, x, less, at, holds) = later (any_push_cases xs y (k, x, omega (arith, less), at, holds))
    where
      later : Any P xs ⊎ P y → Any P (a ∷ xs) ⊎ P y
      later (inl (k, x, less, at, holds)) = inl (suc k, x, omega (arith, less), at, holds)
      later (inr holds) = inr holds

-- a branch that was left is recorded, and its children are left in its place
balanced_more : (T : TreeValue) (G : Sheet) (records : List Record) (left more : List Task) (t : Task) (r : Record) → IsBalanced T G records (left ++ t ∷ []) → r.path ≡ t.path → AreSame (children_of T G r) (paths_left more) → IsBalanced T G (records ++ r ∷ []) (left ++ more)
balanced_more T G records left more t r balanced same children h =
    let path : Record → List Step = λ q. q.path in
    let of_task : Task → List Step = λ u. u.path in
    let P : Record → ℕ = λ q. h q.path in
    let Q : Task → ℕ = λ u. h u.path in
    let C : Record → ℕ = λ q. sum_by h (children_of T G q) in
    omega (
      arith,
      balanced h,
      sum_by-cons h [] (flat_map (children_of T G) records),
      sum_by-cons h [] (flat_map (children_of T G) (records ++ r ∷ [])),
      sum_by-flat_map h (children_of T G) records,
      sum_by-flat_map h (children_of T G) (records ++ r ∷ []),
      sum_by_push C records r,
      sum_by-append h (map path records) (map of_task (left ++ t ∷ [])),
      sum_by-append h (map path (records ++ r ∷ [])) (map of_task (left ++ more)),
      sum_by-map h path records,
      sum_by-map h path (records ++ r ∷ []),
      sum_by_push P records r,
      sum_by-map h of_task (left ++ t ∷ []),
      sum_by_push Q left t,
      sum_by-map h of_task (left ++ more),
      sum_by-append Q left more,
      sum_by-map h of_task more,
      children h,
      ap h same,
    )

same_reverse : {X : Type 0} (xs : List X) → AreSame xs (reverse xs)
same_reverse xs = same-IsPermutation xs (reverse xs) (IsPermutation-reverse xs)

all_reverse : {X : Type 0} (P : X → Type 0) (xs : List X) → All P xs → All P (reverse xs)
all_reverse P [] all = λ k d less. absurd (omega (arith, less))
all_reverse P (x ∷ xs) all =
    subst (All P) (sym (reverse-append (x ∷ []) xs)) (All-push P (reverse xs) x (all_reverse P xs (λ k d less. all (suc k) d (omega (arith, less)))) (all 0 x (omega arith)))

-- Where the side falls, what was made still stands.

module _ (T : TreeValue) (G : Sheet) (start : ℕ) (roots : List (List Step)) (side less : ℕ) (below : less ≤ side) where
  counts_below : (w : Option ℕ) → CountsFrom side w → CountsFrom less w
  counts_below None counts = counts
  counts_below (Some w) counts = omega (arith, counts, below)

  part_below : (path : List Step) (part : Part) → IsOtherPart T G start side path part → IsOtherPart T G start less path part
  part_below path (SplitOf p k) is = is
  part_below path (ClosedBy claim) is = (is.0, counts_below (counted T G claim) is.1)
  part_below path (OpenBy claim) is = is

  made_below : (records : List Record) → All (IsMade T G start roots side) records → All (IsMade T G start roots less) records
  made_below records all k d within =
      let r = get_or records k d in
      let is : IsMade T G start roots side r = all k d within in
      (is.0, (is.1.0, part_below r.path (part_of T G r.kind) is.1.1))

module _ (T : TreeValue) (G : Sheet) (t : IsTree T) (start : Placement) (base : List Record) (roots : List (List Step)) (Z : Settled) (path : List Step) (given : ℕ) (taken : IsOnCourse T G start base roots (with_task Z (record { path = path; bound = given }))) where
  abbrev task : Task
  task = record { path = path; bound = given }

  in_hand : IsLeft T G start.side roots task
  in_hand = all_last (IsLeft T G start.side roots) Z.left task taken.left

  others : All (IsLeft T G start.side roots) Z.left
  others = all_front (IsLeft T G start.side roots) Z.left (task ∷ []) taken.left

  pub hand_pairs : IsOfPairs T path
  hand_pairs = in_hand.0

  pub bound_small : start.side ≤ most_number → Z.side ≤ most_number
  bound_small small = omega (arith, taken.no_worse, small)

  abbrev new_record : RecordKind → Record
  new_record kind = record { path = path; kind = kind; ticket = Z.examined; given = given; bound = Z.side }

  abbrev after : RecordKind → ℕ → List Point → List Task → Settled
  after kind side points more =
      record { records = Z.records ++ new_record kind ∷ []; left = Z.left ++ more; side = side; points = points; examined = Z.examined + 1 }

  -- the side falls to what the record solves, with the low points of its path
  abbrev IsLower : RecordKind → ℕ → List Point → Type 0
  IsLower kind side points = (side < Z.side) × SolvedPart T G side path (part_of T G kind) × AreSolvedPoints T G start.side roots side points

  -- the record is made, and the task's children are left in its place
  turn_more : (kind : RecordKind) (side : ℕ) (points : List Point) (more : List Task) → side ≤ Z.side → AreSame (children_of T G (new_record kind)) (paths_left more) → IsOtherPart T G start.side side path (part_of T G kind) → ((v : ℕ) → SolvedPart T G v path (part_of T G kind) → side ≤ v) → (side ≡ Z.side) ⊎ IsLower kind side points → Valid T G 1 side points → (side ≡ Z.side → points ≡ Z.points) → All (IsLeft T G start.side roots) more → IsOnCourse T G start base roots (after kind side points more)
  turn_more kind side points more below same is least reached valid stays left = record {
    made = taken.made ++ new_record kind ∷ [];
    records = (λ i. taken.records i ++ new_record kind ∷ []) ∙ append_assoc base taken.made (new_record kind ∷ []);
    many = omega (arith, length_push taken.made (new_record kind), taken.many);
    each = All-push (IsMade T G start.side roots side) taken.made (new_record kind) (made_below T G start.side roots Z.side side below taken.made taken.each) (in_hand.0, (in_hand.1, is));
    balanced = balanced_more T G Z.records Z.left more task (new_record kind) taken.balanced refl same;
    no_worse = omega (arith, below, taken.no_worse);
    least = λ v found. lowest v (any_push_cases (Solves T G v) taken.made (new_record kind) found);
    reached = found_at reached;
    valid = valid;
    points = λ still. points_at still reached;
    solved = λ less. solved_at less reached;
    left = All-append (IsLeft T G start.side roots) Z.left more others left;
  }
    where
      lowest : (v : ℕ) → Any (Solves T G v) taken.made ⊎ Solves T G v (new_record kind) → side ≤ v
      lowest v (inl before) = omega (arith, below, taken.least v before)
      lowest v (inr here) = least v here

      before : (side ≡ Z.side) → (Z.side ≡ start.side) ⊎ Any (Solves T G Z.side) taken.made → (side ≡ start.side) ⊎ Any (Solves T G side) (taken.made ++ new_record kind ∷ [])
      before same_side (inl at_start) = inl (same_side ∙ at_start)
      before same_side (inr there) =
          inr (any_front (Solves T G side) taken.made (new_record kind ∷ []) (subst (λ (v : ℕ). Any (Solves T G v) taken.made) (sym same_side) there))

      found_at : (side ≡ Z.side) ⊎ IsLower kind side points → (side ≡ start.side) ⊎ Any (Solves T G side) (taken.made ++ new_record kind ∷ [])
      found_at (inl same_side) = before same_side taken.reached
      found_at (inr solves) = inr (Any-push (Solves T G side) taken.made (new_record kind) solves.1)

      points_at : side ≡ start.side → (side ≡ Z.side) ⊎ IsLower kind side points → points ≡ start.points
      points_at still (inl same_side) = stays same_side ∙ taken.points (sym same_side ∙ still)
      points_at still (inr solves) = absurd (omega (arith, still, solves.0, taken.no_worse))

      solved_at : side < start.side → (side ≡ Z.side) ⊎ IsLower kind side points → AreSolvedPoints T G start.side roots side points
      solved_at less (inl same_side) =
          subst (λ (s : ℕ). AreSolvedPoints T G start.side roots s points) (sym same_side)
          (subst (AreSolvedPoints T G start.side roots Z.side) (sym (stays same_side)) (taken.solved (omega (arith, less, same_side))))
      solved_at less (inr solves) = solves.2

  no_task : All (IsLeft T G start.side roots) []
  no_task k d less = absurd (omega (arith, less))

  or_cycle : (claim : Claim) → IsShown T G path claim → IsShownOrCycle T G path claim
  or_cycle (Walk axis chain) shown = shown
  or_cycle (Cycle axis chain) shown = absurd shown

  closed : (claim : Claim) → IsShown T G path claim → IsClosed T G path Z.side → IsOnCourse T G start base roots (after (Closed claim) Z.side Z.points [])
  closed claim shown is =
      turn_more (Closed claim) Z.side Z.points [] (omega arith) (λ h. refl) (or_cycle claim shown, shown_counts T path Z.side G claim shown above) (λ v solves. above v solves.1) (inl refl) taken.valid (λ same. refl) no_task
    where
      above : (v : ℕ) → IsForced T G path v → Z.side ≤ v
      above v forced = omega (arith, is.enough, one_forced T path G v is.side forced is.forced)

  solved : (claim : Claim) (p : Placement) → (HasCycle (leaf_count T) path → ⊥) → IsShown T G path claim → outcomes.IsSolved T G path Z.side p.side → AreLowPoints T path p.points → Valid T G 1 p.side p.points → IsOnCourse T G start base roots (after (Closed claim) p.side p.points [])
  solved claim p no_cycle shown is low valid =
      turn_more (Closed claim) p.side p.points [] (omega (arith, is.below)) (λ h. refl) (or_cycle claim shown, shown_counts T path p.side G claim shown above) (λ v solves. above v solves.1) (inr (is.below, (no_cycle, is.forced, is.no_next), record { path = path; grown = in_hand.1; no_cycle = no_cycle; forced = is.forced; no_next = is.no_next; low = low })) valid (λ same. absurd (omega (arith, same, is.below))) no_task
    where
      above : (v : ℕ) → IsForced T G path v → p.side ≤ v
      above v forced = omega (arith, one_forced T path G v p.side forced is.forced)

  split : (p : Pair) → IsSplit T G path Z.side → IsNextPair T path p → IsOnCourse T G start base roots (after (Split p) Z.side Z.points (reverse (tasks_of T G path Z.side (Split p))))
  split p is next =
      turn_more (Split p) Z.side Z.points (reverse tasks) (omega arith) same (inner, next) (λ v solves. absurd solves) (inl refl) taken.valid (λ same_side. refl) (all_reverse (IsLeft T G start.side roots) tasks tasks_left)
    where
      tasks : List Task
      tasks = tasks_of T G path Z.side (Split p)

      inner : IsSplit T G path start.side
      inner = record { no_cycle = is.no_cycle; side = is.side; forced = is.forced; below = omega (arith, is.below, taken.no_worse) }

      can : CanSplit T path p
      can = next_can T t path in_hand.0 is.no_cycle p next

      same : AreSame (children T G path p) (paths_left (reverse tasks))
      same h =
          let choices = allowed T G p in
          let of_task : Task → List Step = λ v. v.path in
          omega (
            arith,
            sum_by-map h (extended path p) choices,
            sum_by-map h of_task (reverse tasks),
            same_reverse tasks (λ v. h v.path),
            sum_by-map (λ (v : Task). h v.path) (child path Z.side p) choices,
          )

      child_left : (c : Choice) → Contains (allowed T G p) c → IsLeft T G start.side roots (child path Z.side p c)
      child_left c among = (longer_pairs T path p c in_hand.0 can, grown_child in_hand.1 inner p next c among)

      tasks_left : All (IsLeft T G start.side roots) tasks
      tasks_left = All-map (IsLeft T G start.side roots) (child path Z.side p) (allowed T G p) (λ k d less. child_left (get_or (allowed T G p) k d) (k, less, get_or_default (allowed T G p) k (get_or (allowed T G p) k d) d less))

  cyclic : (claim : Claim) → IsCycleShown (leaf_count T) path claim → IsOnCourse T G start base roots (after (Closed claim) Z.side Z.points [])
  cyclic (Walk axis chain) shown = absurd shown
  cyclic (Cycle X chain) shown =
      turn_more (Closed (Cycle X chain)) Z.side Z.points [] (omega arith) (λ h. refl) (shown.cycle, tt) (λ v solves. absurd (solves.0 (X, (chain, shown.cycle)))) (inl refl) taken.valid (λ same. refl) no_task
  cyclic (Cycle Y chain) shown =
      turn_more (Closed (Cycle Y chain)) Z.side Z.points [] (omega arith) (λ h. refl) (shown.0.cycle, tt) (λ v solves. absurd (solves.0 (Y, (chain, shown.0.cycle)))) (inl refl) taken.valid (λ same. refl) no_task

  abbrev pub followed : RecordKind → Option Placement → List Task → Settled
  followed kind placement tasks =
      let Y = placed Z placement in
      record { records = Z.records ++ new_record kind ∷ []; left = Z.left ++ reverse tasks; side = Y.side; points = Y.points; examined = Z.examined + 1 }

  found : (kind : RecordKind) (placement : Option Placement) → (HasCycle (leaf_count T) path → ⊥) → IsFound T G path Z.side kind placement → MatchOption placement (1 ≤ 1) (λ (p : Placement). Valid T G 1 p.side p.points) → IsOnCourse T G start base roots (followed kind placement (tasks_of T G path Z.side kind))
  found (Split p) None no_cycle is valid = split p is.0 is.1
  found (Split p) (Some placement) no_cycle is valid = absurd is
  found (Closed claim) None no_cycle is valid = closed claim is.0 is.1
  found (Closed claim) (Some placement) no_cycle is valid = solved claim placement no_cycle is.0 is.1 is.2 valid

  stuck : (kind : RecordKind) (placement : Option Placement) → IsCycleFound T path kind placement → IsOnCourse T G start base roots (followed kind placement (tasks_of T G path Z.side kind))
  stuck (Split p) placement is = absurd is
  stuck (Closed claim) None is = cyclic claim is
  stuck (Closed claim) (Some placement) is = absurd is

  -- the revision is on its way after a turn
  pub turned : (kind : RecordKind) (placement : Option Placement) → IsFoundOrCyclic T G path Z.side kind placement → MatchOption placement (1 ≤ 1) (λ (p : Placement). Valid T G 1 p.side p.points) → IsOnCourse T G start base roots (followed kind placement (tasks_of T G path Z.side kind))
  turned kind placement (inl is) valid = found kind placement is.0 is.1 valid
  turned kind placement (inr is) valid = stuck kind placement is

-- a placement changes neither records nor branches left
pub placed_same : (T : TreeValue) (G : Sheet) (start : Placement) (base : List Record) (roots : List (List Step)) (Z : Settled) (r : Record) (tasks : List Task) (placement : Option Placement) → IsOnCourse T G start base roots (record { records = Z.records ++ r ∷ []; left = Z.left ++ reverse tasks; side = (placed Z placement).side; points = (placed Z placement).points; examined = Z.examined + 1 }) → IsOnCourse T G start base roots (record { records = (placed Z placement).records ++ r ∷ []; left = (placed Z placement).left ++ reverse tasks; side = (placed Z placement).side; points = (placed Z placement).points; examined = (placed Z placement).examined + 1 })
placed_same T G start base roots Z r tasks None way = way
placed_same T G start base roots Z r tasks (Some p) way = way
