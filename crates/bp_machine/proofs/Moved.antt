-- The facts with some tasks loose, in no hand, and what a change of one hand has to keep so that they hold after it.
use Rattle.std.proofs.Common.{◌≡◌, ◌⊎◌, inl, inr, ℕ, ◌+◌, ◌≤◌, min, List, [], ◌∷◌, ◌++◌, All, Any, Option, None, Some, MatchOption, set, refl, sym, ◌∙◌, subst, arith}
use Rattle.std.specs.List.{flat_map, range_with_len, slice_get, sum_by}
use Rattle.std.proofs.lemmas.List.Elements.{All-append, All-set, All-weaker}
use Rattle.std.proofs.lemmas.List.Sums.{sum_by-append, sum_by-cons}
use Rattle.std.proofs.lemmas.Option.{get_or_from_slice_get, slice_get_within}
use Rattle.bp_base.specs.declared.path.Step.{Step}
use Rattle.bp_base.specs.declared.point.Placement.{Placement}
use Rattle.bp_base.specs.declared.point.Sheet.{Sheet}
use Rattle.bp_base.specs.declared.record.Record.{Record}
use Rattle.bp_base.specs.declared.record.Task.{Task}
use Rattle.bp_base.specs.Tree.{TreeValue}
use Rattle.bp_base.proofs.Bags.{sum_by-flat_map, sum_by-map, sum_by-plus}
use Rattle.bp_metric.specs.Opening.{IsOpeningSide}
use Rattle.bp_metric.specs.Records.{IsSound, children_of, paths_left, paths_of}
use Rattle.bp_core.specs.Settled.{Solves}
use Rattle.bp_core.specs.Underway.{IsLeft}
use Rattle.bp_machine.specs.Facts.{HasFacts, HasHandFacts, IsBest, IsLeastSide, IsReached, held, spends, tasks_of, tickets_of, told}
use Rattle.bp_machine.specs.State.{HandValue, StateValue}
use Rattle.bp_machine.proofs.Seats.{all_back, all_front, any_flat_in, any_flat_out, any_set_cases, any_set_keeps, any_set_puts, sum_set}

abbrev pub records_of : HandValue → List Record
records_of h = h.records

abbrev pub told_of : HandValue → List Record
told_of h = told h h.place

-- what the paths of tasks weigh
abbrev pub owed : (List Step → ℕ) → List Task → ℕ
owed w tasks = sum_by (λ (t : Task). w t.path) tasks

-- what the paths of a hand's records and tasks weigh
abbrev pub noted : (List Step → ℕ) → HandValue → ℕ
noted w h = sum_by (λ (r : Record). w r.path) h.records

abbrev pub owned : (List Step → ℕ) → HandValue → ℕ
owned w h = noted w h + owed w (tasks_of h)

-- what the tickets of a hand weigh
abbrev pub drew : (ℕ → ℕ) → HandValue → ℕ
drew w h = sum_by w (tickets_of h)

-- the tickets drawn below the budget weigh so much
abbrev pub ticketed : (ℕ → ℕ) → ℕ → ℕ
ticketed w n = sum_by w (range_with_len 0 n)

abbrev pub after_move : StateValue → ℕ → HandValue → ℕ → ℕ → StateValue
after_move S k to side tickets = record S { hands = set S.hands k to; side = side; tickets = tickets }

-- tasks weigh what the parts of them weigh
pub tasks_weigh : (f : Task → ℕ) (h : HandValue) → sum_by f (tasks_of h) ≡ sum_by f h.deque + sum_by f h.kept + sum_by f h.unplaced + sum_by f (held h.place)
tasks_weigh f h =
    omega (
      arith,
      sum_by-append f (h.deque ++ h.kept ++ h.unplaced) (held h.place),
      sum_by-append f (h.deque ++ h.kept) h.unplaced,
      sum_by-append f h.deque h.kept,
    )

-- what holds of a hand's tasks holds of each part of them
module _ (P : Task → Type 0) (deque kept unplaced hold : List Task) where
  pub parts : All P (deque ++ kept ++ unplaced ++ hold) → All P deque × All P kept × All P unplaced × All P hold
  parts all =
      let three = all_front P (deque ++ kept ++ unplaced) hold all in
      let two = all_front P (deque ++ kept) unplaced three in
      (all_front P deque kept two, all_back P deque kept two, all_back P (deque ++ kept) unplaced three, all_back P (deque ++ kept ++ unplaced) hold all)

  pub whole : All P deque → All P kept → All P unplaced → All P hold → All P (deque ++ kept ++ unplaced ++ hold)
  whole a b c d =
      All-append P (deque ++ kept ++ unplaced) hold (All-append P (deque ++ kept) unplaced (All-append P deque kept a b) c) d

module _ (T : TreeValue) (G : Sheet) where
  -- what the children of a hand's records weigh
  abbrev pub born : (List Step → ℕ) → HandValue → ℕ
  born w h = sum_by (λ (r : Record). sum_by w (children_of T G r)) h.records

  abbrev pub IsEven : List HandValue → List Task → Type 0
  IsEven hands loose = (w : List Step → ℕ) → w [] + sum_by (born w) hands ≡ sum_by (owned w) hands + owed w loose

  -- the facts, in sums over hands, with these tasks loose
  pub record IsSoFar (S : StateValue) (loose : List Task) : Type 0 where
    pub opening_side : ℕ
    pub is_opening_side : IsOpeningSide T G opening_side
    pub even : IsEven S.hands loose
    pub least_side : IsLeastSide T G opening_side S.side (flat_map told_of S.hands)
    pub tickets : (w : ℕ → ℕ) → sum_by (drew w) S.hands ≡ ticketed w (min S.tickets S.budget)
    pub word : S.tickets ≤ S.budget + sum_by (λ (h : HandValue). spends h.place) S.hands
    pub hands : All (HasHandFacts T G opening_side S.side) S.hands
    pub best : (S.side ≡ opening_side) ⊎ Any (IsReached S.side) S.hands

  module _ (hands : List HandValue) (w : List Step → ℕ) where
    abbrev rs : List Record
    rs = flat_map records_of hands

    abbrev ts : List Task
    ts = flat_map tasks_of hands

    -- both sides of the balance
    born_of : sum_by w ([] ∷ flat_map (children_of T G) rs) ≡ w [] + sum_by (born w) hands
    born_of =
        omega (
          arith,
          sum_by-cons w [] (flat_map (children_of T G) rs),
          sum_by-flat_map w (children_of T G) rs,
          sum_by-flat_map (λ (r : Record). sum_by w (children_of T G r)) records_of hands,
        )

    owned_of : sum_by w (paths_of rs ++ paths_left ts) ≡ sum_by (owned w) hands
    owned_of =
        let path : Record → List Step = λ r. r.path in
        let of_task : Task → List Step = λ t. t.path in
        omega (
          arith,
          sum_by-append w (paths_of rs) (paths_left ts),
          sum_by-map w path rs,
          sum_by-map w of_task ts,
          sum_by-flat_map (λ (r : Record). w r.path) records_of hands,
          sum_by-flat_map (λ (t : Task). w t.path) tasks_of hands,
          sum_by-plus (noted w) (λ (h : HandValue). owed w (tasks_of h)) hands,
        )

  pub so_far : (S : StateValue) → HasFacts T G S → IsSoFar S []
  so_far S facts = record {
    opening_side = facts.opening_side;
    is_opening_side = facts.is_opening_side;
    even = λ w. omega (arith, facts.conservation w, born_of S.hands w, owned_of S.hands w);
    least_side = facts.least_side;
    tickets = λ w. omega (arith, facts.tickets w, sum_by-flat_map w tickets_of S.hands);
    word = facts.word;
    hands = facts.hands;
    best = facts.best;
  }

  pub facts_of : (S : StateValue) → IsSoFar S [] → HasFacts T G S
  facts_of S way = record {
    opening_side = way.opening_side;
    is_opening_side = way.is_opening_side;
    conservation = λ w. omega (arith, way.even w, born_of S.hands w, owned_of S.hands w);
    least_side = way.least_side;
    tickets = λ w. omega (arith, way.tickets w, sum_by-flat_map w tickets_of S.hands);
    word = way.word;
    hands = way.hands;
    best = way.best;
  }

  -- where the side falls, what holds of a hand still holds
  lower_best : (u side less : ℕ) → less ≤ side → (b : Option Placement) → MatchOption b (side ≤ u) (IsBest T G side) → MatchOption b (less ≤ u) (IsBest T G less)
  lower_best u side less below None best = omega (arith, below, best)
  lower_best u side less below (Some p) best = (omega (arith, below, best.0), best.1)

  pub lower_left : (side less : ℕ) → less ≤ side → (t : Task) → IsLeft T G side t → IsLeft T G less t
  lower_left side less below t s = record { stated = s.stated; no_less = omega (arith, s.no_less, below); no_more = s.no_more }

  pub lower_sound : (side less : ℕ) → less ≤ side → (r : Record) → IsSound T G side r → IsSound T G less r
  lower_sound side less below r s = record {
    opening_side = s.opening_side;
    is_opening_side = s.is_opening_side;
    stated = s.stated;
    no_less = omega (arith, s.no_less, below);
    no_more = s.no_more;
    judged = s.judged;
  }

  pub lower : (u side less : ℕ) → less ≤ side → (h : HandValue) → HasHandFacts T G u side h → HasHandFacts T G u less h
  lower u side less below h f = record {
    known_no_less = omega (arith, f.known_no_less, below);
    known_no_more = f.known_no_more;
    sound = All-weaker (IsSound T G side) (IsSound T G less) (lower_sound side less below) h.records f.sound;
    given = f.given;
    tasks = All-weaker (IsLeft T G side) (IsLeft T G less) (lower_left side less below) (tasks_of h) f.tasks;
    best = lower_best u side less below h.best f.best;
    placed = f.placed;
    takes = f.takes;
  }

  -- hand h becomes another one, the words become these, and these tasks are loose afterwards
  pub record IsMove (S : StateValue) (loose after : List Task) (u side tickets : ℕ) (h to : HandValue) : Type 0 where
    pub even : (w : List Step → ℕ) → owned w to + owed w after + born w h ≡ owned w h + owed w loose + born w to
    pub drawn : (w : ℕ → ℕ) → drew w to + ticketed w (min S.tickets S.budget) ≡ drew w h + ticketed w (min tickets S.budget)
    pub word : (tickets + spends h.place ≤ S.tickets + spends to.place) ⊎ (tickets ≤ S.budget)
    pub below : side ≤ S.side
    pub least : (v : ℕ) → Any (Solves T G v) (told_of to) → Any (Solves T G v) (told_of h) ⊎ (side ≤ v)
    pub reached : ((side ≡ S.side) × (Any (Solves T G side) (told_of h) → Any (Solves T G side) (told_of to))) ⊎ Any (Solves T G side) (told_of to)
    pub hand : HasHandFacts T G u side to
    pub best : ((side ≡ S.side) × (IsReached side h → IsReached side to)) ⊎ IsReached side to

  module _ (S : StateValue) (loose : List Task) (way : IsSoFar S loose) (k : ℕ) (h to : HandValue) (at : slice_get S.hands k ≡ Some h) (after : List Task) (side tickets : ℕ) (m : IsMove S loose after way.opening_side side tickets h to) where
    abbrev u : ℕ
    u = way.opening_side

    abbrev HasTold : ℕ → HandValue → Type 0
    HasTold v x = Any (Solves T G v) (told_of x)

    here : (P : HandValue → Type 0) → P h → Any P S.hands
    here P holds = (k, h, slice_get_within S.hands k h at, get_or_from_slice_get S.hands k h h at, holds)

    before : (v : ℕ) → Any (HasTold v) S.hands → side ≤ v
    before v found =
        omega (arith, m.below, way.least_side.least v (any_flat_in (Solves T G v) told_of S.hands found))

    least_told : (v : ℕ) → Any (HasTold v) S.hands ⊎ HasTold v to → side ≤ v
    least_told v (inl found) = before v found
    least_told v (inr new) = by_move (m.least v new)
      where
        by_move : HasTold v h ⊎ (side ≤ v) → side ≤ v
        by_move (inl old) = before v (here (HasTold v) old)
        by_move (inr le) = le

    reached_still : (side ≡ S.side) → (HasTold side h → HasTold side to) → (S.side ≡ u) ⊎ Any (Solves T G S.side) (flat_map told_of S.hands) → (side ≡ u) ⊎ Any (Solves T G side) (flat_map told_of (set S.hands k to))
    reached_still same keeps (inl is) = inl (same ∙ is)
    reached_still same keeps (inr found) =
        inr (any_flat_in (Solves T G side) told_of (set S.hands k to) (any_set_keeps (HasTold side) S.hands k h to at keeps (any_flat_out (Solves T G side) told_of S.hands (subst (λ (v : ℕ). Any (Solves T G v) (flat_map told_of S.hands)) (sym same) found))))

    reached_by : ((side ≡ S.side) × (HasTold side h → HasTold side to)) ⊎ HasTold side to → (side ≡ u) ⊎ Any (Solves T G side) (flat_map told_of (set S.hands k to))
    reached_by (inl still) = reached_still still.0 still.1 way.least_side.reached
    reached_by (inr new) =
        inr (any_flat_in (Solves T G side) told_of (set S.hands k to) (any_set_puts (HasTold side) S.hands k h to at new))

    best_still : (side ≡ S.side) → (IsReached side h → IsReached side to) → (S.side ≡ u) ⊎ Any (IsReached S.side) S.hands → (side ≡ u) ⊎ Any (IsReached side) (set S.hands k to)
    best_still same keeps (inl is) = inl (same ∙ is)
    best_still same keeps (inr found) =
        inr (any_set_keeps (IsReached side) S.hands k h to at keeps (subst (λ (v : ℕ). Any (IsReached v) S.hands) (sym same) found))

    best_by : ((side ≡ S.side) × (IsReached side h → IsReached side to)) ⊎ IsReached side to → (side ≡ u) ⊎ Any (IsReached side) (set S.hands k to)
    best_by (inl still) = best_still still.0 still.1 way.best
    best_by (inr new) = inr (any_set_puts (IsReached side) S.hands k h to at new)

    pub moved : IsSoFar (after_move S k to side tickets) after
    moved = record {
      opening_side = u;
      is_opening_side = way.is_opening_side;
      even = λ w. omega (arith, sum_set (born w) S.hands k h to at, sum_set (owned w) S.hands k h to at, m.even w, way.even w);
      least_side = record {
        no_more = omega (arith, m.below, way.least_side.no_more);
        least = λ v found. least_told v (any_set_cases (HasTold v) S.hands k to (any_flat_out (Solves T G v) told_of (set S.hands k to) found));
        reached = reached_by m.reached;
      };
      tickets = λ w. omega (arith, sum_set (drew w) S.hands k h to at, m.drawn w, way.tickets w);
      word = omega (arith, sum_set (λ (x : HandValue). spends x.place) S.hands k h to at, m.word, way.word);
      hands = All-set (HasHandFacts T G u side) S.hands k to m.hand (All-weaker (HasHandFacts T G u S.side) (HasHandFacts T G u side) (lower u S.side side m.below) S.hands way.hands);
      best = best_by m.best;
    }

  -- a move that leaves the words, the records told and the best placement
  pub quiet : (S : StateValue) (loose after : List Task) (u : ℕ) (h to : HandValue) → ((w : List Step → ℕ) → owned w to + owed w after + born w h ≡ owned w h + owed w loose + born w to) → ((w : ℕ → ℕ) → drew w to ≡ drew w h) → spends h.place ≤ spends to.place → told_of to ≡ told_of h → HasHandFacts T G u S.side to → to.best ≡ h.best → IsMove S loose after u S.side S.tickets h to
  quiet S loose after u h to even tickets spent same facts best = record {
    even = even;
    drawn = λ w. omega (arith, tickets w);
    word = inl (omega (arith, spent));
    below = omega arith;
    least = λ v found. inl (subst (Any (Solves T G v)) same found);
    reached = inl (refl, subst (Any (Solves T G S.side)) (sym same));
    hand = facts;
    best = inl (refl, λ (p, is, side). (p, best ∙ is, side));
  }
