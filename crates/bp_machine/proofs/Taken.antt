-- Events at which a hand has nothing in hand, before or after: it loads, takes, tries another hand, and leaves.
use Rattle.std.proofs.Common.{◌≡◌, inl, inr, ℕ, ◌+◌, ◌<◌, ◌≤◌, List, [], ◌∷◌, ◌++◌, All, Some, ltb, map, refl, sym, ap, ◌∙◌, subst, arith}
use Rattle.std.specs.List.{slice_get, sum_by}
use Rattle.std.proofs.lemmas.Bool.{cond_both, ltb-true}
use Rattle.std.proofs.lemmas.List.Elements.{All-head}
use Rattle.std.proofs.lemmas.List.Sums.{sum_by-cons, sum_by_push}
use Rattle.bp_base.specs.declared.path.Step.{Step}
use Rattle.bp_base.specs.declared.point.Sheet.{Sheet}
use Rattle.bp_base.specs.declared.record.Left.{Left}
use Rattle.bp_base.specs.declared.record.Left.TheVariants.{AtFloor, Spent, Idle, Halted, NoMemory}
use Rattle.bp_base.specs.declared.record.Record.{Record}
use Rattle.bp_base.specs.declared.record.Task.{Task}
use Rattle.bp_base.specs.Tree.{TreeValue}
use Rattle.bp_core.specs.Underway.{IsLeft}
use Rattle.bp_machine.specs.declared.place.Place.{Place}
use Rattle.bp_machine.specs.declared.place.Place.TheVariants.{Ready, Taking, Trying, Leaving, Gone}
use Rattle.bp_machine.specs.Facts.{HasHandFacts, HasTakesLeft, IsPlaced, held, held_ticket, spends, tasks_of, told}
use Rattle.bp_machine.specs.State.{HandValue, StateValue}
use Rattle.bp_machine.specs.Steps.{EndsTake, Pops, TriesNext, holds, idles, loaded, most_empty_takes, next_hand}
use Rattle.bp_machine.proofs.Moved.{IsMove, IsSoFar, born, owed, owned, parts, quiet, tasks_weigh, whole}
use Rattle.bp_machine.proofs.Seats.{all_back, all_front, all_one, at_seat}

-- the same hand at a place that it is known to have
pub at_place : (h : HandValue) (p : Place) → h.place ≡ p → (P : HandValue → Type 0) → P (record h { place = p }) → P h
at_place h p is P holds = subst P (λ j. record h { place = sym is j }) holds

-- a place at which a hand holds nothing
pub record IsFree (p : Place) : Type 0 where
  pub held : held p ≡ []
  pub ticket : held_ticket p ≡ []
  pub told : (h : HandValue) → told h p ≡ h.records
  pub out : (T : TreeValue) (G : Sheet) (h : HandValue) → IsPlaced T G h p → h.unplaced ≡ []
  pub into : (T : TreeValue) (G : Sheet) (h : HandValue) → h.unplaced ≡ [] → IsPlaced T G h p

pub ready : IsFree Ready
ready = record { held = refl; ticket = refl; told = λ h. refl; out = λ T G h is. is; into = λ T G h is. is }

pub taking : IsFree Taking
taking = record { held = refl; ticket = refl; told = λ h. refl; out = λ T G h is. is; into = λ T G h is. is }

pub trying : (g : ℕ) → IsFree (Trying g)
trying g = record { held = refl; ticket = refl; told = λ h. refl; out = λ T G h is. is; into = λ T G h is. is }

leaving : (l : Left) → IsFree (Leaving l)
leaving l = record { held = refl; ticket = refl; told = λ h. refl; out = λ T G h is. is; into = λ T G h is. is }

gone : (l : Left) → IsFree (Gone l)
gone l = record { held = refl; ticket = refl; told = λ h. refl; out = λ T G h is. is; into = λ T G h is. is }

leaves_spent : (l : Left) → spends (Leaving l) ≤ spends (Gone l)
leaves_spent AtFloor = omega arith
leaves_spent Spent = omega arith
leaves_spent Idle = omega arith
leaves_spent Halted = omega arith
leaves_spent NoMemory = omega arith

module _ (T : TreeValue) (G : Sheet) (S : StateValue) (loose : List Task) (way : IsSoFar T G S loose) where
  abbrev u : ℕ
  u = way.opening_side

  abbrev Facts : HandValue → Type 0
  Facts h = HasHandFacts T G u S.side h

  pub facts_at : (k : ℕ) (h : HandValue) → slice_get S.hands k ≡ Some h → Facts h
  facts_at k h at = at_seat (HasHandFacts T G u S.side) S.hands k h at way.hands

  -- the hand goes from one place to another, with nothing in hand
  module _ (h : HandValue) (p q : Place) (f : Facts (record h { place = p })) (from : IsFree p) (to : IsFree q) where
    abbrev before : HandValue
    before = record h { place = p }

    goes : (known takes : ℕ) → S.side ≤ known → known ≤ u → HasTakesLeft takes q → spends p ≤ spends q → IsMove T G S loose loose u S.side S.tickets before (record before { place = q; known = known; empty_takes = takes })
    goes known takes low high few spent =
        let after : HandValue = record before { place = q; known = known; empty_takes = takes } in
        let tasks : tasks_of after ≡ tasks_of before = λ j. h.deque ++ h.kept ++ h.unplaced ++ (to.held ∙ sym from.held) j in
        quiet T G S loose loose u before after (λ w. omega (arith, ap (owed w) tasks)) (λ w. ap (λ (x : List ℕ). sum_by w (map (λ (r : Record). r.ticket) h.records ++ x)) (to.ticket ∙ sym from.ticket)) spent (to.told after ∙ sym (from.told before)) (record {
          known_no_less = low;
          known_no_more = high;
          sound = f.sound;
          given = f.given;
          tasks = subst (All (IsLeft T G S.side)) (sym tasks) f.tasks;
          best = f.best;
          placed = to.into T G after (from.out T G before f.placed);
          takes = few;
        }) refl

  -- a task comes into the hand, from its own tasks or from the loose ones
  module _ (h : HandValue) (p : Place) (f : Facts (record h { place = p })) (from : IsFree p) (none : spends p ≡ 0) (deque kept : List Task) (t : Task) (after : List Task) where
    abbrev free : HandValue
    free = record h { place = p }

    abbrev filled : HandValue
    filled = holds (record free { deque = deque; kept = kept }) t

    pub comes : ((w : Task → ℕ) → sum_by w deque + sum_by w kept + w t + sum_by w after ≡ sum_by w h.deque + sum_by w h.kept + sum_by w loose) → All (IsLeft T G S.side) deque → All (IsLeft T G S.side) kept → IsLeft T G S.side t → IsMove T G S loose after u S.side S.tickets free filled
    comes weigh in_deque in_kept left =
        let unplaced : h.unplaced ≡ [] = from.out T G free f.placed in
        quiet T G S loose after u free filled (λ w. even (λ (v : Task). w v.path) w refl) (λ w. ap (λ (x : List ℕ). sum_by w (map (λ (r : Record). r.ticket) h.records ++ x)) (sym from.ticket)) (omega (arith, none)) (sym (from.told free)) (record {
          known_no_less = f.known_no_less;
          known_no_more = f.known_no_more;
          sound = f.sound;
          given = f.given;
          tasks =
              whole (IsLeft T G S.side) deque kept h.unplaced (t ∷ []) in_deque in_kept
              (parts (IsLeft T G S.side) h.deque h.kept h.unplaced (held p) f.tasks).2 (all_one (IsLeft T G S.side) t left);
          best = f.best;
          placed = unplaced;
          takes = omega arith;
        }) refl
      where
        even : (v : Task → ℕ) (w : List Step → ℕ) → v ≡ (λ (x : Task). w x.path) → owned w filled + owed w after + born T G w free ≡ owned w free + owed w loose + born T G w filled
        even v w is =
            let f : Task → ℕ = λ x. w x.path in
            omega (arith, weigh f, tasks_weigh f filled, tasks_weigh f free, sum_by-cons f t [], ap (sum_by f) from.held)

  module _ (h : HandValue) (p : Place) (f : Facts (record h { place = p })) (from : IsFree p) (none : spends p ≡ 0) (few : HasTakesLeft h.empty_takes p → h.empty_takes < most_empty_takes) where
    abbrev tried : HandValue
    tried = record h { place = p }

    abbrev Moves : HandValue → Type 0
    Moves to = IsMove T G S loose loose u S.side S.tickets tried to

    left_kept : All (IsLeft T G S.side) h.kept
    left_kept = (parts (IsLeft T G S.side) h.deque h.kept h.unplaced (held p) f.tasks).1

    left_deque : All (IsLeft T G S.side) h.deque
    left_deque = (parts (IsLeft T G S.side) h.deque h.kept h.unplaced (held p) f.tasks).0

    idle_move : Moves (idles tried)
    idle_move =
        cond_both (ltb (h.empty_takes + 1) most_empty_takes) Ready (Leaving Idle) (λ (q : Place). Moves (record tried { place = q; empty_takes = h.empty_takes + 1 })) (λ more. goes h p Ready f from ready h.known (h.empty_takes + 1) f.known_no_less f.known_no_more (ltb-true (h.empty_takes + 1) most_empty_takes more) (omega (arith, none))) (λ last. goes h p (Leaving Idle) f from (leaving Idle) h.known (h.empty_takes + 1) f.known_no_less f.known_no_more (omega (arith, few f.takes)) (omega (arith, none)))

    ends_take : (to : HandValue) → EndsTake tried to → Moves to
    ends_take to (inl (empty, is)) = subst Moves (sym is) idle_move
    ends_take to (inr (rest, t, kept, is)) =
        let all = subst (All (IsLeft T G S.side)) kept left_kept in
        subst Moves (sym is) (comes h p f from none h.deque rest t loose (λ w. omega (arith, ap (sum_by w) kept, sum_by_push w rest t)) left_deque (all_front (IsLeft T G S.side) rest (t ∷ []) all) (All-head (IsLeft T G S.side) t [] (all_back (IsLeft T G S.side) rest (t ∷ []) all)))

    pub tries_next : (n i g : ℕ) (to : HandValue) → TriesNext n i g tried to → Moves to
    tries_next n i g to (inl (last, ends)) = ends_take to ends
    tries_next n i g to (inr (other, is)) =
        subst Moves (sym is) (goes h p (Trying (next_hand n g)) f from (trying (next_hand n g)) h.known h.empty_takes f.known_no_less f.known_no_more (few f.takes) (omega (arith, none)))

    pub pops : (n i : ℕ) (to : HandValue) → Pops n i tried to → Moves to
    pops n i to (inl (empty, tries)) = tries_next n i i to tries
    pops n i to (inr (rest, t, deque, is)) =
        let all = subst (All (IsLeft T G S.side)) deque left_deque in
        subst Moves (sym is) (comes h p f from none rest h.kept t loose (λ w. omega (arith, ap (sum_by w) deque, sum_by_push w rest t)) (all_front (IsLeft T G S.side) rest (t ∷ []) all) left_kept (All-head (IsLeft T G S.side) t [] (all_back (IsLeft T G S.side) rest (t ∷ []) all)))

  pub loads : (h : HandValue) → Facts (record h { place = Ready }) → IsMove T G S loose loose u S.side S.tickets (record h { place = Ready }) (loaded S.side S.floor (record h { place = Ready }))
  loads h f =
      let known : S.side ≤ u = way.least_side.no_more in
      cond_both (ltb S.floor S.side) Taking (Leaving AtFloor) (λ (q : Place). IsMove T G S loose loose u S.side S.tickets (record h { place = Ready }) (record h { known = S.side; place = q })) (λ above. goes h Ready Taking f ready taking S.side h.empty_takes (omega arith) known f.takes (omega arith)) (λ below. goes h Ready (Leaving AtFloor) f ready (leaving AtFloor) S.side h.empty_takes (omega arith) known (omega (arith, f.takes)) (omega arith))

  pub leaves : (h : HandValue) (l : Left) → Facts (record h { place = Leaving l }) → IsMove T G S loose loose u S.side S.tickets (record h { place = Leaving l }) (record h { place = Gone l })
  leaves h l f = goes h (Leaving l) (Gone l) f (leaving l) (gone l) h.known h.empty_takes f.known_no_less f.known_no_more f.takes (leaves_spent l)
