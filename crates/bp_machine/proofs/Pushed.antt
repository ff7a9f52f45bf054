-- A hand places its last child, in its deque or among the tasks that it keeps.
use Rattle.std.proofs.Common.{◌≡◌, ℕ, ◌+◌, ◌<◌, List, [], ◌∷◌, ◌++◌, All, length, map, refl, sym, ap, subst, arith}
use Rattle.std.specs.List.{sum_by}
use Rattle.std.proofs.lemmas.List.Elements.{All-append}
use Rattle.std.proofs.lemmas.List.Sums.{sum_by_push}
use Rattle.bp_base.specs.declared.path.Step.{Step}
use Rattle.bp_base.specs.declared.point.Sheet.{Sheet}
use Rattle.bp_base.specs.declared.record.Record.{Record}
use Rattle.bp_base.specs.declared.record.Task.{Task}
use Rattle.bp_base.specs.Tree.{TreeValue}
use Rattle.bp_core.specs.Underway.{IsLeft}
use Rattle.bp_machine.specs.declared.place.Place.TheVariants.{Pushing}
use Rattle.bp_machine.specs.Facts.{HasHandFacts, HasTakesLeft, IsPlaced, held, held_ticket, spends, told}
use Rattle.bp_machine.specs.State.{HandValue, StateValue}
use Rattle.bp_machine.specs.Steps.{Keeps, Pushes, most_empty_takes, place_with}
use Rattle.bp_machine.proofs.Moved.{IsMove, IsSoFar, born, owed, owned, parts, quiet, tasks_weigh, whole}
use Rattle.bp_machine.proofs.Seats.{all_back, all_front}

-- what holds at the place after a child is placed, while these are left
record IsAfterChild (rest : List Task) : Type 0 where
  pub held : held (place_with rest) ≡ []
  pub ticket : held_ticket (place_with rest) ≡ []
  pub told : (h : HandValue) → told h (place_with rest) ≡ h.records
  pub spends : spends (place_with rest) ≡ 0
  pub placed : (T : TreeValue) (G : Sheet) (h : HandValue) → h.unplaced ≡ rest → IsPlaced T G h (place_with rest)
  pub takes : (n : ℕ) → n < most_empty_takes → HasTakesLeft n (place_with rest)

after_child : (rest : List Task) → IsAfterChild rest
after_child [] = record { held = refl; ticket = refl; told = λ h. refl; spends = refl; placed = λ T G h is. is; takes = λ n less. less }
after_child (t ∷ ts) = record {
  held = refl;
  ticket = refl;
  told = λ h. refl;
  spends = refl;
  placed = λ T G h is. omega (arith, ap length is);
  takes = λ n less. less;
}

module _ (T : TreeValue) (G : Sheet) (S : StateValue) (way : IsSoFar T G S []) (h : HandValue) (f : HasHandFacts T G way.opening_side S.side (record h { place = Pushing })) where
  abbrev before : HandValue
  before = record h { place = Pushing }

  abbrev Moves : HandValue → Type 0
  Moves to = IsMove T G S [] [] way.opening_side S.side S.tickets before to

  places : (rest : List Task) (t : Task) → h.unplaced ≡ rest ++ t ∷ [] → (deque kept : List Task) → ((w : Task → ℕ) → sum_by w deque + sum_by w kept ≡ sum_by w h.deque + sum_by w h.kept + w t) → (All (IsLeft T G S.side) (t ∷ []) → All (IsLeft T G S.side) deque × All (IsLeft T G S.side) kept) → Moves (record before { place = place_with rest; unplaced = rest; deque = deque; kept = kept })
  places rest t is deque kept weigh left =
      let a = after_child rest in
      let all = parts (IsLeft T G S.side) h.deque h.kept h.unplaced [] f.tasks in
      let children : All (IsLeft T G S.side) (rest ++ t ∷ []) = subst (All (IsLeft T G S.side)) is all.2 in
      let two = left (all_back (IsLeft T G S.side) rest (t ∷ []) children) in
      quiet T G S [] [] way.opening_side before to (λ w. even w a.held) (λ w. ap (λ (x : List ℕ). sum_by w (map (λ (r : Record). r.ticket) h.records ++ x)) a.ticket) (omega arith) (a.told to) (record {
        known_no_less = f.known_no_less;
        known_no_more = f.known_no_more;
        sound = f.sound;
        given = f.given;
        tasks = subst (λ (x : List Task). All (IsLeft T G S.side) (deque ++ kept ++ rest ++ x)) (sym a.held) (whole (IsLeft T G S.side) deque kept rest [] two.0 two.1 (all_front (IsLeft T G S.side) rest (t ∷ []) children) all.3);
        best = f.best;
        placed = a.placed T G to refl;
        takes = a.takes h.empty_takes f.takes;
      }) refl
    where
      to : HandValue
      to = record before { place = place_with rest; unplaced = rest; deque = deque; kept = kept }

      even : (w : List Step → ℕ) → held (place_with rest) ≡ [] → owned w to + owed w [] + born T G w before ≡ owned w before + owed w [] + born T G w to
      even w none =
          let g : Task → ℕ = λ x. w x.path in
          omega (arith, tasks_weigh g to, tasks_weigh g before, ap (sum_by g) none, ap (sum_by g) is, sum_by_push g rest t, weigh g)

  pub pushes : (to : HandValue) → Pushes before to → Moves to
  pushes to (rest, t, unplaced, is) =
      let all = parts (IsLeft T G S.side) h.deque h.kept h.unplaced [] f.tasks in
      subst Moves (sym is) (places rest t unplaced (h.deque ++ t ∷ []) h.kept (λ w. omega (arith, sum_by_push w h.deque t)) (λ left. (All-append (IsLeft T G S.side) h.deque (t ∷ []) all.0 left, all.1)))

  pub keeps : (to : HandValue) → Keeps before to → Moves to
  keeps to (rest, t, unplaced, is) =
      let all = parts (IsLeft T G S.side) h.deque h.kept h.unplaced [] f.tasks in
      subst Moves (sym is) (places rest t unplaced h.deque (h.kept ++ t ∷ []) (λ w. omega (arith, sum_by_push w h.kept t)) (λ left. (all.0, All-append (IsLeft T G S.side) h.kept (t ∷ []) all.1 left)))
