-- A hand steals the first task of another hand's deque.
use Rattle.std.proofs.Common.{◌≡◌, ◌≢◌, inl, inr, ℕ, ◌+◌, ◌-◌, List, [], ◌∷◌, All, Some, length, refl, sym, ap, subst, arith}
use Rattle.std.specs.List.{slice_get, sum_by}
use Rattle.std.proofs.lemmas.List.Elements.{All-head, All-tail}
use Rattle.std.proofs.lemmas.List.Sums.{sum_by-cons}
use Rattle.bp_base.specs.declared.path.Step.{Step}
use Rattle.bp_base.specs.declared.point.Sheet.{Sheet}
use Rattle.bp_base.specs.declared.record.Task.{Task}
use Rattle.bp_base.specs.Tree.{TreeValue}
use Rattle.bp_core.specs.Underway.{IsLeft}
use Rattle.bp_machine.specs.declared.place.Place.{Place}
use Rattle.bp_machine.specs.declared.place.Place.TheVariants.{Ready, Taking, Trying, Holding, Drawn, Offering, Pushing, Leaving, Gone}
use Rattle.bp_machine.specs.Facts.{HasHandFacts, IsPlaced, held, told}
use Rattle.bp_machine.specs.State.{HandValue, IsHand, StateValue}
use Rattle.bp_machine.specs.Steps.{Steals, holds, with_hand}
use Rattle.bp_machine.proofs.Moved.{IsMove, IsSoFar, born, moved, owed, owned, parts, quiet, tasks_weigh, whole}
use Rattle.bp_machine.proofs.Seats.{set_other}
use Rattle.bp_machine.proofs.Taken.{comes, facts_at, tries_next, trying}

-- a hand's place says nothing of its deque
told_same : (h : HandValue) (deque : List Task) (p : Place) → told (record h { deque = deque }) p ≡ told h p
told_same h deque Ready = refl
told_same h deque Taking = refl
told_same h deque (Trying g) = refl
told_same h deque (Holding t) = refl
told_same h deque (Drawn t n) = refl
told_same h deque (Offering p) = refl
told_same h deque Pushing = refl
told_same h deque (Leaving l) = refl
told_same h deque (Gone l) = refl

module _ (T : TreeValue) (G : Sheet) where
  placed_same : (h : HandValue) (deque : List Task) (p : Place) → IsPlaced T G h p → IsPlaced T G (record h { deque = deque }) p
  placed_same h deque Ready is = is
  placed_same h deque Taking is = is
  placed_same h deque (Trying g) is = is
  placed_same h deque (Holding t) is = is
  placed_same h deque (Drawn t n) is = is
  placed_same h deque (Offering p) is = is
  placed_same h deque Pushing is = is
  placed_same h deque (Leaving l) is = is
  placed_same h deque (Gone l) is = is

  -- the other hand's first task is loose
  loses : (S : StateValue) (way : IsSoFar T G S []) (h : HandValue) (f : HasHandFacts T G way.opening_side S.side h) (t : Task) (rest : List Task) → h.deque ≡ t ∷ rest → IsMove T G S [] (t ∷ []) way.opening_side S.side S.tickets h (record h { deque = rest })
  loses S way h f t rest is =
      let to : HandValue = record h { deque = rest } in
      let all = parts (IsLeft T G S.side) h.deque h.kept h.unplaced (held h.place) f.tasks in
      quiet T G S [] (t ∷ []) way.opening_side h to even (λ w. refl) (omega arith) (told_same h rest h.place) (record {
        known_no_less = f.known_no_less;
        known_no_more = f.known_no_more;
        sound = f.sound;
        given = f.given;
        tasks = whole (IsLeft T G S.side) rest h.kept h.unplaced (held h.place) (All-tail (IsLeft T G S.side) t rest (subst (All (IsLeft T G S.side)) is all.0)) all.1 all.2 all.3;
        best = f.best;
        placed = placed_same h rest h.place f.placed;
        takes = f.takes;
      }) refl
    where
      even : (w : List Step → ℕ) → owned w (record h { deque = rest }) + owed w (t ∷ []) + born T G w h ≡ owned w h + owed w [] + born T G w (record h { deque = rest })
      even w =
          let g : Task → ℕ = λ x. w x.path in
          omega (arith, tasks_weigh g (record h { deque = rest }), tasks_weigh g h, ap (sum_by g) is, sum_by-cons g t rest, sum_by-cons g t [])

  module _ (S : StateValue) (way : IsSoFar T G S []) (i g : ℕ) (other_hand : g ≢ i) (h other : HandValue) (at : IsHand S i (record h { place = Trying g })) (there : IsHand S g other) where
    abbrev before : HandValue
    before = record h { place = Trying g }

    takes_it : (t : Task) (rest : List Task) → other.deque ≡ t ∷ rest → IsSoFar T G (with_hand (with_hand S g (record other { deque = rest })) i (holds before t)) []
    takes_it t rest is =
        let S1 = with_hand S g (record other { deque = rest }) in
        let f = facts_at T G S [] way (g - 1) other there.1 in
        let all = parts (IsLeft T G S.side) other.deque other.kept other.unplaced (held other.place) f.tasks in
        let way1 : IsSoFar T G S1 (t ∷ []) =
        moved T G S [] way (g - 1) other (record other { deque = rest }) there.1 (t ∷ []) S.side S.tickets (loses S way other f t rest is) in
        let apart : i - 1 ≢ g - 1 = λ same. other_hand (omega (arith, same, at.0, there.0)) in
        let at1 : slice_get S1.hands (i - 1) ≡ Some before = set_other S.hands (g - 1) (i - 1) before (record other { deque = rest }) apart at.1 in
        let mine = facts_at T G S1 (t ∷ []) way1 (i - 1) before at1 in
        let own = parts (IsLeft T G S.side) h.deque h.kept h.unplaced [] mine.tasks in
        moved T G S1 (t ∷ []) way1 (i - 1) before (holds before t) at1 [] S.side S.tickets (comes T G S1 (t ∷ []) way1 h (Trying g) mine (trying g) refl h.deque h.kept t [] (λ w. omega (arith, sum_by-cons w t [])) own.0 own.1 (All-head (IsLeft T G S.side) t rest (subst (All (IsLeft T G S.side)) is all.0)))

    pub steals : (to : StateValue) → Steals S i g before other to → IsSoFar T G to []
    steals to (inl (empty, (next, tries, is))) =
        let f = facts_at T G S [] way (i - 1) before at.1 in
        subst (λ (x : StateValue). IsSoFar T G x []) (sym is) (moved T G S [] way (i - 1) before next at.1 [] S.side S.tickets (tries_next T G S [] way h (Trying g) f (trying g) refl (λ few. few) (length S.hands) i g next tries))
    steals to (inr (t, rest, deque, is)) = subst (λ (x : StateValue). IsSoFar T G x []) (sym is) (takes_it t rest deque)
