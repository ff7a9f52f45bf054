-- A hand offers the side of what it solved.
use Rattle.std.proofs.Common.{◌≡◌, ◌⊎◌, inl, inr, ℕ, ◌+◌, ◌-◌, ◌<◌, ◌≤◌, min, List, [], ◌∷◌, ◌++◌, Any, Option, None, Some, MatchOption, length, ltb, refl, sym, ap, ◌∙◌, subst, take, arith}
use Rattle.std.specs.List.{slice_get}
use Rattle.std.proofs.lemmas.Bool.{cases_lt, cond_both, ltb-true, ltb-false}
use Rattle.std.proofs.lemmas.List.{take_all, take_more}
use Rattle.std.proofs.lemmas.List.Quantifiers.{Any-push}
use Rattle.std.proofs.lemmas.Option.{get_or_from_slice_get, slice_get_within}
use Rattle.bp_base.specs.declared.point.Placement.{Placement}
use Rattle.bp_base.specs.declared.point.Sheet.{Sheet}
use Rattle.bp_base.specs.declared.record.Record.{Record}
use Rattle.bp_base.specs.Tree.{TreeValue}
use Rattle.bp_core.specs.Settled.{Solves}
use Rattle.bp_turn.proofs.Forced.{one_forced}
use Rattle.bp_machine.specs.declared.place.Place.TheVariants.{Offering}
use Rattle.bp_machine.specs.Facts.{HasHandFacts, IsBest, IsReached}
use Rattle.bp_machine.specs.State.{HandValue, StateValue}
use Rattle.bp_machine.specs.Steps.{better, offered}
use Rattle.bp_machine.proofs.Moved.{IsMove, IsSoFar, lower}
use Rattle.bp_machine.proofs.Seats.{any_left, any_push_cases}

-- a list and its last element
with_last : (rs : List Record) (r : Record) → slice_get rs (length rs - 1) ≡ Some r → rs ≡ take (length rs - 1) rs ++ r ∷ []
with_last rs r at =
    let within = slice_get_within rs (length rs - 1) r at in
    let long : length rs - 1 + 1 ≡ length rs = omega (arith, within) in
    sym (take_all (length rs) rs (omega arith))
    ∙ ap (λ (n : ℕ). take n rs) (sym long)
    ∙ take_more rs (length rs - 1) r within
    ∙ ap (λ (x : Record). take (length rs - 1) rs ++ x ∷ []) (get_or_from_slice_get rs (length rs - 1) r r at)

-- the better one has this property where each that may be it has
better_has : (P : Placement → Type 0) (b : Option Placement) (p : Placement) → ((q : Placement) → b ≡ Some q → q.side ≤ p.side → P q) → ((b ≡ None) ⊎ ((q : Placement) × (b ≡ Some q) × (p.side < q.side)) → P p) → P (better b p)
better_has P None p old new = new (inl refl)
better_has P (Some q) p old new =
    cond_both (ltb p.side q.side) p q P (λ less. new (inr (q, refl, ltb-true p.side q.side less))) (λ most. old q refl (ltb-false p.side q.side most))

module _ (T : TreeValue) (G : Sheet) (S : StateValue) (way : IsSoFar T G S []) (h : HandValue) (p : Placement) (f : HasHandFacts T G way.opening_side S.side (record h { place = Offering p })) where
  abbrev before : HandValue
  before = record h { place = Offering p }

  abbrev side : ℕ
  side = min S.side p.side

  abbrev u : ℕ
  u = way.opening_side

  abbrev solved : Record
  solved = f.placed.2.0

  abbrev front : List Record
  front = take (length h.records - 1) h.records

  all : h.records ≡ front ++ solved ∷ []
  all = with_last h.records solved f.placed.2.1

  solves : Solves T G p.side solved
  solves = f.placed.2.2

  low : HasHandFacts T G u side before
  low = lower T G u S.side side (omega arith) before f

  is_best : (q : Placement) → h.best ≡ Some q → IsBest T G S.side q
  is_best q is =
      subst (λ (b : Option Placement). MatchOption b (S.side ≤ u) (IsBest T G S.side)) is f.best

  best_after : IsBest T G side (better h.best p)
  best_after =
      better_has (IsBest T G side) h.best p (λ q is most. (omega (arith, (is_best q is).0), (is_best q is).1)) (λ new. (omega arith, f.placed.1))

  reached_new : p.side ≤ S.side → IsReached side (offered before p)
  reached_new most = (
    better h.best p,
    refl,
    better_has (λ (x : Placement). x.side ≡ side) h.best p (λ q is more. omega (arith, (is_best q is).0, more, most)) (λ new. omega (arith, most)),
  )

  reached_old : S.side < p.side → IsReached side before → IsReached side (offered before p)
  reached_old less (q, is, same) = (
    better h.best p,
    refl,
    better_has (λ (x : Placement). x.side ≡ side) h.best p (λ r found more. same_side r found) (λ new. not_new new),
  )
    where
      same_side : (r : Placement) → h.best ≡ Some r → r.side ≡ side
      same_side r found = subst (λ (b : Option Placement). MatchOption b (0 ≤ 0) (λ (x : Placement). x.side ≡ side)) (sym is ∙ found) same

      not_new : (h.best ≡ None) ⊎ ((r : Placement) × (h.best ≡ Some r) × (p.side < r.side)) → p.side ≡ side
      not_new (inl none) = absurd (subst (λ (b : Option Placement). MatchOption b ⊥ (λ x. 0 ≤ 0)) (sym is ∙ none) (omega arith))
      not_new (inr (r, found, more)) = absurd (omega (arith, less, more, same_side r found))

  least : (v : ℕ) → Any (Solves T G v) h.records → Any (Solves T G v) front ⊎ (side ≤ v)
  least v found = told (any_push_cases (Solves T G v) front solved (subst (Any (Solves T G v)) all found))
    where
      told : Any (Solves T G v) front ⊎ Solves T G v solved → Any (Solves T G v) front ⊎ (side ≤ v)
      told (inl old) = inl old
      told (inr new) = inr (omega (arith, one_forced T solved.path G v p.side new.0 solves.0))

  reached : (S.side < p.side) ⊎ (p.side ≤ S.side) → ((side ≡ S.side) × (Any (Solves T G side) front → Any (Solves T G side) h.records)) ⊎ Any (Solves T G side) h.records
  reached (inl less) =
      inl (omega (arith, less), λ found. subst (Any (Solves T G side)) (sym all) (any_left (Solves T G side) front (solved ∷ []) found))
  reached (inr most) =
      let same : p.side ≡ side = omega (arith, most) in
      inr (subst (Any (Solves T G side)) (sym all) (Any-push (Solves T G side) front solved (subst (λ (v : ℕ). Solves T G v solved) same solves)))

  best : (S.side < p.side) ⊎ (p.side ≤ S.side) → ((side ≡ S.side) × (IsReached side before → IsReached side (offered before p))) ⊎ IsReached side (offered before p)
  best (inl less) = inl (omega (arith, less), reached_old less)
  best (inr most) = inr (reached_new most)

  pub offers : IsMove T G S [] [] u side S.tickets before (offered before p)
  offers = record {
    even = λ w. refl;
    drawn = λ w. refl;
    word = inl (omega arith);
    below = omega arith;
    least = least;
    reached = reached (cases_lt S.side p.side);
    hand = record {
      known_no_less = low.known_no_less;
      known_no_more = low.known_no_more;
      sound = low.sound;
      given = low.given;
      tasks = low.tasks;
      best = best_after;
      placed = f.placed.0;
      takes = f.takes;
    };
    best = best (cases_lt S.side p.side);
  }
