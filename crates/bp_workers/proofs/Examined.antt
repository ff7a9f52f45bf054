-- A task in hand was examined: what its worker did still goes together, with its record and its offer.
use Rattle.std.proofs.Common.{◌≡◌, ℕ, zero, suc, ◌≤◌, false, leb, min, List, [], ◌∷◌, ◌++◌, All, Option, None, Some, MatchOption, refl, sym, ap, subst, arith}
use Rattle.bp_base.specs.declared.path.Step.{Step}
use Rattle.bp_base.specs.declared.point.Placement.{Placement}
use Rattle.bp_base.specs.declared.point.Sheet.{Sheet}
use Rattle.bp_base.specs.declared.record.Record.{Record}
use Rattle.bp_base.specs.declared.record.RecordKind.{RecordKind}
use Rattle.bp_base.specs.declared.record.Task.{Task}
use Rattle.bp_base.specs.Tree.{TreeValue, IsTree, leaf_count}
use Rattle.bp_metric.specs.Valid.{Valid}
use Rattle.bp_incumbent.specs.Board.{BoardView, PassView, drew, offered}
use Rattle.bp_pool.specs.Hands.{HandView}
use Rattle.bp_pool.specs.Shares.{IsTaskOf}
use Rattle.bp_turn.specs.Turns.{IsFoundOrCyclic, tasks_of}
use Rattle.bp_workers.specs.Agrees.{Keeps}
use Rattle.bp_workers.specs.Worked.{IsBest, IsOffer, lesser}
use Rattle.bp_workers.proofs.Joined.{best_swapped, lesser_best}
use Rattle.bp_workers.proofs.Steps.{all_last, recorded_keeps, solved_keeps}
use Rattle.bp_workers.proofs.Turned.{judged_kind, judged_offer, judged_tasks, offer_of, record_of}

-- the one offer of a placement that is valid at its own side
one_best : (T : TreeValue) (G : Sheet) (q : Placement) → Valid T G 1 q.side q.points → IsBest T G (Some q) (q.side ∷ [])
one_best T G q valid = (valid, (0, omega arith, refl), least)
  where
    least : All (λ side. q.side ≤ side) (q.side ∷ [])
    least zero d less = omega arith
    least (suc k) d less = absurd (omega (arith, less))

module _ (T : TreeValue) (t : IsTree T) (G : Sheet) (board : BoardView) (hand : HandView) (p : PassView) (records : List Record) (kept : List Task) (best : Option Placement) (path : List Step) (given side ticket : ℕ) (under : leb board.limit ticket ≡ false) (last : p.last ≡ side) (keeps : Keeps T G board hand p records (kept ++ (record { path = path; bound = given }) ∷ []) best) (kind : RecordKind) (placement : Option Placement) (is : IsFoundOrCyclic T G path (min side given) kind placement) (born : List Task) (born_is : born ≡ tasks_of T G path (min side given) kind) where
  abbrev task : Task
  task = record { path = path; bound = given }

  abbrev made : Record
  made = record_of path kind ticket given (min side given)

  of_pairs : IsTaskOf (leaf_count T) task
  of_pairs = all_last (IsTaskOf (leaf_count T)) kept task keeps.of_pairs

  pub born_good : All (IsTaskOf (leaf_count T)) born
  born_good =
      subst (All (IsTaskOf (leaf_count T))) (sym born_is) (judged_tasks T G path ticket given (min side given) t of_pairs kind placement is)

  is_bound : made.bound ≡ min p.last made.given
  is_bound = ap (λ (s : ℕ). min s given) (sym last)

  offer : IsOffer T G made (offer_of placement)
  offer = judged_offer T G path ticket given (min side given) kind placement is

  pub examined_keeps : placement ≡ None → Keeps T G board hand (drew p ticket) (records ++ made ∷ []) (kept ++ born) best
  examined_keeps none =
      recorded_keeps T G board hand p records best kept task ticket made born keeps under refl refl is_bound (judged_kind T G path ticket given (min side given) kind placement is) born_is born_good (subst (λ (o : Option Placement). IsOffer T G made (offer_of o)) none offer)

  pub offered_keeps : (q : Placement) (found : ℕ) → placement ≡ Some q → Valid T G 1 q.side q.points → Keeps T G board hand (offered (drew p ticket) q.side found) (records ++ made ∷ []) (kept ++ born) (lesser (Some q) best)
  offered_keeps q found some valid =
      solved_keeps T G board hand p records best kept task ticket made born keeps under refl refl is_bound (judged_kind T G path ticket given (min side given) kind placement is) born_is born_good q.side found (lesser (Some q) best) (subst (λ (o : Option Placement). IsOffer T G made (offer_of o)) some offer) (best_swapped T G (lesser (Some q) best) (q.side ∷ []) p.offers (lesser_best T G (Some q) best (q.side ∷ []) p.offers (one_best T G q valid) keeps.best_is))

  -- whatever was found: the pass after the offer, and the best placement
  pub turned_keeps : (pass : PassView) (after : Option Placement) → MatchOption placement (1 ≤ 1) (λ q. Valid T G 1 q.side q.points) → MatchOption placement (pass ≡ drew p ticket) (λ q. (found : ℕ) × (pass ≡ offered (drew p ticket) q.side found)) → after ≡ lesser placement best → Keeps T G board hand pass (records ++ made ∷ []) (kept ++ born) after
  turned_keeps pass after valid pass_is after_is = go placement refl valid pass_is after_is
    where
      together : PassView → Option Placement → Type 0
      together of_pass of_best = Keeps T G board hand of_pass (records ++ made ∷ []) (kept ++ born) of_best

      go : (o : Option Placement) → placement ≡ o → MatchOption o (1 ≤ 1) (λ q. Valid T G 1 q.side q.points) → MatchOption o (pass ≡ drew p ticket) (λ q. (found : ℕ) × (pass ≡ offered (drew p ticket) q.side found)) → after ≡ lesser o best → together pass after
      go None none _ same best_is =
          subst (λ (P : PassView). together P after) (sym same) (subst (together (drew p ticket)) (sym best_is) (examined_keeps none))
      go (Some q) some good (found, same) best_is =
          subst (λ (P : PassView). together P after) (sym same) (subst (together (offered (drew p ticket) q.side found)) (sym best_is) (offered_keeps q found some good))

-- the same of what a worker has then
pub judged_keeps : (T : TreeValue) → IsTree T → (G : Sheet) (board : BoardView) (hand : HandView) (pass p : PassView) (records : List Record) (kept : List Task) (best : Option Placement) (path : List Step) (given side ticket bound : ℕ) → bound ≡ min side given → pass ≡ drew p ticket → p.last ≡ side → leb board.limit ticket ≡ false → Keeps T G board hand p records (kept ++ (record { path = path; bound = given }) ∷ []) best → (kind : RecordKind) (placement : Option Placement) → IsFoundOrCyclic T G path bound kind placement → MatchOption placement (1 ≤ 1) (λ q. Valid T G 1 q.side q.points) → (born : List Task) → born ≡ tasks_of T G path bound kind → (hand' : HandView) (pass' : PassView) (records' : List Record) (kept' : List Task) (after : Option Placement) → hand' ≡ hand → MatchOption placement (pass' ≡ pass) (λ q. (found : ℕ) × (pass' ≡ offered pass q.side found)) → records' ≡ records ++ record_of path kind ticket given bound ∷ [] → kept' ≡ kept → after ≡ lesser placement best → Keeps T G board hand' pass' records' (kept' ++ born) after
judged_keeps T t G board hand pass p records kept best path given side ticket bound bound_is pass_is last under keeps kind placement is valid born born_is hand' pass' records' kept' after hand_is offer_is records_is kept_is after_is =
    subst (λ (H : HandView). Keeps T G board H pass' records' (kept' ++ born) after) (sym hand_is)
    (subst (λ (K : List Task). Keeps T G board hand pass' records' (K ++ born) after) (sym kept_is)
    (subst (λ (R : List Record). Keeps T G board hand pass' R (kept ++ born) after) (sym records_is)
    (subst (λ (b : ℕ). Keeps T G board hand pass' (records ++ record_of path kind ticket given b ∷ []) (kept ++ born) after) (sym bound_is)
    (turned_keeps T t G board hand p records kept best path given side ticket under last keeps kind placement (subst (λ (b : ℕ). IsFoundOrCyclic T G path b kind placement) bound_is is) born (subst (λ (b : ℕ). born ≡ tasks_of T G path b kind) bound_is born_is) pass' after valid (subst (λ (P : PassView). MatchOption placement (pass' ≡ P) (λ q. (found : ℕ) × (pass' ≡ offered P q.side found))) pass_is offer_is) after_is))))
