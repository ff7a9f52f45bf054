-- The pool is gathered and the board closed: which points the search has come to, and what was seen beside its tickets.
use Rattle.std.proofs.Common.{◌≡◌, ◌⊎◌, inl, inr, ℕ, suc, ◌<◌, ◌≤◌, Bool, true, false, cond, leb, List, [], ◌∷◌, get_or, All, Option, None, Some, refl, sym, subst, arith}
use Rattle.std.specs.List.{Contains, flat_map}
use Rattle.std.proofs.lemmas.Bool.Decides.{nat_tests}
use Rattle.std.proofs.lemmas.List.Concat.{flat_map-cons}
use Rattle.std.proofs.lemmas.List.Elements.{All-append, All-contains}
use Rattle.bp_base.specs.declared.point.Placement.{Placement}
use Rattle.bp_base.specs.declared.point.Sheet.{Sheet}
use Rattle.bp_base.specs.Tree.{TreeValue}
use Rattle.bp_metric.specs.Valid.{Valid}
use Rattle.bp_incumbent.specs.declared.tickets.Ticket.{Ticket}
use Rattle.bp_incumbent.specs.Board.{IsCarried, PassView}
use Rattle.bp_incumbent.specs.Side.{IsLeast}
use Rattle.bp_workers.specs.Worked.{IsBest, chosen}

module _ (T : TreeValue) (G : Sheet) (opening : Placement) (valid : Valid T G 1 opening.side opening.points) where
  pub chosen_valid : (best : Option Placement) (side : ℕ) (offers : List ℕ) → IsLeast side opening.side offers → IsBest T G best offers → Valid T G 1 side (chosen best opening).points
  chosen_valid None side offers least none = subst (λ (s : ℕ). Valid T G 1 s opening.points) (sym (same least.is_one)) valid
    where
      same : (side ≡ opening.side) ⊎ Contains offers side → side ≡ opening.side
      same (inl is) = is
      same (inr there) = absurd (let c = subst (λ (vs : List ℕ). Contains vs side) none there in omega (arith, c.1))
  chosen_valid (Some p) side offers least is = go (leb opening.side p.side) refl
    where
      low : side ≤ p.side
      low = All-contains (λ y. side ≤ y) offers p.side least.below_offers is.1

      high : (side ≡ opening.side) ⊎ Contains offers side → (side ≡ opening.side) ⊎ (p.side ≤ side)
      high (inl same) = inl same
      high (inr there) = inr (All-contains (λ y. p.side ≤ y) offers side is.2 there)

      at_opening : opening.side ≤ p.side → (side ≡ opening.side) ⊎ (p.side ≤ side) → side ≡ opening.side
      at_opening over (inl same) = same
      at_opening over (inr above) = omega (arith, over, above, least.below_opening)

      at_best : p.side < opening.side → (side ≡ opening.side) ⊎ (p.side ≤ side) → side ≡ p.side
      at_best under (inl same) = absurd (omega (arith, under, same, low))
      at_best under (inr above) = omega (arith, above, low)

      go : (b : Bool) → leb opening.side p.side ≡ b → Valid T G 1 side (cond b opening p).points
      go true tells =
          let over : opening.side ≤ p.side = grind (arith, nat_tests) in
          subst (λ (s : ℕ). Valid T G 1 s opening.points) (sym (at_opening over (high least.is_one))) valid
      go false tells =
          let under : p.side < opening.side = grind (arith, nat_tests) in
          subst (λ (s : ℕ). Valid T G 1 s p.points) (sym (at_best under (high least.is_one))) is.0

-- no side beside a ticket is below the last side
pub none_below : (side : ℕ) (passes : List PassView) → All IsCarried passes → All (λ (p : PassView). All (λ y. side ≤ y) p.seen) passes → All (λ (t : Ticket). side ≤ t.side) (flat_map (λ (p : PassView). p.tickets) passes)
none_below side [] carried seen = λ k d less. absurd (omega (arith, less))
none_below side (p ∷ passes) carried seen =
    subst (All (λ (t : Ticket). side ≤ t.side)) (sym (flat_map-cons (λ (q : PassView). q.tickets) p passes))
    (All-append (λ (t : Ticket). side ≤ t.side) p.tickets (flat_map (λ (q : PassView). q.tickets) passes) here (none_below side passes (λ k d less. carried (suc k) d (omega (arith, less))) (λ k d less. seen (suc k) d (omega (arith, less)))))
  where
    here : All (λ (t : Ticket). side ≤ t.side) p.tickets
    here k d less =
        All-contains (λ y. side ≤ y) p.seen (get_or p.tickets k d).side (seen 0 p (omega arith)) (carried 0 p (omega arith) k d less)
