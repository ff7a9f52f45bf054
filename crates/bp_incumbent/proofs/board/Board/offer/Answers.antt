use Rattle.std.proofs.Common.{ℕ, List, refl, [], ◌∷◌, ap, sym, subst}
use Rattle.std.specs.List.{Contains}
use Rattle.std.proofs.lemmas.List.Elements.{Contains-append_left}
use Rattle.bp_incumbent.proofs.Passes.{with_side, offered_one}
use Rattle.bp_incumbent.proofs.board.Board.offer.Goals as goal

pub invariant_of-pass : goal.invariant_of-pass
invariant_of-pass c =
    let is = c.lower.ensures.seat.1 in
    let seen = ap (λ m. m.0.seen) is in
    with_side c.pass.inside _ c.pass.invariant refl refl refl (ap (λ m. m.1) is) (offered_one _ _ c.args.side _ (ap (λ m. m.0.passes) is) c.pass.invariant.one) (c.lower.result ∷ []) seen
    (subst (λ (l : List ℕ). Contains l c.pass.inside.last) (sym seen) (Contains-append_left _ _ _ c.pass.invariant.last_seen))
