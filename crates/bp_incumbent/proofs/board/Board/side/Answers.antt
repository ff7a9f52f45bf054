use Rattle.std.proofs.Common.{ℕ, List, refl, [], ◌∷◌, ap, sym, subst}
use Rattle.std.specs.List.{Contains}
use Rattle.bp_incumbent.proofs.Passes.{with_side, same_one, contains_last}
use Rattle.bp_incumbent.proofs.board.Board.side.Goals as goal

pub invariant_of-pass : goal.invariant_of-pass
invariant_of-pass c =
    let is = c.load-side.ensures.seat.1 in
    let seen = ap (λ m. m.0.seen) is in
    with_side c.pass.inside _ c.pass.invariant refl refl refl (ap (λ m. m.1) is) (same_one _ _ _ (ap (λ m. m.0.passes) is) c.pass.invariant.one) (c.load-side.result ∷ []) seen
    (subst (λ (l : List ℕ). Contains l c.load-side.result) (sym seen) (contains_last _ _))
