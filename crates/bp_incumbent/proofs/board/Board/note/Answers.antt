use Rattle.std.proofs.Common.{ℕ, List, refl, [], ◌∙◌, ap, sym, subst, append-nil}
use Rattle.std.specs.List.{Contains}
use Rattle.bp_incumbent.proofs.Passes.{with_side, same_one}
use Rattle.bp_incumbent.proofs.board.Board.note.Goals as goal

pub invariant_of-pass : goal.invariant_of-pass
invariant_of-pass c =
    let is = c.copy.ensures.seat.1 in
    let seen = ap (λ m. m.0.seen) is in
    with_side c.pass.inside _ c.pass.invariant refl refl refl (ap (λ m. m.1) is) (same_one _ _ _ (ap (λ m. m.0.passes) is) c.pass.invariant.one) [] (seen ∙ sym (append-nil c.pass.inside.seats.side.me.0.seen))
    (subst (λ (l : List ℕ). Contains l c.pass.inside.last) (sym seen) c.pass.invariant.last_seen)
