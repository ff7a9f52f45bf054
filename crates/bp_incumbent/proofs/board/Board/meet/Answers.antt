use Rattle.std.proofs.Common.{ℕ, List, refl, [], ◌∷◌, ◌++◌, ◌∙◌, ap, sym, subst, append-nil, append_assoc}
use Rattle.std.specs.List.{Contains}
use Rattle.std.proofs.lemmas.List.Elements.{Contains-append_left}
use Rattle.bp_incumbent.specs.declared.side.Offers.{Offers}
use Rattle.bp_incumbent.proofs.Passes.{with_side, same_one}
use Rattle.bp_incumbent.proofs.board.Board.meet.Goals as goal

pub invariant_of-pass : goal.invariant_of-pass
invariant_of-pass c =
    let p = c.pass.inside.seats.side.me.0 in let n = c.note.inside.side.me.0 in
    let joined = c.join.ensures.1 in
    let is = c.load.ensures.seat.1 in
    let seen = ap (λ m. m.0.seen) is ∙ ap (λ (m : _ × _). m.0.seen ++ c.load.result ∷ []) joined ∙ append_assoc p.seen n.seen (c.load.result ∷ []) in
    let passes = ap (λ m. m.0.passes) is ∙ ap (λ m. m.0.passes) joined ∙ ap (λ (l : List Offers). p.passes ++ l) c.note.invariant.no_pass ∙ append-nil p.passes in
    with_side c.pass.inside _ c.pass.invariant refl refl refl (ap (λ m. m.1) is ∙ ap (λ m. m.1) joined) (same_one _ _ _ passes c.pass.invariant.one) (n.seen ++ c.load.result ∷ []) seen
    (subst (λ (l : List ℕ). Contains l c.pass.inside.last) (sym seen) (Contains-append_left _ _ _ c.pass.invariant.last_seen))
