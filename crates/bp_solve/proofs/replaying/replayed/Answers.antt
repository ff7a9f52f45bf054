use Rattle.std.proofs.Common.{All, refl, subst}
use Rattle.std.proofs.lemmas.Result.{IfOk-weaker}
use Rattle.bp_arrangement.specs.Swaps.{IsAdmissible}
use Rattle.bp_solve.proofs.Stood.{shown_above}
use Rattle.bp_solve.proofs.replaying.replayed.Goals as goal

pub arranged-requires-clause-corner : goal.arranged-requires-clause-corner
arranged-requires-clause-corner c = c.if-not-is_corner.ensures.corner.0 refl

pub arranged-requires-clause-swaps : goal.arranged-requires-clause-swaps
arranged-requires-clause-swaps c = subst (All (IsAdmissible c.args.metric.now.tree c.args.corner.i c.args.corner.j)) c.as_slice.ensures c.in-None.ensures.first

pub returns-in-None : goal.returns-in-None
returns-in-None c =
    IfOk-weaker c.arranged.result _ _ (λ o h. shown_above c.args.metric.now.tree c.args.metric.now.sheet c.args.floor c.args.bound c.if-bound-floor.false c.if-bound-gt-MOST_NUMBER.false o h) c.arranged.ensures
