use Rattle.std.proofs.Common.{◌∙◌}
use Rattle.bp_solve.proofs.Stood.{is_fed}
use Rattle.bp_solve.proofs.replaying.fed.Goals as goal

pub returns : goal.returns
returns c =
    is_fed _ _ c.args.facts.now c.args.hints.now _ _ (c.from_vec-facts.ensures ∙ c.in_ok-from_slice.ensures.items) (c.from_vec-hints.ensures ∙ c.in_ok-from_slice-2.ensures.items) c.in_ok-stood.stood c.if-not-stood.false c.in_ok-stood.ensures.stands c.in_ok-stood.ensures.kept
