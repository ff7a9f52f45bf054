use Rattle.std.proofs.Common.{arith, [], ◌∙◌}
use Rattle.std.proofs.lemmas.List.{get_or_default}
use Rattle.bp_tree.proofs.grower.place_of.Goals as goal

pub returns-clause-place : goal.returns-clause-place
returns-clause-place c (k, less, is) = c.loop-at.invariant k (omega (arith, c.loop-at-test.false)) (get_or_default c.args.names.now k [] _ less ∙ is)
