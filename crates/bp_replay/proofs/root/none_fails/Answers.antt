use Rattle.std.proofs.Common.{sym, ◌∙◌}
use Rattle.bp_replay.proofs.Roots.{mirror_table, corner_table}
use Rattle.bp_replay.proofs.root.none_fails.Goals as goal

pub returns-in-Some-clause-kept : goal.returns-in-Some-clause-kept
returns-in-Some-clause-kept c = λ axis i j two. corner_table c.args.given.now _ (sym c.corner.ensures ∙ c.in-Some.is) axis i j

pub returns-in-None-clause-kept : goal.returns-in-None-clause-kept
returns-in-None-clause-kept c = λ axis i j two. mirror_table c.args.given.now (sym c.corner.ensures ∙ c.in-None.is) c.requires.few c.with.result c.with.ensures axis i j two
