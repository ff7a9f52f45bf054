use Rattle.std.proofs.Common.{ap, ◌∙◌, arith}
use Rattle.bp_lemmas.specs.Trees.{tree_system}
use Rattle.bp_mirror.specs.Systems.{variable_of, mirror_system}
use Rattle.bp_replay.proofs.Tied.{named_leaf}
use Rattle.bp_replay.proofs.given.Given.place.Goals as goal

pub place-requires : goal.place-requires
place-requires c = omega (arith, named_leaf c.args.self.now c.args.axis c.args.leaf c.requires.there, c.requires.few)

pub at-requires : goal.at-requires
at-requires c = omega (arith, named_leaf c.args.self.now c.args.axis c.args.leaf c.requires.there, c.requires.few)

pub returns-in-Corner-clause-value : goal.returns-in-Corner-clause-value
unfolding tree_system
returns-in-Corner-clause-value c = rw (← c.self.view_is, c.in-Corner.is) c.place.ensures.number

pub returns-in-Mirror-clause-value : goal.returns-in-Mirror-clause-value
unfolding mirror_system
returns-in-Mirror-clause-value c = rw (← c.self.view_is, c.in-Mirror.is) (c.variable.ensures ∙ ap variable_of c.at.ensures.value)
