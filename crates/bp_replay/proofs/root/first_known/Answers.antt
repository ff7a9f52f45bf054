use Rattle.std.proofs.Common.{sym, ◌∙◌, subst}
use Rattle.bp_lemmas.specs.Knowledge.{Knowledge}
use Rattle.bp_replay.specs.Kept.{Keeps}
use Rattle.bp_replay.proofs.Roots.{corner_two, first_mirror}
use Rattle.bp_replay.proofs.root.first_known.Goals as goal

pub with_corner-requires-clause-two : goal.with_corner-requires-clause-two
with_corner-requires-clause-two c =
    let t = c.args.given.now in
    corner_two t.ties t.tree t.sheet c.in-Some.corner c.requires.task.ties (sym c.corner.ensures ∙ c.in-Some.is)

pub returns-in-None : goal.returns-in-None
returns-in-None c =
    let t = c.args.given.now in
    subst (λ (K : Knowledge). Keeps t c.with_heads-root.result K) (first_mirror t (sym c.corner.ensures ∙ c.in-None.is)) c.with_heads-root.ensures
