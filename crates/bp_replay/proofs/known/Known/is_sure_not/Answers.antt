use Rattle.std.proofs.Common.{sym, ap, ◌∙◌}
use Rattle.bp_lemmas.specs.Systems.{Order}
use Rattle.bp_lemmas.specs.Knowledge.{is_refuted}
use Rattle.bp_replay.specs.Tasks.{system_of}
use Rattle.bp_replay.proofs.known.Known.is_sure_not.Goals as goal

pub returns-then-known : goal.returns-then-known
returns-then-known c = λ K keeps whole. rw (sym (c.if-known.ensures K keeps whole)) c.if-known.true

pub returns-else-known : goal.returns-else-known
returns-else-known c = λ K keeps whole.
    rw (sym (c.if-known.ensures K keeps whole))
    (c.is_refuted.ensures K keeps whole ∙ ap (λ (o : Order). is_refuted (system_of c.args.given.now) K o) c.relation.ensures.order)
