use Rattle.std.proofs.Common.{refl, sym}
use Rattle.bp_lemmas.specs.Hints.{knows_order}
use Rattle.bp_replay.proofs.known.Known.knows_order.Goals as goal

pub returns-then-is_known : goal.returns-then-is_known
unfolding knows_order
returns-then-is_known c = λ K keeps whole. rw (sym (c.if-is_known.ensures K keeps whole)) refl

pub returns-then-is_known-2 : goal.returns-then-is_known-2
unfolding knows_order
returns-then-is_known-2 c = λ K keeps whole. rw (sym (c.if-is_known.ensures K keeps whole)) (rw (sym (c.if-is_known-2.ensures K keeps whole)) refl)

pub returns-then-is_known-3 : goal.returns-then-is_known-3
unfolding knows_order
returns-then-is_known-3 c = λ K keeps whole.
    rw (sym (c.if-is_known.ensures K keeps whole)) (rw (sym (c.if-is_known-2.ensures K keeps whole)) (rw (sym (c.if-is_known-3.ensures K keeps whole)) refl))

pub returns : goal.returns
unfolding knows_order
returns c = λ K keeps whole.
    rw (sym (c.if-is_known.ensures K keeps whole)) (rw (sym (c.if-is_known-2.ensures K keeps whole)) (rw (sym (c.if-is_known-3.ensures K keeps whole)) (c.is_known-4.ensures K keeps whole)))
