use Rattle.std.proofs.Common.{◌-◌, ◌<◌, length, sym, subst, arith}
use Rattle.bp_base.specs.declared.path.Pair.{Pair}
use Rattle.bp_lemmas.specs.Knowledge.{Knowledge}
use Rattle.bp_replay.specs.Kept.{AreTwoLeaves, Keeps}
use Rattle.bp_replay.proofs.Tied.{two_back}
use Rattle.bp_replay.proofs.Roots.{named_heads, heads_step}
use Rattle.bp_replay.proofs.root.with_heads.Goals as goal

no_pair : Pair
no_pair = record { i = 0; j = 0 }

pub set_known_not-requires-clause-two : goal.set_known_not-requires-clause-two
set_known_not-requires-clause-two c =
    let t = c.args.given.now in
    let at = c.heads-count.result - 1 - c.loop-k.k in
    let within : at < length t.heads = omega (arith, c.loop-k-test.true, c.heads-count.ensures) in
    let named = named_heads t c.requires.task.heads at no_pair within in
    let two : AreTwoLeaves t.tree c.head-head.result.i c.head-head.result.j = subst (λ (h : Pair). AreTwoLeaves t.tree h.i h.j) (sym (c.head-head.ensures no_pair)) named in
    two_back t.tree c.head-head.result.i c.head-head.result.j two

pub loop-k-preserved : goal.loop-k-preserved
loop-k-preserved c =
    let t = c.args.given.now in
    subst (λ (K : Knowledge). Keeps t c.set_known_not.new.self K) (heads_step t c.loop-k.k c.heads-count.result c.head-head.result no_pair c.heads-count.ensures (omega (arith, c.loop-k-test.true)) (c.head-head.ensures no_pair))
    (c.set_known_not.ensures _ c.loop-k.invariant)
