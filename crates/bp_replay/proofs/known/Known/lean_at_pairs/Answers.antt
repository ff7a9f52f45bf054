use Rattle.std.proofs.Common.{◌≡◌, ◌+◌, ◌<◌, ◌++◌, length, take, sym, ◌∙◌, ap, subst, arith}
use Rattle.bp_base.specs.declared.path.Pair.{Pair}
use Rattle.bp_lemmas.specs.Knowledge.{Knowledge}
use Rattle.bp_lemmas.specs.Hints.{leant_by}
use Rattle.bp_mirror.specs.declared.kind.MirrorKind.TheVariants.{Diagonal}
use Rattle.bp_mirror.specs.Systems.{pair_lasting}
use Rattle.bp_replay.specs.Kept.{Keeps}
use Rattle.bp_replay.specs.Leanings.{at_pairs, leaning_pairs}
use Rattle.bp_replay.proofs.Applied.{flat_more, leant_append}
use Rattle.bp_replay.proofs.known.Known.lean_at_pairs.Goals as goal

pub loop-k-preserved : goal.loop-k-preserved
loop-k-preserved c = λ K keeps.
    let t = c.args.given.now in
    let i = c.args.pair.i in
    let j = c.args.pair.j in
    let pairs = leaning_pairs t.ties in
    let k = c.loop-k.k in
    let p = c.leaning_pair.result in
    let before = at_pairs (take k pairs) i j in
    let within : k < length pairs = omega (arith, c.loop-k-test.true, c.leaning_pairs-k-end.ensures) in
    let more : at_pairs (take (k + 1) pairs) i j ≡ before ++ pair_lasting Diagonal i j p =
    flat_more (pair_lasting Diagonal i j) pairs k p within ∙ ap (λ (q : Pair). before ++ pair_lasting Diagonal i j q) (sym (c.leaning_pair.ensures.value p)) in
    subst (λ (M : Knowledge). Keeps t c.lean_at_pair.new.self M) (sym (ap (leant_by K) more ∙ leant_append K before (pair_lasting Diagonal i j p)))
    (c.lean_at_pair.ensures t (leant_by K before) (c.loop-k.invariant K keeps))
