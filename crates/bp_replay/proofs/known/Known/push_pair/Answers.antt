use Rattle.std.proofs.Common.{◌++◌, sym, ◌∙◌, ap, subst}
use Rattle.bp_base.specs.declared.point.Axis.TheVariants.{X, Y}
use Rattle.bp_lemmas.specs.Knowledge.{Knowledge}
use Rattle.bp_lemmas.specs.Hints.{push_known, pair_pushed, leant_by}
use Rattle.bp_replay.specs.Tasks.{system_of}
use Rattle.bp_replay.specs.Kept.{Keeps}
use Rattle.bp_replay.specs.Leanings.{corner_of, leaning_pairs, at_corner, at_pairs, at_head}
use Rattle.bp_replay.proofs.Applied.{leant_append}
use Rattle.bp_replay.proofs.Tied.{lasting_is}
use Rattle.bp_replay.proofs.known.Known.push_pair.Goals as goal

pub returns : goal.returns
unfolding pair_pushed
returns c = λ K keeps.
    let t = c.args.given.now in
    let i = c.args.pair.i in
    let j = c.args.pair.j in
    let S = system_of t in
    let one = push_known S K (S.order X i j) in
    let two = push_known S one (S.order X j i) in
    let three = push_known S two (S.order Y i j) in
    let four = push_known S three (S.order Y j i) in
    let corner = at_corner (corner_of t.ties) t.sheet i j in
    let pairs = at_pairs (leaning_pairs t.ties) i j in
    let heads = at_head t.ties t.heads i j in
    subst (λ (M : Knowledge). Keeps t c.lean_at_head.new.self M)
    (sym (ap (leant_by four) (lasting_is t.ties t.tree t.sheet t.bound t.heads i j) ∙ leant_append four (corner ++ pairs) heads ∙ ap (λ (M : Knowledge). leant_by M heads) (leant_append four corner pairs)))
    (c.lean_at_head.ensures (leant_by (leant_by four corner) pairs) (c.lean_at_pairs.ensures (leant_by four corner) (c.lean_at_corner.ensures four (c.push_known-4.ensures three (c.push_known-3.ensures two (c.push_known-2.ensures one (c.push_known.ensures K keeps)))))))
