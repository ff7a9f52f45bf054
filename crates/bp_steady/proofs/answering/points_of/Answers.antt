use Rattle.std.proofs.Common.{◌*◌, ◌∙◌, ap, arith}
use Rattle.std.proofs.lemmas.List.{take_all}
use Rattle.bp_steady.specs.Questions.{coordinates}
use Rattle.bp_steady.proofs.Summed.{points_more}
use Rattle.bp_steady.proofs.answering.points_of.Goals as goal

pub loop-k-init : goal.loop-k-init
loop-k-init c = ap coordinates c.in_ok-points.ensures.items

pub loop-k-preserved : goal.loop-k-preserved
loop-k-preserved c =
    ap coordinates c.in_ok-push.ensures.items
    ∙ points_more c.loop-k.points.items _ c.args.bounds.now.low c.loop-k.k c.loop-k.invariant (omega (arith, c.requires, c.loop-k-test.true, c.leaves-n.ensures.count)) c.low.ensures c.low-in-loop-k.ensures

pub returns : goal.returns
returns c =
    ap coordinates c.from_vec.ensures
    ∙ c.loop-k.invariant
    ∙ take_all (2 * c.loop-k.k) c.args.bounds.now.low (omega (arith, c.requires, c.loop-k-test.false, c.leaves-n.ensures.count))
