use Rattle.std.proofs.Common.{ℕ, List, arith, length-drop, take, subst}
use Rattle.std.proofs.lemmas.List.{take_rest}
use Rattle.bp_base.specs.Causes.{Appends}
use Rattle.bp_text.proofs.Bytes.{put_more}
use Rattle.bp_text.proofs.writing.put.Goals as goal

pub loop-at-preserved : goal.loop-at-preserved
loop-at-preserved g c =
    let piece = subst (λ (t : List ℕ). Appends (g.K.Sink.held c.loop-at.sink) (g.K.Sink.held c.write.new.self) (take c.in_ok-count.count t)) (take_rest c.args.bytes.now c.loop-at.at) c.in_ok-count.ensures.bytes in (
      omega (arith, c.in_ok-count.ensures.within, length-drop c.loop-at.at c.args.bytes.now),
      put_more _ _ _ c.args.bytes.now c.loop-at.at c.in_ok-count.count c.loop-at.invariant.1 piece,
      omega (arith, c.in_ok-count.ensures.cause.later, c.loop-at.invariant.2),
    )
