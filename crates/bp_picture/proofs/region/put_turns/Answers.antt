use Rattle.std.proofs.Common.{arith}
use Rattle.bp_text.proofs.Puts.{loop_more, loop_exit}
use Rattle.bp_picture.specs.PictureText.{turn_text}
use Rattle.bp_picture.proofs.region.put_turns.Goals as goal

pub loop-point-preserved : goal.loop-point-preserved
loop-point-preserved g c = (
  loop_more (turn_text c.args.side) _ _ _ c.in_ok-put_turn.field-0 c.args.points.now c.loop-point.point-index _ c.loop-point-test.true c.loop-point.invariant.0 c.in_ok-put_turn.ensures.text,
  omega (arith, c.in_ok-put_turn.ensures.cause.later, c.loop-point.invariant.1),
)

pub returns-in_err-put_turn-clause-text : goal.returns-in_err-put_turn-clause-text
returns-in_err-put_turn-clause-text g c =
    loop_exit (turn_text c.args.side) _ _ _ _ _ c.args.points.now c.loop-point.point-index _ c.loop-point-test.true c.from_residual.ensures.0 c.loop-point.invariant.0 c.in_err-put_turn.ensures.text
