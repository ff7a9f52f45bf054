use Rattle.std.proofs.Common.{List, sym, ap, ◌∙◌, arith}
use Rattle.bp_base.specs.declared.point.Point.{Point}
use Rattle.bp_contour.specs.declared.loops.Loop.{Loop}
use Rattle.bp_text.proofs.Puts.{loop_more, loop_exit, puts_same}
use Rattle.bp_picture.specs.PictureText.{loop_text}
use Rattle.bp_picture.proofs.region.put_outline.Goals as goal

pub loop-around-preserved : goal.loop-around-preserved
loop-around-preserved g c =
    let f = λ (l : Loop). loop_text c.args.side l.points in
    let l = c.around-item.result in (
      loop_more f _ _ _ c.in_ok-put_loop.field-0 c.args.loops.now c.loop-around.around-index l c.loop-around-test.true c.loop-around.invariant.0
          (puts_same _ _ _ _ _ c.in_ok-put_loop.ensures.text (ap f (sym c.around-item.is) ∙ ap (λ (points : List Point). loop_text c.args.side points) (sym c.as_slice.ensures))),
      omega (arith, c.in_ok-put_loop.ensures.cause.later, c.loop-around.invariant.1),
    )

pub returns-in_err-put_loop-clause-text : goal.returns-in_err-put_loop-clause-text
returns-in_err-put_loop-clause-text g c =
    let f = λ (l : Loop). loop_text c.args.side l.points in
    let l = c.around-item.result in
    loop_exit f _ _ _ _ _ c.args.loops.now c.loop-around.around-index l c.loop-around-test.true c.from_residual.ensures.0 c.loop-around.invariant.0
    (puts_same _ _ _ _ _ c.in_err-put_loop.ensures.text (ap f (sym c.around-item.is) ∙ ap (λ (points : List Point). loop_text c.args.side points) (sym c.as_slice.ensures)))
