use Rattle.std.proofs.Common.{List, sym, ap, ◌∙◌, arith}
use Rattle.bp_contour.specs.declared.loops.Loop.{Loop}
use Rattle.bp_text.proofs.Puts.{loop_more, loop_exit, puts_same}
use Rattle.bp_picture.specs.declared.outline.Outline.{Outline}
use Rattle.bp_picture.specs.PictureText.{outline_text}
use Rattle.bp_picture.proofs.lines.put_outlines.Goals as goal

pub loop-outline-preserved : goal.loop-outline-preserved
loop-outline-preserved g c =
    let f = λ (o : Outline). outline_text c.args.side o.loops in
    let o = c.outline-item.result in (
      loop_more f _ _ _ c.in_ok-put_outline.field-0 c.args.outlines.now c.loop-outline.outline-index o c.loop-outline-test.true c.loop-outline.invariant.0
          (puts_same _ _ _ _ _ c.in_ok-put_outline.ensures.text (ap f (sym c.outline-item.is) ∙ ap (λ (loops : List Loop). outline_text c.args.side loops) (sym c.as_slice.ensures))),
      omega (arith, c.in_ok-put_outline.ensures.cause.later, c.loop-outline.invariant.1),
    )

pub returns-in_err-put_outline-clause-text : goal.returns-in_err-put_outline-clause-text
returns-in_err-put_outline-clause-text g c =
    let f = λ (o : Outline). outline_text c.args.side o.loops in
    let o = c.outline-item.result in
    loop_exit f _ _ _ _ _ c.args.outlines.now c.loop-outline.outline-index o c.loop-outline-test.true c.from_residual.ensures.0 c.loop-outline.invariant.0
    (puts_same _ _ _ _ _ c.in_err-put_outline.ensures.text (ap f (sym c.outline-item.is) ∙ ap (λ (loops : List Loop). outline_text c.args.side loops) (sym c.as_slice.ensures)))
