use Rattle.std.proofs.Common.{◌≡◌, ◌+◌, ◌-◌, ◌<◌, arith}
use Rattle.bp_text.proofs.Puts.{range_more, range_exit, range_all}
use Rattle.bp_picture.specs.PictureText.{grid_line}
use Rattle.bp_picture.proofs.lines.put_grid_lines.Goals as goal

pub loop-k-preserved : goal.loop-k-preserved
loop-k-preserved g c = (
  range_more (grid_line c.args.side) 1 _ _ _ c.in_ok-put_grid_line.field-0 _ c.loop-k.k _ (omega (arith, c.loop-k.auto.k)) (omega (arith, c.loop-k.auto.k)) c.loop-k.invariant.0 c.in_ok-put_grid_line.ensures.text,
  omega (arith, c.in_ok-put_grid_line.ensures.cause.later, c.loop-k.invariant.1),
  omega (arith, c.loop-k-test.true),
)

pub returns-in_err-put_grid_line-clause-text : goal.returns-in_err-put_grid_line-clause-text
returns-in_err-put_grid_line-clause-text g c =
    let k = c.loop-k.k in
    let here : k ≡ 1 + (k - 1) = omega (arith, c.loop-k.auto.k) in
    let less : k - 1 < c.args.side - 1 = omega (arith, c.loop-k.auto.k, c.loop-k-test.true) in
    range_exit (grid_line c.args.side) 1 _ _ _ _ _ (k - 1) k (c.args.side - 1) here less c.from_residual.ensures.0 c.loop-k.invariant.0 c.in_err-put_grid_line.ensures.text

pub returns-clause-text : goal.returns-clause-text
returns-clause-text g c =
    range_all (grid_line c.args.side) 1 _ _ _ (c.loop-k.k - 1) (c.args.side - 1) (omega (arith, c.loop-k.auto.k, c.loop-k.auto.k-end, c.loop-k-test.false, c.loop-k.invariant.2)) c.loop-k.invariant.0
