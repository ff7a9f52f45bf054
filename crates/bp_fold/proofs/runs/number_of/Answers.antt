use Rattle.std.proofs.Common.{arith, sym, ◌∙◌}
use Rattle.std.proofs.lemmas.Bool.{false≢true}
use Rattle.bp_fold.specs.Numbering.{corner_at}
use Rattle.bp_fold.proofs.Numbered.{below_later, not_below}
use Rattle.bp_fold.proofs.runs.number_of.Goals as goal

pub loop-high-preserved-then-is_after : goal.loop-high-preserved-then-is_after
loop-high-preserved-then-is_after c =
    let v = c.loop-high.invariant in (
      omega (arith, c.loop-high-test.true),
      omega (arith, c.loop-high-test.true, v.1),
      λ k in_k here. (
        (v.2 k in_k here).0,
        below_later c.args.corners.now c.requires.rising (corner_at c.args.column c.args.row) k _ in_k (omega (arith, c.loop-high-test.true, v.1)) here (c.is_after.ensures.0 c.if-is_after.true),
      ),
    )

pub loop-high-preserved : goal.loop-high-preserved
loop-high-preserved c =
    let v = c.loop-high.invariant in (
      omega (arith, c.loop-high-test.true),
      v.1,
      λ k in_k here. (
        not_below c.args.corners.now c.requires.rising (corner_at c.args.column c.args.row) k _ in_k (omega (arith, c.loop-high-test.true, v.1)) here (λ before. false≢true (sym c.if-is_after.false ∙ c.is_after.ensures.1 before)),
        (v.2 k in_k here).1,
      ),
    )
