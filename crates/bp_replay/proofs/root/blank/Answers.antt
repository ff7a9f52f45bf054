use Rattle.std.proofs.Common.{ℕ, ◌==◌, refl, ap, arith}
use Rattle.bp_replay.proofs.Roots.{zeros, blank_keeps}
use Rattle.bp_replay.proofs.root.blank.Goals as goal

pub returns : goal.returns
returns c =
    blank_keeps c.args.given.now _ c.requires.task.sheet c.requires.task.bound refl c.loop-at.invariant.0 refl c.none_fails-fails.ensures.each
    (zeros 66) (λ u within. c.loop-at.invariant.1 u (omega (arith, within, c.loop-at-test.false))) (zeros 66) c.none_fails-fails.ensures.kept
    (ap (λ (b : ℕ). b == 0) c.bound.ensures.value)
