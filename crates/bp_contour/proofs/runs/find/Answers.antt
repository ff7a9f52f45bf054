use Rattle.std.proofs.Common.{◌+◌, ◌-◌, ◌/◌, ◌∙◌, ℕ, arith, sym}
use Rattle.std.proofs.lemmas.Bool.{false≢true}
use Rattle.bp_contour.proofs.Listing.{lower_half, upper_half}
use Rattle.bp_contour.proofs.runs.find.Goals as goal

pub loop-high-preserved-then-is_before : goal.loop-high-preserved-then-is_before
loop-high-preserved-then-is_before c =
    let middle : ℕ = c.loop-high.low + (c.loop-high.high - c.loop-high.low) / 2 in
    lower_half c.args.runs.now c.requires.rising c.args.way c.args.from c.loop-high.low c.loop-high.high middle c.loop-high.invariant (omega arith) (c.is_before.ensures.0 c.if-is_before.true)

pub loop-high-preserved : goal.loop-high-preserved
loop-high-preserved c =
    let middle : ℕ = c.loop-high.low + (c.loop-high.high - c.loop-high.low) / 2 in
    upper_half c.args.runs.now c.requires.rising c.args.way c.args.from c.loop-high.low c.loop-high.high middle c.loop-high.invariant (omega arith) (λ h. false≢true (sym c.if-is_before.false ∙ c.is_before.ensures.1 h))
