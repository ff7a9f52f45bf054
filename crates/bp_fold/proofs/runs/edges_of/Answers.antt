use Rattle.std.proofs.Common.{◌≡◌, ℕ, length, arith, subst}
use Rattle.bp_fold.specs.Numbering.{AreEdgesBefore, points_of}
use Rattle.bp_fold.proofs.runs.edges_of.Goals as goal

pub returns : goal.returns
returns c =
    let M = c.args.mesh.now in
    let done : c.loop-from.from ≡ length c.args.corners.now = omega (arith, c.loop-from-test.false, c.loop-from.auto.from-end) in
    subst (λ (k : ℕ). AreEdgesBefore M.regions.now (points_of M.xs.now M.ys.now c.args.corners.now) k 0 c.loop-from.edges.items) done c.loop-from.invariant
