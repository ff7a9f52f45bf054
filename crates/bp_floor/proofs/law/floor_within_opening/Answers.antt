use Rattle.std.proofs.Common.{inl, inr, sym, subst, arith}
use Rattle.std.proofs.lemmas.Bool.{cases_lt}
use Rattle.bp_metric.specs.Floor.{FloorHolds}
use Rattle.bp_metric.specs.Opening.{side_of}
use Rattle.bp_floor.proofs.BoxCounts.{floor_law}
use Rattle.bp_floor.proofs.Choice.{found_pair}
use Rattle.bp_floor.proofs.law.floor_within_opening.Goals as goal

pub returns : goal.returns
returns c l u at_floor at_opening =
    let T = c.args.metric.now.tree in
    let G = c.args.metric.now.sheet in
    let f = at_floor.is_floor in
    let holds : FloorHolds T G at_floor.floor = subst (FloorHolds T G) (sym f.is) (found_pair T c.leaves-count.ensures.metric.tree G f.i f.j f.pair).holds in
    elim (cases_lt u l) [
      | inl less ↦
          absurd (floor_law T G at_floor.floor holds 1 (side_of G at_opening.opening) at_opening.opening (omega arith) (omega (arith, less, at_floor.is_side, at_opening.is_side)) (c.opening_valid.ensures at_opening.opening at_opening.is_opening))
      | inr most ↦ most
    ]
