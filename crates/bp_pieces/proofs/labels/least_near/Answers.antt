use Rattle.std.proofs.Common.{◌≡◌, ℕ, get_or, sym, ap, subst, arith}
use Rattle.bp_pieces.specs.Labels.{Among, IsFound, Near, label_at}
use Rattle.bp_pieces.proofs.Labelled.{among_within, near_range, own_found}
use Rattle.bp_pieces.proofs.labels.least_near.Goals as goal

pub loop-v-init : goal.loop-v-init
loop-v-init c =
    let In = Among c.args.cells.now c.args.kind in
    let w = c.args.cells.now.width in
    let at : get_or c.args.labels.now c.place.result 0 ≡ label_at w c.args.labels.now c.args.x c.args.y = ap (λ (k : ℕ). get_or c.args.labels.now k 0) c.place.ensures.value in (
      omega (arith, at),
      subst (IsFound In (Near c.args.kind) w c.args.labels.now c.args.x c.args.y) (sym at) (own_found In (Near c.args.kind) w c.args.labels.now c.args.x c.args.y c.requires.cell),
      λ j k less a n. absurd (omega (arith, less, c.saturating_sub-v.ensures, (near_range c.args.kind c.args.x c.args.y j k n).2)),
    )

pub returns-clause-low : goal.returns-clause-low
returns-clause-low c = λ u v a n.
    c.loop-v.invariant.2 u v (omega (arith, c.loop-v-test.false, c.min-v-end.ensures, (among_within c.args.cells.now c.args.kind u v a).1, (near_range c.args.kind c.args.x c.args.y u v n).3)) a n
