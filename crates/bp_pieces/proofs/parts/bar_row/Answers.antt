use Rattle.std.proofs.Common.{◌+◌, ◌*◌, ◌<◌, sym, ◌∙◌, subst, arith}
use Rattle.std.proofs.lemmas.Bool.{false≢true}
use Rattle.bp_pieces.specs.Parts.{AreWanted}
use Rattle.bp_pieces.proofs.Parted.{closed_kept, open_barred, row_ended}
use Rattle.bp_pieces.proofs.parts.bar_row.Goals as goal
use Rattle.bp_pieces.proofs.parts.bar_row.Goals.{then-is_open, else-is_open}

pub loop-x-preserved : goal.loop-x-preserved
loop-x-preserved c =
    let C = c.args.cells.now in
    let L = c.args.labels.now in
    let x = c.loop-x.x in
    let x_in : x < C.width = omega (arith, c.loop-x-test.true, c.width-x-end.ensures.value) in
    elim c.if-is_open.branch [
      | then-is_open w ↦
          open_barred C c.args.kind L x c.args.y x_in c.loop-x.wanted c.loop-x.invariant w.label_of.result c.if-is_open.wanted (c.is_open.ensures.0 w.if-is_open.true) w.label_of.ensures.value (omega (arith, w.label_of.ensures.within, c.loop-x.invariant.long)) w.wanted-is
      | else-is_open w ↦
          subst (AreWanted C c.args.kind L (c.args.y * C.width + (x + 1))) (sym w.wanted-is) (closed_kept C c.args.kind L x c.args.y x_in c.loop-x.wanted c.loop-x.invariant (λ o. false≢true (sym w.if-is_open.false ∙ c.is_open.ensures.1 o)))
    ]

pub returns : goal.returns
returns c =
    row_ended c.args.cells.now c.args.kind c.args.labels.now c.loop-x.x c.args.y c.loop-x.wanted (omega (arith, c.loop-x-test.false, c.loop-x.auto.x-end, c.width-x-end.ensures.value)) c.loop-x.invariant
