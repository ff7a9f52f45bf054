use Rattle.std.proofs.Common.{ℕ, ◌+◌, ◌-◌, ◌<◌, ◌≡◌, get_or, length, refl, sym, ◌∙◌, subst, arith}
use Rattle.std.proofs.lemmas.Bool.{false≢true}
use Rattle.bp_pieces.specs.Parts.{AreAdded}
use Rattle.bp_pieces.proofs.Measured.{area_fits, column_passed, column_taken, none_added, row_measured}
use Rattle.bp_pieces.proofs.parts.measure_row.Goals as goal
use Rattle.bp_pieces.proofs.parts.measure_row.Goals.{then-is_among, else-is_among}

pub loop-x-init : goal.loop-x-init
loop-x-init c =
    none_added c.args.cells.now c.args.kind c.args.columns.now c.args.rows.now c.args.labels.now c.requires.grid c.args.y _ c.args.areas.now

pub overflow_mul-areas : goal.overflow_mul-areas
overflow_mul-areas c =
    let x_in : c.loop-x.x < c.args.cells.now.width = omega (arith, c.loop-x-test.true, c.width-x-end.ensures.value) in
    let own_in : c.label_of-label.result < length c.loop-x.areas = omega (arith, c.label_of-label.ensures.within, c.loop-x.invariant.long, c.requires.before.long) in
    omega (arith, area_fits c.args.cells.now c.args.kind c.args.columns.now c.args.rows.now c.args.labels.now c.requires.grid c.args.y c.loop-x.x c.label_of-label.result _ c.args.areas.now c.loop-x.areas c.requires.row x_in c.requires.before c.loop-x.invariant own_in refl)

pub overflow_add-areas-then-is_among : goal.overflow_add-areas-then-is_among
overflow_add-areas-then-is_among c =
    let x_in : c.loop-x.x < c.args.cells.now.width = omega (arith, c.loop-x-test.true, c.width-x-end.ensures.value) in
    let own_in : c.label_of-label.result < length c.loop-x.areas = omega (arith, c.label_of-label.ensures.within, c.loop-x.invariant.long, c.requires.before.long) in
    omega (arith, area_fits c.args.cells.now c.args.kind c.args.columns.now c.args.rows.now c.args.labels.now c.requires.grid c.args.y c.loop-x.x c.label_of-label.result _ c.args.areas.now c.loop-x.areas c.requires.row x_in c.requires.before c.loop-x.invariant own_in refl)

pub loop-x-preserved : goal.loop-x-preserved
loop-x-preserved c =
    let C = c.args.cells.now in
    let L = c.args.labels.now in
    let y = c.args.y in
    let x = c.loop-x.x in
    let height = get_or c.args.rows.now (y + 1) 0 - get_or c.args.rows.now y 0 in
    let x_in : x < C.width = omega (arith, c.loop-x-test.true, c.width-x-end.ensures.value) in
    elim c.if-is_among.branch [
      | then-is_among w ↦
          column_taken C c.args.kind c.args.columns.now c.args.rows.now L c.requires.grid y height x c.args.areas.now c.loop-x.areas x_in c.loop-x.invariant w.label_of-label.result c.if-is_among.areas (c.is_among.ensures.0 w.if-is_among.true) w.label_of-label.ensures.value (omega (arith, w.label_of-label.ensures.within, c.loop-x.invariant.long, c.requires.before.long)) w.areas-is
      | else-is_among w ↦
          subst (AreAdded C c.args.kind c.args.columns.now L y height (x + 1) c.args.areas.now) (sym w.areas-is) (column_passed C c.args.kind c.args.columns.now c.args.rows.now L c.requires.grid y height x c.args.areas.now c.loop-x.areas x_in c.loop-x.invariant (λ a. false≢true (sym w.if-is_among.false ∙ c.is_among.ensures.1 a)))
    ]

pub returns : goal.returns
returns c =
    let C = c.args.cells.now in
    let L = c.args.labels.now in
    let y = c.args.y in
    let height = get_or c.args.rows.now (y + 1) 0 - get_or c.args.rows.now y 0 in
    let x_is : c.loop-x.x ≡ C.width = omega (arith, c.loop-x-test.false, c.loop-x.auto.x-end, c.width-x-end.ensures.value) in
    row_measured C c.args.kind c.args.columns.now c.args.rows.now L c.requires.grid y c.args.areas.now c.loop-x.areas c.requires.row c.requires.before (subst (λ (n : ℕ). AreAdded C c.args.kind c.args.columns.now L y height n c.args.areas.now c.loop-x.areas) x_is c.loop-x.invariant)
