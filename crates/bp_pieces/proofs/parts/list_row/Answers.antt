use Rattle.std.proofs.Common.{◌≡◌, ℕ, ◌+◌, ◌*◌, ◌<◌, [], ◌∷◌, ◌++◌, get_or, sym, ◌∙◌, ap, subst, arith}
use Rattle.std.proofs.lemmas.Bool.{false≢true}
use Rattle.std.proofs.lemmas.List.{get_or_read}
use Rattle.bp_base.specs.declared.point.Piece.{Piece}
use Rattle.bp_pieces.specs.Parts.{AreListed, part_for}
use Rattle.bp_pieces.proofs.Parted.{is_listed, listed_ended, not_listed}
use Rattle.bp_pieces.proofs.parts.list_row.Goals as goal
use Rattle.bp_pieces.proofs.parts.list_row.Goals.{then-is_first+in_ok-push, else-is_first}

pub loop-x-preserved : goal.loop-x-preserved
loop-x-preserved c =
    let C = c.args.cells.now in
    let L = c.args.found.now.labels.items in
    let A = c.args.found.now.areas.items in
    let W = c.args.found.now.wanted.items in
    let columns = c.args.columns.now in
    let rows = c.args.rows.now in
    let y = c.args.y in
    let x = c.loop-x.x in
    let x_in : x < C.width = omega (arith, c.loop-x-test.true, c.width-x-end.ensures.value) in
    elim c.if-is_first.branch [
      | then-is_first+in_ok-push w ↦
          let area_is : w.index.result.now ≡ get_or A (y * C.width + x) 0 = get_or_read A w.place.result w.index.result.now (omega (arith, w.place.ensures.within, c.requires.areas.long)) w.index.ensures 0 ∙ ap (λ (k : ℕ). get_or A k 0) w.place.ensures.value in
          let one : Piece = record { at = record { x = get_or columns x 0; y = get_or rows y 0 }; area = w.index.result.now } in
          let one_is : one ≡ part_for C columns rows A x y = λ i. record { at = record { x = get_or columns x 0; y = get_or rows y 0 }; area = area_is i } in
          is_listed C c.args.kind columns rows L A W c.requires.grid x y x_in c.requires.row c.loop-x.parts c.loop-x.invariant c.if-is_first.parts (c.is_first.ensures.0 w.if-is_first.true) (w.parts-is ∙ w.in_ok-push.ensures.ok ∙ ap (λ (p : Piece). c.loop-x.parts ++ p ∷ []) one_is)
      | else-is_first w ↦
          subst (AreListed C c.args.kind columns rows L A W (y * C.width + (x + 1))) (sym w.parts-is) (not_listed C c.args.kind columns rows L A W c.requires.grid x y x_in c.requires.row c.loop-x.parts c.loop-x.invariant (λ f. false≢true (sym w.if-is_first.false ∙ c.is_first.ensures.1 f)))
    ]

pub returns : goal.returns
returns c =
    listed_ended c.args.cells.now c.args.kind c.args.columns.now c.args.rows.now c.args.found.now.labels.items c.args.found.now.areas.items c.args.found.now.wanted.items c.loop-x.x c.args.y c.loop-x.parts (omega (arith, c.loop-x-test.false, c.loop-x.auto.x-end, c.width-x-end.ensures.value)) c.loop-x.invariant
