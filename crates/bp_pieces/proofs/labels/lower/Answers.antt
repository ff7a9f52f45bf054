use Rattle.std.proofs.Common.{refl, arith}
use Rattle.bp_pieces.proofs.Labelled.{lowered_has, old_there, place_there, settled, sum_less}
use Rattle.bp_pieces.proofs.labels.lower.Goals as goal

pub returns-then-least-old-clause-lowest : goal.returns-then-least-old-clause-lowest
returns-then-least-old-clause-lowest c = λ e a.
    settled c.args.cells.now c.args.kind c.args.labels.now c.requires.has c.args.x c.args.y c.least_near-near.result c.place-place.result a c.least_near-near.ensures.found c.least_near-near.ensures.own c.place-place.ensures.value c.if-least-old.true c.least_near-near.ensures.low

pub returns-clause-has : goal.returns-clause-has
returns-clause-has c =
    lowered_has c.args.cells.now c.args.kind c.args.labels.now c.requires.has c.args.x c.args.y c.least_near-near.result c.place-place.result (c.if-not-is_among.ensures.0 refl) c.least_near-near.ensures.found c.least_near-near.ensures.own c.place-place.ensures.value c.min.result c.min.ensures

pub returns-clause-less : goal.returns-clause-less
returns-clause-less c = λ e.
    let i = c.if-not-is_among.ensures.0 refl in
    sum_less c.args.labels.now c.place-place.result c.min.result _ (place_there c.args.cells.now c.args.kind c.args.labels.now c.requires.has c.args.x c.args.y c.least_near-near.result c.place-place.result i c.least_near-near.ensures.found c.least_near-near.ensures.own c.place-place.ensures.value) (old_there c.args.cells.now c.args.kind c.args.labels.now c.requires.has c.args.x c.args.y c.least_near-near.result c.place-place.result i c.least_near-near.ensures.found c.least_near-near.ensures.own c.place-place.ensures.value) (omega (arith, c.min.ensures)) c.if-least-old.false
