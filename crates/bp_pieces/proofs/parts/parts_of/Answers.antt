use Rattle.std.proofs.Common.{ℕ, ◌*◌, List, subst, arith}
use Rattle.bp_pieces.specs.Parts.{AreAreas, AreWanted}
use Rattle.bp_pieces.proofs.Parted.{all_listed}
use Rattle.bp_pieces.proofs.parts.parts_of.Goals as goal

pub returns : goal.returns
returns c =
    let C = c.args.cells.now in
    let columns = c.args.columns.now in
    let rows = c.args.rows.now in
    let L = c.in_ok-labels.labels.items in
    let A = c.in_ok-areas.areas.items in
    let W = c.in_ok-wanted.wanted.items in
    record {
      labels = L;
      areas = A;
      wanted = W;
      labelled = c.in_ok-labels.ensures;
      measured = subst (λ (l : List ℕ). AreAreas C c.args.kind columns rows l C.height A) c.deref.ensures.value c.in_ok-areas.ensures;
      chosen = subst (λ (l : List ℕ). AreWanted C c.args.kind l (C.width * C.height) W) c.deref-2.ensures.value c.in_ok-wanted.ensures;
      listed = all_listed C c.args.kind columns rows L A W c.loop-y.y c.loop-y.parts (omega (arith, c.loop-y-test.false, c.loop-y.auto.y-end, c.height-y-end.ensures.value)) c.loop-y.invariant;
    }
