use Rattle.std.proofs.Common.{List, length, refl, sym, ap, subst, arith}
use Rattle.std.specs.List.{All}
use Rattle.std.proofs.lemmas.List.{length_push}
use Rattle.std.proofs.lemmas.List.Elements.{All-push}
use Rattle.boxpleat_batch.specs.declared.pieces.Piece.{Piece}
use Rattle.boxpleat_batch.specs.Pieces.{IsWithin}
use Rattle.boxpleat_batch.proofs.Cuts.{IsCutTo, cut_all, cut_line, cut_mark, cut_none, mark_more}
use Rattle.boxpleat_batch.proofs.pieces.cut.Goals as goal

pub loop-here-init : goal.loop-here-init
loop-here-init c = record {
  cut = subst (λ (ps : List Piece). IsCutTo c.args.bytes.now ps 0 0) (sym c.new-pieces.ensures.items) (cut_none c.args.bytes.now);
  within = λ k d less. absurd (omega (arith, less, ap length c.new-pieces.ensures.items));
  few = omega (arith, c.new-pieces.ensures.len);
}

pub returns-then-len-ge-MOST_PIECES-clause-many : goal.returns-then-len-ge-MOST_PIECES-clause-many
returns-then-len-ge-MOST_PIECES-clause-many c = λ many.
    let more = mark_more c.args.bytes.now c.loop-here.pieces.items c.loop-here.from c.loop-here.at c.in-Some.here c.loop-here.invariant.cut c.in-Some.ensures (sym c.if-is_mark.ensures) in
    omega (arith, more, c.if-len-ge-MOST_PIECES.true, c.len.ensures, c.loop-here.pieces.ok)

pub loop-here-preserved-in_ok-add : goal.loop-here-preserved-in_ok-add
loop-here-preserved-in_ok-add c =
    let bytes = c.args.bytes.now in
    let old = c.loop-here.pieces.items in
    let piece : Piece = record { from = c.loop-here.from; to = c.loop-here.at } in
    let cut = c.loop-here.invariant.cut in
    let here : IsWithin (length bytes) piece = record { rising = cut.rising; within = cut.within } in
    record {
      cut = cut_mark bytes old c.add.new.pieces.items piece c.loop-here.from c.loop-here.at c.in-Some.here cut c.in-Some.ensures (sym c.if-is_mark.ensures) refl refl c.in_ok-add.ensures.ok;
      within = subst (All (IsWithin (length bytes))) (sym c.in_ok-add.ensures.ok) (All-push (IsWithin (length bytes)) old piece c.loop-here.invariant.within here);
      few = omega (arith, c.if-len-ge-MOST_PIECES.false, c.len.ensures, c.loop-here.pieces.ok, c.add.new.pieces.ok, ap length c.in_ok-add.ensures.ok, length_push old piece);
    }

pub loop-here-preserved : goal.loop-here-preserved
loop-here-preserved c = record {
  cut = cut_line c.args.bytes.now c.loop-here.pieces.items c.loop-here.from c.loop-here.at c.in-Some.here c.loop-here.invariant.cut c.in-Some.ensures (sym c.if-is_mark.ensures);
  within = c.loop-here.invariant.within;
  few = c.loop-here.invariant.few;
}

pub returns-clause-pieces : goal.returns-clause-pieces
returns-clause-pieces c =
    let piece : Piece = record { from = c.loop-here.from; to = length c.args.bytes.now } in
    cut_all c.args.bytes.now c.loop-here.pieces.items c.add-2.new.pieces.items piece c.loop-here.from c.loop-here.at c.loop-here.invariant.cut c.in_default.ensures refl refl c.in_ok-add-2.ensures.ok

pub returns-clause-within : goal.returns-clause-within
returns-clause-within c =
    let bytes = c.args.bytes.now in
    let old = c.loop-here.pieces.items in
    let piece : Piece = record { from = c.loop-here.from; to = length bytes } in
    let cut = c.loop-here.invariant.cut in
    let here : IsWithin (length bytes) piece = record { rising = omega (arith, cut.rising, cut.within); within = omega arith } in
    subst (All (IsWithin (length bytes))) (sym c.in_ok-add-2.ensures.ok) (All-push (IsWithin (length bytes)) old piece c.loop-here.invariant.within here)
