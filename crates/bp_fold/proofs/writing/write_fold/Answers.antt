use Rattle.std.proofs.Common.{◌++◌, List, map, sym, ap}
use Rattle.bp_text.proofs.Puts.{puts_first, puts_exit, puts_last, puts_same, writes_more}
use Rattle.bp_base.specs.declared.point.Point.{Point}
use Rattle.bp_fold.specs.declared.drawing.Edge.{Edge}
use Rattle.bp_fold.specs.declared.drawing.Letter.{Letter}
use Rattle.bp_fold.specs.FoldText.{commas, edge_text, edges_head, fold_text, head_text, last_text, letter_text, letters_head, point_text}
use Rattle.bp_fold.proofs.Commas.{three_parts, two_and_one}
use Rattle.bp_fold.proofs.writing.write_fold.Goals as goal

pub returns-in_err-put_head-clause-text : goal.returns-in_err-put_head-clause-text
unfolding fold_text
returns-in_err-put_head-clause-text g c =
    let D = c.args.drawing.now in
    puts_first ((edges_head ++ commas (map edge_text D.edges)) ++ (letters_head ++ commas (map letter_text D.letters) ++ last_text)) _ _ _ _ _ _ c.from_residual.ensures.0 (puts_same _ _ _ _ _ c.in_err-put_head.ensures.text (ap (λ (V : List Point). head_text ++ commas (map point_text V)) (sym c.as_slice.ensures))) (three_parts head_text (commas (map point_text D.vertices)) edges_head (commas (map edge_text D.edges)) letters_head (commas (map letter_text D.letters)) last_text)

pub returns-in_err-put_edges-clause-text : goal.returns-in_err-put_edges-clause-text
unfolding fold_text
returns-in_err-put_edges-clause-text g c =
    let D = c.args.drawing.now in
    puts_exit (letters_head ++ commas (map letter_text D.letters) ++ last_text) _ _ _ _ _ _ _ _ c.from_residual-in_err-put_edges.ensures.0 (puts_same _ _ _ _ _ c.in_ok-put_head.ensures.text (ap (λ (V : List Point). head_text ++ commas (map point_text V)) (sym c.as_slice.ensures))).all (puts_same _ _ _ _ _ c.in_err-put_edges.ensures.text (ap (λ (E : List Edge). edges_head ++ commas (map edge_text E)) (sym c.as_slice-2.ensures))) (three_parts head_text (commas (map point_text D.vertices)) edges_head (commas (map edge_text D.edges)) letters_head (commas (map letter_text D.letters)) last_text)

pub returns-clause-text : goal.returns-clause-text
unfolding fold_text
returns-clause-text g c =
    let D = c.args.drawing.now in
    puts_last _ _ _ _ _ _ _ (writes_more _ _ _ _ _ _ (puts_same _ _ _ _ _ c.in_ok-put_head.ensures.text (ap (λ (V : List Point). head_text ++ commas (map point_text V)) (sym c.as_slice.ensures))).all (puts_same _ _ _ _ _ c.in_ok-put_edges.ensures.text (ap (λ (E : List Edge). edges_head ++ commas (map edge_text E)) (sym c.as_slice-2.ensures)))) (puts_same _ _ _ _ _ c.put_letters.ensures.text (ap (λ (L : List Letter). letters_head ++ commas (map letter_text L) ++ last_text) (sym c.as_slice-3.ensures))) (two_and_one head_text (commas (map point_text D.vertices)) edges_head (commas (map edge_text D.edges)) letters_head (commas (map letter_text D.letters)) last_text)
