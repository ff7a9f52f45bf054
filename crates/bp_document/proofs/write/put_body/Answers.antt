use Rattle.std.proofs.Common.{◌++◌, []}
use Rattle.std.specs.Prelude.{codes}
use Rattle.bp_text.proofs.Puts.{puts_first, puts_exit, puts_last, writes_more}
use Rattle.bp_document.specs.Lines.{line, floor_line}
use Rattle.bp_document.specs.Text.{point_lines, proof_lines}
use Rattle.bp_document.proofs.BodyParts.{body_first, body_last, point_lines_of}
use Rattle.bp_document.proofs.write.put_body.Goals as goal

pub returns-in_err-put_start-clause-text : goal.returns-in_err-put_start-clause-text
returns-in_err-put_start-clause-text g c =
    let D = c.args.document.now in
    puts_first (point_lines D.tree D.points ++ (floor_line D.floor ++ proof_lines D.proof ++ line (codes "end") [])) _ _ _ _ _ _ c.from_residual.ensures.0 c.in_err-put_start.ensures.text (body_first D)

pub returns-in_err-put_points-clause-text : goal.returns-in_err-put_points-clause-text
returns-in_err-put_points-clause-text g c =
    let D = c.args.document.now in
    puts_exit (floor_line D.floor ++ proof_lines D.proof ++ line (codes "end") []) _ _ _ _ _ _ _ _ c.from_residual-in_err-put_points.ensures.0 c.in_ok-put_start.ensures.text.all (point_lines_of _ _ _ D.tree _ D.points c.as_slice.ensures c.in_err-put_points.ensures.text) (body_first D)

pub returns-clause-text : goal.returns-clause-text
returns-clause-text g c =
    let D = c.args.document.now in
    puts_last _ _ _ _ _ _ _ (writes_more _ _ _ _ _ _ c.in_ok-put_start.ensures.text.all (point_lines_of _ _ _ D.tree _ D.points c.as_slice.ensures c.in_ok-put_points.ensures.text)) c.put_rest.ensures.text (body_last D)
