use Rattle.std.proofs.Common.{◌∷◌, []}
use Rattle.std.specs.Prelude.{codes, decimal}
use Rattle.bp_text.proofs.Puts.{puts_first, puts_last}
use Rattle.bp_document.specs.Lines.{line}
use Rattle.bp_document.specs.Text.{edge_lines, point_lines}
use Rattle.bp_document.proofs.BodyParts.{point_lines_of}
use Rattle.bp_certificate.specs.Text.{places_text}
use Rattle.bp_certificate.proofs.Parts.{four}
use Rattle.bp_certificate.proofs.write.put_places.Goals as goal

pub returns-in_err-put_sizes-clause-text : goal.returns-in_err-put_sizes-clause-text
unfolding places_text
returns-in_err-put_sizes-clause-text g c =
    let C = c.args.certificate.now in
    puts_first (point_lines C.tree C.points) _ _ _ _ _ _ c.from_residual.ensures.0 c.in_err-put_sizes.ensures.text
    (four (edge_lines C.tree) (line (codes "side") (decimal C.side ∷ [])) (line (codes "bound") (decimal C.bound ∷ [])) (point_lines C.tree C.points))

pub returns-clause-text : goal.returns-clause-text
unfolding places_text
returns-clause-text g c =
    let C = c.args.certificate.now in
    puts_last _ _ _ _ _ _ _ c.in_ok-put_sizes.ensures.text.all (point_lines_of _ _ _ C.tree _ C.points c.as_slice.ensures c.put_points.ensures.text)
    (four (edge_lines C.tree) (line (codes "side") (decimal C.side ∷ [])) (line (codes "bound") (decimal C.bound ∷ [])) (point_lines C.tree C.points))
