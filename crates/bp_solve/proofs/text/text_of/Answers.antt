use Rattle.std.proofs.Common.{ap, arith, length, ◌∙◌}
use Rattle.bp_certificate.specs.Text.{certificate_text}
use Rattle.bp_solve.proofs.Fitted.{whole_text, within_text}
use Rattle.bp_solve.proofs.text.text_of.Goals as goal

pub returns-then-length-most : goal.returns-then-length-most
returns-then-length-most c =
    let within = within_text c.write_certificate-put.result _ c.write_certificate-put.new.sink.bytes.items (certificate_text c.args.certificate.now) c.write_certificate-put.ensures.text c.new-text.ensures in
    λ less. absurd (omega (arith, less, within, c.if-length-most.true, c.len-length.ensures))

pub returns-in-Ok : goal.returns-in-Ok
returns-in-Ok c =
    let whole = whole_text c.write_certificate-put.result _ _ c.write_certificate-put.new.sink.bytes.items (certificate_text c.args.certificate.now) c.in-Ok.is c.write_certificate-put.ensures.text c.new-text.ensures in
    (c.from_vec.ensures ∙ whole, omega (arith, ap length c.from_vec.ensures, c.if-length-most.false, c.len-length.ensures))
