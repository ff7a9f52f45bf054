use Rattle.std.proofs.Common.{ap, arith, length, refl}
use Rattle.std.proofs.lemmas.Bool.{false≢true}
use Rattle.bp_certificate.specs.Lines.{lemma_line}
use Rattle.bp_solve.proofs.Fitted.{whole_text, within_text}
use Rattle.bp_solve.proofs.text.is_short.Goals as goal

pub returns-then-length-most : goal.returns-then-length-most
returns-then-length-most c =
    let within = within_text c.put_lemma-put.result _ c.put_lemma-put.new.sink.bytes.items (lemma_line c.args.lemma.now) c.put_lemma-put.ensures.text c.new-line.ensures in
    (λ never. absurd (false≢true never), λ less. absurd (omega (arith, less, within, c.if-length-most.true, c.len-length.ensures)))

pub returns-in-Ok : goal.returns-in-Ok
returns-in-Ok c =
    let whole = whole_text c.put_lemma-put.result _ _ c.put_lemma-put.new.sink.bytes.items (lemma_line c.args.lemma.now) c.in-Ok.is c.put_lemma-put.ensures.text c.new-line.ensures in
    (λ is. omega (arith, ap length whole, c.if-length-most.false, c.len-length.ensures), λ less. refl)
