use Rattle.std.proofs.Common.{arith}
use Rattle.bp_certificate.proofs.LineForms.{lemma_exact, long_lemma}
use Rattle.bp_certificate.proofs.lemma_form.read_lemma.Goals as goal

pub returns-then-bytes-gt-MOST_LINE_BYTES : goal.returns-then-bytes-gt-MOST_LINE_BYTES
returns-then-bytes-gt-MOST_LINE_BYTES c = long_lemma c.args.bytes.now (omega (arith, c.if-bytes-gt-MOST_LINE_BYTES.true))

pub returns : goal.returns
returns c = lemma_exact c.args.bytes.now c.lemma_of.result (omega (arith, c.if-bytes-gt-MOST_LINE_BYTES.false)) c.lemma_of.ensures
