use Rattle.std.proofs.Common.{inl, refl, arith}
use Rattle.bp_document.specs.declared.fault.DocKind.TheVariants.{TooLong}
use Rattle.bp_verify.proofs.Ending.{refuse}
use Rattle.bp_verify.proofs.own.read_head.Goals as goal

pub returns-then-bytes-gt-MOST_DOCUMENT_BYTES : goal.returns-then-bytes-gt-MOST_DOCUMENT_BYTES
returns-then-bytes-gt-MOST_DOCUMENT_BYTES c =
    refuse c.args.bytes.now (record { line = 0; kind = TooLong }) (c.law_of_one_certificate.ensures c.args.bytes.now) (inl (omega (arith, c.if-bytes-gt-MOST_DOCUMENT_BYTES.true), refl))
