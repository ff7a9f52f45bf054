use Rattle.std.proofs.Common.{codes, drop}
use Rattle.std.proofs.lemmas.Bool.Decides.{Decides-eqb}
use Rattle.std.proofs.lemmas.Slice.Eq.{starts_is}
use Rattle.bp_engine.proofs.drawing.opens_certificate.Goals as goal

pub returns : goal.returns
returns c =
    let bytes = c.args.bytes.now in
    let begins = starts_is Decides-eqb bytes (codes "boxpleat 3\n") c.starts_with.result c.starts_with.ensures.value in
    ((λ yes. (drop 11 bytes, begins.0 yes)), (λ opens. begins.1 opens.0 opens.1))
