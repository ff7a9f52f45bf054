use Rattle.std.proofs.Common.{arith}
use Rattle.boxpleat_batch.proofs.Inputs.{read_past}
use Rattle.boxpleat_batch.proofs.given.given.Goals as goal

pub returns-then-len-gt-MOST_BATCH_BYTES-clause-none : goal.returns-then-len-gt-MOST_BATCH_BYTES-clause-none
returns-then-len-gt-MOST_BATCH_BYTES-clause-none g c =
    read_past _ _ c.in-Ok.bytes.items c.in-Ok.ensures.bytes (omega (arith, c.if-len-gt-MOST_BATCH_BYTES.true, c.len.ensures, c.in-Ok.bytes.ok))
