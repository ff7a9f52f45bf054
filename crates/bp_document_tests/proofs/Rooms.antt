-- What was read as a document has room for its proof.
use Rattle.std.proofs.Common.{Option, None, Some}
use Rattle.bp_base.specs.declared.refutation.Refutation.{Refutation}
use Rattle.bp_document.specs.Ranges.{HasProof}
use Rattle.bp_revise.specs.Revised.{HasRoom}

pub has_room : (proof : Option Refutation) → HasProof proof → HasRoom proof
has_room None has = tt
has_room (Some r) has = has.lines
