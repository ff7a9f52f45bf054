use Rattle.bp_document.proofs.ReadBytes.{ends_fault, ends_document}
use Rattle.bp_document.proofs.read.end_document.Goals as goal

pub returns-in-Err : goal.returns-in-Err
returns-in-Err c = ends_fault c.args.scanner c.args.builder c.in-Err.fault c.in-Err.ensures

pub returns-in-Ok-finish : goal.returns-in-Ok-finish
returns-in-Ok-finish c = ends_document c.args.scanner c.args.builder c.in-Ok.head c.in-Ok-finish.proof c.document_of.result c.in-Ok.ensures c.in-Ok-finish.ensures c.document_of.ensures
