use Rattle.bp_document_tests.proofs.Rooms.{has_room}
use Rattle.bp_document_tests.proofs.revise.revise_read.Goals as goal

pub revise-requires-clause-room : goal.revise-requires-clause-room
revise-requires-clause-room c = has_room c.args.old.proof c.requires.ranges.proof
