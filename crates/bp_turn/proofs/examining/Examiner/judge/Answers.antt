use Rattle.bp_turn.proofs.Rooms.{branch_room}
use Rattle.bp_turn.proofs.examining.Examiner.judge.Goals as goal

pub found-requires-clause-room : goal.found-requires-clause-room
found-requires-clause-room c = branch_room c.args.metric.now.tree c.leaves-leaves.ensures.metric.tree c.args.path.now c.requires.branch
