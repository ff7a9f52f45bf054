use Rattle.bp_turn.proofs.Rooms.{branch_room}
use Rattle.bp_turn.proofs.examining.found_of_pairs.Goals as goal

pub found-requires-clause-room : goal.found-requires-clause-room
found-requires-clause-room c =
    branch_room c.args.metric.now.tree c.leaves-leaves.ensures.metric.tree c.args.path.now (record { pairs = c.requires.pairs; differ = c.requires.differ; no_cycle = c.requires.least.no_cycle })
