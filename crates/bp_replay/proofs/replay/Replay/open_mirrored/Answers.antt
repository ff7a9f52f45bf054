use Rattle.std.proofs.Common.{◌<◌, arith}
use Rattle.bp_base.specs.Tree.{leaf_count}
use Rattle.bp_replay.specs.Cells.{rows}
use Rattle.bp_replay.proofs.Feeding.{mirror_places}
use Rattle.bp_replay.proofs.replay.Replay.open_mirrored.Goals as goal

pub of-requires : goal.of-requires
of-requires c =
    let T = c.args.metric.now.tree in
    let few : leaf_count T < rows = omega (arith, c.tree.ensures.metric.tree.leaves_few) in
    mirror_places T c.args.mirror.now few c.requires.is_mirror.leaves
