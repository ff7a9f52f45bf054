use Rattle.std.proofs.Common.{length, refl}
use Rattle.bp_metric.proofs.Sampled.{made_tree}
use Rattle.bp_samples.proofs.trees.tree.Goals as goal

pub of-requires : goal.of-requires
of-requires c =
    made_tree c.args.parents.now c.args.lengths.now c.in_ok-parents.parents.items c.in_ok-lengths.lengths.items c.in_ok-names.names.items (length c.args.parents.now) c.requires c.in_ok-parents.ensures.items c.in_ok-lengths.ensures.items c.in_ok-names.ensures refl
