use Rattle.bp_bench.proofs.Joins.{left_pairs, records_pairs}
use Rattle.bp_bench.proofs.joined.Goals as goal

pub join-requires-clause-splits : goal.join-requires-clause-splits
join-requires-clause-splits c =
    records_pairs c.args.metric.now.tree c.leaves-leaves.ensures.metric.tree c.args.metric.now.sheet _ c.args.settled c.requires c.into_vec.result.items c.into_vec.ensures

pub join-requires-clause-paths : goal.join-requires-clause-paths
join-requires-clause-paths c =
    left_pairs c.args.metric.now.tree c.leaves-leaves.ensures.metric.tree c.args.metric.now.sheet _ c.args.settled c.requires c.into_vec-2.result.items c.into_vec-2.ensures
