use Rattle.std.proofs.Common.{◌∷◌, []}
use Rattle.crossbeam_deque.specs.Handles.{worker_view}
use Rattle.bp_pool.specs.Shares.{IsTaskOf}
use Rattle.bp_pool.proofs.Deques.{pushes, All_one}
use Rattle.bp_pool.proofs.deque.push.Goals as goal

pub push_as-requires-clause-pushes : goal.push_as-requires-clause-pushes
push_as-requires-clause-pushes c = pushes _ _ (c.args.task ∷ []) c.requires.0 (All_one (IsTaskOf (worker_view c.args.owner.now).facts.leaves) c.args.task c.requires.1)
