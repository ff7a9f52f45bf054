use Rattle.std.proofs.Common.{◌∷◌, []}
use Rattle.crossbeam_deque.specs.Handles.{worker_view}
use Rattle.bp_pool.specs.Shares.{IsTaskOf}
use Rattle.bp_pool.proofs.Deques.{gives, All_one}
use Rattle.bp_pool.proofs.deque.give.Goals as goal

pub push_as-requires-clause-pushes : goal.push_as-requires-clause-pushes
push_as-requires-clause-pushes c = gives _ _ (c.args.task ∷ []) c.requires.all.0 c.requires.all.1 (All_one (IsTaskOf (worker_view c.args.owner.now).facts.leaves) c.args.task c.requires.good)
