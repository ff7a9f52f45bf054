use Rattle.std.proofs.Common.{refl, arith}
use Rattle.bp_path_tests.proofs.Searching.{one_closed}
use Rattle.bp_path_tests.proofs.join.close.Goals as goal

pub returns : goal.returns
returns c = one_closed c.args.metric.now.tree c.args.metric.now.sheet c.args.records.now.items c.push.new.self.items c.args.left.now.items c.remove-task.new.self.items c.args.at c.remove-task.result _ c.requires (omega (arith, c.len.ensures)) c.remove-task.ensures.value c.remove-task.ensures.items refl refl tt c.in_ok-push.ensures.items
