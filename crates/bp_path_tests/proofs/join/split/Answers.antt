use Rattle.std.proofs.Common.{refl, arith}
use Rattle.bp_path_tests.proofs.Searching.{one_split}
use Rattle.bp_path_tests.proofs.join.split.Goals as goal

pub returns : goal.returns
returns c = one_split c.args.metric.now.tree c.args.metric.now.sheet c.args.records.now.items c.push.new.self.items c.args.left.now.items c.remove-task.new.self.items c.add_children.new.left.items c.args.at c.args.pair c.remove-task.result _ c.requires (omega (arith, c.len.ensures)) c.remove-task.ensures.value c.remove-task.ensures.items (omega arith, omega arith, omega (arith, c.leaves.ensures.count)) refl refl c.in_ok-push.ensures.items c.in_ok-add_children.ensures.paths c.in_ok-add_children.ensures.pairs
