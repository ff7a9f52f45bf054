use Rattle.bp_path_tests.proofs.Searching.{turned}
use Rattle.bp_path_tests.proofs.join.turn_round.Goals as goal

pub returns : goal.returns
returns c = turned c.args.metric.now.tree c.args.metric.now.sheet c.args.records.now.items c.reverse.new.self.items c.args.left.now.items c.reverse-2.new.self.items c.requires c.reverse.ensures.permutation c.reverse-2.ensures.permutation
