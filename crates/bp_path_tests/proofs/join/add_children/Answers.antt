use Rattle.bp_path_tests.proofs.Searching.{child_left}
use Rattle.bp_path_tests.proofs.join.add_children.Goals as goal

pub loop-k-preserved : goal.loop-k-preserved
loop-k-preserved c =
    let more = child_left c.args.metric.now.tree c.args.metric.now.sheet c.args.path.now c.args.pair _ c.args.left.now.items c.loop-k.left.items c.push.new.self.items _ c.loop-k.k c.at.result c.allowed-choices.ensures c.at.ensures c.loop-k.invariant.paths c.loop-k.invariant.pairs c.requires.pair c.requires.path c.in_ok-extended.ensures c.in_ok-push.ensures.items in
    record { paths = more.0; pairs = more.1 }
