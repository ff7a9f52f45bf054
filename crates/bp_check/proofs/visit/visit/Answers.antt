use Rattle.std.proofs.Common.{arith}
use Rattle.bp_check.proofs.Visiting.{split_lines, split_less, closed_lines, closed_less, open_lines, open_less}
use Rattle.bp_check.proofs.visit.visit.Goals as goal

pub returns-in_ok-push-in-Split-clause-lines : goal.returns-in_ok-push-in-Split-clause-lines
returns-in_ok-push-in-Split-clause-lines c =
    split_lines c.args.levels.now.items c.push.new.self.items _ c.args.node.now c.in-Split.pair c.in-Split.children c.in-Split.is c.as_slice-children.ensures c.in_ok-push-in-Split.ensures.items c.args.metric.now.tree c.args.metric.now.sheet c.args.stack.now c.feed_split.new.self c.len-depth.result (omega (arith, c.len-depth.ensures, c.args.levels.now.ok)) c.feed_split.ensures.fed

pub returns-in_ok-push-in-Split-clause-less : goal.returns-in_ok-push-in-Split-clause-less
returns-in_ok-push-in-Split-clause-less c =
    split_less c.args.levels.now.items c.push.new.self.items _ c.args.node.now c.in-Split.pair c.in-Split.children c.in-Split.is c.as_slice-children.ensures c.in_ok-push-in-Split.ensures.items

pub returns-in-Closed-clause-lines : goal.returns-in-Closed-clause-lines
returns-in-Closed-clause-lines c =
    closed_lines c.args.levels.now.items c.args.node.now c.in-Closed.claim c.args.metric.now.tree c.args.metric.now.sheet c.args.stack.now c.feed_claim.new.self c.len-depth.result c.in-Closed.is (omega (arith, c.len-depth.ensures, c.args.levels.now.ok)) c.feed_claim.ensures.fed

pub returns-in-Closed-clause-less : goal.returns-in-Closed-clause-less
returns-in-Closed-clause-less c = closed_less c.args.levels.now.items c.args.node.now c.in-Closed.claim c.in-Closed.is

pub returns-in-Open-clause-lines : goal.returns-in-Open-clause-lines
returns-in-Open-clause-lines c =
    open_lines c.args.levels.now.items c.args.node.now c.in-Open.claim c.args.metric.now.tree c.args.metric.now.sheet c.args.stack.now c.feed_claim-in-Open.new.self c.len-depth.result c.in-Open.is (omega (arith, c.len-depth.ensures, c.args.levels.now.ok)) c.feed_claim-in-Open.ensures.fed

pub returns-in-Open-clause-less : goal.returns-in-Open-clause-less
returns-in-Open-clause-less c = open_less c.args.levels.now.items c.args.node.now c.in-Open.claim c.in-Open.is
