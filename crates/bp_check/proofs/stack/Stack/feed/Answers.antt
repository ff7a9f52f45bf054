use Rattle.bp_document.specs.declared.node_line.NodeKind.TheVariants.{Split, Closed}
use Rattle.bp_check.proofs.Taking.{feeds, feeds_open}
use Rattle.bp_check.proofs.stack.Stack.feed.Goals as goal

pub returns-in-Split-clause-taken : goal.returns-in-Split-clause-taken
returns-in-Split-clause-taken c =
    feeds c.args.metric.now.tree c.args.metric.now.sheet c.args.self.now c.feed_split.new.self c.args.line.now (Split c.in-Split.pair) c.in-Split.is c.feed_split.ensures.fed c.feed_split.ensures.kept

pub returns-in-Closed-clause-taken : goal.returns-in-Closed-clause-taken
returns-in-Closed-clause-taken c =
    feeds c.args.metric.now.tree c.args.metric.now.sheet c.args.self.now c.feed_claim.new.self c.args.line.now (Closed c.in-Closed.claim) c.in-Closed.is c.feed_claim.ensures.fed c.feed_claim.ensures.kept

pub returns-in-Open-clause-taken : goal.returns-in-Open-clause-taken
returns-in-Open-clause-taken c =
    feeds_open c.args.metric.now.tree c.args.metric.now.sheet c.args.self.now c.feed_claim-in-Open.new.self c.args.line.now c.in-Open.claim c.in-Open.is c.feed_claim-in-Open.ensures.fed c.feed_claim-in-Open.ensures.kept
