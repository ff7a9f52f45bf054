use Rattle.std.proofs.Common.{refl}
use Rattle.bp_check.proofs.Kept.{claim_is}
use Rattle.bp_check.proofs.stack.Stack.add_claim.Goals as goal

pub returns-clause-claim : goal.returns-clause-claim
returns-clause-claim c =
    claim_is c.args.metric.now.tree c.args.metric.now.sheet c.args.self.now _ c.args.claim.now c.requires.kept.path refl refl refl c.joined_claim-self.ensures
