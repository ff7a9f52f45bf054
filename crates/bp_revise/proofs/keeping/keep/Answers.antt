use Rattle.bp_revise.proofs.Keeps.{proof_shape}
use Rattle.bp_revise.proofs.keeping.keep.Goals as goal

pub kept-requires : goal.kept-requires
kept-requires c = proof_shape c.args.metric.now.tree c.args.metric.now.sheet c.args.proof c.in-Some.refutation c.in-Some.is c.requires
