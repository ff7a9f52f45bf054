use Rattle.bp_revise.proofs.Keeps.{kept_fewer, proof_kept}
use Rattle.bp_revise.proofs.laws.law_of_keep.Goals as goal

pub returns-clause-fits : goal.returns-clause-fits
returns-clause-fits c = λ S start proof shape fits.
    proof_kept c.args.metric.now.tree c.leaves-leaves.ensures.metric.tree c.args.metric.now.sheet start S shape proof fits

pub returns-clause-fewer : goal.returns-clause-fewer
returns-clause-fewer c = λ start r. kept_fewer c.args.metric.now.tree c.args.metric.now.sheet start r
