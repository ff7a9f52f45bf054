use Rattle.std.proofs.lemmas.Result.{IfOk-weaker}
use Rattle.bp_design.proofs.Searches.{opening_above}
use Rattle.bp_design.proofs.searched.searched.Goals as goal

pub design_of-requires-clause-above : goal.design_of-requires-clause-above
design_of-requires-clause-above g c = opening_above c.args.metric.now.tree c.args.metric.now.sheet c.args.opening c.args.floor c.requires.opening c.requires.apart c.one_opening.ensures

pub returns : goal.returns
returns g c = IfOk-weaker c.design_of.result _ _ (λ D all. all c.args.budget c.in_ok-settled.ensures) c.design_of.ensures.searched
