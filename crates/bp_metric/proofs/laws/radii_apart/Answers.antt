use Rattle.bp_metric.proofs.Regions.{radii_beside}
use Rattle.bp_metric.proofs.laws.radii_apart.Goals as goal

pub returns : goal.returns
returns c = λ i j e f e_edge f_edge ef fe ie jf. radii_beside c.args.metric.now.tree c.leaves-leaves.ensures.metric.tree i j e f e_edge f_edge (ef, fe) ie jf
