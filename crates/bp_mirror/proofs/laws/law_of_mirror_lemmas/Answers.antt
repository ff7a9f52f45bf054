use Rattle.bp_mirror.proofs.Bounding.{mirrored_law}
use Rattle.bp_mirror.proofs.laws.law_of_mirror_lemmas.Goals as goal

pub returns : goal.returns
returns c = record { none = mirrored_law c.args.metric.now.tree c.leaves-leaves.ensures.metric.tree }
