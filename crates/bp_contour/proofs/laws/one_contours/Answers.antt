use Rattle.bp_regions.specs.Cells.{Reach}
use Rattle.bp_contour.proofs.Unique.{one_list}
use Rattle.bp_contour.proofs.laws.one_contours.Goals as goal

pub returns : goal.returns
returns c = λ S P e. one_list (Reach c.args.metric.now.tree S P e)
