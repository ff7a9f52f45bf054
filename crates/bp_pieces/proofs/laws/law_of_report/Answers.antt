use Rattle.bp_regions.specs.Cells.{Reach}
use Rattle.bp_pieces.proofs.Unique.{one_report}
use Rattle.bp_pieces.proofs.laws.law_of_report.Goals as goal

pub returns : goal.returns
returns c = λ S P e. one_report (Reach c.args.metric.now.tree S P e) S
