use Rattle.std.proofs.Common.{◌∙◌, sym}
use Rattle.std.proofs.lemmas.Bool.{false≢true}
use Rattle.bp_contour.specs.Table.{Holds}
use Rattle.bp_contour.proofs.Listing.{runs_more, runs_same}
use Rattle.bp_contour.proofs.runs.add_way.Goals as goal

pub returns-in_ok-push : goal.returns-in_ok-push
returns-in_ok-push c =
    runs_more (Holds c.args.cells.now) c.args.runs.now.items c.push.new.self.items c.args.way c.args.at c.end-to.result c.requires c.end-to.ensures c.in_ok-push.ensures.items

pub returns-else-begins : goal.returns-else-begins
returns-else-begins c =
    runs_same (Holds c.args.cells.now) c.args.runs.now.items c.args.way c.args.at c.requires (λ h. false≢true (sym c.if-begins.false ∙ c.begins.ensures.1 h))
