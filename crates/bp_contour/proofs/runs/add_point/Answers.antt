use Rattle.bp_contour.specs.Table.{Holds}
use Rattle.bp_contour.proofs.Listing.{plain_done, point_done}
use Rattle.bp_contour.proofs.runs.add_point.Goals as goal

pub returns : goal.returns
returns c =
    point_done (Holds c.args.cells.now) c.add_way-4.new.runs.items c.args.at.y c.args.at.x c.in_ok-add_way-4.ensures

pub returns-then-is_plain : goal.returns-then-is_plain
returns-then-is_plain c =
    plain_done (Holds c.args.cells.now) c.args.runs.now.items c.args.at c.requires (c.is_plain.ensures c.if-is_plain.true)
