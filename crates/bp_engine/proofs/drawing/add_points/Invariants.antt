use Rattle.std.proofs.Common.{◌≡◌, ◌++◌, take}
use Rattle.std.specs.List.{flat_map}
use Rattle.bp_engine.specs.Documents.{point_words}
use Rattle.bp_engine.proofs.drawing.add_points.Given as goal

abbrev pub invariant-loop-point : goal.invariant-loop-point
invariant-loop-point l = l.text.items ≡ l.fn.text.items ++ flat_map point_words (take l.point-index l.points)
