use Rattle.std.proofs.Common.{◌≡◌, ◌++◌, take, map}
use Rattle.std.specs.List.{flat_map}
use Rattle.bp_contour.specs.declared.loops.Loop.{Loop}
use Rattle.bp_engine.specs.Documents.{loop_line}
use Rattle.bp_engine.proofs.drawing.add_loops.Given as goal

abbrev pub invariant-loop-around : goal.invariant-loop-around
invariant-loop-around l = l.text.items ≡ l.fn.text.items ++ flat_map loop_line (map (λ (r : Loop). r.points) (take l.around-index l.loops))
