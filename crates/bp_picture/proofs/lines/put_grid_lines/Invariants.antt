use Rattle.std.proofs.Common.{◌-◌, ◌≤◌, max}
use Rattle.std.specs.List.{flat_map, range_with_len}
use Rattle.bp_base.specs.Causes.{Appends}
use Rattle.bp_picture.specs.PictureText.{grid_line}
use Rattle.bp_picture.proofs.lines.put_grid_lines.Given as goal

abbrev pub invariant-loop-k : goal.invariant-loop-k
invariant-loop-k g l =
    Appends (g.K.Sink.held l.fn.sink) (g.K.Sink.held l.sink) (flat_map (grid_line l.side) (range_with_len 1 (l.k - 1)))
    × (g.K.Sink.faults l.fn.sink ≤ g.K.Sink.faults l.sink) × (l.k ≤ max 1 l.side)
