use Rattle.std.proofs.Common.{◌≤◌, ℕ}
use Rattle.std.specs.List.{flat_map, range_with_len}
use Rattle.bp_base.specs.Causes.{Appends}
use Rattle.bp_picture.specs.Outlines.{outline_at}
use Rattle.bp_picture.specs.PictureText.{region_text}
use Rattle.bp_picture.proofs.region.put_regions.Given as goal

abbrev pub invariant-loop-k : goal.invariant-loop-k
invariant-loop-k g l =
    Appends (g.K.Sink.held l.fn.sink) (g.K.Sink.held l.sink) (flat_map (λ (e : ℕ). region_text l.tree l.side e (outline_at l.outlines e).loops) (range_with_len 1 l.k))
    × (g.K.Sink.faults l.fn.sink ≤ g.K.Sink.faults l.sink)
