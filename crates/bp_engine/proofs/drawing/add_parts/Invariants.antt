use Rattle.std.proofs.Common.{◌≡◌, ◌++◌, take}
use Rattle.std.specs.List.{flat_map}
use Rattle.bp_engine.specs.Documents.{part_line}
use Rattle.bp_engine.proofs.drawing.add_parts.Given as goal

abbrev pub invariant-loop-part : goal.invariant-loop-part
invariant-loop-part l = l.text.items ≡ l.fn.text.items ++ flat_map (part_line l.word) (take l.part-index l.parts)
