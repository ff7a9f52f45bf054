use Rattle.std.proofs.Common.{◌≡◌, map, take}
use Rattle.bp_fold.specs.Edges.{letter_of}
use Rattle.bp_fold.proofs.runs.letters_of.Given as goal

abbrev pub invariant-loop-edge : goal.invariant-loop-edge
invariant-loop-edge l = l.letters.items ≡ map (letter_of l.side l.vertices) (take l.edge-index l.edges)
