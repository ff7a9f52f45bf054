use Rattle.std.proofs.Common.{◌≡◌, drop}
use Rattle.std.specs.Cmp.Lexicographic.{slice_cmp}
use Rattle.std.specs.Ordering.{nat_cmp}
use Rattle.bp_join.specs.Trees.{path_cmp, choice_numbers}
use Rattle.bp_join.proofs.entry.compare.Given as goal

abbrev pub invariant-loop-k : goal.invariant-loop-k
invariant-loop-k l = path_cmp l.first l.second ≡ slice_cmp nat_cmp (choice_numbers (drop l.k l.first)) (choice_numbers (drop l.k l.second))
