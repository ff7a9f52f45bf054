use Rattle.std.proofs.Common.{All, take}
use Rattle.bp_certificate.specs.Ranges.{IsLemma}
use Rattle.bp_solve.proofs.ranges.are_each_lemma.Given as goal

abbrev pub invariant-loop-at : goal.invariant-loop-at
invariant-loop-at l = All IsLemma (take l.at l.lemmas)
