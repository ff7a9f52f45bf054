use Rattle.bp_document.proofs.Cuts.{IsFreeTo}
use Rattle.bp_document.proofs.cut.split_word.Given as goal

abbrev pub invariant-loop-at : goal.invariant-loop-at
invariant-loop-at l = IsFreeTo l.bytes l.at
