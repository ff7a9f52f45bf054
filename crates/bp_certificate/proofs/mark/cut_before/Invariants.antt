use Rattle.bp_certificate.proofs.Cutting.{IsFreeTo}
use Rattle.bp_certificate.proofs.mark.cut_before.Given as goal

abbrev pub invariant-loop-at : goal.invariant-loop-at
invariant-loop-at l = IsFreeTo l.mark l.bytes l.at
