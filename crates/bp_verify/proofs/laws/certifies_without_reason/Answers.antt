use Rattle.bp_verify.proofs.Reasoning.{none_fails}
use Rattle.bp_verify.proofs.laws.certifies_without_reason.Goals as goal

pub returns : goal.returns
returns c = λ T C r right first. none_fails T C right r first.fails
