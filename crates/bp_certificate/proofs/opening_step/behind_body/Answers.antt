use Rattle.bp_certificate.proofs.OpeningSteps.{next_body, next_count}
use Rattle.bp_certificate.proofs.opening_step.behind_body.Goals as goal

pub returns-in-Proof : goal.returns-in-Proof
returns-in-Proof c = next_count c.args.stage c.in-Proof.parts c.in-Proof.m c.in-Proof.side c.head_of.result c.in-Proof.is c.head_of.ensures

pub returns-in_default : goal.returns-in_default
returns-in_default c = next_body c.args.stage c.in_default.not-Proof
