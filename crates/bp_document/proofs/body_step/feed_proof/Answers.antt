use Rattle.std.proofs.Common.{◌∙◌}
use Rattle.bp_document.proofs.HeadSteps.{no_proof, proof_read, left_of}
use Rattle.bp_document.proofs.body_step.feed_proof.Goals as goal

pub returns-in-None-clause-stage : goal.returns-in-None-clause-stage
returns-in-None-clause-stage c = no_proof c.args.parts c.args.bytes.now c.args.m c.args.side c.in-None.ensures

pub returns-in-Some-clause-stage : goal.returns-in-Some-clause-stage
returns-in-Some-clause-stage c =
    proof_read c.args.parts c.args.bytes.now c.args.m c.args.side c.in-Some.proof c.unwrap_or-left.result c.head_of-head.result c.in-Some.ensures c.head_of-head.ensures (c.unwrap_or-left.ensures ∙ left_of c.in-Some.proof)
