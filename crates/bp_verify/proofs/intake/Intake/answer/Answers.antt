use Rattle.std.proofs.Common.{refl, sym, ap, ◌∙◌}
use Rattle.bp_certificate.specs.Scanning.{Progress}
use Rattle.bp_certificate.specs.Stages.{told_head}
use Rattle.bp_verify.proofs.Ending.{answered}
use Rattle.bp_verify.proofs.intake.Intake.answer.Goals as goal

pub returns : goal.returns
returns c = λ T bytes whole short.
    let p = c.args.self.now in
    let H = c.in-Some.head.now in
    let told = ap (λ (P : Progress). told_head P.stage) (sym c.in_ok-judge.ensures.scanner) ∙ c.in-Some.ensures.head in
    answered T p bytes H c.in_ok-judge.judge (record { verdict = c.verdict.result; side = H.side; bound = H.bound }) whole short told
    (λ text all ls scanned. c.in_ok-judge.ensures.judge T text all ls H scanned told) (c.verdict.ensures T) refl refl
