use Rattle.std.proofs.Common.{subst}
use Rattle.bp_verify.specs.declared.found.Found.TheVariants.{NoLemmas, WrongLemma, Standing}
use Rattle.bp_verify.specs.Judged.{HasJudged}
use Rattle.bp_verify.proofs.Judged.{as_found, verdict_none, verdict_standing, verdict_wrong}
use Rattle.bp_verify.proofs.judge.Judge.verdict.Goals.{in-NoLemmas, in-Standing, in-Wrong}
use Rattle.bp_verify.proofs.judge.Judge.verdict.Goals as goal

pub returns-in-Refused : goal.returns-in-Refused
returns-in-Refused c = λ T ls judged. (subst (HasJudged T c.args.head.now ls) c.in-Refused.is judged) ls

pub returns : goal.returns
returns c = λ T ls judged.
    let H = c.args.head.now in
    let law = c.law_of_verdicts.ensures in
    elim c.match-self.branch [
      | in-NoLemmas w ↦ as_found T H ls law c.verdict_of.result c.match-self.found NoLemmas c.verdict_of.ensures w.found-is (verdict_none T H ls law (subst (HasJudged T H ls) w.in-NoLemmas.is judged))
      | in-Standing w ↦ as_found T H ls law c.verdict_of.result c.match-self.found (Standing w.proved.result) c.verdict_of.ensures w.found-is (verdict_standing T H ls law w.in-Standing.replay _ w.proved.result w.proved.ensures.exact (subst (HasJudged T H ls) w.in-Standing.is judged))
      | in-Wrong w ↦ as_found T H ls law c.verdict_of.result c.match-self.found (WrongLemma w.in-Wrong.number) c.verdict_of.ensures w.found-is (verdict_wrong T H ls law w.in-Wrong.number (subst (HasJudged T H ls) w.in-Wrong.is judged))
    ]
