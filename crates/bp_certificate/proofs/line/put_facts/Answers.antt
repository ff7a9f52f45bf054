use Rattle.bp_text.proofs.Puts.{loop_exit, loop_all, puts_same}
use Rattle.bp_certificate.proofs.Parts.{spaced_fact, all_facts}
use Rattle.bp_certificate.proofs.line.put_facts.Goals as goal

pub returns-in_err-put_fact-clause-text : goal.returns-in_err-put_fact-clause-text
returns-in_err-put_fact-clause-text g c =
    puts_same _ _ _ _ _ (loop_exit spaced_fact _ _ _ _ _ c.args.facts.now c.loop-fact.fact-index _ c.loop-fact-test.true c.from_residual.ensures.0 c.loop-fact.invariant.0 c.in_err-put_fact.ensures.text) (all_facts c.args.facts.now)

pub returns-clause-text : goal.returns-clause-text
returns-clause-text g c =
    puts_same _ _ _ _ _ (loop_all spaced_fact _ _ _ c.args.facts.now c.loop-fact.fact-index c.loop-fact-test.false c.loop-fact.invariant.0) (all_facts c.args.facts.now)
