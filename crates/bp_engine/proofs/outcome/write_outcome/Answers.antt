use Rattle.bp_engine.proofs.Outcomes.{written}
use Rattle.bp_engine.proofs.outcome.write_outcome.Goals as goal

pub returns-in-Ok-clause-writes : goal.returns-in-Ok-clause-writes
returns-in-Ok-clause-writes g c =
    written (λ v. v.items) c.args.draws c.args.document _ _ c.in-Ok.drawing c.in-Ok.ensures c.deref.result.now c.args.text.items c.deref.ensures.value c.status_of-status.result c.write_texts.result c.status_of-status.ensures.done c.status_of-status.ensures.gave_up c.write_texts.ensures.texts
