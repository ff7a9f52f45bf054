use Rattle.bp_engine.proofs.Answered.{not_fault}
use Rattle.bp_engine.proofs.answering.write_answer.Goals as goal

pub returns-in-Ok-clause-write : goal.returns-in-Ok-clause-write
returns-in-Ok-clause-write g c = λ is. absurd (not_fault c.args.answer.now.status c.requires is)
