use Rattle.bp_certificate.proofs.LongLines.{too_long, same_fault}
use Rattle.bp_certificate.proofs.laws.law_of_long_certificate_lines.Goals as goal

pub returns-clause-form : goal.returns-clause-form
returns-clause-form c = too_long

pub returns-clause-fault : goal.returns-clause-fault
returns-clause-fault c = same_fault
