use Rattle.bp_certificate.specs.Stages.{told_head}
use Rattle.bp_verify.proofs.OwnText.{head_given}
use Rattle.bp_verify.proofs.own.head_by.Goals as goal

pub head_of-requires-clause-scans : goal.head_of-requires-clause-scans
head_of-requires-clause-scans c = (
  c.scan-scanned.new.scanner,
  c.scan-scanned.ensures,
  head_given c.into_head-head.result (told_head c.scan-scanned.new.scanner.stage) c.into_head-head.ensures,
)
