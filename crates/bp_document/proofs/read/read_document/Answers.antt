use Rattle.std.proofs.Common.{Err, arith, ◌≤◌, length}
use Rattle.bp_base.specs.Limits.{most_document_bytes}
use Rattle.bp_document.proofs.ReadBytes.{whole_answer, ended, stopped}
use Rattle.bp_document.proofs.read.read_document.Goals as goal

pub returns-in-Ok-read_lines-clause-reads : goal.returns-in-Ok-read_lines-clause-reads
returns-in-Ok-read_lines-clause-reads c =
    let short : length c.args.bytes.now ≤ most_document_bytes = omega (arith, c.if-bytes-gt-MOST_DOCUMENT_BYTES.false) in
    (whole_answer c.args.bytes.now c.end_document.result (ended c.args.bytes.now c.read_lines.new.scanner c.read_lines.new.builder c.end_document.result short c.in-Ok-read_lines.ensures.1 c.end_document.ensures)).0

pub returns-in-Ok-read_lines-clause-only : goal.returns-in-Ok-read_lines-clause-only
returns-in-Ok-read_lines-clause-only c =
    let short : length c.args.bytes.now ≤ most_document_bytes = omega (arith, c.if-bytes-gt-MOST_DOCUMENT_BYTES.false) in
    (whole_answer c.args.bytes.now c.end_document.result (ended c.args.bytes.now c.read_lines.new.scanner c.read_lines.new.builder c.end_document.result short c.in-Ok-read_lines.ensures.1 c.end_document.ensures)).1

pub returns-in-Err-read_lines-clause-reads : goal.returns-in-Err-read_lines-clause-reads
returns-in-Err-read_lines-clause-reads c =
    (whole_answer c.args.bytes.now (Err c.in-Err-read_lines.error) (stopped c.args.bytes.now c.read_lines.new.scanner c.read_lines.new.builder c.in-Err-read_lines.error c.in-Err-read_lines.ensures)).0

pub returns-in-Err-read_lines-clause-only : goal.returns-in-Err-read_lines-clause-only
returns-in-Err-read_lines-clause-only c =
    (whole_answer c.args.bytes.now (Err c.in-Err-read_lines.error) (stopped c.args.bytes.now c.read_lines.new.scanner c.read_lines.new.builder c.in-Err-read_lines.error c.in-Err-read_lines.ensures)).1
