use Rattle.bp_tree.proofs.LineLists.{line_forward}
use Rattle.bp_document.proofs.ReadBytes.{read_stop, read_next}
use Rattle.bp_document.proofs.read.read_lines.Goals as goal

pub returns-in-Err : goal.returns-in-Err
returns-in-Err c =
    read_stop c.args.bytes.now c.loop-here.at c.in-Some.here c.in-Some.ensures c.loop-here.scanner c.loop-here.builder c.requires.short c.loop-here.invariant.2 c.read_line.new.scanner c.read_line.new.builder c.in-Err.error c.in-Err.ensures

pub loop-here-preserved : goal.loop-here-preserved
loop-here-preserved c = (
  (line_forward c.args.bytes.now c.loop-here.at c.in-Some.here c.in-Some.ensures).1,
  c.in-Ok.ensures.1,
  read_next c.args.bytes.now c.loop-here.at c.in-Some.here c.in-Some.ensures c.loop-here.scanner c.read_line.new.scanner c.loop-here.builder c.read_line.new.builder c.loop-here.invariant.2 c.in-Ok.ensures,
)
