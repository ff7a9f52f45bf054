use Rattle.std.proofs.Common.{◌+◌, arith, refl}
use Rattle.bp_tree.proofs.LineLists.{line_forward}
use Rattle.bp_tree.proofs.SoFar.{read_more, read_fault, read_end}
use Rattle.bp_tree.proofs.reading.read_lines.Goals as goal

pub returns-in-Err-clause-lines : goal.returns-in-Err-clause-lines
returns-in-Err-clause-lines c =
    read_fault c.args.bytes.now c.loop-here.at c.loop-here.number _ c.loop-here.invariant.3 c.in-Some.here c.in-Some.ensures _ refl c.loop-here.invariant.2 c.add_line.new.grower (c.loop-here.number + 1) c.in-Err.kind refl c.in-Err.ensures.line

pub loop-here-preserved : goal.loop-here-preserved
loop-here-preserved c =
    let forward = line_forward c.args.bytes.now c.loop-here.at c.in-Some.here c.in-Some.ensures in (
      forward.1,
      omega (arith, forward.0, c.loop-here.invariant.1),
      c.add_line.ensures.growing,
      read_more c.args.bytes.now c.loop-here.at c.loop-here.number _ c.loop-here.invariant.3 c.in-Some.here c.in-Some.ensures _ refl c.add_line.new.grower c.in_default-add_line.field-0 c.in_default-add_line.ensures.line,
    )

pub returns-clause-lines : goal.returns-clause-lines
returns-clause-lines c = read_end c.args.bytes.now c.loop-here.at c.loop-here.number c.loop-here.grower c.loop-here.invariant.3 c.in_default.ensures
