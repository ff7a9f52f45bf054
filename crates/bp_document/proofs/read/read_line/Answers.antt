use Rattle.std.proofs.Common.{Option, Ok, subst}
use Rattle.bp_document.specs.declared.node_line.NodeLine.{NodeLine}
use Rattle.bp_document.specs.Scanning.{FeedsLine}
use Rattle.bp_document.proofs.ReadBytes.{line_fault, line_node}
use Rattle.bp_document.proofs.read.read_line.Goals as goal

pub returns-in-Err : goal.returns-in-Err
returns-in-Err c = line_fault c.args.scanner.now c.feed.new.self c.args.line.now c.args.ended c.args.builder.now c.args.builder.now c.in-Err.fault c.in-Err.ensures

pub returns-in-Ok : goal.returns-in-Ok
returns-in-Ok c =
    line_node c.args.scanner.now c.feed.new.self c.args.line.now c.args.ended c.args.builder.now c.add.new.self c.in-Ok-Some.node
    (subst (λ (n : Option NodeLine). FeedsLine c.args.scanner.now c.args.line.now c.args.ended c.feed.new.self (Ok n)) c.in-Ok-Some.field-0-is c.in-Ok-Some.ensures) c.in-Ok.ensures
