use Rattle.std.proofs.Common.{[], arith}
use Rattle.bp_verify.proofs.Intakes.{next_within}
use Rattle.bp_document.proofs.ReadBytes.{piece_free, piece_some}
use Rattle.bp_verify.proofs.OwnText.{scan_cut, scan_next, scan_stop, scan_whole}
use Rattle.bp_verify.proofs.own.scan.Goals as goal

pub loop-here-init : goal.loop-here-init
loop-here-init c = (omega arith, c.requires.whole, ([], c.requires.nothing))

pub feed-requires-clause-free : goal.feed-requires-clause-free
feed-requires-clause-free c = piece_free c.args.bytes.now c.loop-here.at c.in-Some.here c.in-Some.ensures

pub feed-requires-clause-some : goal.feed-requires-clause-some
feed-requires-clause-some c = piece_some c.args.bytes.now c.loop-here.at c.in-Some.here c.in-Some.ensures

pub loop-here-preserved : goal.loop-here-preserved
loop-here-preserved c = (
  next_within c.args.bytes.now c.loop-here.at c.in-Some.here c.in-Some.ensures,
  c.in-Ok.ensures.1,
  scan_next c.args.bytes.now c.loop-here.at c.in-Some.here c.in-Some.ensures c.loop-here.scanner c.feed.new.self c.loop-here.invariant.2.0 c.in-Ok.field-0 c.loop-here.invariant.2.1 c.in-Ok.ensures,
)

pub returns-in-Err : goal.returns-in-Err
returns-in-Err c =
    scan_stop c.args.bytes.now c.loop-here.at c.in-Some.here c.in-Some.ensures c.loop-here.scanner c.feed.new.self c.loop-here.invariant.2.0 c.in-Err.error c.requires.short c.loop-here.invariant.2.1 c.in-Err.ensures

pub returns-in-Ok-finish : goal.returns-in-Ok-finish
returns-in-Ok-finish c = scan_whole c.args.bytes.now c.loop-here.at c.in_default.ensures c.loop-here.scanner (c.loop-here.invariant.2.0, c.loop-here.invariant.2.1) c.in-Ok-finish.ensures

pub returns-in-Err-finish : goal.returns-in-Err-finish
returns-in-Err-finish c = scan_cut c.args.bytes.now c.loop-here.at c.in_default.ensures c.loop-here.scanner (c.loop-here.invariant.2.0, c.loop-here.invariant.2.1) c.in-Err-finish.fault c.requires.short c.in-Err-finish.ensures
