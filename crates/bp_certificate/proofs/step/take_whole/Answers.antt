use Rattle.std.proofs.Common.{Err}
use Rattle.bp_document.specs.declared.fault.DocKind.TheVariants.{Trailing}
use Rattle.bp_certificate.specs.declared.stage.Halt.TheVariants.{Fault}
use Rattle.bp_certificate.specs.declared.stage.Stage.{Stage}
use Rattle.bp_certificate.proofs.LemmaSteps.{trailing}
use Rattle.bp_certificate.proofs.Scans.{at_stage}
use Rattle.bp_certificate.proofs.step.take_whole.Goals as goal

pub returns-in-Version : goal.returns-in-Version
returns-in-Version c = at_stage c.args.stage (Stage.Version c.in-Version.memory) c.args.bytes.now c.feed_version.result c.in-Version.is c.feed_version.ensures

pub returns-in-Sheet : goal.returns-in-Sheet
returns-in-Sheet c = at_stage c.args.stage (Stage.Sheet c.in-Sheet.memory) c.args.bytes.now c.feed_sheet.result c.in-Sheet.is c.feed_sheet.ensures

pub returns-in-Mirror : goal.returns-in-Mirror
returns-in-Mirror c = at_stage c.args.stage (Stage.Mirror c.in-Mirror.sheet c.in-Mirror.memory) c.args.bytes.now c.feed_mirror.result c.in-Mirror.is c.feed_mirror.ensures

pub returns-in-Body : goal.returns-in-Body
returns-in-Body c = at_stage c.args.stage (Stage.Body c.in-Body.stage) c.args.bytes.now c.feed_body.result c.in-Body.is c.feed_body.ensures

pub returns-in-Count : goal.returns-in-Count
returns-in-Count c = at_stage c.args.stage (Stage.Count c.in-Count.design) c.args.bytes.now c.feed_count.result c.in-Count.is c.feed_count.ensures

pub returns-in-Corner : goal.returns-in-Corner
returns-in-Corner c = at_stage c.args.stage (Stage.Corner c.in-Corner.design c.in-Corner.count) c.args.bytes.now c.feed_corner.result c.in-Corner.is c.feed_corner.ensures

pub returns-in-SwapCount : goal.returns-in-SwapCount
returns-in-SwapCount c =
    at_stage c.args.stage (Stage.SwapCount c.in-SwapCount.design c.in-SwapCount.count c.in-SwapCount.corner) c.args.bytes.now c.feed_swap_count.result c.in-SwapCount.is c.feed_swap_count.ensures

pub returns-in-Swaps : goal.returns-in-Swaps
returns-in-Swaps c =
    at_stage c.args.stage (Stage.Swaps c.in-Swaps.design c.in-Swaps.count c.in-Swaps.corner c.in-Swaps.total c.in-Swaps.swaps) c.args.bytes.now c.feed_swap.result c.in-Swaps.is c.feed_swap.ensures

pub returns-in-Lemmas : goal.returns-in-Lemmas
returns-in-Lemmas c = at_stage c.args.stage (Stage.Lemmas c.in-Lemmas.head c.in-Lemmas.left) c.args.bytes.now c.feed_lemma.result c.in-Lemmas.is c.feed_lemma.ensures

pub returns-in-End : goal.returns-in-End
returns-in-End c = at_stage c.args.stage (Stage.End c.in-End.head) c.args.bytes.now c.feed_end.result c.in-End.is c.feed_end.ensures

pub returns-in-Behind : goal.returns-in-Behind
returns-in-Behind c = at_stage c.args.stage (Stage.Behind c.in-Behind.head) c.args.bytes.now (Err (Fault Trailing)) c.in-Behind.is (trailing c.args.bytes.now c.in-Behind.head)
