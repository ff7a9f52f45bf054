use Rattle.std.proofs.Common.{◌∙◌, ◌<◌, [], sym, arith, length}
use Rattle.std.proofs.lemmas.List.{take_more_same, get_or_read}
use Rattle.bp_check.proofs.Reasoning.{same_unless}
use Rattle.bp_revise.proofs.shape.are_same_names.Goals as goal

pub loop-k-preserved : goal.loop-k-preserved
loop-k-preserved c =
    let k = c.loop-k.k in
    let names = c.args.names.now in
    let others = c.args.others.now in
    let long = c.loop-k.invariant.long in
    let within : k < length names = omega arith in
    let also : k < length others = omega (arith, long, within) in
    let here = get_or_read names k c.index-names-k.result within c.index-names-k.is [] in
    let there = get_or_read others k c.index-others-k.result also c.index-others-k.is [] in
    let bytes = same_unless c.bytes.result.now c.bytes-in-loop-k.result.now c.ne.result c.ne.ensures c.if-ne.false in
    let same = sym there ∙ sym c.bytes-in-loop-k.ensures.value ∙ sym bytes ∙ c.bytes.ensures.value ∙ here in
    record { long = long; same = take_more_same others names k [] also within c.loop-k.invariant.same same }
