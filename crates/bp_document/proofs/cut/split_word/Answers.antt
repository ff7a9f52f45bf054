use Rattle.std.proofs.Common.{arith}
use Rattle.bp_document.proofs.Cuts.{words_split, words_whole}
use Rattle.bp_document.proofs.cut.split_word.Goals as goal

pub returns-then-byte-eq32 : goal.returns-then-byte-eq32
returns-then-byte-eq32 c = words_split c.args.bytes.now c.loop-at.at c.loop-at-test.true c.loop-at.invariant c.if-byte-eq32.true

pub returns : goal.returns
returns c = words_whole c.args.bytes.now (λ k less. c.loop-at.invariant k (omega (arith, c.loop-at-test.false)))
