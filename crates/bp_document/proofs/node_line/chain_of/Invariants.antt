use Rattle.std.proofs.Common.{◌≡◌, length}
use Rattle.bp_document.specs.Words.{words_behind}
use Rattle.bp_document.proofs.Chains.{BeginsWith}
use Rattle.bp_document.proofs.node_line.chain_of.Given as goal

abbrev pub invariant-loop-word : goal.invariant-loop-word
invariant-loop-word l = (l.numbers.capacity ≡ 32) × BeginsWith (words_behind l.bytes) l.numbers.items (words_behind l.rest)

abbrev pub decreases-loop-word : goal.decreases-loop-word
decreases-loop-word l = length (words_behind l.rest)
