use Rattle.bp_document.specs.Words.{words_behind}
use Rattle.bp_document.proofs.Chains.{no_number}
use Rattle.bp_document.proofs.node_line.chain_of.Goals as goal

pub returns-in_err-number : goal.returns-in_err-number
returns-in_err-number c =
    rw c.from_residual.ensures (no_number (words_behind c.args.bytes.now) c.loop-word.numbers.items (words_behind c.loop-word.rest.now) (words_behind c.in-Some.more.now) c.in-Some.word.now c.loop-word.invariant.1 c.in-Some.ensures c.in_err-number.ensures)
