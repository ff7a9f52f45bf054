use Rattle.bp_document.specs.Words.{words_behind}
use Rattle.bp_document.proofs.NodeLines.{no_depth, no_kind, is_node}
use Rattle.bp_document.proofs.node_line.read_node.Goals as goal

pub returns-in_err-depth : goal.returns-in_err-depth
returns-in_err-depth c =
    rw c.from_residual.ensures (no_depth c.args.bytes.now c.split_word.result.0.now (words_behind c.split_word.result.1.now) c.split_word.ensures c.in_err-depth.ensures)

pub returns-in_err-kind : goal.returns-in_err-kind
returns-in_err-kind c =
    rw c.from_residual-in_err-kind.ensures (no_kind c.args.bytes.now c.split_word.result.0.now (words_behind c.split_word.result.1.now) c.split_word.ensures c.in_err-kind.ensures)

pub returns : goal.returns
returns c =
    is_node c.args.bytes.now c.split_word.result.0.now (words_behind c.split_word.result.1.now) c.split_word.ensures c.in_ok-depth.depth c.in_ok-kind.kind c.in_ok-depth.ensures c.in_ok-kind.ensures
