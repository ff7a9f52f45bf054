use Rattle.std.proofs.Common.{◌∙◌, sym}
use Rattle.std.specs.Cmp.Lexicographic.{same_text}
use Rattle.std.proofs.lemmas.Bool.{false≢true}
use Rattle.std.proofs.lemmas.Slice.Eq.{bytes_eq-Decides}
use Rattle.bp_document.specs.Words.{words_behind}
use Rattle.bp_document.proofs.NodeLines.{no_cycle, no_walk}
use Rattle.bp_document.proofs.node_line.open_of.Goals as goal

pub returns-in_err-axis : goal.returns-in_err-axis
returns-in_err-axis c =
    rw c.from_residual-in_err-axis.ensures (no_cycle (words_behind c.args.bytes.now) (words_behind c.in_ok-word.rest.now) c.in_ok-word.word.now c.in_ok-word.ensures (same_text c.in_ok-word.word.now c.as_slice.result.now c.if-eq.ensures ∙ c.as_slice.ensures) c.in_err-axis.ensures)

pub returns-in_err-axis-2 : goal.returns-in_err-axis-2
returns-in_err-axis-2 c =
    rw c.from_residual-in_err-axis-2.ensures (no_walk (words_behind c.args.bytes.now) (words_behind c.in_ok-word.rest.now) c.in_ok-word.word.now c.in_ok-word.ensures (λ cycle. false≢true (sym c.if-eq.false ∙ c.eq.ensures ∙ (bytes_eq-Decides c.in_ok-word.word.now c.as_slice.result.now).1 (cycle ∙ sym c.as_slice.ensures))) c.in_err-axis-2.ensures)
