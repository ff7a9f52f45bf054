use Rattle.std.proofs.Common.{sym}
use Rattle.std.proofs.lemmas.List.{take_rest}
use Rattle.bp_certificate.proofs.FactWords.{empty_by, some_by, no_first, lemma_hint, no_second, pair_hint}
use Rattle.bp_certificate.proofs.fact_form.hint_of.Goals as goal

pub returns-in_err-first : goal.returns-in_err-first
returns-in_err-first c = rw c.from_residual.ensures (no_first c.args.word.now _ _ c.cut_before.ensures c.in_err-first.ensures)

pub returns-then-is_empty : goal.returns-then-is_empty
returns-then-is_empty c = lemma_hint c.args.word.now _ _ c.cut_before.ensures c.in_ok-first.first c.in_ok-first.ensures (empty_by _ (sym c.if-is_empty.ensures))

pub returns-in_err-second : goal.returns-in_err-second
returns-in_err-second c = rw c.from_residual-in_err-second.ensures (no_second c.args.word.now _ _ c.cut_before.ensures _ (some_by _ (sym c.if-is_empty.ensures)) (take_rest _ 1) c.in_err-second.ensures)

pub returns : goal.returns
returns c = pair_hint c.args.word.now _ _ c.cut_before.ensures _ c.in_ok-first.first c.in_ok-second.second (some_by _ (sym c.if-is_empty.ensures)) (take_rest _ 1) c.in_ok-first.ensures c.in_ok-second.ensures
