use Rattle.bp_words.proofs.WordLemmas.{no_design, not_both}
use Rattle.bp_words.proofs.words.design_of.Goals as goal

pub returns-in_err-workers : goal.returns-in_err-workers
returns-in_err-workers c = rw c.from_residual.ensures (no_design _ c.requires (λ a b r f s t is. c.in_err-workers.ensures a is.has_workers))

pub returns-in_err-budget : goal.returns-in_err-budget
returns-in_err-budget c = rw c.from_residual-in_err-budget.ensures (no_design _ c.requires (λ a b r f s t is. c.in_err-budget.ensures b is.has_budget))

pub returns-then-is_some-2 : goal.returns-then-is_some-2
returns-then-is_some-2 c = no_design _ c.requires (not_both _ c.in_ok-fold.fold c.in_ok-strip.strip c.if-is_some.ensures c.if-is_some-2.ensures c.in_ok-fold.ensures c.in_ok-strip.ensures)
