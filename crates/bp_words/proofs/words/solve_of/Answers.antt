use Rattle.std.proofs.Common.{inl, inr, sym, ◌∙◌}
use Rattle.bp_words.proofs.WordLemmas.{no_solve, not_solved}
use Rattle.bp_words.proofs.words.solve_of.Goals as goal
use Rattle.bp_words.proofs.words.solve_of.Goals.{then-is_some-2, else-is_some-2}

pub returns-in_err-budget : goal.returns-in_err-budget
returns-in_err-budget c = rw c.from_residual.ensures (no_solve _ c.requires (λ b s f m is. c.in_err-budget.ensures b is.has_budget))

pub returns-then-is_some-3 : goal.returns-then-is_some-3
returns-then-is_some-3 c = no_solve _ c.requires (λ b s f m is. not_solved _ b s f m is c.in_ok-strip.strip c.in_ok-fold.fold c.in_ok-mirror.mirror c.if-is_some.ensures (elim c.if-is_some-2.branch [
  | then-is_some-2 w ↦ inl w.if-is_some-2.ensures
  | else-is_some-2 w ↦ inr (sym c.if-is_some-3.true ∙ w.value-is ∙ w.is_some-else-is_some-2.ensures)
]) c.in_ok-strip.ensures c.in_ok-fold.ensures c.in_ok-mirror.ensures)
