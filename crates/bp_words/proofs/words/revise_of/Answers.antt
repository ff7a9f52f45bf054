use Rattle.std.proofs.Common.{Some}
use Rattle.bp_words.proofs.WordLemmas.{no_revise, not_tree}
use Rattle.bp_words.proofs.words.revise_of.Goals as goal

pub returns-in_err-file_of : goal.returns-in_err-file_of
returns-in_err-file_of c = rw c.from_residual.ensures (no_revise _ c.requires (λ tree budget is. c.in_err-file_of.ensures (Some tree) is.has_tree))

pub returns-in_err-tree : goal.returns-in_err-tree
returns-in_err-tree c = rw c.from_residual-in_err-tree.ensures (no_revise _ c.requires (not_tree _ c.in_ok-file_of.field-0 c.in_err-tree.was c.in_ok-file_of.ensures))

pub returns-in_err-budget : goal.returns-in_err-budget
returns-in_err-budget c = rw c.from_residual-in_err-budget.ensures (no_revise _ c.requires (λ tree budget is. c.in_err-budget.ensures budget is.has_budget))
