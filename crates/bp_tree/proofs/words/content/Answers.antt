use Rattle.std.proofs.Common.{ℕ, List, ◌==◌, ap, ◌∙◌}
use Rattle.std.specs.List.{before_first}
use Rattle.bp_tree.specs.Lines.{content}
use Rattle.bp_tree.proofs.words.content.Goals as goal

pub returns : goal.returns
unfolding content
returns c = c.before_comment.ensures ∙ ap (λ (line : List ℕ). before_first (λ b. b == 35) line) c.without_return.ensures
