use Rattle.std.proofs.Common.{[], subst, sym, arith}
use Rattle.bp_branch.specs.Branches.{IsBranch}
use Rattle.bp_search_tests.proofs.turn.root_turn.Goals as goal

pub examine-requires-clause-branch : goal.examine-requires-clause-branch
examine-requires-clause-branch g c =
    subst (IsBranch c.args.metric.now.tree) (sym c.empty-path.ensures) (c.law_of_branches.ensures.picked [] (λ k less. absurd (omega (arith, less))))
