use Rattle.std.proofs.Common.{ℕ, All, ap, ◌∙◌, subst}
use Rattle.std.specs.List.{sum_by}
use Rattle.bp_pool.specs.Shares.{IsTaskOf}
use Rattle.bp_pool.specs.Hands.{HandView}
use Rattle.bp_pool.specs.Kept.{all_taken}
use Rattle.bp_pool.proofs.Hands.{taken_good}
use Rattle.bp_pool.proofs.hand.Hand.take.Goals as goal

pub returns-clause-good : goal.returns-clause-good
returns-clause-good c =
    let o = c.self.inside in
    let leaves = ap (λ (v : HandView). v.pool.leaves) c.self.view_is ∙ ap (λ p. p.leaves) c.try_all-taken.ensures.hand.0.0 in
    taken_good c.args.self.now.pool.leaves (all_taken o) c.args.self.now.taken c.try_all-taken.result
    (λ h. ap (λ (v : HandView). sum_by h v.taken) c.self.view_is ∙ c.try_all-taken.ensures.taken h)
    (subst (λ (n : ℕ). All (IsTaskOf n) (all_taken o)) leaves c.self.invariant.good)
