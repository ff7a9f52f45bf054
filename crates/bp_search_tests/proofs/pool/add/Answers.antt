use Rattle.std.proofs.Common.{ℕ, sym, subst}
use Rattle.bp_pool.specs.Shares.{IsTaskOf}
use Rattle.bp_search_tests.proofs.pool.add.Goals as goal

pub push-requires : goal.push-requires
push-requires c = subst (λ (n : ℕ). IsTaskOf n c.task.result) (sym c.requires) c.task.ensures.0
