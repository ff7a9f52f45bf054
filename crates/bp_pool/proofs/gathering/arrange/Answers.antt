use Rattle.std.proofs.Common.{rules}
use Rattle.std.proofs.lemmas.List.Sorted.{IsNonDecreasingBy-from_sort_by_key}
use Rattle.bp_pool.specs.Hands.{HandView}
use Rattle.bp_pool.proofs.Ordered.{sorted_in_order}
use Rattle.bp_pool.proofs.gathering.arrange.Goals as goal

pub returns-clause-order : goal.returns-clause-order
returns-clause-order c =
    sorted_in_order c.args.hands.now.items c.sort_unstable_by_key.new.self.items c.sort_unstable_by_key.ensures.permutation (IsNonDecreasingBy-from_sort_by_key (λ (v : HandView). v.number) _ c.sort_unstable_by_key.ensures.sorted (λ a r q k. search rules))
