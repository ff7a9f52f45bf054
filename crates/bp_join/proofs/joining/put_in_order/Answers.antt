use Rattle.std.proofs.Common.{rules}
use Rattle.bp_join.proofs.Orders.{sorted_stack}
use Rattle.bp_join.proofs.joining.put_in_order.Goals as goal

pub returns-clause-order : goal.returns-clause-order
returns-clause-order c = λ T G. sorted_stack T G _ c.in_ok-sort_by.ensures.sorted (λ a r f' k. search rules)
