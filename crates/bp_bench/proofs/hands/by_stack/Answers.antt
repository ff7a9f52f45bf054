use Rattle.bp_bench.proofs.hands.by_stack.Goals as goal

pub search-requires-clause-underway : goal.search-requires-clause-underway
search-requires-clause-underway c = c.in_ok-start.ensures.underway _
