use Rattle.bp_bench.proofs.searched.Goals as goal

pub search-requires-clause-underway : goal.search-requires-clause-underway
search-requires-clause-underway c = c.in_ok-start.ensures.underway _
