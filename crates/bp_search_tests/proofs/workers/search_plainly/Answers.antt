use Rattle.bp_search_tests.proofs.workers.search_plainly.Goals as goal

pub search-requires-clause-underway : goal.search-requires-clause-underway
search-requires-clause-underway c = c.in_ok-start.ensures.underway _
