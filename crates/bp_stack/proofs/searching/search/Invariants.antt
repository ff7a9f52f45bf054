use Rattle.std.proofs.Common.{◌≡◌, ◌-◌, []}
use Rattle.bp_core.specs.Underway.{IsUnderway}
use Rattle.bp_stack.proofs.searching.search.Given as goal

abbrev pub invariant-loop-search : goal.invariant-loop-search
invariant-loop-search l = record {
  examiner : l.examiner ≡ l.metric;
  empty : l.children ≡ [];
  underway : IsUnderway l.metric.tree l.metric.sheet l.budget l.search;
}

abbrev pub decreases-loop-search : goal.decreases-loop-search
decreases-loop-search l = l.budget - l.search.examined
