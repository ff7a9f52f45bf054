use Rattle.std.proofs.Common.{◌≡◌, ◌-◌, ◌≤◌, [], List}
use Rattle.bp_base.specs.declared.path.Step.{Step}
use Rattle.bp_base.specs.declared.point.Placement.{Placement}
use Rattle.bp_base.specs.declared.record.Record.{Record}
use Rattle.bp_revise.specs.Course.{IsOnCourse}
use Rattle.bp_revise.proofs.searching.work_off.Given as goal

abbrev pub invariant-loop-search : goal.invariant-loop-search
invariant-loop-search l = record {
  examiner : l.examiner ≡ l.metric;
  empty : l.children ≡ [];
  within : l.search.examined ≤ l.budget;
  course :
      (start : Placement) (base : List Record) (roots : List (List Step))
      → IsOnCourse l.metric.tree l.metric.sheet start base roots l.fn.search
      → IsOnCourse l.metric.tree l.metric.sheet start base roots l.search;
}

abbrev pub decreases-loop-search : goal.decreases-loop-search
decreases-loop-search l = l.budget - l.search.examined
