use Rattle.bp_steady.specs.Stack.{IsGuide}
use Rattle.bp_steady.proofs.Looking.{IsGoing}
use Rattle.bp_steady.proofs.answering.steady.Given as goal

abbrev pub invariant-loop-at : goal.invariant-loop-at
invariant-loop-at l = record {
  guide : IsGuide l.metric.tree l.bounds l.path.guide.items;
  going : IsGoing l.metric.tree l.metric.sheet l.side l.budget l.at l.left l.bounds;
}
