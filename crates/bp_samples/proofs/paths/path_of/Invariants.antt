use Rattle.std.proofs.Common.{◌≡◌, ◌≤◌, length, take}
use Rattle.bp_metric.specs.Chains.{HasPairsOf}
use Rattle.bp_samples.proofs.paths.path_of.Given as goal

abbrev pub invariant-loop-step : goal.invariant-loop-step
invariant-loop-step l = record {
  so_far : l.path ≡ take l.step-index l.steps;
  pairs : HasPairsOf l.n l.path;
}
