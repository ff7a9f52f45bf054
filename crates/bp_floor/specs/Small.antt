-- How large the floor of a tree can be.
use Rattle.std.specs.Prelude.{ℕ, ◌≤◌, length, All}
use Rattle.bp_base.specs.declared.point.Floor.{Floor}
use Rattle.bp_base.specs.Limits.{most_leaves}
use Rattle.bp_metric.specs.Distance.{most_distance, most_side}

-- m, the side, the leaves and their number are no greater than those of any tree
pub record IsSmall (f : Floor) : Type 0 where
  pub m : f.m ≤ most_distance
  pub side : f.side ≤ most_side
  pub few : length f.leaves ≤ most_leaves
  pub leaves : All (λ k. k ≤ most_leaves) f.leaves
