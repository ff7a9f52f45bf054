-- Paths as they are kept: at most 496 steps, each for a pair of 32 leaves.
use Rattle.std.specs.Prelude.{ℕ, ◌<◌, ◌≤◌, List, length, All}
use Rattle.bp_base.specs.declared.path.Pair.{Pair}
use Rattle.bp_base.specs.declared.path.Step.{Step}
use Rattle.bp_base.specs.Limits.{most_leaves, most_steps}

-- the pair names a pair of n leaves
abbrev pub IsPairOf : ℕ → Pair → Type 0
IsPairOf n p = (1 ≤ p.i) × (p.i < p.j) × (p.j ≤ n)

abbrev pub IsSmallPair : Pair → Type 0
IsSmallPair p = IsPairOf most_leaves p

pub record IsPath (path : List Step) : Type 0 where
  pub pairs : All (λ (s : Step). IsSmallPair s.pair) path
  pub short : length path ≤ most_steps
