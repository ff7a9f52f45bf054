-- All pairs of leaves in the order in which a next pair is looked for.
use Rattle.std.specs.Prelude.{◌≡◌, ◌⊎◌, ℕ, ◌<◌, List, All, AllPairs, Contains}
use Rattle.bp_base.specs.declared.path.Pair.{Pair}
use Rattle.bp_base.specs.Path.{IsPairOf}
use Rattle.bp_base.specs.Tree.{TreeValue, leaf_count}
use Rattle.bp_metric.specs.Distance.{leaf_dist}
use Rattle.bp_metric.specs.Next.{IsEarlier}
use Rattle.bp_branch.specs.Nearest.{IsPast}

-- p has the greater distance, or the same and the lesser number
abbrev pub ComesFirst : TreeValue → Pair → Pair → Type 0
ComesFirst T p r =
    (leaf_dist T r.i r.j < leaf_dist T p.i p.j) ⊎ ((leaf_dist T r.i r.j ≡ leaf_dist T p.i p.j) × IsEarlier p r)

-- the list has the pairs numbered before (i, j) and no others, the one of greatest distance first, and of equal ones that of least
-- number
pub record AreOrdered (T : TreeValue) (i j : ℕ) (pairs : List Pair) : Type 0 where
  pub each : All (λ (p : Pair). IsPairOf (leaf_count T) p × IsPast i j p.i p.j) pairs
  pub all : (p : Pair) → IsPairOf (leaf_count T) p → IsPast i j p.i p.j → Contains pairs p
  pub sorted : AllPairs (ComesFirst T) pairs

-- the list has all pairs
abbrev pub IsPairOrder : TreeValue → List Pair → Type 0
IsPairOrder T pairs = AreOrdered T (leaf_count T) 0 pairs
