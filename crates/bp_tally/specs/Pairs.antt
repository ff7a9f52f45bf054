-- How the pairs of leaves lie: each by the first choice that it allows and that holds for its points.
use Rattle.std.specs.Prelude.{◌≡◌, ℕ, zero, suc, ◌+◌, nat_le, Bool, true, false, List, [], ◌∷◌, ◌++◌, length, filter}
use Rattle.std.specs.List.{find}
use Rattle.std.specs.declared.option.Option.{Option}
use Rattle.std.specs.declared.option.Option.TheVariants.{None, Some}
use Rattle.bp_base.specs.declared.path.Choice.{Choice}
use Rattle.bp_base.specs.declared.path.Choice.TheVariants.{Left, Right, Below, Above}
use Rattle.bp_base.specs.declared.path.Pair.{Pair}
use Rattle.bp_base.specs.declared.point.Point.{Point}
use Rattle.bp_base.specs.declared.point.Sheet.{Sheet}
use Rattle.bp_base.specs.Point.{point_at}
use Rattle.bp_base.specs.Tree.{TreeValue, leaf_count}
use Rattle.bp_metric.specs.Choices.{allowed}
use Rattle.bp_metric.specs.Distance.{leaf_dist}
use Rattle.bp_symmetry.specs.Settled.{IsSettling}
use Rattle.bp_tally.specs.declared.tallying.Counts.{Counts}

-- whether the choice holds for the pair's points
abbrev pub is_held : TreeValue → List Point → Pair → Choice → Bool
is_held T P p Left = nat_le ((point_at P p.i).x + leaf_dist T p.i p.j) (point_at P p.j).x
is_held T P p Right = nat_le ((point_at P p.j).x + leaf_dist T p.i p.j) (point_at P p.i).x
is_held T P p Below = nat_le ((point_at P p.i).y + leaf_dist T p.i p.j) (point_at P p.j).y
is_held T P p Above = nat_le ((point_at P p.j).y + leaf_dist T p.i p.j) (point_at P p.i).y

-- the first choice that the pair allows and that holds for its points
abbrev pub first_held : TreeValue → Sheet → List Point → Pair → Option Choice
first_held T G P p = find (is_held T P p) (allowed T G p)

-- the pairs of leaf j with leaves 1 to i
abbrev pub pairs_with : ℕ → ℕ → List Pair
pairs_with j zero = []
pairs_with j (suc i) = record { i = i + 1; j = j } ∷ pairs_with j i

-- the pairs of n leaves
abbrev pub pairs_of : ℕ → List Pair
pairs_of zero = []
pairs_of (suc n) = pairs_with (n + 1) n ++ pairs_of n

abbrev pub is_choice : Choice → Option Choice → Bool
is_choice Left (Some Left) = true
is_choice Right (Some Right) = true
is_choice Below (Some Below) = true
is_choice Above (Some Above) = true
is_choice c o = false

-- how many of the pairs lie by this choice
abbrev pub count_of : TreeValue → Sheet → List Point → List Pair → Choice → ℕ
count_of T G P pairs c = length (filter (λ (p : Pair). is_choice c (first_held T G P p)) pairs)

-- how many lie by each choice
abbrev pub tally_of : TreeValue → Sheet → List Point → List Pair → Counts
tally_of T G P pairs = record {
  left = count_of T G P pairs Left;
  right = count_of T G P pairs Right;
  below = count_of T G P pairs Below;
  above = count_of T G P pairs Above;
}

-- the counts are those of the placement that settling makes of these points
pub record AreSettledCounts (T : TreeValue) (G : Sheet) (side : ℕ) (points : List Point) (counts : Counts) : Type 0 where
  pub settled : List Point
  pub is_settling : IsSettling T G 1 side points settled
  pub are : counts ≡ tally_of T G settled (pairs_of (leaf_count T))

-- a pair more, that lies by this choice
abbrev pub with_choice : Option Choice → Counts → Counts
with_choice None t = t
with_choice (Some Left) t = record t { left = t.left + 1 }
with_choice (Some Right) t = record t { right = t.right + 1 }
with_choice (Some Below) t = record t { below = t.below + 1 }
with_choice (Some Above) t = record t { above = t.above + 1 }
