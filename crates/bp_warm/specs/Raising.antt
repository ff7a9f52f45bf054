-- A row of coordinates that is raised for a step: which leaves were moved, and by which leaf each.
use Rattle.std.specs.Prelude.{◌≡◌, ◌≢◌, ◌⊎◌, ℕ, ◌+◌, ◌-◌, ◌<◌, ◌≤◌, List, length, sum, slice_index}
use Rattle.bp_warm.specs.declared.raising.Pulled.{Pulled}
use Rattle.bp_warm.specs.declared.raising.Pulled.TheVariants.{Met, Again, Cycle}
use Rattle.bp_base.specs.declared.point.Axis.{Axis}
use Rattle.bp_base.specs.declared.path.Step.{Step}
use Rattle.bp_base.specs.Tree.{TreeValue, IsLeaf, leaf_count}
use Rattle.bp_metric.specs.Distance.{leaf_dist, most_side}
use Rattle.bp_metric.specs.Chains.{Places}
use Rattle.bp_walks.specs.Lows.{places}

-- the coordinate of leaf i in a row
abbrev pub low_in : List ℕ → ℕ → ℕ
low_in row i = slice_index row (i - 1)

-- The row `old` is raised to `lows` for a step from leaf a to leaf b: the first `count` entries of `moved` are the leaves raised so
-- far, and `by` says which leaf raised each but b.
pub record IsRaising (T : TreeValue) (path : List Step) (axis : Axis) (old : List ℕ) (a b : ℕ) (lows by moved : List ℕ) (count : ℕ) : Type 0 where
  pub each_old : length old ≡ leaf_count T
  pub each : length lows ≡ leaf_count T
  pub each_by : length by ≡ places
  pub each_moved : length moved ≡ places
  pub some : 1 ≤ count
  pub leaf : (k : ℕ) → k < count → IsLeaf T (slice_index moved k)
  pub apart : (k l : ℕ) → k < l → l < count → slice_index moved k ≢ slice_index moved l
  pub not_first : (k : ℕ) → k < count → slice_index moved k ≢ a
  pub higher : (k : ℕ) → k < count → low_in old (slice_index moved k) < low_in lows (slice_index moved k)
  pub still : (i : ℕ) → IsLeaf T i → ((k : ℕ) → k < count → slice_index moved k ≢ i) → low_in lows i ≡ low_in old i
  pub second : (k : ℕ) × (k < count) × (slice_index moved k ≡ b)
  pub second_low : low_in lows b ≡ low_in old a + leaf_dist T a b
  pub maker :
      (k : ℕ) → k < count → slice_index moved k ≢ b → (l : ℕ) × (l < count) × (slice_index moved l ≡ slice_index by (slice_index moved k))
  pub placed :
      (k : ℕ) → k < count → slice_index moved k ≢ b → Places path axis (slice_index by (slice_index moved k)) (slice_index moved k)
  pub made :
      (k : ℕ)
      → k < count
      → slice_index moved k ≢ b
      → low_in lows (slice_index moved k)
      ≤ low_in lows (slice_index by (slice_index moved k)) + leaf_dist T (slice_index by (slice_index moved k)) (slice_index moved k)
  pub small :
      (k : ℕ)
      → k < count
      → low_in lows (slice_index moved k) + low_in old b ≤ low_in old (slice_index moved k) + low_in old a + leaf_dist T a b

pub record WorkValue : Type 0 where
  pub by : List ℕ
  pub moved : List ℕ
  pub count : ℕ

-- each step from the first `done` moved leaves is met
abbrev pub IsRelaxed : TreeValue → List Step → Axis → List ℕ → List ℕ → ℕ → Type 0
IsRelaxed T path axis lows moved done =
    (k w : ℕ)
    → k < done
    → Places path axis (slice_index moved k) w
    → low_in lows (slice_index moved k) + leaf_dist T (slice_index moved k) w ≤ low_in lows w

-- the row's coordinates meet each step of the path on the axis, and each is 0 or made up by a step
pub record IsExact (T : TreeValue) (path : List Step) (axis : Axis) (row : List ℕ) : Type 0 where
  pub each : length row ≡ leaf_count T
  pub small : (i : ℕ) → low_in row i ≤ most_side
  pub meets : (a b : ℕ) → Places path axis a b → low_in row a + leaf_dist T a b ≤ low_in row b
  pub made_up :
      (i : ℕ) → IsLeaf T i → (low_in row i ≡ 0) ⊎ ((p : ℕ) × Places path axis p i × (low_in row p + leaf_dist T p i ≡ low_in row i))

-- lists beside the row: which leaf raised each, and which were moved
abbrev pub IsWorking : TreeValue → List Step → Axis → List ℕ → ℕ → ℕ → List ℕ → WorkValue → Type 0
IsWorking T path axis old a b lows w = IsRaising T path axis old a b lows w.by w.moved w.count

-- no coordinate fell, and the list of moved leaves grew at its end
pub record HasRisen (T : TreeValue) (lows lows' : List ℕ) (w w' : WorkValue) : Type 0 where
  pub rows : (i : ℕ) → IsLeaf T i → low_in lows i ≤ low_in lows' i
  pub count : w.count ≤ w'.count
  pub moved : (k : ℕ) → k < w.count → slice_index w'.moved k ≡ slice_index w.moved k
  pub sums : sum lows ≤ sum lows'

-- What raising over one step of a moved leaf u to leaf w gives. Met: the step is met, and what was met before still is. Again: a
-- leaf that had been moved rose again. Cycle: the first leaf would rise; nothing changed.
abbrev pub IsPulled : TreeValue → List Step → Axis → List ℕ → ℕ → ℕ → ℕ → ℕ → List ℕ → List ℕ → WorkValue → WorkValue → Pulled → Type 0
IsPulled T path axis old a b u w lows lows' work work' Met =
    IsWorking T path axis old a b lows' work'
    × HasRisen T lows lows' work work'
    × (low_in lows' u + leaf_dist T u w ≤ low_in lows' w)
    × (low_in lows' u ≡ low_in lows u)
    × ((done : ℕ) → done ≤ work.count → IsRelaxed T path axis lows work.moved done → IsRelaxed T path axis lows' work'.moved done)
IsPulled T path axis old a b u w lows lows' work work' Again =
    IsWorking T path axis old a b lows' work' × HasRisen T lows lows' work work' × (sum lows < sum lows')
IsPulled T path axis old a b u w lows lows' work work' Cycle = IsWorking T path axis old a b lows' work' × (w ≡ a) × (work' ≡ work)

-- What raising over all steps of the moved leaf at place `at` gives.
abbrev pub IsPulledAll : TreeValue → List Step → Axis → List ℕ → ℕ → ℕ → ℕ → List ℕ → List ℕ → WorkValue → WorkValue → Pulled → Type 0
IsPulledAll T path axis old a b at lows lows' work work' Met =
    IsWorking T path axis old a b lows' work'
    × HasRisen T lows lows' work work'
    × (IsRelaxed T path axis lows work.moved at → IsRelaxed T path axis lows' work'.moved (at + 1))
IsPulledAll T path axis old a b at lows lows' work work' Again =
    IsWorking T path axis old a b lows' work' × HasRisen T lows lows' work work' × (sum lows < sum lows')
IsPulledAll T path axis old a b at lows lows' work work' Cycle =
    IsWorking T path axis old a b lows' work' × (at < work'.count) × Places path axis (slice_index work'.moved at) a

-- the list has the leaves that the path places after leaf u, and no others
pub record IsRowAfter (path : List Step) (axis : Axis) (u : ℕ) (row : List ℕ) : Type 0 where
  pub places : (k : ℕ) → k < length row → Places path axis u (slice_index row k)
  pub all : (w : ℕ) → Places path axis u w → (k : ℕ) × (k < length row) × (slice_index row k ≡ w)

-- the list has the leaves that the path places before leaf u, and no others
pub record IsRowBefore (path : List Step) (axis : Axis) (u : ℕ) (row : List ℕ) : Type 0 where
  pub places : (k : ℕ) → k < length row → Places path axis (slice_index row k) u
  pub all : (w : ℕ) → Places path axis w u → (k : ℕ) × (k < length row) × (slice_index row k ≡ w)
