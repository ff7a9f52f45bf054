-- What the search under bounds keeps, and what it answers.
use Rattle.std.specs.Prelude.{◌≡◌, ◌⊎◌, ℕ, zero, suc, ◌+◌, ◌-◌, ◌*◌, ◌<◌, ◌≤◌, max, Bool, true, false, List, [], ◌∷◌, ◌++◌, Option, None, Some, length, sum, take, drop, replicate, slice_index, All}
use Rattle.std.specs.Int.{abs_diff}
use Rattle.bp_base.specs.declared.path.Choice.{Choice}
use Rattle.bp_base.specs.declared.path.Choice.TheVariants.{Left, Right, Below, Above}
use Rattle.bp_base.specs.declared.path.Pair.{Pair}
use Rattle.bp_base.specs.declared.path.Step.{Step}
use Rattle.bp_base.specs.declared.point.Axis.{Axis}
use Rattle.bp_base.specs.declared.point.Axis.TheVariants.{X, Y}
use Rattle.bp_base.specs.declared.point.Point.{Point}
use Rattle.bp_base.specs.declared.point.Sheet.{Sheet}
use Rattle.bp_base.specs.Limits.{most_number}
use Rattle.bp_base.specs.Tree.{TreeValue, IsLeaf, leaf_count}
use Rattle.bp_metric.specs.Chains.{Places}
use Rattle.bp_metric.specs.Distance.{leaf_dist}
use Rattle.bp_metric.specs.Steady.{IsSteady}
use Rattle.bp_metric.specs.Valid.{IsPair}
use Rattle.bp_steady.specs.Bounds.{BoundsValue, of_leaf, low_of, high_of, place}
use Rattle.bp_steady.specs.Questions.{asked, coordinates, ends, question}
use Rattle.bp_steady.specs.Sums.{AreInTree, HavePaths, IsMAtLeast}
use Rattle.bp_steady.specs.declared.answering.Steadied.{Steadied}
use Rattle.bp_steady.specs.declared.answering.Steadied.TheVariants.{Points, Spent as OutOfBudget}
use Rattle.bp_steady.specs.declared.orders.Order.{Order}
use Rattle.bp_steady.specs.declared.rising.Pulled.{Pulled}
use Rattle.bp_steady.specs.declared.rising.Pulled.TheVariants.{Met, Risen, Above as TooHigh}
use Rattle.bp_steady.specs.declared.searching.Answer.{Answer}
use Rattle.bp_steady.specs.declared.searching.Answer.TheVariants.{Yes, No, Spent}

-- the coordinates keep to the bounds
abbrev pub KeepsTo : TreeValue → BoundsValue → (Axis → ℕ → ℕ) → Type 0
KeepsTo T b f = (axis : Axis) (i : ℕ) → IsLeaf T i → (low_of b axis i ≤ f axis i) × (f axis i ≤ high_of b axis i)

-- the coordinates meet each step of the path
abbrev pub MeetsAll : TreeValue → List Step → (Axis → ℕ → ℕ) → Type 0
MeetsAll T path f = (axis : Axis) (a b : ℕ) → Places path axis a b → f axis a + leaf_dist T a b ≤ f axis b

-- each pair of leaves is at least its distance apart
abbrev pub AreFar : TreeValue → (Axis → ℕ → ℕ) → Type 0
AreFar T f =
    (i j : ℕ) → IsPair T i j → leaf_dist T i j ≤ max (abs_diff (f X i) (f X j)) (abs_diff (f Y i) (f Y j))

-- a placement within the bounds that meets each step of the path
pub record IsPlacing (T : TreeValue) (b : BoundsValue) (path : List Step) (f : Axis → ℕ → ℕ) : Type 0 where
  pub keeps : KeepsTo T b f
  pub meets : MeetsAll T path f
  pub far : AreFar T f

-- low numbers up to high ones, each a number of a document, for each coordinate
pub record AreBounds (T : TreeValue) (b : BoundsValue) : Type 0 where
  pub each_low : length b.low ≡ 2 * leaf_count T
  pub each_high : length b.high ≡ 2 * leaf_count T
  pub rise : (k : ℕ) → slice_index b.low k ≤ slice_index b.high k
  pub small : (k : ℕ) → slice_index b.high k ≤ most_number

-- a row of coordinates on the way up to the least ones that meet each step: none is greater than it must be
pub record IsRising (T : TreeValue) (path : List Step) (b : BoundsValue) (row : List ℕ) : Type 0 where
  pub keeps : KeepsTo T b (of_leaf row)
  pub small : (k : ℕ) → slice_index row k ≤ most_number
  pub made :
      (axis : Axis) (i : ℕ)
      → IsLeaf T i
      → (of_leaf row axis i ≡ low_of b axis i)
      ⊎ ((p : ℕ) × Places path axis p i × (of_leaf row axis i ≤ of_leaf row axis p + leaf_dist T p i))
  pub least :
      (f : Axis → ℕ → ℕ)
      → KeepsTo T b f
      → MeetsAll T path f
      → (axis : Axis) (i : ℕ)
      → IsLeaf T i
      → of_leaf row axis i ≤ f axis i

-- a row of the least coordinates that meet each step
pub record IsRow (T : TreeValue) (path : List Step) (b : BoundsValue) (row : List ℕ) : Type 0 where
  pub rising : IsRising T path b row
  pub meets : MeetsAll T path (of_leaf row)

-- no coordinates within the bounds meet each step
abbrev pub NoneMeets : TreeValue → List Step → BoundsValue → Type 0
NoneMeets T path b = (f : Axis → ℕ → ℕ) → KeepsTo T b f → MeetsAll T path f → ⊥

-- what the choice asks of two coordinates: the second is at least the first and the weight
abbrev pub IsOrderOf : TreeValue → Pair → Choice → Order → Type 0
IsOrderOf T p Left o = (o.from ≡ place X p.i) × (o.to ≡ place X p.j) × (o.weight ≡ leaf_dist T p.i p.j)
IsOrderOf T p Right o = (o.from ≡ place X p.j) × (o.to ≡ place X p.i) × (o.weight ≡ leaf_dist T p.j p.i)
IsOrderOf T p Below o = (o.from ≡ place Y p.i) × (o.to ≡ place Y p.j) × (o.weight ≡ leaf_dist T p.i p.j)
IsOrderOf T p Above o = (o.from ≡ place Y p.j) × (o.to ≡ place Y p.i) × (o.weight ≡ leaf_dist T p.j p.i)

-- the row meets this step
abbrev pub MeetsStep : TreeValue → Step → List ℕ → Type 0
MeetsStep T s row = MeetsAll T (s ∷ []) (of_leaf row)

-- a near pair, by a row
abbrev pub AreNear : TreeValue → List ℕ → ℕ → ℕ → Type 0
AreNear T row i j =
    max (abs_diff (of_leaf row X i) (of_leaf row X j)) (abs_diff (of_leaf row Y i) (of_leaf row Y j)) < leaf_dist T i j

-- the place (i, j) in the order of pairs is past the pair (k, l)
abbrev pub IsPast : ℕ → ℕ → ℕ → ℕ → Type 0
IsPast i j k l = (k < i) ⊎ ((k ≡ i) × (l < j))

-- p is the near pair of greatest distance before (i, j), and of least number among those
pub record IsFarthest (T : TreeValue) (row : List ℕ) (i j : ℕ) (p : Pair) : Type 0 where
  pub pair : IsPair T p.i p.j
  pub before : IsPast i j p.i p.j
  pub near : AreNear T row p.i p.j
  pub most : (k l : ℕ) → IsPair T k l → IsPast i j k l → AreNear T row k l → leaf_dist T k l ≤ leaf_dist T p.i p.j
  pub first :
      (k l : ℕ)
      → IsPair T k l
      → AreNear T row k l
      → leaf_dist T k l ≡ leaf_dist T p.i p.j
      → IsPast p.i p.j k l
      → ⊥

-- that pair, or none where no pair before (i, j) is near
abbrev pub IsBest : TreeValue → List ℕ → ℕ → ℕ → Option Pair → Type 0
IsBest T row i j None = (k l : ℕ) → IsPair T k l → IsPast i j k l → AreNear T row k l → ⊥
IsBest T row i j (Some p) = IsFarthest T row i j p

-- raising a row by one step of the path
abbrev pub IsPulled : TreeValue → List Step → BoundsValue → Step → List ℕ → List ℕ → Pulled → Type 0
IsPulled T path b s old new Met = (new ≡ old) × MeetsStep T s old
IsPulled T path b s old new Risen = IsRising T path b new × (sum old < sum new)
IsPulled T path b s old new TooHigh = NoneMeets T path b

-- raising it by all steps in turn
abbrev pub IsPassed : TreeValue → List Step → BoundsValue → List ℕ → List ℕ → Pulled → Type 0
IsPassed T path b old new Met = IsRow T path b new
IsPassed T path b old new Risen = IsRising T path b new × (sum old < sum new)
IsPassed T path b old new TooHigh = NoneMeets T path b

abbrev pub IsRaised : TreeValue → List Step → BoundsValue → List ℕ → Bool → Type 0
IsRaised T path b new true = IsRow T path b new
IsRaised T path b new false = NoneMeets T path b

-- the list q begins with this path
abbrev pub BeginsWith : List Step → List Step → Type 0
BeginsWith path q = (r : List Step) × (q ≡ path ++ r)

-- different paths of the tree of the bounds, each of which begins with this path
pub record AreUnder (T : TreeValue) (b : BoundsValue) (path : List Step) (paths : List (List Step)) : Type 0 where
  pub in_tree : AreInTree T b paths
  pub begin : All (BeginsWith path) paths

-- each of them is longer
pub record AreBehind (T : TreeValue) (b : BoundsValue) (path : List Step) (paths : List (List Step)) : Type 0 where
  pub under : AreUnder T b path paths
  pub longer : All (λ q. length path < length q) paths

abbrev pub HasPlacing : TreeValue → BoundsValue → Type 0
HasPlacing T b = (f : Axis → ℕ → ℕ) × IsPlacing T b [] f

abbrev pub NoPlacing : TreeValue → BoundsValue → List Step → Type 0
NoPlacing T b path = (f : Axis → ℕ → ℕ) → IsPlacing T b path f → ⊥

-- What a search says of the placements, and which paths it has examined, each of which took one from the budget; where that is
-- spent, one more is wanted.
abbrev pub IsAnswered : (List (List Step) → Type 0) → TreeValue → BoundsValue → List Step → ℕ → ℕ → Answer → Type 0
IsAnswered Are T b path before after Yes =
    HasPlacing T b × ((paths : List (List Step)) × Are paths × (length paths + after ≡ before))
IsAnswered Are T b path before after No =
    NoPlacing T b path × ((paths : List (List Step)) × Are paths × (length paths + after ≡ before))
IsAnswered Are T b path before after Spent = (paths : List (List Step)) × Are paths × (length paths ≡ before + 1)

-- the choices in the order in which they are tried
abbrev pub choice_at : ℕ → Choice
choice_at zero = Left
choice_at (suc zero) = Right
choice_at (suc (suc zero)) = Below
choice_at (suc (suc (suc k))) = Above

-- the bounds before the coordinate at c is looked for: those before it are as in the steady list of P, the others as on the sheet
abbrev pub StandsAt : TreeValue → Sheet → ℕ → List Point → ℕ → BoundsValue → Type 0
StandsAt T G S P c b =
    (b.low ≡ take c (coordinates P) ++ replicate (length (ends G S (leaf_count T)) - c) 0)
    × (b.high ≡ take c (coordinates P) ++ drop c (ends G S (leaf_count T)))

-- the questions of the coordinate at c
abbrev pub asked_at : TreeValue → Sheet → ℕ → List Point → ℕ → List BoundsValue
asked_at T G S P c =
    asked (coordinates P) (ends G S (leaf_count T)) c 0 (slice_index (ends G S (leaf_count T)) c)

-- the coordinate at c is found, by these questions; or the budget doesn't reach for them
abbrev pub IsFound : TreeValue → Sheet → ℕ → List Point → ℕ → ℕ → ℕ → BoundsValue → Option ℕ → Type 0
IsFound T G S P c before after new (Some v) =
    (v ≡ slice_index (coordinates P) c)
    × ((x : ℕ) × (new ≡ question (coordinates P) (ends G S (leaf_count T)) c x))
    × ((m : ℕ) × HavePaths T (asked_at T G S P c) m × (m + after ≡ before))
IsFound T G S P c before after new None = HavePaths T (asked_at T G S P c) (before + 1)

-- what `steady` answers: the steady points, or that the budget is less than M
abbrev pub IsSteadied : TreeValue → Sheet → ℕ → ℕ → Steadied → Type 0
IsSteadied T G S budget (Points P) = IsSteady T G S P
IsSteadied T G S budget OutOfBudget = IsMAtLeast T G S (budget + 1)
