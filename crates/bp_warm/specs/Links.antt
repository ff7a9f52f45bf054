-- Which leaves the steps of a path place after a leaf, or before it, in the path's order.
use Rattle.std.specs.Prelude.{◌≡◌, ℕ, ◌<◌, ◌==◌, List, [], ◌∷◌, ◌++◌, length, slice_index_or, if◌then◌else◌}
use Rattle.bp_base.specs.declared.point.Axis.{Axis}
use Rattle.bp_base.specs.declared.point.Axis.TheVariants.{X, Y}
use Rattle.bp_base.specs.declared.path.Choice.{Choice}
use Rattle.bp_base.specs.declared.path.Choice.TheVariants.{Left, Right, Below, Above}
use Rattle.bp_base.specs.declared.path.Pair.{Pair}
use Rattle.bp_base.specs.declared.path.Step.{Step}
use Rattle.bp_walks.specs.Lows.{places}

abbrev pub turned : Pair → Pair
turned p = record { i = p.j; j = p.i }

-- the leaves of a choice in the order in which it places them on the axis, or nothing
abbrev pub ordered_by : Axis → Pair → Choice → List Pair
ordered_by X p Left = p ∷ []
ordered_by X p Right = turned p ∷ []
ordered_by X p Below = []
ordered_by X p Above = []
ordered_by Y p Left = []
ordered_by Y p Right = []
ordered_by Y p Below = p ∷ []
ordered_by Y p Above = turned p ∷ []

abbrev pub ordered : Axis → Step → List Pair
ordered axis s = ordered_by axis s.pair s.choice

abbrev pub turn_all : List Pair → List Pair
turn_all [] = []
turn_all (p ∷ ps) = turned p ∷ turn_all ps

-- the same the other way round
abbrev pub reversed : Axis → Step → List Pair
reversed axis s = turn_all (ordered axis s)

-- the second leaves of those pairs whose first is u
abbrev pub targets : ℕ → List Pair → List ℕ
targets u [] = []
targets u (p ∷ ps) = if p.i == u then p.j ∷ targets u ps else targets u ps

abbrev pub row_of : (Step → List Pair) → List Step → ℕ → List ℕ
row_of g [] u = []
row_of g (s ∷ path) u = targets u (g s) ++ row_of g path u

-- rows of leaf numbers, and how long a row may become
pub record LinksValue : Type 0 where
  pub room : ℕ
  pub rows : List (List ℕ)

-- the row of each leaf is that of the path
pub record AreLinks (g : Step → List Pair) (path : List Step) (l : LinksValue) : Type 0 where
  pub each : length l.rows ≡ places
  pub row : (u : ℕ) → u < places → slice_index_or l.rows u [] ≡ row_of g path u

-- the choice places leaf a before leaf b on this axis
abbrev pub IsOrder : Pair → Choice → Axis → ℕ → ℕ → Type 0
IsOrder p Left axis a b = (axis ≡ X) × (a ≡ p.i) × (b ≡ p.j)
IsOrder p Right axis a b = (axis ≡ X) × (a ≡ p.j) × (b ≡ p.i)
IsOrder p Below axis a b = (axis ≡ Y) × (a ≡ p.i) × (b ≡ p.j)
IsOrder p Above axis a b = (axis ≡ Y) × (a ≡ p.j) × (b ≡ p.i)

abbrev pub other : Axis → Axis
other X = Y
other Y = X
