-- Boundary segments and runs by their direction.
use Rattle.std.specs.Prelude.{◌≡◌, ℕ, ◌+◌, ◌-◌, ◌^◌, ◌<◌, ◌≤◌}
use Rattle.bp_base.specs.declared.point.Point.{Point}
use Rattle.bp_contour.specs.declared.way.Way.{Way}
use Rattle.bp_contour.specs.declared.way.Way.TheVariants.{East, North, West, South}
use Rattle.bp_regions.specs.Runs.{GoesEast, GoesNorth, GoesSouth, GoesWest, IsEastRun, IsNorthRun, IsSouthRun, IsWestRun}

abbrev pub left_of : Way → Way
left_of East = North
left_of North = West
left_of West = South
left_of South = East

abbrev pub right_of : Way → Way
right_of East = South
right_of North = East
right_of West = North
right_of South = West

abbrev pub number_of : Way → ℕ
number_of East = 0
number_of North = 1
number_of West = 2
number_of South = 3

-- the next grid point this way
abbrev pub step_on : Way → Point → Point
step_on East p = record { x = p.x + 1; y = p.y }
step_on North p = record { x = p.x; y = p.y + 1 }
step_on West p = record { x = p.x - 1; y = p.y }
step_on South p = record { x = p.x; y = p.y - 1 }

-- there is room for it: a coordinate that falls isn't 0, and one that rises is small
abbrev pub CanStep : Way → Point → Type 0
CanStep East p = p.x + 1 < 2 ^ 64
CanStep North p = p.y + 1 < 2 ^ 64
CanStep West p = 1 ≤ p.x
CanStep South p = 1 ≤ p.y

-- a unit segment of the boundary goes this way between (x,y) and (x+1,y), for North and South between (x,y) and (x,y+1)
abbrev pub GoesBy : (ℕ → ℕ → Type 0) → Way → ℕ → ℕ → Type 0
GoesBy In East x y = GoesEast In x y
GoesBy In North x y = GoesNorth In x y
GoesBy In West x y = GoesWest In x y
GoesBy In South x y = GoesSouth In x y

-- a unit segment that goes this way begins at the point
abbrev pub Leaves : (ℕ → ℕ → Type 0) → Way → Point → Type 0
Leaves In East p = GoesEast In p.x p.y
Leaves In North p = GoesNorth In p.x p.y
Leaves In West p = (1 ≤ p.x) × GoesWest In (p.x - 1) p.y
Leaves In South p = (1 ≤ p.y) × GoesSouth In p.x (p.y - 1)

-- a unit segment that goes this way ends at the point
abbrev pub Arrives : (ℕ → ℕ → Type 0) → Way → Point → Type 0
Arrives In East p = (1 ≤ p.x) × GoesEast In (p.x - 1) p.y
Arrives In North p = (1 ≤ p.y) × GoesNorth In p.x (p.y - 1)
Arrives In West p = GoesWest In p.x p.y
Arrives In South p = GoesSouth In p.x p.y

-- a run that goes this way begins at the point
abbrev pub Begins : (ℕ → ℕ → Type 0) → Way → Point → Type 0
Begins In way p = Leaves In way p × (Arrives In way p → ⊥)

-- no run begins at the point
abbrev pub BeginsNone : (ℕ → ℕ → Type 0) → Point → Type 0
BeginsNone In p = (way : Way) → Begins In way p → ⊥

-- a run that goes this way leads from p to q
abbrev pub RunBy : (ℕ → ℕ → Type 0) → Way → Point → Point → Type 0
RunBy In East p q = IsEastRun In p q
RunBy In North p q = IsNorthRun In p q
RunBy In West p q = IsWestRun In p q
RunBy In South p q = IsSouthRun In p q

-- q is reached from p by unit segments that go this way
abbrev pub Reaches : (ℕ → ℕ → Type 0) → Way → Point → Point → Type 0
Reaches In East p q = (p.y ≡ q.y) × (p.x ≤ q.x) × ((k : ℕ) → p.x ≤ k → k < q.x → GoesEast In k p.y)
Reaches In North p q = (p.x ≡ q.x) × (p.y ≤ q.y) × ((k : ℕ) → p.y ≤ k → k < q.y → GoesNorth In p.x k)
Reaches In West p q = (p.y ≡ q.y) × (q.x ≤ p.x) × ((k : ℕ) → q.x ≤ k → k < p.x → GoesWest In k p.y)
Reaches In South p q = (p.x ≡ q.x) × (q.y ≤ p.y) × ((k : ℕ) → q.y ≤ k → k < p.y → GoesSouth In p.x k)
