-- Runs: the straight pieces of the boundary of a set of cells, directed so that the cells lie on its left, and which run follows one.
use Rattle.std.specs.Prelude.{◌≡◌, ◌≢◌, ◌⊎◌, ℕ, ◌-◌, ◌<◌, ◌≤◌}
use Rattle.bp_base.specs.declared.point.Point.{Point}

-- the cell below the unit segment from (x,y) to (x+1,y), which may lie outside the sheet, is in the set
abbrev pub Below : (ℕ → ℕ → Type 0) → ℕ → ℕ → Type 0
Below In x y = (1 ≤ y) × In x (y - 1)

-- the cell on the left of the unit segment from (x,y) to (x,y+1) is in the set
abbrev pub Beside : (ℕ → ℕ → Type 0) → ℕ → ℕ → Type 0
Beside In x y = (1 ≤ x) × In (x - 1) y

-- the unit segment from (x,y) to (x+1,y), with a cell of the set above and none below
abbrev pub GoesEast : (ℕ → ℕ → Type 0) → ℕ → ℕ → Type 0
GoesEast In x y = In x y × (Below In x y → ⊥)

-- the unit segment from (x,y) to (x,y+1), with a cell at the smaller x and none at the greater
abbrev pub GoesNorth : (ℕ → ℕ → Type 0) → ℕ → ℕ → Type 0
GoesNorth In x y = Beside In x y × (In x y → ⊥)

-- the unit segment from (x+1,y) to (x,y), with a cell below and none above
abbrev pub GoesWest : (ℕ → ℕ → Type 0) → ℕ → ℕ → Type 0
GoesWest In x y = Below In x y × (In x y → ⊥)

-- the unit segment from (x,y+1) to (x,y), with a cell at the greater x and none at the smaller
abbrev pub GoesSouth : (ℕ → ℕ → Type 0) → ℕ → ℕ → Type 0
GoesSouth In x y = In x y × (Beside In x y → ⊥)

-- the numbers from a to before b have the property, and neither the one before a nor b has it
pub record IsStretch (P : ℕ → Type 0) (a b : ℕ) : Type 0 where
  pub some : a < b
  pub all : (k : ℕ) → a ≤ k → k < b → P k
  pub start : 1 ≤ a → P (a - 1) → ⊥
  pub stop : P b → ⊥

abbrev pub IsEastRun : (ℕ → ℕ → Type 0) → Point → Point → Type 0
IsEastRun In p q = (p.y ≡ q.y) × IsStretch (λ x. GoesEast In x p.y) p.x q.x

abbrev pub IsNorthRun : (ℕ → ℕ → Type 0) → Point → Point → Type 0
IsNorthRun In p q = (p.x ≡ q.x) × IsStretch (λ y. GoesNorth In p.x y) p.y q.y

abbrev pub IsWestRun : (ℕ → ℕ → Type 0) → Point → Point → Type 0
IsWestRun In p q = (p.y ≡ q.y) × IsStretch (λ x. GoesWest In x p.y) q.x p.x

abbrev pub IsSouthRun : (ℕ → ℕ → Type 0) → Point → Point → Type 0
IsSouthRun In p q = (p.x ≡ q.x) × IsStretch (λ y. GoesSouth In p.x y) q.y p.y

-- p and q are the first and the last point of a longest run of boundary segments of one direction
abbrev pub IsRun : (ℕ → ℕ → Type 0) → Point → Point → Type 0
IsRun In p q = IsEastRun In p q ⊎ IsNorthRun In p q ⊎ IsWestRun In p q ⊎ IsSouthRun In p q

-- who goes from p to q and on to r turns left at q
abbrev pub TurnsLeft : Point → Point → Point → Type 0
TurnsLeft p q r =
    ((p.x < q.x) × (q.y < r.y)) ⊎ ((p.y < q.y) × (r.x < q.x)) ⊎ ((q.x < p.x) × (r.y < q.y)) ⊎ ((q.y < p.y) × (q.x < r.x))

-- the run from q to r is after the one from p to q: it begins there, and where two begin there, it is the one that turns left
pub record IsAfter (In : ℕ → ℕ → Type 0) (p q r : Point) : Type 0 where
  pub run : IsRun In q r
  pub left : (s : Point) → IsRun In q s → s ≢ r → TurnsLeft p q r
