-- Pieces and holes: the parts of a set of cells, and those of the cells outside it, that chains of cells join.
use Rattle.std.specs.Prelude.{◌≡◌, ◌⊎◌, ℕ, suc, ◌+◌, ◌<◌, ◌≤◌, List, length, slice_index_or}
use Rattle.bp_base.specs.declared.point.Piece.{Piece}
use Rattle.bp_base.specs.declared.point.Report.{Report}
use Rattle.bp_base.specs.Point.{origin}
use Rattle.bp_regions.specs.Cells.{IsCell}
use Rattle.bp_regions.specs.Contours.{ComesBefore}

abbrev pub AreNeighbours : ℕ → ℕ → Type 0
AreNeighbours a b = (a + 1 ≡ b) ⊎ (b + 1 ≡ a)

-- the cells (x,y) and (u,v) share a unit segment
abbrev pub Touch : ℕ → ℕ → ℕ → ℕ → Type 0
Touch x y u v = ((x ≡ u) × AreNeighbours y v) ⊎ ((y ≡ v) × AreNeighbours x u)

-- they share a unit segment or a point
abbrev pub Meet : ℕ → ℕ → ℕ → ℕ → Type 0
Meet x y u v = (x ≤ u + 1) × (u ≤ x + 1) × (y ≤ v + 1) × (v ≤ y + 1)

-- A chain of cells of the set leads from (x,y) to (u,v), and each is near to the one before it.
pub data IsJoined (In : ℕ → ℕ → Type 0) (Near : ℕ → ℕ → ℕ → ℕ → Type 0) (x y : ℕ) : ℕ → ℕ → Type 0 where
  alone : In x y → IsJoined In Near x y x y
  onward : {u v : ℕ} → IsJoined In Near x y u v → (s t : ℕ) → Near u v s t → In s t → IsJoined In Near x y s t

-- n of the numbers below k are in the set
pub data Counts (In : ℕ → Type 0) : ℕ → ℕ → Type 0 where
  start : Counts In 0 0
  within : {k n : ℕ} → Counts In k n → In k → Counts In (suc k) (suc n)
  without : {k n : ℕ} → Counts In k n → (In k → ⊥) → Counts In (suc k) n

-- the first y rows of a square of side S have n cells of the set
pub data CountsRows (In : ℕ → ℕ → Type 0) (S : ℕ) : ℕ → ℕ → Type 0 where
  none : CountsRows In S 0 0
  row : {y n : ℕ} → CountsRows In S y n → (m : ℕ) → Counts (λ x. In x y) S m → CountsRows In S (suc y) (n + m)

-- the set has n cells on the square of side S
abbrev pub HasCells : (ℕ → ℕ → Type 0) → ℕ → ℕ → Type 0
HasCells In S n = CountsRows In S S n

-- A part of the set: the cells that chains join to its place. Its place is the least of them by (y, x), its area their number.
pub record IsPart (In : ℕ → ℕ → Type 0) (Near : ℕ → ℕ → ℕ → ℕ → Type 0) (S : ℕ) (p : Piece) : Type 0 where
  pub some : In p.at.x p.at.y
  pub least : (x y : ℕ) → IsJoined In Near p.at.x p.at.y x y → ComesBefore (record { x = x; y = y }) p.at → ⊥
  pub area : HasCells (IsJoined In Near p.at.x p.at.y) S p.area

abbrev pub part_at : List Piece → ℕ → Piece
part_at parts k = slice_index_or parts k (record { at = origin; area = 0 })

-- All parts of the set whose cells are wanted, each once, rising by their places.
pub record AreParts (In : ℕ → ℕ → Type 0) (Near : ℕ → ℕ → ℕ → ℕ → Type 0) (Wanted : ℕ → ℕ → Type 0) (S : ℕ) (parts : List Piece) : Type 0 where
  pub sound : (k : ℕ) → k < length parts → IsPart In Near S (part_at parts k)
  pub wanted : (k : ℕ) → k < length parts → Wanted (part_at parts k).at.x (part_at parts k).at.y
  pub complete : (x y : ℕ) → In x y → Wanted x y → (k : ℕ) × (k < length parts) × IsJoined In Near (part_at parts k).at.x (part_at parts k).at.y x y
  pub rising : (i j : ℕ) → i < j → j < length parts → ComesBefore (part_at parts i).at (part_at parts j).at

-- the cell lies on the square, and not in the set
abbrev pub IsOutside : (ℕ → ℕ → Type 0) → ℕ → ℕ → ℕ → Type 0
IsOutside In S x y = IsCell S x y × (In x y → ⊥)

-- no side of the cell lies on the border
abbrev pub IsInner : ℕ → ℕ → ℕ → Type 0
IsInner S x y = (0 < x) × (x + 1 < S) × (0 < y) × (y + 1 < S)

-- no cell at the border meets the part of the outside that holds (x,y)
abbrev pub IsEnclosed : (ℕ → ℕ → Type 0) → ℕ → ℕ → ℕ → Type 0
IsEnclosed In S x y = (u v : ℕ) → IsJoined (IsOutside In S) Meet x y u v → IsInner S u v

-- The pieces of the set are its parts joined by touching cells; its holes are the enclosed parts of the outside, joined by meeting
-- cells.
pub record IsReport (In : ℕ → ℕ → Type 0) (S : ℕ) (r : Report) : Type 0 where
  pub pieces : AreParts In Touch (λ x y. Unit {0}) S r.pieces
  pub holes : AreParts (IsOutside In S) Meet (IsEnclosed In S) S r.holes
