-- Labels of the cells of a table.
use Rattle.std.specs.Prelude.{◌≡◌, ℕ, ◌+◌, ◌*◌, ◌<◌, ◌≤◌, List, length, slice_index}
use Rattle.bp_contour.specs.Table.{Holds, TableValue}
use Rattle.bp_pieces.specs.declared.kind.Kind.{Kind}
use Rattle.bp_pieces.specs.declared.kind.Kind.TheVariants.{Outside, Reached}
use Rattle.bp_pieces.specs.Pieces.{IsJoined, Meet, Touch}

-- the cells that parts of the kind are made of
abbrev pub Among : TableValue → Kind → ℕ → ℕ → Type 0
Among C Reached x y = Holds C x y
Among C Outside x y = (x < C.width) × (y < C.height) × (Holds C x y → ⊥)

-- which of them are near
abbrev pub Near : Kind → ℕ → ℕ → ℕ → ℕ → Type 0
Near Reached = Touch
Near Outside = Meet

-- the label of the cell in this column and row
abbrev pub label_at : ℕ → List ℕ → ℕ → ℕ → ℕ
label_at w labels x y = slice_index labels (y * w + x)

-- from the cell (x,y) a chain leads to a cell with this label
pub record IsFound (In : ℕ → ℕ → Type 0) (Near : ℕ → ℕ → ℕ → ℕ → Type 0) (w : ℕ) (labels : List ℕ) (x y label : ℕ) : Type 0 where
  pub u : ℕ
  pub v : ℕ
  pub joined : IsJoined In Near x y u v
  pub is : label_at w labels u v ≡ label

-- the label is the place of a cell to which a chain leads from (x,y), and none after it
pub record IsPlaceFor (In : ℕ → ℕ → Type 0) (Near : ℕ → ℕ → ℕ → ℕ → Type 0) (w x y label : ℕ) : Type 0 where
  pub u : ℕ
  pub v : ℕ
  pub joined : IsJoined In Near x y u v
  pub is : v * w + u ≡ label
  pub before : label ≤ y * w + x

-- each cell has such a label
pub record HasLabels (In : ℕ → ℕ → Type 0) (Near : ℕ → ℕ → ℕ → ℕ → Type 0) (w h : ℕ) (labels : List ℕ) : Type 0 where
  pub long : length labels ≡ w * h
  pub place : (x y : ℕ) → In x y → IsPlaceFor In Near w x y (label_at w labels x y)

-- no near cell has a lesser label than (x,y)
abbrev pub IsLowest : (ℕ → ℕ → Type 0) → (ℕ → ℕ → ℕ → ℕ → Type 0) → ℕ → List ℕ → ℕ → ℕ → Type 0
IsLowest In Near w labels x y = (u v : ℕ) → In u v → Near x y u v → label_at w labels x y ≤ label_at w labels u v

-- and that of all cells, so cells that a chain joins have one label
pub record AreLabels (In : ℕ → ℕ → Type 0) (Near : ℕ → ℕ → ℕ → ℕ → Type 0) (w h : ℕ) (labels : List ℕ) : Type 0 where
  pub has : HasLabels In Near w h labels
  pub lowest : (x y : ℕ) → In x y → IsLowest In Near w labels x y
