-- Parts of a table of cells between cuts: how many unit cells each label has, which labels are wanted, and the list of parts.
use Rattle.std.specs.Prelude.{◌≡◌, ◌⊎◌, ℕ, ◌+◌, ◌-◌, ◌*◌, ◌<◌, ◌≤◌, ◌↔◌, Bool, false, List, length, slice_index, slice_index_or, IsTrue}
use Rattle.bp_base.specs.declared.point.Piece.{Piece}
use Rattle.bp_base.specs.Limits.{most_number}
use Rattle.bp_contour.specs.Table.{TableValue}
use Rattle.bp_regions.specs.Contours.{ComesBefore}
use Rattle.bp_pieces.specs.declared.kind.Kind.{Kind}
use Rattle.bp_pieces.specs.declared.kind.Kind.TheVariants.{Outside, Reached}
use Rattle.bp_pieces.specs.Labels.{Among, AreLabels, Near, label_at}
use Rattle.bp_pieces.specs.Pieces.{Counts, CountsRows, part_at}

-- cuts 0 to n rise from 0 to the side
pub record AreLines (cuts : List ℕ) (n side : ℕ) : Type 0 where
  pub long : n ≡ length cuts - 1
  pub first : slice_index cuts 0 ≡ 0
  pub last : slice_index cuts n ≡ side
  pub rise : (i j : ℕ) → i < j → j ≤ n → slice_index cuts i < slice_index cuts j

-- the side of the square that the columns go over
abbrev pub side_of : TableValue → List ℕ → ℕ
side_of C columns = slice_index columns C.width

-- the columns and the rows of a table that goes over a square
pub record IsGrid (C : TableValue) (columns rows : List ℕ) : Type 0 where
  pub across : AreLines columns C.width (side_of C columns)
  pub along : AreLines rows C.height (side_of C columns)
  pub small : side_of C columns ≤ most_number

-- in row b of the table, x lies in a column whose cell has the label
pub record IsInRow (C : TableValue) (kind : Kind) (columns labels : List ℕ) (label b x : ℕ) : Type 0 where
  pub a : ℕ
  pub from : slice_index columns a ≤ x
  pub to : x < slice_index columns (a + 1)
  pub among : Among C kind a b
  pub is : label_at C.width labels a b ≡ label

-- the unit cell (x,y) lies in a cell of the table that has the label
pub record IsLabelled (C : TableValue) (kind : Kind) (columns rows labels : List ℕ) (label x y : ℕ) : Type 0 where
  pub b : ℕ
  pub from : slice_index rows b ≤ y
  pub to : y < slice_index rows (b + 1)
  pub in_row : IsInRow C kind columns labels label b x

-- for each label the number of its unit cells in the first n rows of the table
pub record AreAreas (C : TableValue) (kind : Kind) (columns rows labels : List ℕ) (n : ℕ) (areas : List ℕ) : Type 0 where
  pub long : length areas ≡ C.width * C.height
  pub exact : (label : ℕ) → label < length areas → CountsRows (IsLabelled C kind columns rows labels label) (side_of C columns) (slice_index rows n) (slice_index areas label)

-- an area was added for each unit cell that has the label in the first n columns of row b, of this height
pub record IsAdded (C : TableValue) (kind : Kind) (columns labels : List ℕ) (b height n label old new : ℕ) : Type 0 where
  pub count : ℕ
  pub counts : Counts (IsInRow C kind columns labels label b) (slice_index columns n) count
  pub is : new ≡ old + height * count

pub record AreAdded (C : TableValue) (kind : Kind) (columns labels : List ℕ) (b height n : ℕ) (before after : List ℕ) : Type 0 where
  pub long : length after ≡ length before
  pub each : (label : ℕ) → label < length before → IsAdded C kind columns labels b height n label (slice_index before label) (slice_index after label)

-- a cell at the border of the table: a part of the outside that has one is no hole
abbrev pub IsOpen : TableValue → Kind → ℕ → ℕ → Type 0
IsOpen C Reached a b = ⊥
IsOpen C Outside a b = Among C Outside a b × ((a ≡ 0) ⊎ (b ≡ 0) ⊎ (a + 1 ≡ C.width) ⊎ (b + 1 ≡ C.height))

-- the labels that none of the first n open cells has
pub record AreWanted (C : TableValue) (kind : Kind) (labels : List ℕ) (n : ℕ) (wanted : List Bool) : Type 0 where
  pub long : length wanted ≡ C.width * C.height
  pub exact : (label : ℕ) → label < C.width * C.height → (IsTrue (slice_index_or wanted label false) ↔ ((a b : ℕ) → IsOpen C kind a b → b * C.width + a < n → label_at C.width labels a b ≡ label → ⊥))

-- the least cell of a wanted part
pub record IsFirst (C : TableValue) (kind : Kind) (labels : List ℕ) (wanted : List Bool) (a b : ℕ) : Type 0 where
  pub among : Among C kind a b
  pub own : label_at C.width labels a b ≡ b * C.width + a
  pub is_wanted : IsTrue (slice_index_or wanted (b * C.width + a) false)

-- its part
abbrev pub part_for : TableValue → List ℕ → List ℕ → List ℕ → ℕ → ℕ → Piece
part_for C columns rows areas a b = record {
  at = record { x = slice_index columns a; y = slice_index rows b };
  area = slice_index areas (b * C.width + a);
}

-- the part is that of one of the first n cells
pub record IsListed (C : TableValue) (kind : Kind) (columns rows labels areas : List ℕ) (wanted : List Bool) (n : ℕ) (p : Piece) : Type 0 where
  pub a : ℕ
  pub b : ℕ
  pub first : IsFirst C kind labels wanted a b
  pub below : b * C.width + a < n
  pub is : p ≡ part_for C columns rows areas a b

-- the wanted parts whose least cells are among the first n cells, each once, rising
pub record AreListed (C : TableValue) (kind : Kind) (columns rows labels areas : List ℕ) (wanted : List Bool) (n : ℕ) (parts : List Piece) : Type 0 where
  pub sound : (k : ℕ) → k < length parts → IsListed C kind columns rows labels areas wanted n (part_at parts k)
  pub complete : (a b : ℕ) → IsFirst C kind labels wanted a b → b * C.width + a < n → (k : ℕ) × (k < length parts) × (part_at parts k ≡ part_for C columns rows areas a b)
  pub rising : (i j : ℕ) → i < j → j < length parts → ComesBefore (part_at parts i).at (part_at parts j).at

-- all wanted parts of the table
pub record ArePartsOf (C : TableValue) (kind : Kind) (columns rows : List ℕ) (parts : List Piece) : Type 0 where
  pub labels : List ℕ
  pub areas : List ℕ
  pub wanted : List Bool
  pub labelled : AreLabels (Among C kind) (Near kind) C.width C.height labels
  pub measured : AreAreas C kind columns rows labels C.height areas
  pub chosen : AreWanted C kind labels (C.width * C.height) wanted
  pub listed : AreListed C kind columns rows labels areas wanted (C.width * C.height) parts
