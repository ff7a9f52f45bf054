-- What a search writes: a document of the tree on its sheet, whose bound is its side where the budget covers the stated tree.
use Rattle.std.specs.Prelude.{◌≡◌, ◌≤◌, ◌<◌, ℕ, false}
use Rattle.bp_base.specs.declared.point.Floor.{Floor}
use Rattle.bp_base.specs.declared.point.Placement.{Placement}
use Rattle.bp_base.specs.declared.point.Sheet.{Sheet}
use Rattle.bp_base.specs.Limits.{most_number}
use Rattle.bp_base.specs.Tree.{TreeValue}
use Rattle.bp_opening.specs.Small.{IsSmall as IsSmallOpening}
use Rattle.bp_metric.specs.Opening.{IsOpening, side_of}
use Rattle.bp_metric.specs.Stated.{CoversStated}
use Rattle.bp_document.specs.declared.document.Document.{Document}
use Rattle.bp_document.specs.Ranges.{IsDocument}
use Rattle.bp_check.specs.Written.{IsWritten}

-- it is the tree's opening on the sheet, at its side
pub record IsOpeningOf (T : TreeValue) (G : Sheet) (p : Placement) : Type 0 where
  pub opening : IsOpening T G p.points
  pub side : p.side ≡ side_of G p.points
  pub small : IsSmallOpening p

-- a side can be told in a document, and is above that of the floor
abbrev pub IsAbove : Floor → ℕ → Type 0
IsAbove f side = (f.side < side) × (side ≤ most_number)

-- the document is written for the tree on this sheet with this budget, and where the budget is at least the number of the stated tree's
-- paths no smaller sheet will do
pub record IsSearched (T : TreeValue) (G : Sheet) (B : ℕ) (D : Document) : Type 0 where
  pub tree : D.tree ≡ T
  pub sheet : D.sheet ≡ G
  pub ranges : IsDocument D
  pub written : IsWritten T B false D
  pub complete : CoversStated T G B → D.bound ≡ D.side
