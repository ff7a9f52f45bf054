-- What a warm search state keeps: a row and links for each axis, and a frame for each length of the path.
use Rattle.std.specs.Prelude.{◌≡◌, ℕ, ◌+◌, ◌≤◌, List, length, take, slice_get, Some}
use Rattle.bp_base.specs.declared.point.Axis.{Axis}
use Rattle.bp_base.specs.declared.point.Axis.TheVariants.{X, Y}
use Rattle.bp_base.specs.declared.point.Sheet.{Sheet}
use Rattle.bp_base.specs.declared.path.Step.{Step}
use Rattle.bp_base.specs.declared.record.Least.{Least}
use Rattle.bp_base.specs.Tree.{TreeValue, IsTree, leaf_count}
use Rattle.bp_metric.specs.Chains.{HasPairsOf}
use Rattle.bp_metric.specs.Coordinates.{IsLeast}
use Rattle.bp_metric.specs.Metric.{IsSheet}
use Rattle.bp_warm.specs.declared.halves.Half.{Half}
use Rattle.bp_warm.specs.Links.{LinksValue, AreLinks, ordered, reversed}
use Rattle.bp_warm.specs.Raising.{IsExact}
use Rattle.bp_warm.specs.Warm.{pair_count}

-- one axis: its row of coordinates, and which leaves the path places after and before each
pub record IsHalf (T : TreeValue) (path : List Step) (axis : Axis) (row : List ℕ) (after before : LinksValue) : Type 0 where
  pub exact : IsExact T path axis row
  pub after_links : AreLinks (ordered axis) path after
  pub before_links : AreLinks (reversed axis) path before
  pub after_room : after.room ≡ pair_count T
  pub before_room : before.room ≡ pair_count T

-- the same row and links
abbrev pub IsSameHalf : Half → Half → Type 0
IsSameHalf old new = (new.row.items ≡ old.row.items) × (new.after ≡ old.after) × (new.before ≡ old.before)

-- what is kept for one length of the path
pub record IsFrame (T : TreeValue) (G : Sheet) (path : List Step) (l : Least) : Type 0 where
  pub least : IsLeast T G path l
  pub exact_x : IsExact T path X l.xs
  pub exact_y : IsExact T path Y l.ys

pub record IsLong (T : TreeValue) (l : Least) : Type 0 where
  pub xs : length l.xs ≡ leaf_count T
  pub ys : length l.ys ≡ leaf_count T

-- a frame for each length up to the path's, and room for all others
pub record AreFrames (T : TreeValue) (G : Sheet) (path : List Step) (frames : List Least) : Type 0 where
  pub each : length frames ≡ pair_count T + 1
  pub long : (k : ℕ) (l : Least) → slice_get frames k ≡ Some l → IsLong T l
  pub frame : (k : ℕ) (l : Least) → k ≤ length path → slice_get frames k ≡ Some l → IsFrame T G (take k path) l

-- the rows are those of the path's own frame
abbrev pub IsNow : List Step → List Least → List ℕ → List ℕ → Type 0
IsNow path frames xs ys = (l : Least) → slice_get frames (length path) ≡ Some l → (l.xs ≡ xs) × (l.ys ≡ ys)

pub record IsWarm (T : TreeValue) (G : Sheet) (path : List Step) (capacity : ℕ) (xs ys : List ℕ) (xa xb ya yb : LinksValue) (frames : List Least) : Type 0 where
  pub tree : IsTree T
  pub sheet : IsSheet G
  pub pairs : HasPairsOf (leaf_count T) path
  pub short : length path ≤ pair_count T
  pub room : pair_count T ≤ capacity
  pub x : IsHalf T path X xs xa xb
  pub y : IsHalf T path Y ys ya yb
  pub kept : AreFrames T G path frames
  pub now : IsNow path frames xs ys
