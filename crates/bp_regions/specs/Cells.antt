-- Cells: the unit squares of a square sheet, which of them an edge reaches, which it owns, and who owns one.
use Rattle.std.specs.Prelude.{◌≢◌, ℕ, ◌+◌, ◌<◌, ◌≤◌, List, Option, None, Some, IsTrue}
use Rattle.bp_base.specs.declared.point.Point.{Point}
use Rattle.bp_base.specs.Tree.{TreeValue, IsEdge, IsLeaf}
use Rattle.bp_base.specs.Point.{point_at}
use Rattle.bp_metric.specs.Distance.{is_below, leaf_below, radius}

-- the unit square from (x,y) to (x+1,y+1) lies on the square of side S
abbrev pub IsCell : ℕ → ℕ → ℕ → Type 0
IsCell S x y = (x < S) × (y < S)

-- it lies in the max-norm ball round p
abbrev pub IsInBall : Point → ℕ → ℕ → ℕ → Type 0
IsInBall p r x y = (p.x ≤ x + r) × (x + 1 ≤ p.x + r) × (p.y ≤ y + r) × (y + 1 ≤ p.y + r)

-- Reach(e) holds the cell: some leaf below e is as near to it as that leaf is to the upper end of e.
pub record Reach (T : TreeValue) (S : ℕ) (P : List Point) (e x y : ℕ) : Type 0 where
  pub cell : IsCell S x y
  pub leaf : ℕ
  pub among : IsLeaf T leaf
  pub below : IsTrue (leaf_below T leaf e)
  pub near : IsInBall (point_at P leaf) (radius T leaf e) x y

-- Own(e) holds the cell: Reach(e) does, and Reach of no other edge below e.
pub record Own (T : TreeValue) (S : ℕ) (P : List Point) (e x y : ℕ) : Type 0 where
  pub reach : Reach T S P e x y
  pub alone : (f : ℕ) → IsEdge T f → f ≢ e → IsTrue (is_below T f e) → Reach T S P f x y → ⊥

-- the owner of the cell: the edge whose Own holds it, or none
abbrev pub Owner : TreeValue → ℕ → List Point → ℕ → ℕ → Option ℕ → Type 0
Owner T S P x y None = (e : ℕ) → IsEdge T e → Own T S P e x y → ⊥
Owner T S P x y (Some e) = IsEdge T e × Own T S P e x y
