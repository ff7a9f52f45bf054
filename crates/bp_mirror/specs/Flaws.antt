-- The leaves that break a mirror's conditions on a placement, and the least of them.
use Rattle.std.specs.Prelude.{◌≡◌, ℕ, ◌<◌, ◌≤◌, List, All}
use Rattle.bp_base.specs.declared.path.Pair.{Pair}
use Rattle.bp_base.specs.declared.point.Point.{Point}
use Rattle.bp_base.specs.Tree.{TreeValue, IsLeaf}
use Rattle.bp_mirror.specs.declared.kind.MirrorKind.{MirrorKind}
use Rattle.bp_mirror.specs.Mirror.{IsOnAxis}
use Rattle.bp_mirror.specs.Mirrored.{TiesPair, TiesLeaf}

-- A left leaf is tied where its pair is, a leaf on the line where it lies there; a right leaf is named by its left one.
pub record IsTied (kind : MirrorKind) (mirror : List Pair) (s : ℕ) (P : List Point) (k : ℕ) : Type 0 where
  pub pair : All (λ p. p.i ≡ k → TiesPair kind s P p) mirror
  pub axis : IsOnAxis mirror k → TiesLeaf kind s P k

-- all leaves are
abbrev pub AreTied : TreeValue → MirrorKind → List Pair → ℕ → List Point → Type 0
AreTied T kind mirror s P = (k : ℕ) → IsLeaf T k → IsTied kind mirror s P k

-- leaf k is the least that isn't
pub record IsFirstUntied (T : TreeValue) (kind : MirrorKind) (mirror : List Pair) (s : ℕ) (P : List Point) (k : ℕ) : Type 0 where
  pub leaf : IsLeaf T k
  pub untied : IsTied kind mirror s P k → ⊥
  pub earlier : (i : ℕ) → IsLeaf T i → i < k → IsTied kind mirror s P i

-- the number is that of one of n leaves
abbrev pub IsPlace : ℕ → ℕ → Type 0
IsPlace n k = (1 ≤ k) × (k ≤ n)

-- so are both of the pair
abbrev pub ArePlaces : ℕ → Pair → Type 0
ArePlaces n p = IsPlace n p.i × IsPlace n p.j
