-- The steady answer: among all valid placements of a side, the one whose list of coordinates is least.
use Rattle.std.specs.Prelude.{◌≡◌, ◌⊎◌, ℕ, ◌<◌, List, [], ◌∷◌}
use Rattle.bp_base.specs.declared.point.Point.{Point}
use Rattle.bp_base.specs.declared.point.Sheet.{Sheet}
use Rattle.bp_base.specs.Tree.{TreeValue}
use Rattle.bp_metric.specs.Valid.{Valid}

-- the list x_1, y_1, x_2, y_2, .. of P isn't greater than that of Q, compared number by number from the front
abbrev pub IsNotAfter : List Point → List Point → Type 0
IsNotAfter [] Q = Unit {0}
IsNotAfter (p ∷ P) [] = ⊥
IsNotAfter (p ∷ P) (r ∷ Q) =
    (p.x < r.x) ⊎ ((p.x ≡ r.x) × ((p.y < r.y) ⊎ ((p.y ≡ r.y) × IsNotAfter P Q)))

pub record IsSteady (T : TreeValue) (G : Sheet) (S : ℕ) (P : List Point) : Type 0 where
  pub valid : Valid T G 1 S P
  pub least : (Q : List Point) → Valid T G 1 S Q → IsNotAfter P Q
