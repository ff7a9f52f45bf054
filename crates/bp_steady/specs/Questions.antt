-- The questions whose answers give the steady list, coordinate by coordinate: is there a placement with this coordinate at most v?
use Rattle.std.specs.Prelude.{ℕ, zero, suc, ◌+◌, ◌-◌, ◌/◌, ◌==◌, leb, List, [], ◌∷◌, ◌++◌, length, take, drop, replicate, slice_index, true, false}
use Rattle.bp_base.specs.declared.point.Axis.{Axis}
use Rattle.bp_base.specs.declared.point.Axis.TheVariants.{X, Y}
use Rattle.bp_base.specs.declared.point.Point.{Point}
use Rattle.bp_base.specs.declared.point.Sheet.{Sheet}
use Rattle.bp_base.specs.declared.point.Sheet.TheVariants.{Square, Strip}
use Rattle.bp_base.specs.Tree.{TreeValue, leaf_count}
use Rattle.bp_steady.specs.Bounds.{BoundsValue}

-- x_1, y_1, x_2, y_2, ..
abbrev pub coordinates : List Point → List ℕ
coordinates [] = []
coordinates (p ∷ P) = p.x ∷ p.y ∷ coordinates P

-- where a coordinate of the sheet of side S ends
abbrev pub end_of : Sheet → ℕ → Axis → ℕ
end_of Square S axis = S
end_of (Strip width) S X = width
end_of (Strip width) S Y = S

-- the ends of the coordinates of n leaves
abbrev pub ends : Sheet → ℕ → ℕ → List ℕ
ends G S zero = []
ends G S (suc n) = end_of G S X ∷ end_of G S Y ∷ ends G S n

-- The question (c, v), c counted from 0: a has the steady coordinates, e the ends. Those before c are as in a, that of c goes up to v,
-- and those after it up to their ends.
abbrev pub question : List ℕ → List ℕ → ℕ → ℕ → BoundsValue
question a e c v = record { low = take c a ++ replicate (length e - c) 0; high = take c a ++ v ∷ drop (c + 1) e }

-- the questions of a binary search for coordinate c from l to h, at most k of them
abbrev pub asked_within : ℕ → List ℕ → List ℕ → ℕ → ℕ → ℕ → List BoundsValue
asked_within zero a e c l h = []
asked_within (suc k) a e c l h = elim (l == h) [
  | true ↦ []
  | false ↦
      question a e c ((l + h) / 2)
      ∷ (elim (leb (slice_index a c) ((l + h) / 2)) [
        | true ↦ asked_within k a e c l ((l + h) / 2)
        | false ↦ asked_within k a e c ((l + h) / 2 + 1) h
      ])
]

-- Asked(c, l, h): each question is about less than the one before
abbrev pub asked : List ℕ → List ℕ → ℕ → ℕ → ℕ → List BoundsValue
asked a e c l h = asked_within (h - l) a e c l h

-- those of k coordinates from c on
abbrev pub asked_from : ℕ → List ℕ → List ℕ → ℕ → List BoundsValue
asked_from zero a e c = []
asked_from (suc k) a e c = asked a e c 0 (slice_index e c) ++ asked_from k a e (c + 1)

-- all questions, P being the steady placement of side S
abbrev pub questions : TreeValue → Sheet → ℕ → List Point → List BoundsValue
questions T G S P =
    let e = ends G S (leaf_count T) in asked_from (length e) (coordinates P) e 0
