-- How the coordinates of symmetric placements read. Those of a left leaf, and of a leaf on the line as far as they are free, are variables; a
-- right leaf's are told by those of its left one. Variables have the numbers of coordinates.
use Rattle.std.specs.Prelude.{ℕ, ◌==◌, List, [], ◌∷◌, if◌then◌else◌}
use Rattle.bp_base.specs.declared.path.Pair.{Pair}
use Rattle.bp_base.specs.declared.point.Axis.{Axis}
use Rattle.bp_base.specs.declared.point.Axis.TheVariants.{X, Y}
use Rattle.bp_lemmas.specs.Trees.{number}
use Rattle.bp_mirror.specs.declared.kind.MirrorKind.{MirrorKind}
use Rattle.bp_mirror.specs.declared.kind.MirrorKind.TheVariants.{Book, Diagonal}

-- a left leaf, the right leaf of a left one, or a leaf on the line
pub data Part : Type 0 where
  left : Part
  right_of : ℕ → Part
  middle : Part

abbrev pub part_of : List Pair → ℕ → Part
part_of [] k = middle
part_of (p ∷ mirror) k = if k == p.i then left else (if k == p.j then right_of p.i else part_of mirror k)

-- a variable, the side minus a variable, or half the side
pub data Reading : Type 0 where
  plain : ℕ → Reading
  turned : ℕ → Reading
  half : Reading

-- how the coordinate of leaf k reads
abbrev pub reading_of : MirrorKind → Axis → ℕ → Part → Reading
reading_of Book X k left = plain (number X k)
reading_of Book X k (right_of i) = turned (number X i)
reading_of Book X k middle = half
reading_of Book Y k left = plain (number Y k)
reading_of Book Y k (right_of i) = plain (number Y i)
reading_of Book Y k middle = plain (number Y k)
reading_of Diagonal X k left = plain (number X k)
reading_of Diagonal X k (right_of i) = plain (number Y i)
reading_of Diagonal X k middle = plain (number X k)
reading_of Diagonal Y k left = plain (number Y k)
reading_of Diagonal Y k (right_of i) = plain (number X i)
reading_of Diagonal Y k middle = plain (number X k)

unfoldable pub reading : MirrorKind → List Pair → Axis → ℕ → Reading
reading kind mirror axis k = reading_of kind axis k (part_of mirror k)
