-- Lines of a document: a keyword and words, parted by one space each, and LF.
use Rattle.std.specs.Prelude.{ℕ, List, [], ◌∷◌, ◌++◌, map, decimal, codes}
use Rattle.std.specs.List.{flat_map}
use Rattle.bp_base.specs.declared.point.Axis.{Axis}
use Rattle.bp_base.specs.declared.point.Axis.TheVariants.{X, Y}
use Rattle.bp_base.specs.declared.point.Floor.{Floor}
use Rattle.bp_base.specs.declared.point.Point.{Point}
use Rattle.bp_base.specs.declared.point.Sheet.{Sheet}
use Rattle.bp_base.specs.declared.point.Sheet.TheVariants.{Square, Strip}
use Rattle.bp_base.specs.declared.path.Pair.{Pair}
use Rattle.bp_base.specs.declared.chain.Claim.{Claim}
use Rattle.bp_base.specs.declared.chain.Claim.TheVariants.{Walk, Cycle}
use Rattle.bp_base.specs.Tree.{TreeValue, parent, length_of, name_of}

-- a space and a word
abbrev pub word : List ℕ → List ℕ
word bytes = 32 ∷ bytes

unfoldable pub line : List ℕ → List (List ℕ) → List ℕ
line keyword words = keyword ++ flat_map word words ++ 10 ∷ []

abbrev pub sheet_line : Sheet → List ℕ
sheet_line Square = line (codes "sheet") (codes "square" ∷ [])
sheet_line (Strip width) = line (codes "sheet") (codes "strip" ∷ decimal width ∷ [])

abbrev pub edge_line : TreeValue → ℕ → List ℕ
edge_line T e = line (codes "edge") (name_of T (parent T e) ∷ name_of T e ∷ decimal (length_of T e) ∷ [])

abbrev pub point_line : List ℕ → Point → List ℕ
point_line name p = line (codes "point") (name ∷ decimal p.x ∷ decimal p.y ∷ [])

abbrev pub floor_line : Floor → List ℕ
floor_line f = line (codes "floor") (decimal f.m ∷ decimal f.side ∷ map decimal f.leaves)

abbrev pub axis_word : Axis → List ℕ
axis_word X = codes "x"
axis_word Y = codes "y"

abbrev pub chain_words : Axis → List ℕ → List (List ℕ)
chain_words axis chain = axis_word axis ∷ map decimal chain

-- node lines begin with their depth
abbrev pub split_line : ℕ → Pair → List ℕ
split_line depth p = line (decimal depth) (codes "split" ∷ decimal p.i ∷ decimal p.j ∷ [])

abbrev pub closed_line : ℕ → Claim → List ℕ
closed_line depth (Walk axis chain) = line (decimal depth) (codes "walk" ∷ chain_words axis chain)
closed_line depth (Cycle axis chain) = line (decimal depth) (codes "cycle" ∷ chain_words axis chain)

abbrev pub open_line : ℕ → Claim → List ℕ
open_line depth (Walk axis chain) = line (decimal depth) (codes "open" ∷ chain_words axis chain)
open_line depth (Cycle axis chain) = line (decimal depth) (codes "open" ∷ codes "cycle" ∷ chain_words axis chain)
