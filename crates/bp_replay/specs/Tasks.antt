-- What lemmas are to prove: that no side below the bound serves the tree on the sheet, or, on a square, its symmetric placements.
use Rattle.std.specs.Prelude.{ℕ, List}
use Rattle.bp_base.specs.declared.path.Pair.{Pair}
use Rattle.bp_base.specs.declared.point.Sheet.{Sheet}
use Rattle.bp_base.specs.Tree.{TreeValue}
use Rattle.bp_metric.specs.Valid.{NoneBelow}
use Rattle.bp_lemmas.specs.Systems.{System}
use Rattle.bp_lemmas.specs.Trees.{tree_system}
use Rattle.bp_mirror.specs.declared.kind.MirrorKind.{MirrorKind}
use Rattle.bp_mirror.specs.Mirrored.{NoneBelowMirrored}
use Rattle.bp_mirror.specs.Systems.{mirror_system}

-- what arranges the placements, beside the heads of swaps
pub data Ties : Type 0 where
  -- two leaves, in all placements
  cornered : Pair → Ties
  -- pairs of leaves that are images of one another, in symmetric ones
  mirrored : MirrorKind → List Pair → Ties

pub record Task : Type 0 where
  pub tree : TreeValue
  pub sheet : Sheet
  pub bound : ℕ
  pub ties : Ties
  pub heads : List Pair

abbrev pub system_by : Ties → TreeValue → Sheet → ℕ → List Pair → System
system_by (cornered corner) T G bound heads = tree_system T G bound corner.i corner.j heads
system_by (mirrored kind mirror) T G bound heads = mirror_system T kind mirror bound heads

abbrev pub system_of : Task → System
system_of t = system_by t.ties t.tree t.sheet t.bound t.heads

abbrev pub ShownBy : Ties → TreeValue → Sheet → ℕ → Type 0
ShownBy (cornered corner) T G bound = NoneBelow T G bound
ShownBy (mirrored kind mirror) T G bound = NoneBelowMirrored T kind mirror bound

-- no side below the bound serves
abbrev pub IsBelowShown : Task → Type 0
IsBelowShown t = ShownBy t.ties t.tree t.sheet t.bound
