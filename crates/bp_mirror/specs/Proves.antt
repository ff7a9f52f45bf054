-- When a list of lemmas proves a bound of symmetric placements.
use Rattle.std.specs.Prelude.{ℕ, List, [], map, All}
use Rattle.bp_base.specs.declared.path.Pair.{Pair}
use Rattle.bp_base.specs.Tree.{TreeValue}
use Rattle.bp_arrangement.specs.Swaps.{head}
use Rattle.bp_lemmas.specs.Standing.{Lemma, EachStands, EndsEmpty, facts_of}
use Rattle.bp_mirror.specs.declared.kind.MirrorKind.{MirrorKind}
use Rattle.bp_mirror.specs.Mirror.{IsMirror}
use Rattle.bp_mirror.specs.Swaps.{IsMirrorSwap}
use Rattle.bp_mirror.specs.Systems.{mirror_system}

pub record ProvesMirrored (T : TreeValue) (kind : MirrorKind) (mirror : List Pair) (bound : ℕ) (swaps : List (List Pair)) (lemmas : List Lemma) : Type 0 where
  pub is_mirror : IsMirror T mirror
  pub admissible : All (IsMirrorSwap T mirror) swaps
  pub stand : EachStands (mirror_system T kind mirror bound (map head swaps)) [] lemmas
  pub ends : EndsEmpty (facts_of lemmas)
