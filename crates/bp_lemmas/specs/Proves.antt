-- When a list of lemmas proves a bound.
use Rattle.std.specs.Prelude.{ℕ, List, [], map, All}
use Rattle.bp_base.specs.declared.path.Pair.{Pair}
use Rattle.bp_base.specs.declared.point.Sheet.{Sheet}
use Rattle.bp_base.specs.Tree.{TreeValue}
use Rattle.bp_arrangement.specs.Swaps.{IsCorner, IsAdmissible, head}
use Rattle.bp_lemmas.specs.Standing.{Lemma, EachStands, EndsEmpty, facts_of}
use Rattle.bp_lemmas.specs.Trees.{tree_system}

pub record Proves (T : TreeValue) (G : Sheet) (bound a b : ℕ) (swaps : List (List Pair)) (lemmas : List Lemma) : Type 0 where
  pub corner : IsCorner T a b
  pub admissible : All (IsAdmissible T a b) swaps
  pub stand : EachStands (tree_system T G bound a b (map head swaps)) [] lemmas
  pub ends : EndsEmpty (facts_of lemmas)
