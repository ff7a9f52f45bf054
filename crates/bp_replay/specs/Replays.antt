-- What a replay is seen as: what the lemmas are to prove, and the facts of those that stood.
use Rattle.std.specs.Prelude.{◌≡◌, ◌<◌, ◌≤◌, ◌^◌, List, [], map, All}
use Rattle.bp_base.specs.declared.path.Pair.{Pair}
use Rattle.bp_base.specs.Limits.{most_number}
use Rattle.bp_base.specs.declared.point.Sheet.{Sheet}
use Rattle.bp_base.specs.declared.point.Sheet.TheVariants.{Square}
use Rattle.bp_base.specs.Tree.{TreeValue, IsTree}
use Rattle.bp_metric.specs.Metric.{IsSheet}
use Rattle.bp_arrangement.specs.declared.fact.Fact.{Fact}
use Rattle.bp_arrangement.specs.declared.fact.Fact.TheVariants.{Before, NotBefore, Least, Below}
use Rattle.bp_arrangement.specs.Swaps.{IsCorner, IsAdmissible, head}
use Rattle.bp_lemmas.specs.Standing.{Lemma, IsNamed, EachStands, facts_of, root_after}
use Rattle.bp_replay.specs.declared.known.Known.{Known}
use Rattle.bp_mirror.specs.Mirror.{IsMirror}
use Rattle.bp_mirror.specs.Swaps.{IsMirrorSwap}
use Rattle.bp_replay.specs.Tasks.{Ties, cornered, mirrored, Task, system_of}
use Rattle.bp_replay.specs.Kept.{Keeps}

pub record ReplayValue : Type 0 where
  pub task : Task
  pub lemmas : List (List Fact)

-- A bound's code is below 2 to the 32nd: that of a number of nine digits is. Orders have none.
abbrev pub IsSmallCode : Fact → Type 0
IsSmallCode (Before axis first second) = Unit {0}
IsSmallCode (NotBefore axis first second) = Unit {0}
IsSmallCode (Least axis leaf code) = code < 2 ^ 32
IsSmallCode (Below axis leaf code) = code < 2 ^ 32

-- the corner is two leaves, and the mirror one of the tree's, on a square
abbrev pub IsTie : Ties → TreeValue → Sheet → Type 0
IsTie (cornered corner) T G = IsCorner T corner.i corner.j
IsTie (mirrored kind mirror) T G = IsMirror T mirror × (G ≡ Square)

abbrev pub IsSwapOf : Ties → TreeValue → List Pair → Type 0
IsSwapOf (cornered corner) T swap = IsAdmissible T corner.i corner.j swap
IsSwapOf (mirrored kind mirror) T swap = IsMirrorSwap T mirror swap

-- the heads are those of admissible swaps
abbrev pub AreHeads : Task → Type 0
AreHeads t = (swaps : List (List Pair)) × (All (IsSwapOf t.ties t.tree) swaps × (map head swaps ≡ t.heads))

-- the facts are those of lemmas each of which stands on those before it
abbrev pub HaveStood : Task → List (List Fact) → Type 0
HaveStood t lemmas = (ls : List Lemma) × (EachStands (system_of t) [] ls × (facts_of ls ≡ lemmas))

pub record IsTask (t : Task) : Type 0 where
  pub tree : IsTree t.tree
  pub sheet : IsSheet t.sheet
  pub bound : t.bound ≤ most_number
  pub ties : IsTie t.ties t.tree t.sheet
  pub heads : AreHeads t

-- what a replay keeps: the root's knowledge behind the lemmas so far
pub record IsReplay (t : Task) (root : Known) (lemmas : List (List Fact)) : Type 0 where
  pub task : IsTask t
  pub kept : Keeps t root (root_after (system_of t) lemmas)
  pub named : All (All (IsNamed (system_of t))) lemmas
  pub stood : HaveStood t lemmas
