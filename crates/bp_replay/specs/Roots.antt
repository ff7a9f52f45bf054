-- The first knowledge in the making.
use Rattle.std.specs.Prelude.{ℕ, ◌++◌, List, [], ◌∷◌, map}
use Rattle.std.specs.List.{list_any}
use Rattle.bp_base.specs.declared.path.Pair.{Pair}
use Rattle.bp_base.specs.declared.point.Axis.TheVariants.{X}
use Rattle.bp_lemmas.specs.Systems.{Order, never, is_order}
use Rattle.bp_lemmas.specs.Knowledge.{Knowledge}
use Rattle.bp_replay.specs.Tasks.{Ties, cornered, mirrored, Task, system_of}

-- what is known at first of bounds, and these orders that hold and that don't
abbrev pub partly : Task → List Order → List Order → Knowledge
partly t known known_not = record {
  lower = λ (u : ℕ). 0;
  upper = (system_of t).upper;
  holds = λ (o : Order). list_any (is_order o) known;
  fails = λ (o : Order). list_any (is_order o) known_not;
}

-- the order that no symmetric placement meets
abbrev pub impossible : Ties → List Order
impossible (cornered corner) = []
impossible (mirrored kind mirror) = never ∷ []

-- the second leaf of a head before the first
abbrev pub head_back : Task → Pair → Order
head_back t h = (system_of t).order X h.j h.i

-- no second leaf of these heads lies before the first
abbrev pub with_heads : Task → List Pair → Knowledge
with_heads t heads = partly t [] (impossible t.ties ++ map (head_back t) heads)
