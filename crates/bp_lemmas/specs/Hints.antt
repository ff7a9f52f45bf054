-- What a hint makes of a knowledge, and when a list of hints closes it.
use Rattle.std.specs.Prelude.{◌⊎◌, ℕ, ◌-◌, ◌||◌, List, [], ◌∷◌, Bool, if◌then◌else◌, slice_index_or}
use Rattle.std.specs.List.{list_any}
use Rattle.bp_base.specs.declared.point.Axis.TheVariants.{X, Y}
use Rattle.bp_arrangement.specs.declared.fact.Fact.{Fact}
use Rattle.bp_arrangement.specs.declared.fact.Hint.{Hint}
use Rattle.bp_arrangement.specs.declared.fact.Hint.TheVariants.{Pair, Lemma}
use Rattle.bp_arrangement.specs.Facts.{denial}
use Rattle.bp_lemmas.specs.Systems.{Order, is_order, Lasting, System, group}
use Rattle.bp_lemmas.specs.Knowledge.{Knowledge, raised, lowered, with_order, pushed, is_refuted, with_fact, unsure, IsBroken}

-- a hint breaks the knowledge, makes another of it, or doesn't serve
pub data Outcome : Type 0 where
  broken : Outcome
  now : Knowledge → Outcome
  bad : Outcome

-- The facts of a list, of which only those that aren't sure are left, can't all hold: with none left nothing meets the knowledge, and with
-- one left its denial holds.
abbrev pub by_last : System → Knowledge → Outcome → List Fact → Outcome
by_last S K otherwise [] = broken
by_last S K otherwise (f ∷ []) = now (with_fact S K (denial f))
by_last S K otherwise (f ∷ g ∷ more) = otherwise

-- an order is pushed where it is known
unfoldable pub push_known : System → Knowledge → Order → Knowledge
push_known S K o = if K.holds o then pushed S K o else K

-- an order that holds for good gives the later coordinate the lower code of the earlier one, and back the upper code
unfoldable pub leant : Knowledge → Lasting → Knowledge
leant K l = lowered (raised K l.later (K.lower l.earlier)) l.earlier (K.upper l.later)

abbrev pub leant_by : Knowledge → List Lasting → Knowledge
leant_by K [] = K
leant_by K (l ∷ more) = leant_by (leant K l) more

unfoldable pub knows_order : System → Knowledge → ℕ → ℕ → Bool
knows_order S K i j = K.holds (S.order X i j) || K.holds (S.order X j i) || K.holds (S.order Y i j) || K.holds (S.order Y j i)

-- with all pushed that is known between two leaves
unfoldable pub pair_pushed : System → Knowledge → ℕ → ℕ → Knowledge
pair_pushed S K i j =
    leant_by (push_known S (push_known S (push_known S (push_known S K (S.order X i j)) (S.order X j i)) (S.order Y i j)) (S.order Y j i)) (S.lasting i j)

-- The orders of a list that may hold: neither known not to nor refuted by the bounds. One that is there twice is left once.
abbrev pub open_orders : System → Knowledge → List Order → List Order
open_orders S K [] = []
open_orders S K (o ∷ orders) = if list_any (is_order o) orders || (K.fails o || is_refuted S K o) then open_orders S K orders else o ∷ open_orders S K orders

-- One of the orders holds: with none left nothing meets the knowledge, and one alone is taken.
abbrev pub with_last : System → Knowledge → List Order → Outcome
with_last S K [] = broken
with_last S K (o ∷ []) = now (pushed S (with_order K o) o)
with_last S K (o ∷ p ∷ more) = now K

-- where no order of the pair is known, the one that is left is taken
abbrev pub pair_settled : System → Knowledge → ℕ → ℕ → Outcome
pair_settled S K i j = if knows_order S K i j then now K else with_last S K (open_orders S K (group S i j))

unfoldable pub after : System → List (List Fact) → Knowledge → Hint → Outcome
after S earlier K (Pair pair) = pair_settled S (pair_pushed S K pair.i pair.j) pair.i pair.j
after S earlier K (Lemma number) = by_last S K bad (unsure S K (slice_index_or earlier (number - 1) []))

abbrev pub Then : (Knowledge → Type 0) → Outcome → Type 0
Then Rest broken = Unit {0}
Then Rest (now K) = Rest K
Then Rest bad = ⊥

-- the knowledge, or what some of the first hints make of it, is broken, and no hint up to there is bad
abbrev pub Closes : System → List (List Fact) → List Hint → Knowledge → Type 0
Closes S earlier [] K = IsBroken S K
Closes S earlier (h ∷ hints) K = IsBroken S K ⊎ Then (Closes S earlier hints) (after S earlier K h)
