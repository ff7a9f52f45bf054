-- Worked rows: a certificate of two leaves at distance 3, what names nothing that is there, and what coordinates that face one another give.
use Rattle.std.proofs.Common.{◌≡◌, ◌≢◌, ℕ, zero, suc, ◌+◌, ◌-◌, ◌*◌, ◌<◌, ◌≤◌, ◌==◌, ◌&&◌, nat_lt, not, true, false, if◌then◌else◌, [], ◌∷◌, All, refl, arith, inr}
use Rattle.std.proofs.lemmas.Bool.{false≢true}
use Rattle.std.proofs.lemmas.List.Elements.{All-cons}
use Rattle.bp_base.specs.declared.point.Axis.{Axis}
use Rattle.bp_base.specs.declared.point.Axis.TheVariants.{X, Y}
use Rattle.bp_base.specs.declared.point.Sheet.TheVariants.{Square}
use Rattle.bp_base.specs.Tree.{TreeValue}
use Rattle.bp_metric.specs.Distance.{dist, share, is_below}
use Rattle.bp_metric.specs.Samples.{sample}
use Rattle.bp_arrangement.specs.declared.fact.Fact.TheVariants.{Before}
use Rattle.bp_arrangement.specs.declared.fact.Hint.{Hint}
use Rattle.bp_arrangement.specs.declared.fact.Hint.TheVariants.{Pair, Lemma}
use Rattle.bp_arrangement.specs.Facts.{mark}
use Rattle.bp_lemmas.specs.Systems.{Order, apart, facing, never, IsMet, System, NoneMeets}
use Rattle.bp_lemmas.specs.Knowledge.{Knowledge, first_knowledge, raised, lowered, with_order, facing_upper, facing_itself_upper, pushed, is_refuted, with_fact, is_sure, crossed}
use Rattle.bp_lemmas.specs.Hints.{push_known, leant, knows_order, pair_pushed, after, Closes}
use Rattle.bp_lemmas.specs.Standing.{Lemma as AnyLemma, IsNamed, IsHint, root_after}
use Rattle.bp_lemmas.specs.Trees.{number, axis_of, order_of, tree_system}
use Rattle.bp_lemmas.specs.Proves.{Proves}
use Rattle.bp_lemmas.proofs.Law.{systems_law}

abbrev two : TreeValue
two = sample (0 ∷ 0 ∷ 0 ∷ []) (0 ∷ 1 ∷ 2 ∷ [])

abbrev system : System
system = tree_system two Square 3 1 2 []

abbrev far_pair : Hint
far_pair = Pair (record { i = 1; j = 2 })

abbrev only : AnyLemma
only = record { facts = []; hints = far_pair ∷ [] }

pair_there : All (IsHint system 0) (far_pair ∷ [])
unfolding tree_system
pair_there zero d within = refl
pair_there (suc k) d within = absurd (omega (arith, within))

-- leaf 1 lies before leaf 2 on x by 3, and below 3 there is no room
closed : Closes system [] (far_pair ∷ []) (root_after system [])
unfolding tree_system after pair_pushed push_known knows_order pushed leant raised lowered with_order with_fact is_sure is_refuted order_of number axis_of dist share is_below
closed = inr (crossed 2 (omega arith))

grows : (a : ℕ) → a ≢ a + 1
grows a same = omega (arith, same)

two_proved : Proves two Square 3 1 2 [] (only ∷ [])
two_proved = record {
  corner = ((omega arith, omega arith), (omega arith, omega arith), grows 1);
  admissible = λ k d within. absurd (omega (arith, within));
  stand = (record { facts = λ k d within. absurd (omega (arith, within)); hints = pair_there; closed = closed }, tt);
  ends = refl;
}

-- a leaf isn't before itself, a pair has its lesser leaf first, and a lemma names earlier ones
no_order_of_one : IsNamed system (Before X 1 1) → ⊥
unfolding tree_system
no_order_of_one named = false≢true named

no_pair_back : IsHint system 5 (Pair (record { i = 2; j = 1 })) → ⊥
unfolding tree_system
no_pair_back named = false≢true named

no_later_lemma : IsHint system 5 (Lemma 6) → ⊥
no_later_lemma named = omega (arith, named.1)

-- Leaves 1 and 2 face one another on x by 3, and leaf 3 lies before leaf 1 by 3. No side below 5 has room for both.
abbrev facing_order : Axis → ℕ → ℕ → Order
facing_order X i j = if i == 1 && (j == 2) then facing 1 2 3 else (if i == 3 && (j == 1) then apart 3 1 3 else never)
facing_order Y i j = never

abbrev opposite : System
opposite = record {
  bound = 5;
  has_coordinate = λ (axis : Axis) (i : ℕ). true;
  coordinate = λ (axis : Axis) (i : ℕ). i;
  has_order = λ (axis : Axis) (i j : ℕ). not (i == j);
  order = facing_order;
  has_pair = λ (i j : ℕ). nat_lt i j;
  lasting = λ (i j : ℕ). [];
  upper = λ (u : ℕ). 10;
  known = [];
  known_not = never ∷ [];
}

abbrev both_pairs : AnyLemma
both_pairs = record { facts = []; hints = Pair (record { i = 1; j = 2 }) ∷ Pair (record { i = 1; j = 3 }) ∷ [] }

-- the first pair has one order left, which lowers the upper code of leaf 1 to 4, and so the second pair has none: 3 before leaf 1 is 6
facing_closes : Closes opposite [] both_pairs.hints (root_after opposite [])
unfolding after pair_pushed push_known knows_order pushed leant raised lowered with_order with_fact is_sure is_refuted
facing_closes = inr (inr tt)

none_opposite : NoneMeets opposite
none_opposite = systems_law opposite (both_pairs ∷ []) (
  record {
    facts = λ k d within. absurd (omega (arith, within));
    hints = All-cons (IsHint opposite 0) (Pair (record { i = 1; j = 2 })) (Pair (record { i = 1; j = 3 }) ∷ []) refl (All-cons (IsHint opposite 0) (Pair (record { i = 1; j = 3 })) [] refl (λ k d within. absurd (omega (arith, within))));
    closed = facing_closes;
  },
  tt,
) refl

-- An even code 2K of the other counts with K, and an odd one 2K + 1 too: beside it lies a code greater by one.
even_code : (bound w k : ℕ) → facing_upper bound w (2 * k) ≡ 2 * bound - 2 * w - 2 * k
even_code bound w k = omega arith

odd_code : (bound w k : ℕ) → w + k < bound → facing_upper bound w (2 * k + 1) ≡ 2 * bound - 2 * w - (2 * k + 1) + 1
odd_code bound w k room = omega (arith, room)

no_code_left : (bound w code : ℕ) → 2 * bound < 2 * w + code → facing_upper bound w code ≡ 0
no_code_left bound w code short = omega (arith, short)

-- facing itself leaves half of what is left of the side, as an even code
half_even : (bound w k : ℕ) → bound ≡ w + 2 * k → facing_itself_upper bound w ≡ bound - w
half_even bound w k is = omega (arith, is)

half_odd : (bound w k : ℕ) → bound ≡ w + (2 * k + 1) → facing_itself_upper bound w ≡ bound - w + 1
half_odd bound w k is = omega (arith, is)

half_none : (bound w : ℕ) → bound < w → facing_itself_upper bound w ≡ 0
half_none bound w over = omega (arith, over)

-- of leaf 1 it is known that it lies above 2
abbrev above_two : ℕ → Knowledge
above_two code = raised (raised (first_knowledge opposite) 1 5) 2 code

odd_code_pushed : (pushed opposite (above_two 0) (facing 1 2 2)).upper 2 ≡ 2
unfolding pushed raised lowered
odd_code_pushed = refl

-- Above 2 and at least 1 leave no room for 2 below 5. Above 2 and above 0 do, on a grid three times finer.
odd_code_refuted : is_refuted opposite (above_two 2) (facing 1 2 2) ≡ true
unfolding is_refuted raised
odd_code_refuted = refl

odd_codes_not_refuted : is_refuted opposite (above_two 1) (facing 1 2 2) ≡ false
unfolding is_refuted raised
odd_codes_not_refuted = refl

finer_point : ℕ → ℕ
finer_point u = if u == 1 then 7 else 1

odd_codes_met : (mark 3 5 ≤ finer_point 1) × (mark 3 1 ≤ finer_point 2) × IsMet 3 14 finer_point (facing 1 2 2)
unfolding mark finer_point
odd_codes_met = (omega arith, omega arith, omega arith)
