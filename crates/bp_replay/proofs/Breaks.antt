-- What breaks a knowledge that is given a bound or an order more: it was broken, or what is given crosses what is known. What is broken
-- stays broken.
use Rattle.std.proofs.Common.{◌⊎◌, ℕ, ◌+◌, ◌-◌, ◌*◌, ◌≤◌, ◌==◌, ◌&&◌, ◌||◌, max, min, Bool, true, false, if◌then◌else◌, IsTrue, List, [], ◌∷◌, refl, subst, arith, inl, inr}
use Rattle.std.proofs.lemmas.Bool.{and_from, or_cases, cases_lt, eqb-true, eq-eqb, false≢true}
use Rattle.bp_base.specs.declared.point.Axis.{Axis}
use Rattle.bp_arrangement.specs.declared.fact.Fact.{Fact}
use Rattle.bp_arrangement.specs.declared.fact.Fact.TheVariants.{Before, NotBefore, Least, Below}
use Rattle.bp_arrangement.specs.declared.fact.Hint.{Hint}
use Rattle.bp_lemmas.specs.Systems.{Order, apart, facing, facing_itself, never, is_order, Lasting, System, group}
use Rattle.bp_lemmas.specs.Knowledge.{Knowledge, raised, lowered, with_order, without_order, facing_upper, facing_itself_upper, pushed, with_fact, with_facts, IsBroken, crossed, both, circular}
use Rattle.bp_lemmas.proofs.Told.{same_order}
use Rattle.bp_lemmas.specs.Hints.{Outcome, broken, now, bad, push_known, leant, knows_order, open_orders, with_last, pair_settled, Closes}

max_grows : (x code : ℕ) (b : Bool) → x ≤ (if b then max x code else x)
max_grows x code true = omega arith
max_grows x code false = omega arith

min_falls : (x code : ℕ) (b : Bool) → (if b then min x code else x) ≤ x
min_falls x code true = omega arith
min_falls x code false = omega arith

max_crosses : (u x code : ℕ) (b : Bool) → u ≤ (if b then max x code else x) → (u ≤ x) ⊎ (IsTrue b × (u ≤ code))
max_crosses u x code false over = inl over
max_crosses u x code true over = elim (cases_lt x u) [
  | inl less ↦ inr (refl, omega (arith, over, less))
  | inr not ↦ inl not
]

min_crosses : (u x code : ℕ) (b : Bool) → (if b then min x code else x) ≤ u → (x ≤ u) ⊎ (IsTrue b × (code ≤ u))
min_crosses u x code false over = inl over
min_crosses u x code true over = elim (cases_lt u x) [
  | inl less ↦ inr (refl, omega (arith, over, less))
  | inr not ↦ inl not
]

or_later : (b c : Bool) → IsTrue c → IsTrue (b || c)
or_later true c is = refl
or_later false c is = is

or_sooner : (b c : Bool) → IsTrue b → IsTrue (b || c)
or_sooner true c is = refl
or_sooner false c is = absurd (false≢true is)

pub order_itself : (o : Order) → IsTrue (is_order o o)
order_itself (apart u v w) = and_from ((u == u) && (v == v)) (w == w) (and_from (u == u) (v == v) (eq-eqb u u refl) (eq-eqb v v refl)) (eq-eqb w w refl)
order_itself (facing u v w) = and_from ((u == u) && (v == v)) (w == w) (and_from (u == u) (v == v) (eq-eqb u u refl) (eq-eqb v v refl)) (eq-eqb w w refl)
order_itself (facing_itself u w) = and_from (u == u) (w == w) (eq-eqb u u refl) (eq-eqb w w refl)
order_itself never = refl

module _ (S : System) where
  -- a lower bound breaks exactly where it reaches the upper code
  pub raised_breaks : (K : Knowledge) (u code : ℕ) → IsBroken S (raised K u code) → IsBroken S K ⊎ (K.upper u ≤ code)
  unfolding raised
  raised_breaks K u code (crossed k over) = elim (max_crosses (K.upper k) (K.lower k) code (k == u) over) [
    | inl before ↦ inl (crossed k before)
    | inr new ↦ inr (subst (λ (m : ℕ). K.upper m ≤ code) (eqb-true k u new.0) new.1)
  ]
  raised_breaks K u code (both o holds fails) = inl (both o holds fails)
  raised_breaks K u code (circular axis i j is one other) = inl (circular axis i j is one other)

  pub raised_stays : (K : Knowledge) (u code : ℕ) → IsBroken S K → IsBroken S (raised K u code)
  unfolding raised
  raised_stays K u code (crossed k over) = crossed k (omega (arith, over, max_grows (K.lower k) code (k == u)))
  raised_stays K u code (both o holds fails) = both o holds fails
  raised_stays K u code (circular axis i j is one other) = circular axis i j is one other

  pub raised_reaches : (K : Knowledge) (u code : ℕ) → K.upper u ≤ code → IsBroken S (raised K u code)
  unfolding raised
  raised_reaches K u code over = crossed u (rw (eq-eqb u u refl) (omega (arith, over)))

  pub lowered_breaks : (K : Knowledge) (u code : ℕ) → IsBroken S (lowered K u code) → IsBroken S K ⊎ (code ≤ K.lower u)
  unfolding lowered
  lowered_breaks K u code (crossed k over) = elim (min_crosses (K.lower k) (K.upper k) code (k == u) over) [
    | inl before ↦ inl (crossed k before)
    | inr new ↦ inr (subst (λ (m : ℕ). code ≤ K.lower m) (eqb-true k u new.0) new.1)
  ]
  lowered_breaks K u code (both o holds fails) = inl (both o holds fails)
  lowered_breaks K u code (circular axis i j is one other) = inl (circular axis i j is one other)

  pub lowered_stays : (K : Knowledge) (u code : ℕ) → IsBroken S K → IsBroken S (lowered K u code)
  unfolding lowered
  lowered_stays K u code (crossed k over) = crossed k (omega (arith, over, min_falls (K.upper k) code (k == u)))
  lowered_stays K u code (both o holds fails) = both o holds fails
  lowered_stays K u code (circular axis i j is one other) = circular axis i j is one other

  pub lowered_reaches : (K : Knowledge) (u code : ℕ) → code ≤ K.lower u → IsBroken S (lowered K u code)
  unfolding lowered
  lowered_reaches K u code over = crossed u (rw (eq-eqb u u refl) (omega (arith, over)))

  pub with_order_stays : (K : Knowledge) (o : Order) → IsBroken S K → IsBroken S (with_order K o)
  unfolding with_order
  with_order_stays K o (crossed k over) = crossed k over
  with_order_stays K o (both p holds fails) = both p (or_later (is_order p o) (K.holds p) holds) fails
  with_order_stays K o (circular axis i j is one other) =
      circular axis i j is (or_later (is_order (S.order axis i j) o) (K.holds (S.order axis i j)) one) (or_later (is_order (S.order axis j i) o) (K.holds (S.order axis j i)) other)

  pub without_order_stays : (K : Knowledge) (o : Order) → IsBroken S K → IsBroken S (without_order K o)
  unfolding without_order
  without_order_stays K o (crossed k over) = crossed k over
  without_order_stays K o (both p holds fails) = both p holds (or_later (is_order p o) (K.fails p) fails)
  without_order_stays K o (circular axis i j is one other) = circular axis i j is one other

  pub pushed_stays : (K : Knowledge) (o : Order) → IsBroken S K → IsBroken S (pushed S K o)
  unfolding pushed
  pushed_stays K (apart u v w) is = lowered_stays (raised K v (K.lower u + 2 * w)) u (K.upper v - 2 * w) (raised_stays K v (K.lower u + 2 * w) is)
  pushed_stays K (facing u v w) is =
      lowered_stays (lowered K u (facing_upper S.bound w (K.lower v))) v (facing_upper S.bound w (K.lower u)) (lowered_stays K u (facing_upper S.bound w (K.lower v)) is)
  pushed_stays K (facing_itself u w) is = lowered_stays K u (facing_itself_upper S.bound w) is
  pushed_stays K never is = is

  pub fact_stays : (K : Knowledge) (f : Fact) → IsBroken S K → IsBroken S (with_fact S K f)
  unfolding with_fact
  fact_stays K (Before axis i j) is = pushed_stays (with_order K (S.order axis i j)) (S.order axis i j) (with_order_stays K (S.order axis i j) is)
  fact_stays K (NotBefore axis i j) is = without_order_stays K (S.order axis i j) is
  fact_stays K (Least axis i code) is = raised_stays K (S.coordinate axis i) code is
  fact_stays K (Below axis i code) is = lowered_stays K (S.coordinate axis i) code is

  pub facts_stay : (facts : List Fact) (K : Knowledge) → IsBroken S K → IsBroken S (with_facts S K facts)
  facts_stay [] K is = is
  facts_stay (f ∷ facts) K is = facts_stay facts (with_fact S K f) (fact_stays K f is)

  -- what is broken closes at once
  pub broken_closes : (earlier : List (List Fact)) (hints : List Hint) (K : Knowledge) → IsBroken S K → Closes S earlier hints K
  broken_closes earlier [] K is = is
  broken_closes earlier (h ∷ hints) K is = inl is

  stays_either : (b : Bool) (K M : Knowledge) → IsBroken S K → IsBroken S M → IsBroken S (if b then K else M)
  stays_either true K M one other = one
  stays_either false K M one other = other

  pub push_known_stays : (K : Knowledge) (o : Order) → IsBroken S K → IsBroken S (push_known S K o)
  unfolding push_known
  push_known_stays K o is = stays_either (K.holds o) (pushed S K o) K (pushed_stays K o is) is

  pub leant_stays : (K : Knowledge) (l : Lasting) → IsBroken S K → IsBroken S (leant K l)
  unfolding leant
  leant_stays K l is = lowered_stays (raised K l.later (K.lower l.earlier)) l.earlier (K.upper l.later) (raised_stays K l.later (K.lower l.earlier) is)

  -- an order known not to hold breaks exactly where it is known to hold
  pub without_order_breaks : (K : Knowledge) (o : Order) → IsBroken S (without_order K o) → IsBroken S K ⊎ IsTrue (K.holds o)
  unfolding without_order
  without_order_breaks K o (crossed k over) = inl (crossed k over)
  without_order_breaks K o (both p holds fails) = elim (or_cases (is_order p o) (K.fails p) fails) [
    | inl same ↦ inr (subst (λ (r : Order). IsTrue (K.holds r)) (same_order p o same) holds)
    | inr before ↦ inl (both p holds before)
  ]
  without_order_breaks K o (circular axis i j is one other) = inl (circular axis i j is one other)

  pub without_order_reaches : (K : Knowledge) (o : Order) → IsTrue (K.holds o) → IsBroken S (without_order K o)
  unfolding without_order
  without_order_reaches K o holds = both o holds (or_sooner (is_order o o) (K.fails o) (order_itself o))

  pub with_order_fails : (K : Knowledge) (o : Order) → IsTrue (K.fails o) → IsBroken S (with_order K o)
  unfolding with_order
  with_order_fails K o fails = both o (or_sooner (is_order o o) (K.holds o) (order_itself o)) fails

  pub with_order_turned : (K : Knowledge) (axis : Axis) (i j : ℕ) → IsTrue (S.has_order axis i j) → IsTrue (K.holds (S.order axis j i)) → IsBroken S (with_order K (S.order axis i j))
  unfolding with_order
  with_order_turned K axis i j is turned =
      circular axis i j is (or_sooner (is_order (S.order axis i j) (S.order axis i j)) (K.holds (S.order axis i j)) (order_itself (S.order axis i j)))
      (or_later (is_order (S.order axis j i) (S.order axis i j)) (K.holds (S.order axis j i)) turned)

  -- what a settled pair makes of a broken knowledge is broken
  abbrev pub Ends : Outcome → Type 0
  Ends broken = Unit {0}
  Ends (now K) = IsBroken S K
  Ends bad = ⊥

  ends_either : (b : Bool) (o r : Outcome) → Ends o → Ends r → Ends (if b then o else r)
  ends_either true o r one other = one
  ends_either false o r one other = other

  with_last_ends : (K : Knowledge) (left : List Order) → IsBroken S K → Ends (with_last S K left)
  with_last_ends K [] is = tt
  with_last_ends K (o ∷ []) is = pushed_stays (with_order K o) o (with_order_stays K o is)
  with_last_ends K (o ∷ p ∷ more) is = is

  pub pair_ends : (K : Knowledge) (i j : ℕ) → IsBroken S K → Ends (pair_settled S K i j)
  pair_ends K i j is = ends_either (knows_order S K i j) (now K) (with_last S K (open_orders S K (group S i j))) is (with_last_ends K (open_orders S K (group S i j)) is)
