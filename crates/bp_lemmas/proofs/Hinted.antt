-- A hint takes a knowledge that tells only what is so to one that does too, and never to a broken one.
use Rattle.std.proofs.Common.{◌≡◌, ℕ, ◌*◌, ◌<◌, zero, suc, ◌-◌, ◌≤◌, Bool, true, false, if◌then◌else◌, IsTrue, ◌||◌, List, [], ◌∷◌, length, get_or, All, refl, subst, arith, inl, inr}
use Rattle.std.specs.List.{list_any}
use Rattle.std.proofs.lemmas.Bool.{or_cases, false≢true}
use Rattle.bp_base.specs.declared.point.Axis.TheVariants.{X, Y}
use Rattle.bp_arrangement.specs.declared.fact.Fact.{Fact}
use Rattle.bp_arrangement.specs.declared.fact.Hint.{Hint}
use Rattle.bp_arrangement.specs.declared.fact.Hint.TheVariants.{Pair, Lemma}
use Rattle.bp_arrangement.specs.Facts.{denial}
use Rattle.bp_arrangement.proofs.Marks.{mark_le}
use Rattle.bp_lemmas.specs.Systems.{Order, is_order, IsMet, OneIsMet, Lasting, System, group, Meets}
use Rattle.bp_lemmas.specs.Knowledge.{Knowledge, raised, with_order, pushed, is_refuted, unsure, IsBroken, crossed, both, circular}
use Rattle.bp_lemmas.specs.Hints.{Outcome, broken, now, bad, by_last, push_known, leant, leant_by, knows_order, pair_pushed, open_orders, with_last, after, Then, Closes}
use Rattle.bp_lemmas.specs.Standing.{IsHint}
use Rattle.bp_lemmas.proofs.Told.{same_order, AllHold, Told, told_raised, told_lowered, told_with, told_pushed, told_fact, not_so, denial_holds, unsure_all}

module _ (S : System) (q s : ℕ) (c : ℕ → ℕ) (finer : 1 ≤ q) (low : s < q * S.bound) (m : Meets S q s c) where
  not_broken : (K : Knowledge) → Told S q s c K → IsBroken S K → ⊥
  not_broken K told (crossed u over) = omega (arith, told.lows u, told.highs u, mark_le q (K.upper u) (K.lower u) finer over)
  not_broken K told (both o holds fails) = told.failed o fails (told.held o holds)
  not_broken K told (circular axis i j is one other) = m.not_both axis i j is (told.held (S.order axis i j) one) (told.held (S.order axis j i) other)

  -- the facts don't all hold
  abbrev pub Refuted : List Fact → Type 0
  Refuted facts = AllHold S q s c facts → ⊥

  -- what comes of a hint
  abbrev IsSound : Outcome → Type 0
  IsSound broken = ⊥
  IsSound (now K) = Told S q s c K
  IsSound bad = Unit {0}

  by_last_sound : (K : Knowledge) (otherwise : Outcome) (left : List Fact) → Told S q s c K → Refuted left → IsSound otherwise → IsSound (by_last S K otherwise left)
  by_last_sound K otherwise [] told refuted sound = refuted tt
  by_last_sound K otherwise (f ∷ []) told refuted sound = told_fact S q s c K (denial f) finer low told (denial_holds S q s c f (λ holds. refuted (holds, tt)))
  by_last_sound K otherwise (f ∷ g ∷ more) told refuted sound = sound

  told_push_known : (K : Knowledge) (o : Order) → Told S q s c K → Told S q s c (push_known S K o)
  unfolding push_known
  told_push_known K o told = chosen (K.holds o) refl
    where
      chosen : (b : Bool) → K.holds o ≡ b → Told S q s c (if b then pushed S K o else K)
      chosen true is = told_pushed S q s c K o finer low told (told.held o is)
      chosen false is = told

  told_leant : (K : Knowledge) (l : Lasting) → Told S q s c K → c l.earlier ≤ c l.later → Told S q s c (leant K l)
  unfolding leant
  told_leant K l told kept =
      told_lowered S q s c (raised K l.later (K.lower l.earlier)) l.earlier (K.upper l.later)
      (told_raised S q s c K l.later (K.lower l.earlier) told (omega (arith, told.lows l.earlier, kept)))
      (omega (arith, told.highs l.later, kept))

  told_leant_by : (lasting : List Lasting) (K : Knowledge) → Told S q s c K → All (λ l. c l.earlier ≤ c l.later) lasting → Told S q s c (leant_by K lasting)
  told_leant_by [] K told kept = told
  told_leant_by (l ∷ more) K told kept = told_leant_by more (leant K l) (told_leant K l told (kept zero l (omega arith))) (λ k d within. kept (suc k) d (omega (arith, within)))

  told_pair_pushed : (K : Knowledge) (i j : ℕ) → Told S q s c K → Told S q s c (pair_pushed S K i j)
  unfolding pair_pushed
  told_pair_pushed K i j told =
      let one = push_known S K (S.order X i j) in
      let two = push_known S one (S.order X j i) in
      let three = push_known S two (S.order Y i j) in
      let four = push_known S three (S.order Y j i) in
      told_leant_by (S.lasting i j) four (told_push_known three (S.order Y j i) (told_push_known two (S.order Y i j) (told_push_known one (S.order X j i) (told_push_known K (S.order X i j) told)))) (m.lasting i j)

  -- of orders of which one holds one is left that does
  among_orders : (o : Order) (orders : List Order) → IsTrue (list_any (is_order o) orders) → IsMet q s c o → OneIsMet q s c orders
  among_orders o [] is met = absurd (false≢true is)
  among_orders o (p ∷ orders) is met = elim (or_cases (is_order o p) (list_any (is_order o) orders) is) [
    | inl same ↦ inl (subst (IsMet q s c) (same_order o p same) met)
    | inr later ↦ inr (among_orders o orders later met)
  ]

  left_or_out : (b : Bool) (o : Order) (left orders : List Order) → (OneIsMet q s c orders → OneIsMet q s c left) → (IsTrue b → IsMet q s c o → OneIsMet q s c orders) → OneIsMet q s c (o ∷ orders) → OneIsMet q s c (if b then left else o ∷ left)
  left_or_out true o left orders rest out (inl met) = rest (out refl met)
  left_or_out true o left orders rest out (inr later) = rest later
  left_or_out false o left orders rest out (inl met) = inl met
  left_or_out false o left orders rest out (inr later) = inr (rest later)

  one_left : (K : Knowledge) → Told S q s c K → (orders : List Order) → OneIsMet q s c orders → OneIsMet q s c (open_orders S K orders)
  one_left K told [] one = one
  one_left K told (o ∷ orders) one =
      left_or_out (list_any (is_order o) orders || (K.fails o || is_refuted S K o)) o (open_orders S K orders) orders (one_left K told orders) out one
    where
      out : IsTrue (list_any (is_order o) orders || (K.fails o || is_refuted S K o)) → IsMet q s c o → OneIsMet q s c orders
      out is met = elim (or_cases (list_any (is_order o) orders) (K.fails o || is_refuted S K o) is) [
        | inl later ↦ among_orders o orders later met
        | inr sure ↦ absurd (not_so S q s c K o finer low told sure met)
      ]

  with_last_sound : (K : Knowledge) (left : List Order) → Told S q s c K → OneIsMet q s c left → IsSound (with_last S K left)
  with_last_sound K [] told one = one
  with_last_sound K (o ∷ []) told (inl met) = told_pushed S q s c (with_order K o) o finer low (told_with S q s c K o told met) met
  with_last_sound K (o ∷ []) told (inr none) = absurd none
  with_last_sound K (o ∷ p ∷ more) told one = told

  sound_either : (b : Bool) (o r : Outcome) → IsSound o → IsSound r → IsSound (if b then o else r)
  sound_either true o r one other = one
  sound_either false o r one other = other

  after_sound : (earlier : List (List Fact)) (K : Knowledge) (h : Hint) → All Refuted earlier → IsHint S (length earlier) h → Told S q s c K → IsSound (after S earlier K h)
  unfolding after
  after_sound earlier K (Pair pair) refuted named told =
      let i = pair.i in
      let j = pair.j in
      let M = pair_pushed S K i j in
      let told_m : Told S q s c M = told_pair_pushed K i j told in
      let left = open_orders S M (group S i j) in
      sound_either (knows_order S M i j) (now M) (with_last S M left) told_m (with_last_sound M left told_m (one_left M told_m (group S i j) (m.one i j named)))
  after_sound earlier K (Lemma number) refuted named told =
      let facts = get_or earlier (number - 1) [] in
      by_last_sound K bad (unsure S K facts) told (λ hold. refuted (number - 1) [] (omega (arith, named.0, named.1)) (unsure_all S q s c K facts finer low told hold)) tt

  then_sound : (Rest : Knowledge → Type 0) (o : Outcome) → ((K : Knowledge) → Told S q s c K → Rest K → ⊥) → IsSound o → Then Rest o → ⊥
  then_sound Rest broken rest sound is = sound
  then_sound Rest (now K) rest sound is = rest K sound is
  then_sound Rest bad rest sound is = is

  -- so what is closed doesn't tell only what is so
  pub closed_sound : (earlier : List (List Fact)) → All Refuted earlier → (hints : List Hint) → All (IsHint S (length earlier)) hints → (K : Knowledge) → Told S q s c K → Closes S earlier hints K → ⊥
  closed_sound earlier refuted [] named K told closes = not_broken K told closes
  closed_sound earlier refuted (h ∷ hints) named K told (inl here) = not_broken K told here
  closed_sound earlier refuted (h ∷ hints) named K told (inr later) =
      let rest : All (IsHint S (length earlier)) hints = λ k d within. named (suc k) d (omega (arith, within)) in
      then_sound (Closes S earlier hints) (after S earlier K h) (closed_sound earlier refuted hints rest)
      (after_sound earlier K h refuted (named zero h (omega arith)) told) later
