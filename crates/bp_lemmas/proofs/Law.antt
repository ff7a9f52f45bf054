-- The law of systems: lemma by lemma, none has facts that all hold of coordinates that meet the system.
use Rattle.std.proofs.Common.{◌≡◌, ℕ, ◌*◌, ◌<◌, suc, ◌≤◌, ◌++◌, List, [], ◌∷◌, IsTrue, All, refl, sym, subst, arith, inl, inr}
use Rattle.std.specs.List.{list_any}
use Rattle.std.proofs.lemmas.Bool.{or_cases, false≢true}
use Rattle.std.proofs.lemmas.List.Elements.{All-append, All-cons}
use Rattle.bp_arrangement.specs.declared.fact.Fact.{Fact}
use Rattle.bp_arrangement.specs.Facts.{denial}
use Rattle.bp_arrangement.proofs.Marks.{mark_zero}
use Rattle.bp_lemmas.specs.Systems.{Order, is_order, IsMet, System, Meets, NoneMeets}
use Rattle.bp_lemmas.specs.Knowledge.{Knowledge, first_knowledge, with_facts}
use Rattle.bp_lemmas.specs.Standing.{Lemma, Stands, grown, grown_by, root_after, EachStands, EndsEmpty, facts_of}
use Rattle.bp_lemmas.proofs.Told.{same_order, AllHold, Told, told_fact, told_facts, denial_holds}
use Rattle.bp_lemmas.proofs.Hinted.{Refuted, closed_sound}

-- the root behind one lemma more
pub grown_last : (S : System) (K : Knowledge) (earlier : List (List Fact)) (facts : List Fact) → grown_by S K (earlier ++ facts ∷ []) ≡ grown S (grown_by S K earlier) facts
grown_last S K [] facts = refl
grown_last S K (first ∷ earlier) facts = grown_last S (grown S K first) earlier facts

module _ (S : System) (q s : ℕ) (c : ℕ → ℕ) (finer : 1 ≤ q) (low : s < q * S.bound) (m : Meets S q s c) where
  abbrev Denied : List Fact → Type 0
  Denied facts = Refuted S q s c finer low m facts

  -- what is so of each of a list is so of one among them
  among : (C : Order → Type 0) (o : Order) (orders : List Order) → All C orders → IsTrue (list_any (is_order o) orders) → C o
  among C o [] all is = absurd (false≢true is)
  among C o (p ∷ orders) all is = elim (or_cases (is_order o p) (list_any (is_order o) orders) is) [
    | inl same ↦ subst C (sym (same_order o p same)) (all 0 p (omega arith))
    | inr later ↦ among C o orders (λ k d within. all (suc k) d (omega (arith, within))) later
  ]

  told_first : Told S q s c (first_knowledge S)
  told_first = record {
    lows = λ u. omega (arith, mark_zero q);
    highs = m.below;
    held = λ o is. among (IsMet q s c) o S.known m.known is;
    failed = λ o is. among (λ p. IsMet q s c p → ⊥) o S.known_not m.known_not is;
  }

  told_grown : (K : Knowledge) (facts : List Fact) → Told S q s c K → Denied facts → Told S q s c (grown S K facts)
  told_grown K [] told denied = told
  told_grown K (f ∷ []) told denied = told_fact S q s c K (denial f) finer low told (denial_holds S q s c f (λ holds. denied (holds, tt)))
  told_grown K (f ∷ g ∷ more) told denied = told

  told_root : (K : Knowledge) (earlier : List (List Fact)) → Told S q s c K → All Denied earlier → Told S q s c (grown_by S K earlier)
  told_root K [] told denied = told
  told_root K (facts ∷ earlier) told denied =
      told_root (grown S K facts) earlier (told_grown K facts told (denied 0 facts (omega arith))) (λ k d within. denied (suc k) d (omega (arith, within)))

  stands_denied : (earlier : List (List Fact)) (l : Lemma) → All Denied earlier → Stands S earlier l → Denied l.facts
  stands_denied earlier l denied stands hold =
      let root = root_after S earlier in
      closed_sound S q s c finer low m earlier denied l.hints stands.hints (with_facts S root l.facts)
      (told_facts S q s c l.facts root finer low (told_root (first_knowledge S) earlier told_first denied) hold) stands.closed

  none_left : (facts : List Fact) → facts ≡ [] → AllHold S q s c facts
  none_left facts is = subst (AllHold S q s c) (sym is) tt

  pub nothing_meets : (lemmas : List Lemma) (earlier : List (List Fact)) → All Denied earlier → EachStands S earlier lemmas → EndsEmpty (facts_of lemmas) → ⊥
  nothing_meets [] earlier denied stand ends = ends
  nothing_meets (l ∷ []) earlier denied stand ends = stands_denied earlier l denied stand.0 (none_left l.facts ends)
  nothing_meets (l ∷ more ∷ lemmas) earlier denied stand ends =
      let this : Denied l.facts = stands_denied earlier l denied stand.0 in
      let none : All Denied [] = λ k d within. absurd (omega (arith, within)) in
      nothing_meets (more ∷ lemmas) (earlier ++ l.facts ∷ [])
      (All-append Denied earlier (l.facts ∷ []) denied (All-cons Denied l.facts [] this none)) stand.1 ends

pub systems_law : (S : System) (lemmas : List Lemma) → EachStands S [] lemmas → EndsEmpty (facts_of lemmas) → NoneMeets S
systems_law S lemmas stand ends q s c finer low m =
    let none : All (Refuted S q s c finer low m) [] = λ k d within. absurd (omega (arith, within)) in
    nothing_meets S q s c finer low m lemmas [] none stand ends
