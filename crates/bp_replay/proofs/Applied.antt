-- What the facts that aren't sure give, and facts and orders one after another.
use Rattle.std.proofs.Common.{◌≡◌, ℕ, ◌+◌, ◌<◌, Bool, true, false, if◌then◌else◌, List, [], ◌∷◌, ◌++◌, length, take, get_or, flat_map, refl, sym, ◌∙◌, ap, subst}
use Rattle.std.proofs.lemmas.Grind.{flat_map-append}
use Rattle.std.proofs.lemmas.List.{append-nil, take_more, map-append}
use Rattle.bp_base.specs.declared.point.Axis.{Axis}
use Rattle.bp_arrangement.specs.declared.fact.Fact.{Fact}
use Rattle.bp_arrangement.specs.Facts.{denial}
use Rattle.bp_lemmas.specs.Systems.{Order, Lasting, System}
use Rattle.bp_lemmas.specs.Knowledge.{Knowledge, with_order, pushed, with_fact, with_facts, is_sure, unsure}
use Rattle.bp_lemmas.specs.Hints.{Outcome, broken, now, bad, by_last, leant, leant_by, with_last}
use Rattle.bp_replay.specs.declared.known.Known.{Known}
use Rattle.bp_replay.specs.declared.packed.Packed.{Packed}
use Rattle.bp_replay.specs.declared.unsure.Open.TheVariants.{None, One, Several}
use Rattle.bp_replay.specs.declared.unsure.Unsure.TheVariants.{Nothing, Single, More}
use Rattle.bp_replay.specs.Tasks.{Task, system_of}
use Rattle.bp_replay.specs.Kept.{IsLeft, AreOpen, Comes, Keeps}
use Rattle.bp_replay.specs.Stored.{fact_of, facts_in}
use Rattle.bp_replay.proofs.Breaks.{Ends}
use Rattle.bp_replay.proofs.Shown.{keeps_broken}

module _ (t : Task) (K : Knowledge) (S : Known) (otherwise : Outcome) where
  pub comes_nothing : (left : List Fact) → IsLeft Nothing left → S.broken ≡ true → Comes true t S (by_last (system_of t) K otherwise left)
  comes_nothing [] is flag = flag
  comes_nothing (f ∷ left) is flag = absurd is

  pub comes_single : (f : Fact) (left : List Fact) → IsLeft (Single f) left → Keeps t S (with_fact (system_of t) K (denial f)) → Comes true t S (by_last (system_of t) K otherwise left)
  comes_single f [] is keeps = absurd is
  comes_single f (g ∷ []) is keeps = subst (λ (h : Fact). Keeps t S (with_fact (system_of t) K (denial h))) is keeps
  comes_single f (g ∷ h ∷ left) is keeps = absurd is

  pub comes_more : (b : Bool) (left : List Fact) → IsLeft More left → Comes b t S otherwise → Comes b t S (by_last (system_of t) K otherwise left)
  comes_more b [] is comes = absurd is
  comes_more b (f ∷ []) is comes = absurd is
  comes_more b (f ∷ g ∷ left) is comes = comes

-- the same of the orders of a pair
module _ (t : Task) (K : Knowledge) (S : Known) where
  pub open_none : (left : List Order) → AreOpen (system_of t) None left → S.broken ≡ true → Comes true t S (with_last (system_of t) K left)
  open_none [] is flag = flag
  open_none (o ∷ left) is flag = absurd is

  pub open_one : (axis : Axis) (i j : ℕ) (left : List Order) → AreOpen (system_of t) (One axis i j) left → Keeps t S (pushed (system_of t) (with_order K ((system_of t).order axis i j)) ((system_of t).order axis i j)) → Comes true t S (with_last (system_of t) K left)
  open_one axis i j [] is keeps = absurd is
  open_one axis i j (o ∷ []) is keeps = subst (λ (p : Order). Keeps t S (pushed (system_of t) (with_order K p) p)) is keeps
  open_one axis i j (o ∷ p ∷ left) is keeps = absurd is

  pub open_several : (left : List Order) → AreOpen (system_of t) Several left → Keeps t S K → Comes true t S (with_last (system_of t) K left)
  open_several [] is keeps = absurd is
  open_several (o ∷ []) is keeps = absurd is
  open_several (o ∷ p ∷ left) is keeps = keeps

-- what a broken knowledge ends in is kept by the flag
pub comes_ended : (t : Task) (S : Known) (o : Outcome) → S.broken ≡ true → Ends (system_of t) o → Comes true t S o
comes_ended t S broken flag is = flag
comes_ended t S (now M) flag is = keeps_broken t S M flag is
comes_ended t S bad flag is = is

-- with the orders of one element more
pub flat_more : {X : Type 0} (f : X → List Lasting) (xs : List X) (k : ℕ) (d : X) → k < length xs → flat_map f (take (k + 1) xs) ≡ flat_map f (take k xs) ++ f (get_or xs k d)
flat_more f xs k d within =
    ap (flat_map f) (take_more xs k d within) ∙ flat_map-append f (take k xs) (get_or xs k d ∷ [])
    ∙ ap (λ (l : List Lasting). flat_map f (take k xs) ++ l) (append-nil (f (get_or xs k d)))

pub leant_append : (K : Knowledge) (xs ys : List Lasting) → leant_by K (xs ++ ys) ≡ leant_by (leant_by K xs) ys
leant_append K [] ys = refl
leant_append K (l ∷ xs) ys = leant_append (leant K l) xs ys

either_append : (b : Bool) (f : Fact) (xs ys : List Fact) → (if b then xs ++ ys else f ∷ (xs ++ ys)) ≡ (if b then xs else f ∷ xs) ++ ys
either_append true f xs ys = refl
either_append false f xs ys = refl

module _ (S : System) (K : Knowledge) where
  unsure-append : (fs gs : List Fact) → unsure S K (fs ++ gs) ≡ unsure S K fs ++ unsure S K gs
  unsure-append [] gs = refl
  unsure-append (f ∷ fs) gs =
      ap (λ (rest : List Fact). if is_sure S K f then rest else f ∷ rest) (unsure-append fs gs)
      ∙ either_append (is_sure S K f) f (unsure S K fs) (unsure S K gs)

  chosen : (b : Bool) (fs : List Fact) (f : Fact) → fs ++ (if b then [] else f ∷ []) ≡ (if b then fs else fs ++ (f ∷ []))
  chosen true fs f = append-nil fs
  chosen false fs f = refl

  -- one stored fact more
  pub unsure_step : (facts : List Packed) (k : ℕ) (d : Packed) (b : Bool) (f : Fact) → k < length facts → f ≡ fact_of (get_or facts k d) → b ≡ is_sure S K f → unsure S K (facts_in (take (k + 1) facts)) ≡ (if b then unsure S K (facts_in (take k facts)) else unsure S K (facts_in (take k facts)) ++ (f ∷ []))
  unsure_step facts k d b f within is sure =
      let fs = facts_in (take k facts) in
      ap (λ (xs : List Packed). unsure S K (facts_in xs)) (take_more facts k d within)
      ∙ ap (unsure S K) (map-append fact_of (take k facts) (get_or facts k d ∷ []))
      ∙ ap (λ (g : Fact). unsure S K (fs ++ g ∷ [])) (sym is)
      ∙ unsure-append fs (f ∷ [])
      ∙ chosen (is_sure S K f) (unsure S K fs) f
      ∙ ap (λ (c : Bool). if c then unsure S K fs else unsure S K fs ++ (f ∷ [])) (sym sure)

  with_facts-append : (M : Knowledge) (fs : List Fact) (f : Fact) → with_facts S M (fs ++ f ∷ []) ≡ with_fact S (with_facts S M fs) f
  with_facts-append M [] f = refl
  with_facts-append M (g ∷ fs) f = with_facts-append (with_fact S M g) fs f

  pub with_facts_step : (facts : List Fact) (k : ℕ) (d : Fact) → k < length facts → with_facts S K (take (k + 1) facts) ≡ with_fact S (with_facts S K (take k facts)) (get_or facts k d)
  with_facts_step facts k d within = ap (with_facts S K) (take_more facts k d within) ∙ with_facts-append K (take k facts) (get_or facts k d)
