-- The guide from question to question: what has no placement under bounds has none under tighter ones.
use Rattle.std.proofs.Common.{◌≡◌, inl, inr, ℕ, zero, suc, ◌+◌, ◌<◌, ◌≤◌, Bool, true, false, List, [], ◌∷◌, ◌++◌, length, get_or, set, take, refl, sym, ◌∙◌, ap, subst, length-append, arith}
use Rattle.std.proofs.lemmas.Bool.{cases_eq, cases_lt}
use Rattle.std.proofs.lemmas.List.{get_or_append_left, get_or-append-add, get_or-set_same, get_or-set_other, take-append-le, take_all}
use Rattle.bp_base.specs.declared.path.Choice.{Choice}
use Rattle.bp_base.specs.declared.path.Choice.TheVariants.{Left, Right, Below, Above}
use Rattle.bp_base.specs.declared.path.Pair.{Pair}
use Rattle.bp_base.specs.declared.path.Step.{Step}
use Rattle.bp_base.specs.Tree.{TreeValue}
use Rattle.bp_steady.specs.Bounds.{BoundsValue, place}
use Rattle.bp_steady.specs.Searching.{NoPlacing, choice_at}
use Rattle.bp_steady.specs.Stack.{IsGuide, IsGuided, IsGuiding, IsKept, IsLed, IsStepped, child_at, step_at}
use Rattle.bp_steady.specs.Stack.IsGuide.{start, further}
use Rattle.bp_steady.specs.declared.searching.Answer.{Answer}
use Rattle.bp_steady.specs.declared.searching.Answer.TheVariants.{Yes, No}

abbrev number_of : Choice → ℕ
number_of Left = 0
number_of Right = 1
number_of Below = 2
number_of Above = 3

numbered : (c : Choice) → (number_of c < 4) × (choice_at (number_of c) ≡ c)
numbered Left = (omega arith, refl)
numbered Right = (omega arith, refl)
numbered Below = (omega arith, refl)
numbered Above = (omega arith, refl)

number_at : (k : ℕ) → k < 4 → number_of (choice_at k) ≡ k
number_at zero few = refl
number_at (suc zero) few = refl
number_at (suc (suc zero)) few = refl
number_at (suc (suc (suc zero))) few = refl
number_at (suc (suc (suc (suc k)))) few = absurd (omega (arith, few))

module _ (T : TreeValue) (b : BoundsValue) where
  guide_at : (guide : List Step) → IsGuide T b guide → (n : ℕ) → n < length guide → (s : Step) → get_or guide n s ≡ s → (j : ℕ) → j < number_of s.choice → NoPlacing T b (child_at (take n guide) s.pair j)
  guide_at guide start n within s is j less = absurd (omega (arith, within))
  guide_at guide (further {path = p} g pair k none few) n within s is j less = elim (cases_lt n (length p)) [
    | inl early ↦
        let same : get_or p n s ≡ s = sym (get_or_append_left p (step_at pair k ∷ []) s n early) ∙ is in
        let front : take n (p ++ step_at pair k ∷ []) ≡ take n p = take-append-le n p (step_at pair k ∷ []) (omega (arith, early)) in
        subst (λ (q : List Step). NoPlacing T b (child_at q s.pair j)) (sym front) (guide_at p g n early s same j less)
    | inr late ↦
        let at : n ≡ length p + 0 = omega (arith, late, within, length-append p (step_at pair k ∷ [])) in
        let last : step_at pair k ≡ s = sym (get_or-append-add p (step_at pair k ∷ []) 0 s) ∙ ap (λ (m : ℕ). get_or (p ++ step_at pair k ∷ []) m s) (sym at) ∙ is in
        let number : number_of s.choice ≡ k = sym (ap (λ (x : Step). number_of x.choice) last) ∙ number_at k few in
        let whole : take n (p ++ step_at pair k ∷ []) ≡ p = take-append-le n p (step_at pair k ∷ []) (omega (arith, at)) ∙ take_all n p (omega (arith, at)) in
        subst (λ (q : List Step). NoPlacing T b (child_at q s.pair j)) (sym whole)
        (subst (λ (r : Pair). NoPlacing T b (child_at p r j)) (ap (λ (x : Step). x.pair) last) (none j (omega (arith, less, number))))
  ]

-- The step that is pushed.

pub none_led : (led : Bool) (path guide : List Step) → path ≡ [] → IsLed led path guide
none_led led [] guide none = λ told. refl
none_led led (s ∷ path) guide none = cc

pub no_both : (v : Bool) → v ≡ true → v ≡ false → ⊥
no_both true told not = cc
no_both false told not = cc

pub first_stepped : (guide path new : List Step) (pair : Pair) → new ≡ path ++ (record { pair = pair; choice = Left }) ∷ [] → IsStepped guide pair path new
first_stepped guide path new pair is = (0, omega arith, is, λ T b g j less. absurd (omega (arith, less)))

module _ (led : Bool) (guide path : List Step) (pair : Pair) (s : Step) (is_led : IsLed led path guide) (is : IsGuiding led path guide pair s) where
  front : path ≡ take (length path) guide
  front = is_led is.told

  pub guided_stepped : (new : List Step) → new ≡ path ++ s ∷ [] → IsStepped guide pair path new
  guided_stepped new new_is =
      let n = numbered s.choice in
      let step_is : s ≡ step_at pair (number_of s.choice) = λ i. record { pair = is.same i; choice = sym n.1 i } in (
        number_of s.choice,
        n.0,
        new_is ∙ ap (λ (x : Step). path ++ x ∷ []) step_is,
        λ T b g j less.
            subst (λ (q : List Step). NoPlacing T b (child_at q pair j)) (sym front)
            (subst (λ (r : Pair). NoPlacing T b (child_at (take (length path) guide) r j)) is.same
            (guide_at T b guide g (length path) is.within s is.is_step j less)),
      )

  pub guided_led : (new : List Step) (now : Bool) → new ≡ path ++ s ∷ [] → IsLed now new guide
  guided_led new now new_is = λ told.
      let long : suc (length path) ≡ length new = omega (arith, ap length new_is, length-append path (s ∷ [])) in
      new_is ∙ ap (λ (q : List Step). q ++ s ∷ []) front ∙ sym (one_more guide (length path) is.within is.is_step) ∙ ap (λ (m : ℕ). take m guide) long
    where
      one_more : (g : List Step) (n : ℕ) → n < length g → get_or g n s ≡ s → take (suc n) g ≡ take n g ++ s ∷ []
      one_more [] n within at = absurd (omega (arith, within))
      one_more (x ∷ g) zero within at = ap (λ (y : Step). y ∷ []) at
      one_more (x ∷ g) (suc n) within at = ap (λ (q : List Step). x ∷ q) (one_more g n (omega (arith, within)) at)

-- Tighter bounds.

module _ (T : TreeValue) (wide b : BoundsValue) (lows : (k : ℕ) → get_or wide.low k 0 ≤ get_or b.low k 0) (highs : (k : ℕ) → get_or b.high k 0 ≤ get_or wide.high k 0) where
  none_within : (path : List Step) → NoPlacing T wide path → NoPlacing T b path
  none_within path none f placing = none f (record {
    keeps = λ axis i leaf.
        let k = placing.keeps axis i leaf in
        (omega (arith, lows (place axis i), k.0), omega (arith, highs (place axis i), k.1));
    meets = placing.meets;
    far = placing.far;
  })

  guide_within : (guide : List Step) → IsGuide T wide guide → IsGuide T b guide
  guide_within guide start = start
  guide_within guide (further {path = p} g pair k none few) =
      further (guide_within p g) pair k (λ j less. none_within (child_at p pair j) (none j less)) few

module _ (T : TreeValue) (c : ℕ) where
  pub guided_start : (b : BoundsValue) (h : ℕ) (guide : List Step) → h ≡ get_or b.high c 0 → IsGuide T b guide → IsGuided T b c h guide
  guided_start b h guide is g = record {
    wide = b;
    is_guide = g;
    lows = λ k. omega arith;
    highs = λ k other. omega arith;
    here = omega (arith, is);
  }

  module _ (b new : BoundsValue) (h v : ℕ) (guide : List Step) (is : IsGuided T b c h guide) (within : c < length b.high) (new_is : new ≡ record { low = b.low; high = set b.high c v }) where
    high_here : get_or new.high c 0 ≡ v
    high_here = ap (λ (q : BoundsValue). get_or q.high c 0) new_is ∙ get_or-set_same b.high c v 0 within

    high_other : (k : ℕ) → (k ≡ c → ⊥) → get_or new.high k 0 ≡ get_or b.high k 0
    high_other k other = ap (λ (q : BoundsValue). get_or q.high k 0) new_is ∙ get_or-set_other b.high c k v 0 other

    low_same : (k : ℕ) → get_or new.low k 0 ≡ get_or b.low k 0
    low_same k = ap (λ (q : BoundsValue). get_or q.low k 0) new_is

    -- for the question
    pub guided_question : v ≤ h → IsGuide T new guide
    guided_question less =
        guide_within T is.wide new
        (λ k. omega (arith, is.lows k, low_same k))
        (λ k. elim (cases_eq k c) [
          | inl same ↦ omega (arith, ap (λ (m : ℕ). get_or new.high m 0) same, ap (λ (m : ℕ). get_or is.wide.high m 0) same, high_here, less, is.here)
          | inr other ↦ omega (arith, is.highs k other, high_other k other)
        ])
        guide is.is_guide

    pub guided_yes : (kept : List Step) (a : Answer) → a ≡ Yes → IsKept T new guide kept a → IsGuided T new c v kept
    guided_yes kept a is_yes is_kept =
        guided_start new v kept (sym high_here) (subst (IsKept T new guide kept) is_yes is_kept)

    pub guided_no : (kept : List Step) (a : Answer) → a ≡ No → IsKept T new guide kept a → IsGuided T new c h kept
    guided_no kept a is_no is_kept =
        subst (IsGuided T new c h) (sym (subst (IsKept T new guide kept) is_no is_kept)) (record {
          wide = is.wide;
          is_guide = is.is_guide;
          lows = λ k. omega (arith, is.lows k, low_same k);
          highs = λ k other. omega (arith, is.highs k other, high_other k other);
          here = is.here;
        })

  pub guided_less : (b : BoundsValue) (h v : ℕ) (guide : List Step) → v ≤ h → IsGuided T b c h guide → IsGuided T b c v guide
  guided_less b h v guide less is = record {
    wide = is.wide;
    is_guide = is.is_guide;
    lows = is.lows;
    highs = is.highs;
    here = omega (arith, is.here, less);
  }

  -- the coordinate is this number, which isn't below its low number
  pub guided_fixed : (b new : BoundsValue) (v : ℕ) (guide : List Step) → IsGuided T b c v guide → c < length b.low → c < length b.high → get_or b.low c 0 ≤ v → new ≡ record { low = set b.low c v; high = set b.high c v } → IsGuide T new guide
  guided_fixed b new v guide is within_low within_high low new_is =
      guide_within T is.wide new
      (λ k. elim (cases_eq k c) [
        | inl same ↦ omega (arith, ap (λ (m : ℕ). get_or new.low m 0) same, ap (λ (m : ℕ). get_or is.wide.low m 0) same, ap (λ (q : BoundsValue). get_or q.low c 0) new_is, get_or-set_same b.low c v 0 within_low, is.lows c, low)
        | inr other ↦ omega (arith, is.lows k, ap (λ (q : BoundsValue). get_or q.low k 0) new_is, get_or-set_other b.low c k v 0 other)
      ])
      (λ k. elim (cases_eq k c) [
        | inl same ↦ omega (arith, ap (λ (m : ℕ). get_or new.high m 0) same, ap (λ (m : ℕ). get_or is.wide.high m 0) same, ap (λ (q : BoundsValue). get_or q.high c 0) new_is, get_or-set_same b.high c v 0 within_high, is.here)
        | inr other ↦ omega (arith, is.highs k other, ap (λ (q : BoundsValue). get_or q.high k 0) new_is, get_or-set_other b.high c k v 0 other)
      ])
      guide is.is_guide
