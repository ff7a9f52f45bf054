-- A knowledge that tells only what is so of some coordinates: with a fact more that holds it still does, and each fact that is sure holds.
use Rattle.std.proofs.Common.{◌≡◌, ℕ, ◌+◌, ◌-◌, ◌*◌, ◌/◌, ◌<◌, ◌≤◌, ◌==◌, ◌&&◌, ◌||◌, max, min, Bool, true, false, if◌then◌else◌, IsTrue, List, [], ◌∷◌, refl, sym, ◌∙◌, ap, subst, arith, inl, inr}
use Rattle.std.proofs.Math.Nat.{mul-add, mul-le-mul_left}
use Rattle.std.proofs.lemmas.Bool.{and_parts, or_cases, cases_lt, eqb-true, leb-true, false≢true}
use Rattle.bp_arrangement.specs.declared.fact.Fact.{Fact}
use Rattle.bp_arrangement.specs.declared.fact.Fact.TheVariants.{Before, NotBefore, Least, Below}
use Rattle.bp_arrangement.specs.Facts.{mark, denial}
use Rattle.bp_arrangement.proofs.Marks.{mark_le, mark_shift, mark_even}
use Rattle.bp_lemmas.specs.Systems.{Order, apart, facing, facing_itself, never, is_order, IsMet, System}
use Rattle.bp_lemmas.specs.Knowledge.{Knowledge, raised, lowered, with_order, without_order, facing_upper, facing_itself_upper, pushed, is_refuted, with_fact, with_facts, is_sure, unsure}

-- equal orders are one
pub same_order : (o p : Order) → IsTrue (is_order o p) → o ≡ p
same_order (apart u v w) (apart a b d) same =
    let parts = and_parts ((u == a) && (v == b)) (w == d) same in
    let ends = and_parts (u == a) (v == b) parts.0 in
    ap (λ (k : ℕ). apart k v w) (eqb-true u a ends.0) ∙ ap (λ (k : ℕ). apart a k w) (eqb-true v b ends.1) ∙ ap (λ (k : ℕ). apart a b k) (eqb-true w d parts.1)
same_order (apart u v w) (facing a b d) same = absurd (false≢true same)
same_order (apart u v w) (facing_itself a d) same = absurd (false≢true same)
same_order (apart u v w) never same = absurd (false≢true same)
same_order (facing u v w) (apart a b d) same = absurd (false≢true same)
same_order (facing u v w) (facing a b d) same =
    let parts = and_parts ((u == a) && (v == b)) (w == d) same in
    let ends = and_parts (u == a) (v == b) parts.0 in
    ap (λ (k : ℕ). facing k v w) (eqb-true u a ends.0) ∙ ap (λ (k : ℕ). facing a k w) (eqb-true v b ends.1) ∙ ap (λ (k : ℕ). facing a b k) (eqb-true w d parts.1)
same_order (facing u v w) (facing_itself a d) same = absurd (false≢true same)
same_order (facing u v w) never same = absurd (false≢true same)
same_order (facing_itself u w) (apart a b d) same = absurd (false≢true same)
same_order (facing_itself u w) (facing a b d) same = absurd (false≢true same)
same_order (facing_itself u w) (facing_itself a d) same =
    let parts = and_parts (u == a) (w == d) same in
    ap (λ (k : ℕ). facing_itself k w) (eqb-true u a parts.0) ∙ ap (λ (k : ℕ). facing_itself a k) (eqb-true w d parts.1)
same_order (facing_itself u w) never same = absurd (false≢true same)
same_order never (apart a b d) same = absurd (false≢true same)
same_order never (facing a b d) same = absurd (false≢true same)
same_order never (facing_itself a d) same = absurd (false≢true same)
same_order never never same = refl

low_chosen : (q c x code : ℕ) (b : Bool) → (IsTrue b → mark q code ≤ c) → mark q x ≤ c → mark q (if b then max x code else x) ≤ c
low_chosen q c x code false new old = old
low_chosen q c x code true new old = elim (cases_lt x code) [
  | inl less ↦ let is : max x code ≡ code = omega (arith, less) in omega (arith, ap (mark q) is, new refl)
  | inr not ↦ let is : max x code ≡ x = omega (arith, not) in omega (arith, ap (mark q) is, old)
]

high_chosen : (q c x code : ℕ) (b : Bool) → (IsTrue b → c < mark q code) → c < mark q x → c < mark q (if b then min x code else x)
high_chosen q c x code false new old = old
high_chosen q c x code true new old = elim (cases_lt x code) [
  | inl less ↦ let is : min x code ≡ x = omega (arith, less) in omega (arith, ap (mark q) is, old)
  | inr not ↦ let is : min x code ≡ code = omega (arith, not) in omega (arith, ap (mark q) is, new refl)
]

mark_whole : (q code : ℕ) → q * (code / 2) ≤ mark q code
unfolding mark
mark_whole q code = omega arith

module _ (S : System) (q s : ℕ) (c : ℕ → ℕ) where
  -- the fact is so of the coordinates
  abbrev pub Holds : Fact → Type 0
  Holds (Before axis first second) = IsMet q s c (S.order axis first second)
  Holds (NotBefore axis first second) = IsMet q s c (S.order axis first second) → ⊥
  Holds (Least axis leaf code) = mark q code ≤ c (S.coordinate axis leaf)
  Holds (Below axis leaf code) = c (S.coordinate axis leaf) < mark q code

  abbrev pub AllHold : List Fact → Type 0
  AllHold [] = Unit {0}
  AllHold (f ∷ facts) = Holds f × AllHold facts

  -- the knowledge tells only what is so
  pub record Told (K : Knowledge) : Type 0 where
    pub lows : (u : ℕ) → mark q (K.lower u) ≤ c u
    pub highs : (u : ℕ) → c u < mark q (K.upper u)
    pub held : (o : Order) → IsTrue (K.holds o) → IsMet q s c o
    pub failed : (o : Order) → IsTrue (K.fails o) → IsMet q s c o → ⊥

  pub told_raised : (K : Knowledge) (u code : ℕ) → Told K → mark q code ≤ c u → Told (raised K u code)
  unfolding raised
  told_raised K u code told holds = record {
    lows = λ k. low_chosen q (c k) (K.lower k) code (k == u) (λ same. subst (λ (m : ℕ). mark q code ≤ c m) (sym (eqb-true k u same)) holds) (told.lows k);
    highs = told.highs;
    held = told.held;
    failed = told.failed;
  }

  pub told_lowered : (K : Knowledge) (u code : ℕ) → Told K → c u < mark q code → Told (lowered K u code)
  unfolding lowered
  told_lowered K u code told holds = record {
    lows = told.lows;
    highs = λ k. high_chosen q (c k) (K.upper k) code (k == u) (λ same. subst (λ (m : ℕ). c m < mark q code) (sym (eqb-true k u same)) holds) (told.highs k);
    held = told.held;
    failed = told.failed;
  }

  pub told_with : (K : Knowledge) (o : Order) → Told K → IsMet q s c o → Told (with_order K o)
  unfolding with_order
  told_with K o told met = record {
    lows = told.lows;
    highs = told.highs;
    held = λ p known. elim (or_cases (is_order p o) (K.holds p) known) [
      | inl same ↦ subst (IsMet q s c) (sym (same_order p o same)) met
      | inr before ↦ told.held p before
    ];
    failed = told.failed;
  }

  pub told_without : (K : Knowledge) (o : Order) → Told K → (IsMet q s c o → ⊥) → Told (without_order K o)
  unfolding without_order
  told_without K o told missed = record {
    lows = told.lows;
    highs = told.highs;
    held = told.held;
    failed = λ p known. elim (or_cases (is_order p o) (K.fails p) known) [
      | inl same ↦ λ met. missed (subst (IsMet q s c) (same_order p o same) met)
      | inr before ↦ told.failed p before
    ];
  }

  -- an upper code that would fall below 0 is met by nothing
  less_high : (a b code w : ℕ) → 1 ≤ q → a + q * w ≤ b → b < mark q code → a < mark q (code - 2 * w)
  less_high a b code w finer before high = elim (cases_lt code (2 * w)) [
    | inl short ↦ absurd (omega (arith, mark_le q code (2 * w) finer (omega (arith, short)), mark_even q w, before, high))
    | inr long ↦
        let parts : code ≡ (code - 2 * w) + 2 * w = omega (arith, long) in
        omega (arith, ap (mark q) parts, mark_shift q (code - 2 * w) w, before, high)
  ]

  -- a lower code counts whole steps of the coarse grid
  whole_low : (K : Knowledge) (u : ℕ) → Told K → q * (K.lower u / 2) ≤ c u
  whole_low K u told = omega (arith, mark_whole q (K.lower u), told.lows u)

  -- what stands beside so many whole steps on a side below the bound lies below the bound less these steps
  room_left : (a bound steps : ℕ) → a + q * steps ≤ s → s < q * bound → a < q * (bound - steps)
  room_left a bound steps within low = elim (cases_lt bound steps) [
    | inl short ↦
        let more : q * bound ≤ q * steps = mul-le-mul_left q (omega (arith, short)) in
        absurd (omega (arith, more, within, low))
    | inr long ↦
        let parts : bound ≡ (bound - steps) + steps = omega (arith, long) in
        omega (arith, ap (λ (k : ℕ). q * k) parts, mul-add q (bound - steps) steps, within, low)
  ]

  facing_high : (a b w code bound : ℕ) → a + b + q * w ≤ s → q * (code / 2) ≤ b → s < q * bound → a < mark q (facing_upper bound w code)
  facing_high a b w code bound met other low =
      omega (arith, mark_even q (bound - (code / 2 + w)), room_left a bound (code / 2 + w) (omega (arith, met, other, mul-add q (code / 2) w)) low)

  -- twice the coordinate lies below what is left, so itself below half of that
  facing_itself_high : (a w bound : ℕ) → a + a + q * w ≤ s → s < q * bound → a < mark q (facing_itself_upper bound w)
  facing_itself_high a w bound met low =
      let room : a + a < q * (bound - w) = room_left (a + a) bound w met low in
      let half = (bound - w + 1) / 2 in
      let enough : q * (bound - w) ≤ q * (half + half) = mul-le-mul_left q (omega arith) in
      omega (arith, mark_even q half, mul-add q half half, room, enough)

  pub told_pushed : (K : Knowledge) (o : Order) → 1 ≤ q → s < q * S.bound → Told K → IsMet q s c o → Told (pushed S K o)
  unfolding pushed
  told_pushed K (apart u v w) finer low told met =
      let least : mark q (K.lower u + 2 * w) ≤ c v = omega (arith, mark_shift q (K.lower u) w, told.lows u, met) in
      let high : c u < mark q (K.upper v - 2 * w) = less_high (c u) (c v) (K.upper v) w finer met (told.highs v) in
      told_lowered (raised K v (K.lower u + 2 * w)) u (K.upper v - 2 * w) (told_raised K v (K.lower u + 2 * w) told least) high
  told_pushed K (facing u v w) finer low told met =
      let first : c u < mark q (facing_upper S.bound w (K.lower v)) = facing_high (c u) (c v) w (K.lower v) S.bound met (whole_low K v told) low in
      let second : c v < mark q (facing_upper S.bound w (K.lower u)) = facing_high (c v) (c u) w (K.lower u) S.bound (omega (arith, met)) (whole_low K u told) low in
      told_lowered (lowered K u (facing_upper S.bound w (K.lower v))) v (facing_upper S.bound w (K.lower u)) (told_lowered K u (facing_upper S.bound w (K.lower v)) told first) second
  told_pushed K (facing_itself u w) finer low told met = told_lowered K u (facing_itself_upper S.bound w) told (facing_itself_high (c u) w S.bound met low)
  told_pushed K never finer low told met = told

  -- with a fact more that holds
  pub told_fact : (K : Knowledge) (f : Fact) → 1 ≤ q → s < q * S.bound → Told K → Holds f → Told (with_fact S K f)
  unfolding with_fact
  told_fact K (Before axis i j) finer low told holds = told_pushed (with_order K (S.order axis i j)) (S.order axis i j) finer low (told_with K (S.order axis i j) told holds) holds
  told_fact K (NotBefore axis i j) finer low told holds = told_without K (S.order axis i j) told holds
  told_fact K (Least axis i code) finer low told holds = told_raised K (S.coordinate axis i) code told holds
  told_fact K (Below axis i code) finer low told holds = told_lowered K (S.coordinate axis i) code told holds

  pub told_facts : (facts : List Fact) (K : Knowledge) → 1 ≤ q → s < q * S.bound → Told K → AllHold facts → Told (with_facts S K facts)
  told_facts [] K finer low told hold = told
  told_facts (f ∷ facts) K finer low told hold = told_facts facts (with_fact S K f) finer low (told_fact K f finer low told hold.0) hold.1

  -- whole steps that reach the bound have no room on a side below it
  no_room : (a b i j w : ℕ) → q * i ≤ a → q * j ≤ b → a + b + q * w ≤ s → s < q * S.bound → S.bound ≤ i + j + w → ⊥
  no_room a b i j w first second met low over =
      let more : q * S.bound ≤ q * (i + j + w) = mul-le-mul_left q over in
      omega (arith, more, mul-add q (i + j) w, mul-add q i j, first, second, met, low)

  -- what the bounds refute isn't so
  refuted_missed : (K : Knowledge) (o : Order) → 1 ≤ q → s < q * S.bound → Told K → IsTrue (is_refuted S K o) → IsMet q s c o → ⊥
  unfolding is_refuted
  refuted_missed K (apart u v w) finer low told sure met =
      let over : K.upper v ≤ K.lower u + 2 * w = leb-true (K.upper v) (K.lower u + 2 * w) sure in
      omega (arith, mark_le q (K.upper v) (K.lower u + 2 * w) finer over, mark_shift q (K.lower u) w, told.lows u, told.highs v, met)
  refuted_missed K (facing u v w) finer low told sure met = no_room (c u) (c v) (K.lower u / 2) (K.lower v / 2) w (whole_low K u told) (whole_low K v told) met low (leb-true S.bound (K.lower u / 2 + K.lower v / 2 + w) sure)
  refuted_missed K (facing_itself u w) finer low told sure met = no_room (c u) (c u) (K.lower u / 2) (K.lower u / 2) w (whole_low K u told) (whole_low K u told) met low (leb-true S.bound (K.lower u / 2 + K.lower u / 2 + w) sure)
  refuted_missed K never finer low told sure met = met

  -- an order that is known not to hold or that the bounds refute isn't so
  pub not_so : (K : Knowledge) (o : Order) → 1 ≤ q → s < q * S.bound → Told K → IsTrue (K.fails o || is_refuted S K o) → IsMet q s c o → ⊥
  not_so K o finer low told sure met = elim (or_cases (K.fails o) (is_refuted S K o) sure) [
    | inl known ↦ told.failed o known met
    | inr bounds ↦ refuted_missed K o finer low told bounds met
  ]

  -- what is sure holds
  pub sure_holds : (K : Knowledge) (f : Fact) → 1 ≤ q → s < q * S.bound → Told K → IsTrue (is_sure S K f) → Holds f
  unfolding is_sure
  sure_holds K (Before axis i j) finer low told sure = told.held (S.order axis i j) sure
  sure_holds K (NotBefore axis i j) finer low told sure = not_so K (S.order axis i j) finer low told sure
  sure_holds K (Least axis i code) finer low told sure = omega (arith, mark_le q code (K.lower (S.coordinate axis i)) finer (leb-true code (K.lower (S.coordinate axis i)) sure), told.lows (S.coordinate axis i))
  sure_holds K (Below axis i code) finer low told sure = omega (arith, mark_le q (K.upper (S.coordinate axis i)) code finer (leb-true (K.upper (S.coordinate axis i)) code sure), told.highs (S.coordinate axis i))

  -- what isn't missed is met
  met_again : (o : Order) → ((IsMet q s c o → ⊥) → ⊥) → IsMet q s c o
  met_again (apart u v w) not_missed = elim (cases_lt (c v) (c u + q * w)) [
    | inl less ↦ absurd (not_missed (λ met. omega (arith, less, met)))
    | inr met ↦ met
  ]
  met_again (facing u v w) not_missed = elim (cases_lt s (c u + c v + q * w)) [
    | inl less ↦ absurd (not_missed (λ met. omega (arith, less, met)))
    | inr met ↦ met
  ]
  met_again (facing_itself u w) not_missed = elim (cases_lt s (c u + c u + q * w)) [
    | inl less ↦ absurd (not_missed (λ met. omega (arith, less, met)))
    | inr met ↦ met
  ]
  met_again never not_missed = not_missed (λ met. met)

  -- where a fact doesn't hold its denial does
  pub denial_holds : (f : Fact) → (Holds f → ⊥) → Holds (denial f)
  denial_holds (Before axis i j) fails = fails
  denial_holds (NotBefore axis i j) fails = met_again (S.order axis i j) fails
  denial_holds (Least axis i code) fails = elim (cases_lt (c (S.coordinate axis i)) (mark q code)) [ inl is ↦ is | inr not ↦ absurd (fails not) ]
  denial_holds (Below axis i code) fails = elim (cases_lt (c (S.coordinate axis i)) (mark q code)) [ inl is ↦ absurd (fails is) | inr not ↦ not ]

  kept_or_sure : (f : Fact) (b : Bool) (left facts : List Fact) → (IsTrue b → Holds f) → (AllHold left → AllHold facts) → AllHold (if b then left else f ∷ left) → AllHold (f ∷ facts)
  kept_or_sure f true left facts sure rest hold = (sure refl, rest hold)
  kept_or_sure f false left facts sure rest hold = (hold.0, rest hold.1)

  -- where those that aren't sure hold all do
  pub unsure_all : (K : Knowledge) (facts : List Fact) → 1 ≤ q → s < q * S.bound → Told K → AllHold (unsure S K facts) → AllHold facts
  unsure_all K [] finer low told hold = tt
  unsure_all K (f ∷ facts) finer low told hold = kept_or_sure f (is_sure S K f) (unsure S K facts) facts (sure_holds K f finer low told) (unsure_all K facts finer low told) hold
