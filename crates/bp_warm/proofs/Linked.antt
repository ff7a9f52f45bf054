-- Rows of a path: they grow at their ends, and hold what the path places.
use Rattle.std.proofs.Common.{◌≡◌, ◌≢◌, ℕ, ◌+◌, ◌-◌, ◌<◌, ◌≤◌, ◌⊎◌, List, [], ◌∷◌, ◌++◌, length, get_or, set, take, refl, sym, ◌∙◌, ap, subst, arith, inl, inr}
use Rattle.std.proofs.lemmas.List.{append-nil, append_assoc, length-append, length-set, get_or_append_left, get_or-append_right, get_or-set_same, get_or-set_other, take_at}
use Rattle.std.proofs.lemmas.Bool.{cases_eq, cases_lt, eq-eqb, ne_eqb}
use Rattle.bp_base.specs.declared.point.Axis.{Axis}
use Rattle.bp_base.specs.declared.point.Axis.TheVariants.{X, Y}
use Rattle.bp_base.specs.declared.path.Choice.{Choice}
use Rattle.bp_base.specs.declared.path.Choice.TheVariants.{Left, Right, Below, Above}
use Rattle.bp_base.specs.declared.path.Pair.{Pair}
use Rattle.bp_base.specs.declared.path.Step.{Step}
use Rattle.bp_metric.specs.Chains.{PlacesBy, Places}
use Rattle.bp_warm.specs.Links.{turned, ordered_by, ordered, turn_all, reversed, targets, row_of, LinksValue, AreLinks}
use Rattle.bp_warm.specs.Raising.{IsRowAfter, IsRowBefore}

pub row_append : (g : Step → List Pair) (path : List Step) (s : Step) (u : ℕ) → row_of g (path ++ s ∷ []) u ≡ row_of g path u ++ targets u (g s)
row_append g [] s u = append-nil (targets u (g s))
row_append g (t ∷ path) s u =
    ap (λ (l : List ℕ). targets u (g t) ++ l) (row_append g path s u) ∙ sym (append_assoc (targets u (g t)) (row_of g path u) (targets u (g s)))

-- a row is no longer than the path
targets_short : (p : Pair) (u : ℕ) → length (targets u (p ∷ [])) ≤ 1
targets_short p u = elim (cases_eq p.i u) [
  | inl same ↦ rw (eq-eqb p.i u same) (omega arith)
  | inr apart ↦ rw (ne_eqb p.i u apart) (omega arith)
]

one_target : (p : Pair) (u k : ℕ) → k < length (targets u (p ∷ [])) → (u ≡ p.i) × (get_or (targets u (p ∷ [])) k 0 ≡ p.j)
one_target p u k less = elim (cases_eq p.i u) [
  | inl same ↦
      let e : targets u (p ∷ []) ≡ p.j ∷ [] = rw (eq-eqb p.i u same) refl in
      let zero_is : k ≡ 0 = omega (arith, ap length e, less) in
      (sym same, ap (λ (l : List ℕ). get_or l k 0) e ∙ ap (λ (m : ℕ). get_or (p.j ∷ []) m 0) zero_is)
  | inr apart ↦
      let e : targets u (p ∷ []) ≡ [] = rw (ne_eqb p.i u apart) refl in
      absurd (omega (arith, ap length e, less))
]

target_one : (p : Pair) (u w : ℕ) → u ≡ p.i → w ≡ p.j → (k : ℕ) × (k < length (targets u (p ∷ []))) × (get_or (targets u (p ∷ [])) k 0 ≡ w)
target_one p u w u_is w_is =
    let e : targets u (p ∷ []) ≡ p.j ∷ [] = rw (eq-eqb p.i u (sym u_is)) refl in
    (0, omega (arith, ap length e), ap (λ (l : List ℕ). get_or l 0 0) e ∙ sym w_is)

-- a step's pair, the right way round and the other
after_by : (axis : Axis) (p : Pair) (c : Choice) (u k : ℕ) → k < length (targets u (ordered_by axis p c)) → PlacesBy axis u (get_or (targets u (ordered_by axis p c)) k 0) p c
after_by X p Left u k less = one_target p u k less
after_by X p Right u k less = one_target (turned p) u k less
after_by X p Below u k less = absurd (omega arith)
after_by X p Above u k less = absurd (omega arith)
after_by Y p Left u k less = absurd (omega arith)
after_by Y p Right u k less = absurd (omega arith)
after_by Y p Below u k less = one_target p u k less
after_by Y p Above u k less = one_target (turned p) u k less

by_after : (axis : Axis) (p : Pair) (c : Choice) (u w : ℕ) → PlacesBy axis u w p c → (k : ℕ) × (k < length (targets u (ordered_by axis p c))) × (get_or (targets u (ordered_by axis p c)) k 0 ≡ w)
by_after X p Left u w by = target_one p u w by.0 by.1
by_after X p Right u w by = target_one (turned p) u w by.0 by.1
by_after X p Below u w by = absurd by
by_after X p Above u w by = absurd by
by_after Y p Left u w by = absurd by
by_after Y p Right u w by = absurd by
by_after Y p Below u w by = target_one p u w by.0 by.1
by_after Y p Above u w by = target_one (turned p) u w by.0 by.1

before_by : (axis : Axis) (p : Pair) (c : Choice) (u k : ℕ) → k < length (targets u (turn_all (ordered_by axis p c))) → PlacesBy axis (get_or (targets u (turn_all (ordered_by axis p c))) k 0) u p c
before_by X p Left u k less = let o = one_target (turned p) u k less in (o.1, o.0)
before_by X p Right u k less = let o = one_target p u k less in (o.1, o.0)
before_by X p Below u k less = absurd (omega arith)
before_by X p Above u k less = absurd (omega arith)
before_by Y p Left u k less = absurd (omega arith)
before_by Y p Right u k less = absurd (omega arith)
before_by Y p Below u k less = let o = one_target (turned p) u k less in (o.1, o.0)
before_by Y p Above u k less = let o = one_target p u k less in (o.1, o.0)

by_before : (axis : Axis) (p : Pair) (c : Choice) (u w : ℕ) → PlacesBy axis w u p c → (k : ℕ) × (k < length (targets u (turn_all (ordered_by axis p c)))) × (get_or (targets u (turn_all (ordered_by axis p c))) k 0 ≡ w)
by_before X p Left u w by = target_one (turned p) u w by.1 by.0
by_before X p Right u w by = target_one p u w by.1 by.0
by_before X p Below u w by = absurd by
by_before X p Above u w by = absurd by
by_before Y p Left u w by = absurd by
by_before Y p Right u w by = absurd by
by_before Y p Below u w by = target_one (turned p) u w by.1 by.0
by_before Y p Above u w by = target_one p u w by.1 by.0

-- a row of a path holds what each step brings
module _ (g : Step → List Pair) (R : Step → ℕ → ℕ → Type 0) (P : List Step → ℕ → ℕ → Type 0) (first : (s : Step) (path : List Step) (u w : ℕ) → R s u w → P (s ∷ path) u w) (later : (s : Step) (path : List Step) (u w : ℕ) → P path u w → P (s ∷ path) u w) (out : (s : Step) (path : List Step) (u w : ℕ) → P (s ∷ path) u w → R s u w ⊎ P path u w) (none : (u w : ℕ) → P [] u w → ⊥) (to : (s : Step) (u k : ℕ) → k < length (targets u (g s)) → R s u (get_or (targets u (g s)) k 0)) (back : (s : Step) (u w : ℕ) → R s u w → (k : ℕ) × (k < length (targets u (g s))) × (get_or (targets u (g s)) k 0 ≡ w)) where
  holds : (path : List Step) (u k : ℕ) → k < length (row_of g path u) → P path u (get_or (row_of g path u) k 0)
  holds [] u k less = absurd (omega arith)
  holds (s ∷ path) u k less = elim (cases_lt k (length (targets u (g s)))) [
    | inl front ↦
        first s path u (get_or (row_of g (s ∷ path) u) k 0) (subst (λ (w : ℕ). R s u w) (sym (get_or_append_left (targets u (g s)) (row_of g path u) 0 k front)) (to s u k front))
    | inr past ↦
        let long = length-append (targets u (g s)) (row_of g path u) in
        later s path u (get_or (row_of g (s ∷ path) u) k 0) (subst (λ (w : ℕ). P path u w) (sym (get_or-append_right (targets u (g s)) (row_of g path u) (length (targets u (g s))) k 0 refl past)) (holds path u (k - length (targets u (g s))) (omega arith)))
  ]

  has : (path : List Step) (u w : ℕ) → P path u w → (k : ℕ) × (k < length (row_of g path u)) × (get_or (row_of g path u) k 0 ≡ w)
  has [] u w p = absurd (none u w p)
  has (s ∷ path) u w p =
      let long = length-append (targets u (g s)) (row_of g path u) in
      elim (out s path u w p) [
        | inl here ↦
            let b = back s u w here in
            (b.0, omega (arith, b.1), get_or_append_left (targets u (g s)) (row_of g path u) 0 b.0 b.1 ∙ b.2)
        | inr rest ↦
            let r = has path u w rest in
            let less : length (targets u (g s)) ≤ length (targets u (g s)) + r.0 = omega arith in
            let e : length (targets u (g s)) + r.0 - length (targets u (g s)) ≡ r.0 = omega arith in (
              length (targets u (g s)) + r.0,
              omega (arith, r.1),
              get_or-append_right (targets u (g s)) (row_of g path u) (length (targets u (g s))) (length (targets u (g s)) + r.0) 0 refl less ∙ ap (λ (k : ℕ). get_or (row_of g path u) k 0) e ∙ r.2,
            )
      ]

pub row_after : (path : List Step) (axis : Axis) (u : ℕ) (row : List ℕ) → row ≡ row_of (ordered axis) path u → IsRowAfter path axis u row
row_after path axis u row is =
    let R : Step → ℕ → ℕ → Type 0 = λ s u w. PlacesBy axis u w s.pair s.choice in
    let P : List Step → ℕ → ℕ → Type 0 = λ path u w. Places path axis u w in
    subst (IsRowAfter path axis u) (sym is)
    (record {
      places = holds (ordered axis) R P (λ s path u w h. inl h) (λ s path u w h. inr h) (λ s path u w h. h) (λ u w h. h) (λ s u k less. after_by axis s.pair s.choice u k less) (λ s u w by. by_after axis s.pair s.choice u w by) path u;
      all = has (ordered axis) R P (λ s path u w h. inl h) (λ s path u w h. inr h) (λ s path u w h. h) (λ u w h. h) (λ s u k less. after_by axis s.pair s.choice u k less) (λ s u w by. by_after axis s.pair s.choice u w by) path u;
    })

pub row_before : (path : List Step) (axis : Axis) (u : ℕ) (row : List ℕ) → row ≡ row_of (reversed axis) path u → IsRowBefore path axis u row
row_before path axis u row is =
    let R : Step → ℕ → ℕ → Type 0 = λ s u w. PlacesBy axis w u s.pair s.choice in
    let P : List Step → ℕ → ℕ → Type 0 = λ path u w. Places path axis w u in
    subst (IsRowBefore path axis u) (sym is)
    (record {
      places = holds (reversed axis) R P (λ s path u w h. inl h) (λ s path u w h. inr h) (λ s path u w h. h) (λ u w h. h) (λ s u k less. before_by axis s.pair s.choice u k less) (λ s u w by. by_before axis s.pair s.choice u w by) path u;
      all = has (reversed axis) R P (λ s path u w h. inl h) (λ s path u w h. inr h) (λ s path u w h. h) (λ u w h. h) (λ s u k less. before_by axis s.pair s.choice u k less) (λ s u w by. by_before axis s.pair s.choice u w by) path u;
    })

-- Rows as a path grows and shrinks.

module _ (g : Step → List Pair) (path : List Step) (s : Step) (l : LinksValue) where
  pub none_links : AreLinks g path l → g s ≡ [] → AreLinks g (path ++ s ∷ []) l
  none_links is empty =
      record {
        each = is.each;
        row = λ u less. is.row u less ∙ sym (append-nil (row_of g path u)) ∙ ap (λ (ps : List Pair). row_of g path u ++ targets u ps) (sym empty) ∙ sym (row_append g path s u);
      }

  pub none_back : AreLinks g (path ++ s ∷ []) l → g s ≡ [] → AreLinks g path l
  none_back is empty =
      record {
        each = is.each;
        row = λ u less. is.row u less ∙ row_append g path s u ∙ ap (λ (ps : List Pair). row_of g path u ++ targets u ps) empty ∙ append-nil (row_of g path u);
      }

  module _ (a b : ℕ) (pair : g s ≡ record { i = a; j = b } ∷ []) (a_less : a < 33) where
    abbrev row_at : ℕ → List ℕ
    row_at u = get_or l.rows u []

    target_here : targets a (g s) ≡ b ∷ []
    target_here =
        let e : targets a (record { i = a; j = b } ∷ []) ≡ b ∷ [] = rw (eq-eqb a a refl) refl in
        ap (λ (ps : List Pair). targets a ps) pair ∙ e

    target_else : (u : ℕ) → u ≢ a → targets u (g s) ≡ []
    target_else u apart =
        let e : targets u (record { i = a; j = b } ∷ []) ≡ [] = rw (ne_eqb a u (λ same. apart (sym same))) refl in
        ap (λ (ps : List Pair). targets u ps) pair ∙ e

    pub add_links : AreLinks g path l → AreLinks g (path ++ s ∷ []) (record { room = l.room; rows = set l.rows a (get_or l.rows a [] ++ b ∷ []) })
    add_links is =
        record {
          each = omega (arith, length-set l.rows a (get_or l.rows a [] ++ b ∷ []), is.each);
          row = λ u less. elim (cases_eq u a) [
            | inl same ↦
                ap (λ (k : ℕ). get_or (set l.rows a (get_or l.rows a [] ++ b ∷ [])) k []) same
                ∙ get_or-set_same l.rows a (get_or l.rows a [] ++ b ∷ []) [] (omega (arith, is.each))
                ∙ ap (λ (r : List ℕ). r ++ b ∷ []) (is.row a a_less)
                ∙ ap (λ (r : List ℕ). row_of g path a ++ r) (sym target_here)
                ∙ sym (row_append g path s a)
                ∙ ap (row_of g (path ++ s ∷ [])) (sym same)
            | inr apart ↦
                get_or-set_other l.rows a u (get_or l.rows a [] ++ b ∷ []) [] apart
                ∙ is.row u less
                ∙ sym (append-nil (row_of g path u))
                ∙ ap (λ (r : List ℕ). row_of g path u ++ r) (sym (target_else u apart))
                ∙ sym (row_append g path s u)
          ];
        }

    pub remove_links : AreLinks g (path ++ s ∷ []) l → AreLinks g path (record { room = l.room; rows = set l.rows a (take (length (get_or l.rows a []) - 1) (get_or l.rows a [])) })
    remove_links is =
        let whole : get_or l.rows a [] ≡ row_of g path a ++ b ∷ [] =
        is.row a a_less ∙ row_append g path s a ∙ ap (λ (r : List ℕ). row_of g path a ++ r) target_here in
        let long : length (get_or l.rows a []) - 1 ≡ length (row_of g path a) =
        omega (arith, ap length whole, length-append (row_of g path a) (b ∷ [])) in
        let shorter : take (length (get_or l.rows a []) - 1) (get_or l.rows a []) ≡ row_of g path a =
        (λ i. take (long i) (whole i)) ∙ take_at (row_of g path a) (b ∷ []) (length (row_of g path a)) refl in
        record {
          each = omega (arith, length-set l.rows a (take (length (get_or l.rows a []) - 1) (get_or l.rows a [])), is.each);
          row = λ u less. elim (cases_eq u a) [
            | inl same ↦
                ap (λ (k : ℕ). get_or (set l.rows a (take (length (get_or l.rows a []) - 1) (get_or l.rows a []))) k []) same
                ∙ get_or-set_same l.rows a (take (length (get_or l.rows a []) - 1) (get_or l.rows a [])) [] (omega (arith, is.each))
                ∙ shorter
                ∙ ap (row_of g path) (sym same)
            | inr apart ↦
                get_or-set_other l.rows a u (take (length (get_or l.rows a []) - 1) (get_or l.rows a [])) [] apart
                ∙ is.row u less
                ∙ row_append g path s u
                ∙ ap (λ (r : List ℕ). row_of g path u ++ r) (target_else u apart)
                ∙ append-nil (row_of g path u)
          ];
        }

turned_twice : (axis : Axis) (p : Pair) (c : Choice) (u : ℕ) → (length (targets u (ordered_by axis p c)) ≤ 1) × (length (targets u (turn_all (ordered_by axis p c))) ≤ 1)
turned_twice X p Left u = (targets_short p u, targets_short (turned p) u)
turned_twice X p Right u = (targets_short (turned p) u, targets_short p u)
turned_twice X p Below u = (omega arith, omega arith)
turned_twice X p Above u = (omega arith, omega arith)
turned_twice Y p Left u = (omega arith, omega arith)
turned_twice Y p Right u = (omega arith, omega arith)
turned_twice Y p Below u = (targets_short p u, targets_short (turned p) u)
turned_twice Y p Above u = (targets_short (turned p) u, targets_short p u)

pub short_after : (path : List Step) (axis : Axis) (u : ℕ) → length (row_of (ordered axis) path u) ≤ length path
short_after [] axis u = omega arith
short_after (s ∷ path) axis u =
    omega (arith, length-append (targets u (ordered axis s)) (row_of (ordered axis) path u), (turned_twice axis s.pair s.choice u).0, short_after path axis u)

pub short_before : (path : List Step) (axis : Axis) (u : ℕ) → length (row_of (reversed axis) path u) ≤ length path
short_before [] axis u = omega arith
short_before (s ∷ path) axis u =
    omega (arith, length-append (targets u (reversed axis s)) (row_of (reversed axis) path u), (turned_twice axis s.pair s.choice u).1, short_before path axis u)
