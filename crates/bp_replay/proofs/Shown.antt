-- Tables that show a knowledge, after each kind of write.
use Rattle.std.proofs.Common.{◌≡◌, ◌≢◌, ◌⊎◌, ℕ, ◌<◌, ◌≤◌, ◌==◌, ◌||◌, max, min, Bool, true, false, if◌then◌else◌, IsTrue, List, length, get_or, set, refl, sym, ◌∙◌, ap, subst, arith, inl, inr}
use Rattle.std.proofs.lemmas.Bool.{cases_Bool, cases_eq, cases_lt, or_cases, eqb-true, eq-eqb, ne_eqb, false≢true}
use Rattle.std.proofs.lemmas.List.{get_or-set_same, get_or-set_other, length-set}
use Rattle.bp_base.specs.declared.point.Axis.{Axis}
use Rattle.bp_base.specs.Tree.{IsTree, leaf_count}
use Rattle.bp_lemmas.specs.Systems.{Order, never, is_order, System}
use Rattle.bp_lemmas.specs.Knowledge.{Knowledge, raised, lowered, with_order, without_order, IsBroken, crossed, both, circular}
use Rattle.bp_lemmas.proofs.Told.{same_order}
use Rattle.bp_replay.specs.declared.cell.Cell.{Cell}
use Rattle.bp_replay.specs.declared.known.Known.{Known}
use Rattle.bp_replay.specs.Cells.{places, rows, cell_by, cell_of}
use Rattle.bp_replay.specs.Sets.{has}
use Rattle.bp_replay.specs.Tasks.{Ties, cornered, mirrored, Task, system_by, system_of}
use Rattle.bp_replay.specs.Kept.{most_code, AreTwoLeaves, has_at, KnowsNever, Shows, KeptAs, Keeps}
use Rattle.bp_replay.proofs.Breaks.{raised_breaks, raised_stays, raised_reaches, lowered_breaks, lowered_stays, lowered_reaches, with_order_stays, without_order_stays, without_order_breaks, without_order_reaches, with_order_fails, with_order_turned, order_itself}
use Rattle.bp_replay.proofs.Tied.{same_cell, cell_order, turned_same, turned_other, corner_met, two_named}

-- the table after a number is written into the set of a cell's row
module _ (t : Task) (xs : List ℕ) (value : Order → Bool) (cell : Cell) (o : Order) (row : ℕ) (long : length xs ≡ places) (within : cell.row < places) (few : leaf_count t.tree < rows)
    (shows : (a : Axis) (k l : ℕ) → AreTwoLeaves t.tree k l → has_at xs (cell_of t a k l) ≡ value ((system_of t).order a k l))
    (there : (a : Axis) (k l : ℕ) → AreTwoLeaves t.tree k l → (system_of t).order a k l ≡ o → cell_of t a k l ≡ cell)
    (here : (a : Axis) (k l : ℕ) → AreTwoLeaves t.tree k l → cell_of t a k l ≡ cell → (system_of t).order a k l ≡ o)
    (small : (a : Axis) (k l : ℕ) → AreTwoLeaves t.tree k l → (cell_of t a k l).column < 64)
    (written : (l : ℕ) → l < 64 → has row l ≡ ((l == cell.column) || has (get_or xs cell.row 0) l)) where
  abbrev at_name : Axis → ℕ → ℕ → Order
  at_name a k l = (system_of t).order a k l

  is_there : (a : Axis) (k l : ℕ) → AreTwoLeaves t.tree k l → IsTrue (is_order (at_name a k l) o) → cell_of t a k l ≡ cell
  is_there a k l two same = there a k l two (same_order (at_name a k l) o same)

  is_here : (a : Axis) (k l : ℕ) → AreTwoLeaves t.tree k l → cell_of t a k l ≡ cell → IsTrue (is_order (at_name a k l) o)
  is_here a k l two same = subst (λ (p : Order). IsTrue (is_order (at_name a k l) p)) (here a k l two same) (order_itself (at_name a k l))

  in_row : (a : Axis) (k l : ℕ) → AreTwoLeaves t.tree k l → (cell_of t a k l).row ≡ cell.row → ((cell_of t a k l).column == cell.column) ≡ is_order (at_name a k l) o
  in_row a k l two same = elim (cases_Bool ((cell_of t a k l).column == cell.column)) [
    | inl is ↦
        let column = eqb-true (cell_of t a k l).column cell.column is in
        is ∙ sym (is_here a k l two (λ i. record { row = same i; column = column i }))
    | inr isnt ↦ elim (cases_Bool (is_order (at_name a k l) o)) [
      | inl order ↦ absurd (false≢true (sym isnt ∙ eq-eqb (cell_of t a k l).column cell.column (ap (λ (c : Cell). c.column) (is_there a k l two order))))
      | inr other ↦ isnt ∙ sym other
    ]
  ]

  not_in_row : (a : Axis) (k l : ℕ) → AreTwoLeaves t.tree k l → (cell_of t a k l).row ≢ cell.row → is_order (at_name a k l) o ≡ false
  not_in_row a k l two other = elim (cases_Bool (is_order (at_name a k l) o)) [
    | inl same ↦ absurd (other (ap (λ (c : Cell). c.row) (is_there a k l two same)))
    | inr isnt ↦ isnt
  ]

  pub order_written : (a : Axis) (k l : ℕ) → AreTwoLeaves t.tree k l → has_at (set xs cell.row row) (cell_of t a k l) ≡ (is_order (at_name a k l) o || value (at_name a k l))
  order_written a k l two = elim (cases_eq (cell_of t a k l).row cell.row) [
    | inl same ↦
        let column = (cell_of t a k l).column in
        ap (λ (p : ℕ). has (get_or (set xs cell.row row) p 0) column) same
        ∙ ap (λ (r : ℕ). has r column) (get_or-set_same xs cell.row row 0 (omega (arith, within, long)))
        ∙ written column (small a k l two)
        ∙ ap (λ (b : Bool). b || has (get_or xs cell.row 0) column) (in_row a k l two same)
        ∙ ap (λ (b : Bool). is_order (at_name a k l) o || b) (ap (λ (p : ℕ). has (get_or xs p 0) column) (sym same) ∙ shows a k l two)
    | inr other ↦
        rw (not_in_row a k l two other)
        (ap (λ (r : ℕ). has r (cell_of t a k l).column) (get_or-set_other xs cell.row (cell_of t a k l).row row 0 other) ∙ shows a k l two)
  ]

-- columns of cells are numbers that sets have
pub small_column : (t : Task) → leaf_count t.tree < rows → (axis : Axis) (i j : ℕ) → AreTwoLeaves t.tree i j → (cell_of t axis i j).column < 64
small_column t few axis i j two = by t.ties
  where
    by : (ties : Ties) → (cell_by ties t.tree axis i j).column < 64
    by (cornered corner) = omega (arith, two.1, few)
    by (mirrored kind mirror) = omega arith

module _ (t : Task) (S : Known) (K : Knowledge) where
  pub kept_broken : S.broken ≡ true → Keeps t S K → IsBroken (system_of t) K
  kept_broken is keeps = subst (λ (b : Bool). KeptAs b t S K) is keeps

  pub kept_shows : S.broken ≡ false → Keeps t S K → Shows t S K × (IsBroken (system_of t) K → ⊥)
  kept_shows is keeps = subst (λ (b : Bool). KeptAs b t S K) is keeps

  pub keeps_broken : S.broken ≡ true → IsBroken (system_of t) K → Keeps t S K
  keeps_broken is broken = subst (λ (b : Bool). KeptAs b t S K) (sym is) broken

  pub keeps_shows : S.broken ≡ false → Shows t S K → (IsBroken (system_of t) K → ⊥) → Keeps t S K
  keeps_shows is shows whole = subst (λ (b : Bool). KeptAs b t S K) (sym is) (shows, whole)

code_written : (xs : List ℕ) (value : ℕ → ℕ) (u code : ℕ) (pick : ℕ → ℕ) → length xs ≡ places → u < places → pick (value u) ≡ code → ((k : ℕ) → k < places → get_or xs k 0 ≡ value k) → (k : ℕ) → k < places → get_or (set xs u code) k 0 ≡ (if k == u then pick (value k) else value k)
code_written xs value u code pick long within picks shows k inside = elim (cases_eq k u) [
  | inl same ↦
      rw (eq-eqb k u same) (ap (λ (p : ℕ). get_or (set xs u code) p 0) same ∙ get_or-set_same xs u code 0 (omega (arith, within, long)) ∙ sym picks ∙ ap (λ (p : ℕ). pick (value p)) (sym same))
  | inr other ↦ rw (ne_eqb k u other) (get_or-set_other xs u k code 0 other ∙ shows k inside)
]

code_left : (x : ℕ → ℕ) (u : ℕ) (pick : ℕ → ℕ) → pick (x u) ≡ x u → (k : ℕ) → x k ≡ (if k == u then pick (x k) else x k)
code_left x u pick picks k = elim (cases_eq k u) [
  | inl same ↦ rw (eq-eqb k u same) (ap x same ∙ sym picks ∙ ap (λ (p : ℕ). pick (x p)) (sym same))
  | inr other ↦ rw (ne_eqb k u other) refl
]

least_small : (x code most : ℕ) (b : Bool) → x ≤ most → (if b then min x code else x) ≤ most
least_small x code most true small = omega (arith, small)
least_small x code most false small = small

module _ (t : Task) (S : Known) (K : Knowledge) (u code : ℕ) (within : u < places) (keeps : Keeps t S K) where
  abbrev sys : System
  sys = system_of t

  pub raise_broken : S.broken ≡ true → Keeps t S (raised K u code)
  raise_broken is = keeps_broken t S (raised K u code) is (raised_stays sys K u code (kept_broken t S K is keeps))

  pub raise_left : S.broken ≡ false → code ≤ get_or S.lower u 0 → Keeps t S (raised K u code)
  unfolding raised
  raise_left is over =
      let kept = kept_shows t S K is keeps in
      let shows = kept.0 in
      let same : max (K.lower u) code ≡ K.lower u = omega (arith, shows.lower u within, over) in
      keeps_shows t S (raised K u code) is record {
        lowers = shows.lowers;
        uppers = shows.uppers;
        holdings = shows.holdings;
        failings = shows.failings;
        lower = λ k inside. shows.lower k inside ∙ code_left K.lower u (λ (x : ℕ). max x code) same k;
        upper = shows.upper;
        small = shows.small;
        holds = shows.holds;
        fails = shows.fails;
        never = shows.never;
      } (λ broken. elim (raised_breaks sys K u code broken) [
        | inl before ↦ kept.1 before
        | inr crossing ↦ kept.1 (crossed u (omega (arith, crossing, over, shows.lower u within)))
      ])

  pub raise_breaks : S.broken ≡ false → get_or S.upper u 0 ≤ code → Keeps t (record S { broken = true }) (raised K u code)
  raise_breaks is over = raised_reaches sys K u code (omega (arith, over, (kept_shows t S K is keeps).0.upper u within))

  pub raise_written : S.broken ≡ false → get_or S.lower u 0 < code → code < get_or S.upper u 0 → Keeps t (record S { lower = set S.lower u code }) (raised K u code)
  unfolding raised
  raise_written is more under =
      let kept = kept_shows t S K is keeps in
      let shows = kept.0 in
      let picks : max (K.lower u) code ≡ code = omega (arith, shows.lower u within, more) in
      keeps_shows t (record S { lower = set S.lower u code }) (raised K u code) is record {
        lowers = length-set S.lower u code ∙ shows.lowers;
        uppers = shows.uppers;
        holdings = shows.holdings;
        failings = shows.failings;
        lower = code_written S.lower K.lower u code (λ (x : ℕ). max x code) shows.lowers within picks shows.lower;
        upper = shows.upper;
        small = shows.small;
        holds = shows.holds;
        fails = shows.fails;
        never = shows.never;
      } (λ broken. elim (raised_breaks sys K u code broken) [
        | inl before ↦ kept.1 before
        | inr crossing ↦ omega (arith, crossing, under, shows.upper u within)
      ])

  pub lessen_broken : S.broken ≡ true → Keeps t S (lowered K u code)
  lessen_broken is = keeps_broken t S (lowered K u code) is (lowered_stays sys K u code (kept_broken t S K is keeps))

  pub lessen_left : S.broken ≡ false → get_or S.upper u 0 ≤ code → Keeps t S (lowered K u code)
  unfolding lowered
  lessen_left is over =
      let kept = kept_shows t S K is keeps in
      let shows = kept.0 in
      let same : min (K.upper u) code ≡ K.upper u = omega (arith, shows.upper u within, over) in
      keeps_shows t S (lowered K u code) is record {
        lowers = shows.lowers;
        uppers = shows.uppers;
        holdings = shows.holdings;
        failings = shows.failings;
        lower = shows.lower;
        upper = λ k inside. shows.upper k inside ∙ code_left K.upper u (λ (x : ℕ). min x code) same k;
        small = λ k. least_small (K.upper k) code most_code (k == u) (shows.small k);
        holds = shows.holds;
        fails = shows.fails;
        never = shows.never;
      } (λ broken. elim (lowered_breaks sys K u code broken) [
        | inl before ↦ kept.1 before
        | inr crossing ↦ kept.1 (crossed u (omega (arith, crossing, over, shows.upper u within)))
      ])

  pub lessen_breaks : S.broken ≡ false → code ≤ get_or S.lower u 0 → Keeps t (record S { broken = true }) (lowered K u code)
  lessen_breaks is over = lowered_reaches sys K u code (omega (arith, over, (kept_shows t S K is keeps).0.lower u within))

  pub lessen_written : S.broken ≡ false → code < get_or S.upper u 0 → get_or S.lower u 0 < code → Keeps t (record S { upper = set S.upper u code }) (lowered K u code)
  unfolding lowered
  lessen_written is less over =
      let kept = kept_shows t S K is keeps in
      let shows = kept.0 in
      let picks : min (K.upper u) code ≡ code = omega (arith, shows.upper u within, less) in
      keeps_shows t (record S { upper = set S.upper u code }) (lowered K u code) is record {
        lowers = shows.lowers;
        uppers = length-set S.upper u code ∙ shows.uppers;
        holdings = shows.holdings;
        failings = shows.failings;
        lower = shows.lower;
        upper = code_written S.upper K.upper u code (λ (x : ℕ). min x code) shows.uppers within picks shows.upper;
        small = λ k. least_small (K.upper k) code most_code (k == u) (shows.small k);
        holds = shows.holds;
        fails = shows.fails;
        never = shows.never;
      } (λ broken. elim (lowered_breaks sys K u code broken) [
        | inl before ↦ kept.1 before
        | inr crossing ↦ omega (arith, crossing, over, shows.lower u within)
      ])

-- a known order of two leaves breaks exactly where it is known not to hold, or the turned one to hold
module _ (t : Task) (K : Knowledge) (axis : Axis) (i j : ℕ) (tree : IsTree t.tree) (differ : i ≢ j) (met : (system_of t).order axis i j ≡ never → ⊥) where
  abbrev named : Axis → ℕ → ℕ → Order
  named a k l = (system_of t).order a k l

  abbrev taken : Order
  taken = named axis i j

  turned : (a : Axis) (k l : ℕ) → IsTrue (is_order (named a k l) taken) → named a l k ≡ named axis j i
  turned a k l same = turned_same t.ties t.tree t.sheet t.bound t.heads tree a axis k l i j met (same_order (named a k l) taken same)

  turned_back : (a : Axis) (k l : ℕ) → IsTrue (is_order (named a k l) taken) → IsTrue (K.holds (named a l k)) → IsTrue (K.holds (named axis j i))
  turned_back a k l same is = subst (λ (o : Order). IsTrue (K.holds o)) (turned a k l same) is

  not_both : (a : Axis) (k l : ℕ) → IsTrue (is_order (named a k l) taken) → IsTrue (is_order (named a l k) taken) → ⊥
  not_both a k l one other = turned_other t.ties t.tree t.sheet t.bound t.heads tree axis i j differ met (sym (same_order (named a l k) taken other) ∙ turned a k l one)

  pub with_order_breaks : IsBroken (system_of t) (with_order K taken) → IsBroken (system_of t) K ⊎ (IsTrue (K.fails taken) ⊎ IsTrue (K.holds (named axis j i)))
  unfolding with_order
  with_order_breaks (crossed k over) = inl (crossed k over)
  with_order_breaks (both p holds fails) = elim (or_cases (is_order p taken) (K.holds p) holds) [
    | inl same ↦ inr (inl (subst (λ (r : Order). IsTrue (K.fails r)) (same_order p taken same) fails))
    | inr before ↦ inl (both p before fails)
  ]
  with_order_breaks (circular a k l is one other) = elim (or_cases (is_order (named a k l) taken) (K.holds (named a k l)) one) [
    | inl same ↦ elim (or_cases (is_order (named a l k) taken) (K.holds (named a l k)) other) [
      | inl both_taken ↦ absurd (not_both a k l same both_taken)
      | inr back ↦ inr (inr (turned_back a k l same back))
    ]
    | inr before ↦ elim (or_cases (is_order (named a l k) taken) (K.holds (named a l k)) other) [
      | inl same ↦ inr (inr (turned_back a l k same before))
      | inr back ↦ inl (circular a k l is before back)
    ]
  ]

-- an order that isn't known not to hold is one that some meet
some_meet : (t : Task) (K : Knowledge) → KnowsNever t.ties K.fails → (axis : Axis) (i j : ℕ) → K.fails ((system_of t).order axis i j) ≡ false → (system_of t).order axis i j ≡ never → ⊥
some_meet t K = by t.ties
  where
    by : (ties : Ties) → KnowsNever ties K.fails → (axis : Axis) (i j : ℕ) → K.fails ((system_by ties t.tree t.sheet t.bound t.heads).order axis i j) ≡ false → (system_by ties t.tree t.sheet t.bound t.heads).order axis i j ≡ never → ⊥
    by (cornered corner) knows axis i j not same = corner_met corner t.tree t.sheet t.bound t.heads axis i j same
    by (mirrored kind mirror) knows axis i j not same = false≢true (sym not ∙ ap K.fails same ∙ knows)

-- what is known never to hold still is
never_still : (ties : Ties) (K : Knowledge) (o : Order) → KnowsNever ties K.fails → KnowsNever ties (λ (p : Order). is_order p o || K.fails p)
never_still (cornered corner) K o knows = knows
never_still (mirrored kind mirror) K o knows = either (is_order never o)
  where
    either : (b : Bool) → IsTrue (b || K.fails never)
    either true = refl
    either false = knows

module _ (t : Task) (S : Known) (K : Knowledge) (axis : Axis) (i j : ℕ) (two : AreTwoLeaves t.tree i j) (few : leaf_count t.tree < rows) (keeps : Keeps t S K) where
  abbrev order_here : Order
  order_here = (system_of t).order axis i j

  abbrev cell_here : Cell
  cell_here = cell_of t axis i j

  pub know_broken : S.broken ≡ true → Keeps t S (with_order K order_here)
  know_broken is = keeps_broken t S (with_order K order_here) is (with_order_stays (system_of t) K order_here (kept_broken t S K is keeps))

  pub know_fails : IsTrue (K.fails order_here) → Keeps t (record S { broken = true }) (with_order K order_here)
  know_fails fails = with_order_fails (system_of t) K order_here fails

  pub know_turned : IsTrue (K.holds ((system_of t).order axis j i)) → Keeps t (record S { broken = true }) (with_order K order_here)
  know_turned back = with_order_turned (system_of t) K axis i j (two_named t axis i j two) back

  there : (a : Axis) (k l : ℕ) → AreTwoLeaves t.tree k l → (system_of t).order a k l ≡ order_here → cell_of t a k l ≡ cell_here
  there a k l other same = same_cell t.ties t.tree t.sheet t.bound t.heads few a axis k l i j other two same

  here : (a : Axis) (k l : ℕ) → AreTwoLeaves t.tree k l → cell_of t a k l ≡ cell_here → (system_of t).order a k l ≡ order_here
  here a k l other same = cell_order t.ties t.tree t.sheet t.bound t.heads few a axis k l i j other two same

  module _ (cell : Cell) (row : ℕ) (is_cell : cell ≡ cell_here) (within : cell.row < places) (whole : S.broken ≡ false) where
    at_cell : (a : Axis) (k l : ℕ) → AreTwoLeaves t.tree k l → (system_of t).order a k l ≡ order_here → cell_of t a k l ≡ cell
    at_cell a k l other same = there a k l other same ∙ sym is_cell

    of_cell : (a : Axis) (k l : ℕ) → AreTwoLeaves t.tree k l → cell_of t a k l ≡ cell → (system_of t).order a k l ≡ order_here
    of_cell a k l other same = here a k l other (same ∙ is_cell)

    pub know_written : IsTree t.tree → K.fails order_here ≡ false → K.holds ((system_of t).order axis j i) ≡ false → ((l : ℕ) → l < 64 → has row l ≡ ((l == cell.column) || has (get_or S.holds cell.row 0) l)) → Keeps t (record S { holds = set S.holds cell.row row }) (with_order K order_here)
    unfolding with_order
    know_written tree not_fails not_turned written =
        let kept = kept_shows t S K whole keeps in
        let shows = kept.0 in
        keeps_shows t (record S { holds = set S.holds cell.row row }) (with_order K order_here) whole record {
          lowers = shows.lowers;
          uppers = shows.uppers;
          holdings = length-set S.holds cell.row row ∙ shows.holdings;
          failings = shows.failings;
          lower = shows.lower;
          upper = shows.upper;
          small = shows.small;
          holds = order_written t S.holds K.holds cell order_here row shows.holdings within few shows.holds at_cell of_cell (small_column t few) written;
          fails = shows.fails;
          never = shows.never;
        } (λ broken. elim (with_order_breaks t K axis i j tree two.2 (some_meet t K shows.never axis i j not_fails) broken) [
          | inl before ↦ kept.1 before
          | inr (inl fails) ↦ false≢true (sym not_fails ∙ fails)
          | inr (inr back) ↦ false≢true (sym not_turned ∙ back)
        ])

    pub deny_written : K.holds order_here ≡ false → ((l : ℕ) → l < 64 → has row l ≡ ((l == cell.column) || has (get_or S.fails cell.row 0) l)) → Keeps t (record S { fails = set S.fails cell.row row }) (without_order K order_here)
    unfolding without_order
    deny_written not_holds written =
        let kept = kept_shows t S K whole keeps in
        let shows = kept.0 in
        keeps_shows t (record S { fails = set S.fails cell.row row }) (without_order K order_here) whole record {
          lowers = shows.lowers;
          uppers = shows.uppers;
          holdings = shows.holdings;
          failings = length-set S.fails cell.row row ∙ shows.failings;
          lower = shows.lower;
          upper = shows.upper;
          small = shows.small;
          holds = shows.holds;
          fails = order_written t S.fails K.fails cell order_here row shows.failings within few shows.fails at_cell of_cell (small_column t few) written;
          never = never_still t.ties K order_here shows.never;
        } (λ broken. elim (without_order_breaks (system_of t) K order_here broken) [
          | inl before ↦ kept.1 before
          | inr holds ↦ false≢true (sym not_holds ∙ holds)
        ])

  pub deny_broken : S.broken ≡ true → Keeps t S (without_order K order_here)
  deny_broken is = keeps_broken t S (without_order K order_here) is (without_order_stays (system_of t) K order_here (kept_broken t S K is keeps))

  pub deny_holds : IsTrue (K.holds order_here) → Keeps t (record S { broken = true }) (without_order K order_here)
  deny_holds holds = without_order_reaches (system_of t) K order_here holds

-- codes of a knowledge that isn't broken are small
pub below_most : (t : Task) (S : Known) (K : Knowledge) → Shows t S K → (IsBroken (system_of t) K → ⊥) → (u : ℕ) → K.lower u < most_code
below_most t S K shows whole u = elim (cases_lt (K.lower u) (K.upper u)) [
  | inl less ↦ omega (arith, less, shows.small u)
  | inr over ↦ absurd (whole (crossed u over))
]
