-- Cells: orders of two leaves are kept at one cell exactly where they are equal.
use Rattle.std.proofs.Common.{◌≡◌, ℕ, zero, suc, ◌+◌, ◌-◌, ◌/◌, ◌%◌, ◌<◌, ◌≤◌, Bool, true, false, if◌then◌else◌, IsTrue, List, get_or, refl, sym, ◌∙◌, ap, subst, arith, inl, inr}
use Rattle.std.proofs.lemmas.Bool.{cases_lt, false≢true}
use Rattle.bp_base.specs.declared.point.Axis.{Axis}
use Rattle.bp_base.specs.Tree.{TreeValue}
use Rattle.bp_lemmas.specs.Systems.{Order, is_order}
use Rattle.bp_lemmas.specs.Trees.{number, are_two_leaves}
use Rattle.bp_lemmas.proofs.Told.{same_order}
use Rattle.bp_lemmas.proofs.Trees.{axis_number, leaf_number}
use Rattle.bp_replay.specs.declared.cell.Cell.{Cell}
use Rattle.bp_replay.specs.declared.relation.Relation.{Relation}
use Rattle.bp_replay.specs.Cells.{rows, names, name_number, order_named, first_of, first_name, cell_at}
use Rattle.bp_replay.specs.Readings.{order_as}
use Rattle.bp_replay.proofs.Breaks.{order_itself}

-- the first of which it is so
module _ (f : ℕ → Bool) where
  pub first_step : (more n : ℕ) → 0 < more → f n ≡ false → first_of f more n ≡ first_of f (more - 1) (n + 1)
  first_step zero n some not = absurd (omega (arith, some))
  first_step (suc more) n some not =
      let next : suc n ≡ n + 1 = omega arith in
      let less : suc more - 1 ≡ more = omega arith in
      rw not (ap (first_of f more) next ∙ ap (λ (m : ℕ). first_of f m (n + 1)) (sym less))

  pub first_found : (more n : ℕ) → 0 < more → f n ≡ true → first_of f more n ≡ n
  first_found zero n some is = absurd (omega (arith, some))
  first_found (suc more) n some is = rw is refl

  either_within : (b : Bool) (n m most : ℕ) → n ≤ most → m ≤ most → (if b then n else m) ≤ most
  either_within true n m most one other = one
  either_within false n m most one other = other

  first_within : (more n : ℕ) → first_of f more n ≤ n + more
  first_within zero n = omega arith
  first_within (suc more) n = either_within (f n) n (first_of f more (suc n)) (n + suc more) (omega arith) (omega (arith, first_within more (suc n)))

  either_is : (b : Bool) (n m : ℕ) → f n ≡ b → f m ≡ true → f (if b then n else m) ≡ true
  either_is true n m one other = one
  either_is false n m one other = other

  first_is : (more n : ℕ) → f (n + more) ≡ true → f (first_of f more n) ≡ true
  first_is zero n last = let here : n + 0 ≡ n = omega arith in ap f (sym here) ∙ last
  first_is (suc more) n last =
      let there : suc n + more ≡ n + suc more = omega arith in
      either_is (f n) n (first_of f more (suc n)) refl (first_is more (suc n) (ap f there ∙ last))

  either_least : (b : Bool) (n m k : ℕ) → f n ≡ b → n ≤ k → k < (if b then n else m) → (n < k → k < m → f k ≡ false) → f k ≡ false
  either_least true n m k is from less rest = absurd (omega (arith, from, less))
  either_least false n m k isnt from less rest = elim (cases_lt n k) [
    | inl later ↦ rest later less
    | inr not ↦ let here : n ≡ k = omega (arith, from, not) in ap f (sym here) ∙ isnt
  ]

  first_least : (more n k : ℕ) → n ≤ k → k < first_of f more n → f k ≡ false
  first_least zero n k from less = absurd (omega (arith, from, less))
  first_least (suc more) n k from less =
      either_least (f n) n (first_of f more (suc n)) k refl from less (λ later below. first_least more (suc n) k (omega (arith, later)) below)

pub first_agrees : (f g : ℕ → Bool) (more n end : ℕ) → n + more ≤ end → ((k : ℕ) → k < end → f k ≡ g k) → first_of f more n ≡ first_of g more n
first_agrees f g zero n end within same = refl
first_agrees f g (suc more) n end within same =
    rw (same n (omega (arith, within))) (ap (λ (m : ℕ). if g n then n else m) (first_agrees f g more (suc n) end (omega (arith, within)) same))

pub kept_first : (orders : List Relation) (d : Relation) (T : TreeValue) (order : Axis → ℕ → ℕ → Order) (n : ℕ) → n < names → ((k : ℕ) → k < names → order_as (get_or orders k d) ≡ order_named T order k) → first_of (λ (m : ℕ). is_order (order_as (get_or orders m d)) (order_as (get_or orders n d))) n 0 ≡ first_name T order n
unfolding first_name
kept_first orders d T order n within same =
    first_agrees (λ (m : ℕ). is_order (order_as (get_or orders m d)) (order_as (get_or orders n d))) (λ (m : ℕ). is_order (order_named T order m) (order_named T order n)) n 0 n (omega arith)
    (λ k less. ap (λ (o : Order). is_order o (order_as (get_or orders n d))) (same k (omega (arith, less, within))) ∙ ap (is_order (order_named T order k)) (same n within))

-- first names of orders
module _ (T : TreeValue) (order : Axis → ℕ → ℕ → Order) where
  abbrev by : ℕ → Order
  by n = order_named T order n

  pub first_no_later : (n : ℕ) → first_name T order n ≤ n
  unfolding first_name
  first_no_later n = omega (arith, first_within (λ (m : ℕ). is_order (by m) (by n)) n 0)

  pub first_same : (n : ℕ) → by (first_name T order n) ≡ by n
  unfolding first_name
  first_same n =
      let f = λ (m : ℕ). is_order (by m) (by n) in
      let all : 0 + n ≡ n = omega arith in
      same_order (by (first_of f n 0)) (by n) (first_is f n 0 (ap f all ∙ order_itself (by n)))

  no_earlier : (n k : ℕ) → k < first_name T order n → by k ≡ by n → ⊥
  unfolding first_name
  no_earlier n k less same =
      let f = λ (m : ℕ). is_order (by m) (by n) in
      false≢true (sym (first_least f n 0 k (omega arith) less) ∙ subst (λ (o : Order). IsTrue (is_order (by k) o)) same (order_itself (by k)))

  pub same_first : (m n : ℕ) → by m ≡ by n → first_name T order m ≡ first_name T order n
  same_first m n same = elim (cases_lt (first_name T order m) (first_name T order n)) [
    | inl less ↦ absurd (no_earlier n (first_name T order m) less (first_same m ∙ same))
    | inr not ↦ elim (cases_lt (first_name T order n) (first_name T order m)) [
      | inl less ↦ absurd (no_earlier m (first_name T order n) less (first_same n ∙ sym same))
      | inr other ↦ omega (arith, not, other)
    ]
  ]

  pub first_tells : (m n : ℕ) → first_name T order m ≡ first_name T order n → by m ≡ by n
  first_tells m n same = sym (first_same m) ∙ ap by same ∙ first_same n

  -- the order by the name of two leaves
  pub named_order : (axis : Axis) (i j : ℕ) → j < rows → IsTrue (are_two_leaves T i j) → by (name_number axis i j) ≡ order axis i j
  unfolding order_named
  named_order axis i j within two =
      let row : (name_number axis i j) / rows ≡ number axis i = omega (arith, within) in
      let column : (name_number axis i j) % rows ≡ j = omega (arith, within) in
      rw (row, column, axis_number axis i, leaf_number axis i) (rw two refl)

pub cell_numbers : (m n : ℕ) → cell_at m ≡ cell_at n → m ≡ n
cell_numbers m n same =
    let row : m / rows ≡ n / rows = ap (λ (c : Cell). c.row) same in
    let column : m % rows ≡ n % rows = ap (λ (c : Cell). c.column) same in
    omega (arith, row, column)
