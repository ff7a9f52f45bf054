-- Sums over the entries of one view and of all views, and how often a number stands in a list.
use Rattle.std.proofs.Common.{◌≡◌, ◌≢◌, ℕ, zero, suc, ◌+◌, ◌<◌, ◌≤◌, leb, List, [], ◌∷◌, ◌++◌, length, get_or, drop, take, All, sym, refl, ap, ◌∙◌, subst, arith, eq-eqb, ne_eqb}
use Rattle.std.specs.List.{sum_by, Contains, range_with_len}
use Rattle.std.proofs.lemmas.Bool.Decides.{nat_tests}
use Rattle.std.proofs.lemmas.List.Sums.{sum_by-cons, sum_by-append, sum_by_push}
use Rattle.std.proofs.lemmas.List.FromFn.{length-range_with_len}
use mathlib.Core.Option.{some, some-injective, some-ne-none}
use mathlib.Core.Logic.{dite}
use native.Mathlib.Decide.{ℕ_discrete, dec_le}
use lib.ListN.{get_elem?}
use Rattle.bp_base.proofs.Bags.{total_at}
use Rattle.bp_incumbent.specs.Entries.{one_at, times, flag, at_first, numbered}

-- Entries of one view.

module _ {E : Type 0} (f : E → ℕ) where
  -- what two parts have together is what the whole had
  pub cut : (es : List E) → sum_by f (drop 1 es) + sum_by f (take 1 es) ≡ sum_by f es
  cut [] = refl
  cut (e ∷ es) = omega (arith, sum_by-cons f e es, sum_by-cons f e [])

  pub only : (es : List E) (e : E) → es ≡ e ∷ [] → sum_by f es ≡ f e
  only es e is = subst (λ (l : List E). sum_by f l ≡ f e) (sym is) (omega (arith, sum_by-cons f e []))

  pub only_changed : (change : E → E) (es : List E) (e : E) → es ≡ e ∷ [] → sum_by f (at_first change es) ≡ f (change e)
  only_changed change es e is = subst (λ (l : List E). sum_by f (at_first change l) ≡ f (change e)) (sym is) (omega (arith, sum_by-cons f (change e) []))

  pub unchanged : (change : E → E) → ((e : E) → f (change e) ≡ f e) → (es : List E) → sum_by f (at_first change es) ≡ sum_by f es
  unchanged change same [] = refl
  unchanged change same (e ∷ es) = omega (arith, sum_by-cons f (change e) es, sum_by-cons f e es, same e)

  pub part_le : (es : List E) (k : ℕ) (d : E) → k < length es → f (get_or es k d) ≤ sum_by f es
  part_le [] k d lt = absurd (omega arith)
  part_le (e ∷ es) zero d lt = omega (arith, sum_by-cons f e es)
  part_le (e ∷ es) (suc k) d lt = let less : k < length es = omega arith in omega (arith, sum_by-cons f e es, part_le es k d less)

  -- where each entry adds nothing, so do all
  pub nothing : ((e : E) → f e ≡ 0) → (es : List E) → sum_by f es ≡ 0
  nothing zeros [] = refl
  nothing zeros (e ∷ es) = omega (arith, sum_by-cons f e es, zeros e, nothing zeros es)

pub count : {E : Type 0} (es : List E) → sum_by (λ e. 1) es ≡ length es
count [] = refl
count (e ∷ es) = omega (arith, sum_by-cons (λ e. 1) e es, count es)

-- The entries of new passes: what depends on the number alone, and what new passes have none of.

pub new_numbers : {E : Type 0} (f : E → ℕ) (entry : ℕ → E) (h : ℕ → ℕ) (k n : ℕ) → ((i : ℕ) → f (entry i) ≡ h i) → sum_by f (numbered entry k n) ≡ sum_by h (range_with_len k n)
new_numbers f entry h k zero same = refl
new_numbers f entry h k (suc n) same = omega (arith, sum_by-cons f (entry k) (numbered entry (k + 1) n), sum_by-cons h k (range_with_len (k + 1) n), same k, new_numbers f entry h (k + 1) n same)

pub new_none : {E : Type 0} (f : E → ℕ) (entry : ℕ → E) (k n : ℕ) → ((i : ℕ) → f (entry i) ≡ 0) → sum_by f (numbered entry k n) ≡ 0
new_none f entry k n none = new_numbers f entry (λ i. 0) k n none ∙ nothing (λ i. 0) (λ i. refl) (range_with_len k n)

-- Entries of all views.

module _ {V E : Type 0} (entries : V → List E) where
  abbrev pub all : (E → ℕ) → List V → ℕ
  all f views = sum_by (λ (v : V). sum_by f (entries v)) views

  none_else : (f : E → ℕ) (views : List V) → all (λ e. 1) views ≡ 0 → all f views ≡ 0
  none_else f [] zeros = refl
  none_else f (v ∷ vs) zeros =
      let c = sum_by-cons (λ (v : V). sum_by (λ (e : E). 1) (entries v)) v vs in
      omega (arith, sum_by-cons (λ (v : V). sum_by f (entries v)) v vs, none_else f vs (omega arith), ap (sum_by f) (empty (entries v) (omega (arith, c, zeros, count (entries v)))))
    where
      empty : (es : List E) → length es ≡ 0 → es ≡ []
      empty [] z = refl
      empty (e ∷ es) z = absurd (omega arith)

  -- where one view has all entries, no other adds anything
  pub all_here : (f : E → ℕ) (views : List V) (id : ℕ) (v : V) → all (λ e. 1) views ≡ length (entries v) → get_elem? views id ≡ some v → all f views ≡ sum_by f (entries v)
  all_here f [] id v whole at = absurd (some-ne-none v (sym at))
  all_here f (u ∷ us) zero v whole at =
      let e = some-injective u v at in
      let c = sum_by-cons (λ (v : V). sum_by (λ (e : E). 1) (entries v)) u us in
      let n = none_else f us (omega (arith, c, ap (λ (w : V). sum_by (λ (e : E). 1) (entries w)) e, whole, count (entries v))) in
      omega (arith, sum_by-cons (λ (v : V). sum_by f (entries v)) u us, ap (λ (w : V). sum_by f (entries w)) e, n)
  all_here f (u ∷ us) (suc i) v whole at =
      let rest : get_elem? us i ≡ some v = at in
      let ones : V → ℕ = λ (v : V). sum_by (λ (e : E). 1) (entries v) in
      let c = sum_by-cons ones u us in
      let le = total_at ones us i v rest in
      let e = all_here f us i v (omega (arith, c, le, whole, count (entries v))) rest in
      let n = none_else f (u ∷ []) (omega (arith, sum_by-cons ones u [], c, le, whole, count (entries v))) in
      let g : V → ℕ = λ (v : V). sum_by f (entries v) in
      omega (arith, sum_by-cons g u us, sum_by-cons g u [], e, n)

pub ones_up_to : (n : ℕ) → sum_by (λ x. 1) (range_with_len 1 n) ≡ n
ones_up_to n = count (range_with_len 1 n) ∙ length-range_with_len 1 n

-- The numbers below n.

range_more : (h : ℕ → ℕ) (a n : ℕ) → sum_by h (range_with_len a (n + 1)) ≡ sum_by h (range_with_len a n) + h (a + n)
range_more h a n = ap (λ (k : ℕ). sum_by h (range_with_len a k)) (add_one n) ∙ go a n
  where
    add_one : (n : ℕ) → n + 1 ≡ suc n
    add_one n = omega arith

    go : (a n : ℕ) → sum_by h (range_with_len a (suc n)) ≡ sum_by h (range_with_len a n) + h (a + n)
    go a zero = omega (arith, sum_by-cons h a [], ap h (at_start a))
      where
        at_start : (a : ℕ) → a + 0 ≡ a
        at_start a = omega arith
    go a (suc n) = omega (arith, sum_by-cons h a (range_with_len (a + 1) (suc n)), sum_by-cons h a (range_with_len (a + 1) n), go (a + 1) n, ap h (moved a n))
      where
        moved : (a n : ℕ) → a + 1 + n ≡ a + suc n
        moved a n = omega arith

pub below_more : (h : ℕ → ℕ) (n : ℕ) → sum_by h (range_with_len 0 (n + 1)) ≡ sum_by h (range_with_len 0 n) + h n
below_more h n = let e : 0 + n ≡ n = omega arith in omega (arith, range_more h 0 n, ap h e)

-- no number of a range is at or above its end
pub none_at_end : (w a n : ℕ) → a + n ≤ w → sum_by (λ y. flag (leb w y)) (range_with_len a n) ≡ 0
none_at_end w a zero le = refl
none_at_end w a (suc n) le = omega (arith, sum_by-cons (λ y. flag (leb w y)) a (range_with_len (a + 1) n), none_at_end w (a + 1) n (omega arith), below w a (omega arith))
  where
    below : (w a : ℕ) → a < w → flag (leb w a) ≡ 0
    below w a lt = grind (arith, nat_tests)

-- How often a number stands in a list.

pub one_same : (x : ℕ) → one_at x x ≡ 1
one_same x = rw (eq-eqb x x refl)

pub one_other : (x y : ℕ) → y ≢ x → one_at x y ≡ 0
one_other x y ne = rw (ne_eqb y x ne)

pub times-append : (x : ℕ) (xs ys : List ℕ) → times x (xs ++ ys) ≡ times x xs + times x ys
times-append x xs ys = sum_by-append (one_at x) xs ys

pub times_push : (x : ℕ) (xs : List ℕ) (y : ℕ) → times x (xs ++ y ∷ []) ≡ times x xs + one_at x y
times_push x xs y = sum_by_push (one_at x) xs y

-- where no number below n stands in the list, n is at most each
pub none_below : (n : ℕ) (xs : List ℕ) → ((y : ℕ) → y < n → times y xs ≡ 0) → All (λ y. n ≤ y) xs
none_below n xs none k d lt = let x : ℕ = get_or xs k d in
    dite (dec_le n x) (λ le. le) (λ gt. absurd (let z = none x (omega arith) in omega (arith, z, part_le (one_at x) xs k d lt, one_same x)))

-- what stands in the list at least once is an element
pub contained : (x : ℕ) (xs : List ℕ) → 0 < times x xs → Contains xs x
contained x [] some_times = absurd (omega arith)
contained x (y ∷ ys) some_times = dite (ℕ_discrete y x) (λ (e : y ≡ x). (0, omega arith, e))
    (λ (ne : y ≢ x). let c = contained x ys (omega (arith, some_times, sum_by-cons (one_at x) y ys, one_other x y ne)) in let e : suc c.0 ≡ c.0 + 1 = omega arith in (c.0 + 1, omega (arith, c.1), subst (λ (k : ℕ). get_or (y ∷ ys) k x ≡ x) e c.2))
