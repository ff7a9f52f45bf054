-- Writes one after another, each a part of one text.
--
-- A writer `put(sink, x)?; put(sink, y)?; put(sink, z)` answers its goals by:
--   at the first exit      puts_first Z _ _ _ _ _ _ c.from_residual.ensures.0 c.in_err-put.ensures.text EQUATION, where Z is the text that is left
--   at a later exit        puts_exit Z _ _ _ _ _ _ _ _ c.from_residual.ensures.0 SO_FAR c.in_err-put-2.ensures.text EQUATION
--                          where SO_FAR is c.in_ok-put.ensures.text.all, or writes_more _ _ _ _ _ _ SO_FAR c.in_ok-put-2.ensures.text
--   at the last call       puts_last _ _ _ _ _ _ _ SO_FAR c.put-3.ensures.text EQUATION
--   at an `Ok(())`         puts_done
-- Each EQUATION is refl or simp append_assoc. The parts of one line are better written by one call of `put_parts`, whose callers need no answer.
-- A loop over a list keeps `Appends start now (flat_map f (take i xs))`, or over numbers `(flat_map f (range_with_len a k))`: loop_more, loop_exit, loop_all; range_more, range_exit.
use Rattle.std.proofs.Common.{◌≡◌, ℕ, zero, suc, ◌+◌, ◌-◌, ◌<◌, ◌≤◌, List, [], ◌∷◌, ◌++◌, length, get_or, take, drop, Result, Ok, Err, sym, ap, subst, ◌∙◌, arith}
use Rattle.std.specs.declared.option.Option.{Option}
use Rattle.std.specs.List.{flat_map, range_with_len}
use Rattle.std.specs.Result.{IsErr}
use Rattle.std.proofs.lemmas.Bool.{false≢true}
use Rattle.std.proofs.lemmas.List.{append-nil, take_more, take_all, take-append-drop, drop_more}
use Rattle.std.proofs.lemmas.List.Concat.{flat_map-append}
use Rattle.bp_base.specs.declared.outside.Failed.{Failed}
use Rattle.bp_base.specs.Causes.{HasCause, Appends, AppendsFront}
use Rattle.bp_text.specs.Puts.{Puts}
use Rattle.bp_text.proofs.Bytes.{rose_later, appends_none, appends_more, front_after, front_early}

-- an error with a front
pub puts_err : {T : Type 0} (a c : Option (List ℕ)) (r : Result T Failed) (text : List ℕ) → IsErr r → AppendsFront a c text → Puts a c r text
puts_err a c (Ok t) text err front = absurd (false≢true err)
puts_err a c (Err e) text err front = record { all = tt; front = front }

pub puts_done : {T : Type 0} (a b : Option (List ℕ)) (t : T) (x text : List ℕ) → Appends a b x → text ≡ x → Puts a b (Ok t) text
puts_done a b t x text all is = record { all = subst (λ (s : List ℕ). Appends a b s) (sym is) all; front = tt }

-- an exit by `?` at the first write, of y; z is left
pub puts_first : {T U : Type 0} (z : List ℕ) (a c : Option (List ℕ)) (r : Result T Failed) (e : Failed) (y text : List ℕ) → IsErr r → Puts {T = U} a c (Err e) y → text ≡ y ++ z → Puts a c r text
puts_first z a c r e y text err puts is = puts_err a c r text err (subst (λ (s : List ℕ). AppendsFront a c s) (sym is) (front_early a c y z puts.front))

-- an exit by `?` at a later write, of y, after x; z is left
pub puts_exit : {T U : Type 0} (z : List ℕ) (a b c : Option (List ℕ)) (r : Result T Failed) (e : Failed) (x y text : List ℕ) → IsErr r → Appends a b x → Puts {T = U} b c (Err e) y → text ≡ x ++ (y ++ z) → Puts a c r text
puts_exit z a b c r e x y text err first puts is =
    puts_err a c r text err (subst (λ (s : List ℕ). AppendsFront a c s) (sym is) (front_after a b c x (y ++ z) first (front_early b c y z puts.front)))

-- the last write, whose result is returned as it is
pub puts_last : {T : Type 0} (a b c : Option (List ℕ)) (r : Result T Failed) (x y text : List ℕ) → Appends a b x → Puts b c r y → text ≡ x ++ y → Puts a c r text
puts_last a b c (Ok t) x y text first puts is = record { all = subst (λ (s : List ℕ). Appends a c s) (sym is) (appends_more a b c x y first puts.all); front = tt }
puts_last a b c (Err e) x y text first puts is = record { all = tt; front = subst (λ (s : List ℕ). AppendsFront a c s) (sym is) (front_after a b c x y first puts.front) }

-- a call that wrote the text in other words
pub puts_same : {T : Type 0} (a c : Option (List ℕ)) (r : Result T Failed) (x text : List ℕ) → Puts a c r x → text ≡ x → Puts a c r text
puts_same a c r x text puts is = subst (λ (s : List ℕ). Puts a c r s) (sym is) puts

-- what is written after one more write
pub writes_more : {U : Type 0} (a b c : Option (List ℕ)) (u : U) (x y : List ℕ) → Appends a b x → Puts b c (Ok u) y → Appends a c (x ++ y)
writes_more a b c u x y first puts = appends_more a b c x y first puts.all

-- causes, likewise
pub cause_exit : {T U : Type 0} (f g h : ℕ) (r : Result T Failed) (e : Failed) → IsErr r → f ≤ g → HasCause {T = U} g h (Err e) → HasCause f h r
cause_exit f g h (Ok t) e err later cause = absurd (false≢true err)
cause_exit f g h (Err d) e err later cause = record { later = omega (arith, later, cause.later); failed = rose_later f g h later cause.failed }

pub cause_last : {T : Type 0} (f g h : ℕ) (r : Result T Failed) → f ≤ g → HasCause g h r → HasCause f h r
cause_last f g h (Ok t) later cause = record { later = omega (arith, later, cause.later); failed = tt }
cause_last f g h (Err e) later cause = record { later = omega (arith, later, cause.later); failed = rose_later f g h later cause.failed }

module _ {X : Type 0} (f : X → List ℕ) where
  one_more : (xs ys : List X) (x : X) → ys ≡ xs ++ x ∷ [] → flat_map f ys ≡ flat_map f xs ++ f x
  one_more xs ys x is = ap (flat_map f) is ∙ flat_map-append f xs (x ∷ []) ∙ ap (λ (t : List ℕ). flat_map f xs ++ t) (append-nil (f x))

  around : (xs : List X) (i : ℕ) (d : X) → i < length xs → flat_map f xs ≡ flat_map f (take i xs) ++ (f (get_or xs i d) ++ flat_map f (drop (i + 1) xs))
  around xs i d less =
      ap (flat_map f) (sym (take-append-drop i xs) ∙ ap (λ (l : List X). take i xs ++ l) (drop_more xs i d less))
      ∙ flat_map-append f (take i xs) (get_or xs i d ∷ drop (i + 1) xs)

  pub loop_none : (a : Option (List ℕ)) (xs : List X) → Appends a a (flat_map f (take 0 xs))
  loop_none a xs = appends_none a

  pub loop_more : {U : Type 0} (a b c : Option (List ℕ)) (u : U) (xs : List X) (i : ℕ) (d : X) → i < length xs → Appends a b (flat_map f (take i xs)) → Puts b c (Ok u) (f (get_or xs i d)) → Appends a c (flat_map f (take (i + 1) xs))
  loop_more a b c u xs i d less first puts =
      subst (λ (t : List ℕ). Appends a c t) (sym (one_more (take i xs) (take (i + 1) xs) (get_or xs i d) (take_more xs i d less))) (writes_more a b c u (flat_map f (take i xs)) (f (get_or xs i d)) first puts)

  pub loop_exit : {T U : Type 0} (a b c : Option (List ℕ)) (r : Result T Failed) (e : Failed) (xs : List X) (i : ℕ) (d : X) → i < length xs → IsErr r → Appends a b (flat_map f (take i xs)) → Puts {T = U} b c (Err e) (f (get_or xs i d)) → Puts a c r (flat_map f xs)
  loop_exit a b c r e xs i d less err first puts =
      puts_exit (flat_map f (drop (i + 1) xs)) a b c r e (flat_map f (take i xs)) (f (get_or xs i d)) (flat_map f xs) err first puts (around xs i d less)

  pub loop_all : {T : Type 0} (a b : Option (List ℕ)) (t : T) (xs : List X) (i : ℕ) → length xs ≤ i → Appends a b (flat_map f (take i xs)) → Puts a b (Ok t) (flat_map f xs)
  loop_all a b t xs i done all = puts_done a b t (flat_map f (take i xs)) (flat_map f xs) all (sym (ap (flat_map f) (take_all i xs done)))

pub range_push : (from k : ℕ) → range_with_len from (k + 1) ≡ range_with_len from k ++ (from + k) ∷ []
range_push from zero = let e : from + 0 ≡ from = omega arith in rw e
range_push from (suc k) =
    let e : from + 1 + k ≡ from + suc k = omega arith in
    let ih : range_with_len (from + 1) (k + 1) ≡ range_with_len (from + 1) k ++ (from + suc k) ∷ [] = range_push (from + 1) k ∙ ap (λ (n : ℕ). range_with_len (from + 1) k ++ n ∷ []) e in
    let next : suc k + 1 ≡ suc (k + 1) = omega arith in
    rw next (ap (λ (l : List ℕ). from ∷ l) ih)

-- a range goes on from its front
pub range_split : (from k n : ℕ) → range_with_len from (k + n) ≡ range_with_len from k ++ range_with_len (from + k) n
range_split from zero n =
    let e : 0 + n ≡ n = omega arith in
    let s : from + 0 ≡ from = omega arith in
    rw (e, s)
range_split from (suc k) n =
    let e : suc k + n ≡ suc (k + n) = omega arith in
    let s : from + 1 + k ≡ from + suc k = omega arith in
    rw e (ap (λ (l : List ℕ). from ∷ l) (range_split (from + 1) k n ∙ ap (λ (m : ℕ). range_with_len (from + 1) k ++ range_with_len m n) s))

-- a loop `for j in from..`: k numbers are done, and j is the next one
module _ (f : ℕ → List ℕ) (from : ℕ) where
  pub range_none : (a : Option (List ℕ)) → Appends a a (flat_map f (range_with_len from 0))
  range_none a = appends_none a

  pub range_more : {U : Type 0} (a b c : Option (List ℕ)) (u : U) (k j next : ℕ) → j ≡ from + k → next ≡ k + 1 → Appends a b (flat_map f (range_with_len from k)) → Puts b c (Ok u) (f j) → Appends a c (flat_map f (range_with_len from next))
  range_more a b c u k j next here after first puts =
      let step : range_with_len from next ≡ range_with_len from k ++ j ∷ [] = ap (range_with_len from) after ∙ range_push from k ∙ ap (λ (m : ℕ). range_with_len from k ++ m ∷ []) (sym here) in
      subst (λ (t : List ℕ). Appends a c t) (sym (one_more f (range_with_len from k) (range_with_len from next) j step)) (writes_more a b c u (flat_map f (range_with_len from k)) (f j) first puts)

  pub range_exit : {T U : Type 0} (a b c : Option (List ℕ)) (r : Result T Failed) (e : Failed) (k j n : ℕ) → j ≡ from + k → k < n → IsErr r → Appends a b (flat_map f (range_with_len from k)) → Puts {T = U} b c (Err e) (f j) → Puts a c r (flat_map f (range_with_len from n))
  range_exit a b c r e k j n here less err first puts =
      let left : n ≡ k + suc (n - k - 1) = omega arith in
      let split : range_with_len from n ≡ range_with_len from k ++ j ∷ range_with_len (j + 1) (n - k - 1) =
      ap (range_with_len from) left ∙ range_split from k (suc (n - k - 1)) ∙ ap (λ (m : ℕ). range_with_len from k ++ m ∷ range_with_len (m + 1) (n - k - 1)) (sym here) in
      puts_exit (flat_map f (range_with_len (j + 1) (n - k - 1))) a b c r e (flat_map f (range_with_len from k)) (f j) (flat_map f (range_with_len from n)) err first puts
      (ap (flat_map f) split ∙ flat_map-append f (range_with_len from k) (j ∷ range_with_len (j + 1) (n - k - 1)))

  pub range_all : {T : Type 0} (a b : Option (List ℕ)) (t : T) (k n : ℕ) → k ≡ n → Appends a b (flat_map f (range_with_len from k)) → Puts a b (Ok t) (flat_map f (range_with_len from n))
  range_all a b t k n done all = puts_done a b t (flat_map f (range_with_len from k)) (flat_map f (range_with_len from n)) all (ap (λ (m : ℕ). flat_map f (range_with_len from m)) (sym done))
