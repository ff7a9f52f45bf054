-- One element of a list is put in another's place: sums, what holds of all, and what holds of some.
use Rattle.std.proofs.Common.{◌≡◌, ◌≢◌, ◌⊎◌, inl, inr, ℕ, zero, suc, ◌+◌, List, [], ◌∷◌, ◌++◌, All, Any, Some, length, set, refl, sym, ap, ◌∙◌, subst, arith}
use Rattle.std.specs.List.{flat_map, slice_get, sum_by}
use Rattle.std.proofs.lemmas.List.{get_or_append_left, get_or-append-add, length-append, length-set, get_or-set_same, get_or-set_other}
use Rattle.std.proofs.lemmas.List.Concat.{flat_map-cons}
use Rattle.std.proofs.lemmas.List.Sums.{sum_by-cons}
use Rattle.std.proofs.lemmas.Option.{get_or_from_slice_get, slice_get-get_or, slice_get_within}

module _ {X : Type 0} where
  pub sum_set : (f : X → ℕ) (xs : List X) (k : ℕ) (v w : X) → slice_get xs k ≡ Some v → sum_by f (set xs k w) + f v ≡ sum_by f xs + f w
  sum_set f [] k v w at = absurd (omega (arith, slice_get_within [] k v at))
  sum_set f (x ∷ xs) zero v w at =
      omega (arith, sum_by-cons f w xs, sum_by-cons f x xs, ap f (get_or_from_slice_get (x ∷ xs) 0 v v at))
  sum_set f (x ∷ xs) (suc k) v w at = omega (arith, sum_by-cons f x (set xs k w), sum_by-cons f x xs, sum_set f xs k v w at)

  -- what holds of all holds of this one
  pub at_seat : (P : X → Type 0) (xs : List X) (k : ℕ) (x : X) → slice_get xs k ≡ Some x → All P xs → P x
  at_seat P xs k x at all = subst P (get_or_from_slice_get xs k x x at) (all k x (slice_get_within xs k x at))

  pub set_seat : (xs : List X) (k : ℕ) (v w : X) → slice_get xs k ≡ Some v → slice_get (set xs k w) k ≡ Some w
  set_seat xs k v w at =
      let within = slice_get_within xs k v at in
      slice_get-get_or (set xs k w) k w (omega (arith, length-set xs k w, within)) ∙ ap Some (get_or-set_same xs k w w within)

  pub set_other : (xs : List X) (k j : ℕ) (v w : X) → j ≢ k → slice_get xs j ≡ Some v → slice_get (set xs k w) j ≡ Some v
  set_other xs k j v w other at =
      let within = slice_get_within xs j v at in
      slice_get-get_or (set xs k w) j v (omega (arith, length-set xs k w, within))
      ∙ ap Some (get_or-set_other xs k j w v other ∙ get_or_from_slice_get xs j v v at)

  -- some element, found front to back
  abbrev pub Some_of : (X → Type 0) → List X → Type 0
  Some_of P [] = ⊥
  Some_of P (x ∷ xs) = P x ⊎ Some_of P xs

  pub some_of : (P : X → Type 0) (xs : List X) → Any P xs → Some_of P xs
  some_of P [] (k, x, less, at, holds) = absurd (omega (arith, less))
  some_of P (y ∷ ys) (zero, x, less, at, holds) = inl (subst P (sym at) holds)
  some_of P (y ∷ ys) (suc k, x, less, at, holds) = inr (some_of P ys (k, x, omega (arith, less), at, holds))

  pub any_of : (P : X → Type 0) (xs : List X) → Some_of P xs → Any P xs
  any_of P [] none = absurd none
  any_of P (y ∷ ys) (inl holds) = (0, y, omega arith, refl, holds)
  any_of P (y ∷ ys) (inr rest) = later (any_of P ys rest)
    where
      later : Any P ys → Any P (y ∷ ys)
      later (k, x, less, at, holds) = (suc k, x, omega (arith, less), at, holds)

  some_left : (P : X → Type 0) (xs ys : List X) → Some_of P xs → Some_of P (xs ++ ys)
  some_left P [] ys none = absurd none
  some_left P (x ∷ xs) ys (inl holds) = inl holds
  some_left P (x ∷ xs) ys (inr rest) = inr (some_left P xs ys rest)

  some_right : (P : X → Type 0) (xs ys : List X) → Some_of P ys → Some_of P (xs ++ ys)
  some_right P [] ys found = found
  some_right P (x ∷ xs) ys found = inr (some_right P xs ys found)

  some_cases : (P : X → Type 0) (xs ys : List X) → Some_of P (xs ++ ys) → Some_of P xs ⊎ Some_of P ys
  some_cases P [] ys found = inr found
  some_cases P (x ∷ xs) ys (inl holds) = inl (inl holds)
  some_cases P (x ∷ xs) ys (inr rest) = later (some_cases P xs ys rest)
    where
      later : Some_of P xs ⊎ Some_of P ys → Some_of P (x ∷ xs) ⊎ Some_of P ys
      later (inl found) = inl (inr found)
      later (inr found) = inr found

  pub any_left : (P : X → Type 0) (xs ys : List X) → Any P xs → Any P (xs ++ ys)
  any_left P xs ys found = any_of P (xs ++ ys) (some_left P xs ys (some_of P xs found))

  pub any_push_cases : (P : X → Type 0) (xs : List X) (y : X) → Any P (xs ++ y ∷ []) → Any P xs ⊎ P y
  any_push_cases P xs y found = told (some_cases P xs (y ∷ []) (some_of P (xs ++ y ∷ []) found))
    where
      told : Some_of P xs ⊎ Some_of P (y ∷ []) → Any P xs ⊎ P y
      told (inl before) = inl (any_of P xs before)
      told (inr (inl here)) = inr here
      told (inr (inr none)) = absurd none

  -- some element is the new one or was there before
  set_cases : (P : X → Type 0) (xs : List X) (k : ℕ) (w : X) → Some_of P (set xs k w) → Some_of P xs ⊎ P w
  set_cases P [] k w found = inl found
  set_cases P (x ∷ xs) zero w (inl here) = inr here
  set_cases P (x ∷ xs) zero w (inr rest) = inl (inr rest)
  set_cases P (x ∷ xs) (suc k) w (inl here) = inl (inl here)
  set_cases P (x ∷ xs) (suc k) w (inr rest) = later (set_cases P xs k w rest)
    where
      later : Some_of P xs ⊎ P w → Some_of P (x ∷ xs) ⊎ P w
      later (inl found) = inl (inr found)
      later (inr here) = inr here

  set_keeps : (P : X → Type 0) (xs : List X) (k : ℕ) (v w : X) → slice_get xs k ≡ Some v → (P v → P w) → Some_of P xs → Some_of P (set xs k w)
  set_keeps P [] k v w at turns found = found
  set_keeps P (x ∷ xs) zero v w at turns (inl here) = inl (turns (subst P (get_or_from_slice_get (x ∷ xs) 0 v v at) here))
  set_keeps P (x ∷ xs) zero v w at turns (inr rest) = inr rest
  set_keeps P (x ∷ xs) (suc k) v w at turns (inl here) = inl here
  set_keeps P (x ∷ xs) (suc k) v w at turns (inr rest) = inr (set_keeps P xs k v w at turns rest)

  set_puts : (P : X → Type 0) (xs : List X) (k : ℕ) (v w : X) → slice_get xs k ≡ Some v → P w → Some_of P (set xs k w)
  set_puts P [] k v w at holds = absurd (omega (arith, slice_get_within [] k v at))
  set_puts P (x ∷ xs) zero v w at holds = inl holds
  set_puts P (x ∷ xs) (suc k) v w at holds = inr (set_puts P xs k v w at holds)

  pub any_set_cases : (P : X → Type 0) (xs : List X) (k : ℕ) (w : X) → Any P (set xs k w) → Any P xs ⊎ P w
  any_set_cases P xs k w found = told (set_cases P xs k w (some_of P (set xs k w) found))
    where
      told : Some_of P xs ⊎ P w → Any P xs ⊎ P w
      told (inl before) = inl (any_of P xs before)
      told (inr here) = inr here

  pub any_set_keeps : (P : X → Type 0) (xs : List X) (k : ℕ) (v w : X) → slice_get xs k ≡ Some v → (P v → P w) → Any P xs → Any P (set xs k w)
  any_set_keeps P xs k v w at turns found = any_of P (set xs k w) (set_keeps P xs k v w at turns (some_of P xs found))

  pub any_set_puts : (P : X → Type 0) (xs : List X) (k : ℕ) (v w : X) → slice_get xs k ≡ Some v → P w → Any P (set xs k w)
  any_set_puts P xs k v w at holds = any_of P (set xs k w) (set_puts P xs k v w at holds)

module _ {X A : Type 0} (P : A → Type 0) (f : X → List A) where
  out_of : (x : X) (xs : List X) → Some_of P (f x) ⊎ Some_of P (flat_map f xs) → (Some_of P (flat_map f xs) → Any (λ y. Any P (f y)) xs) → Any (λ y. Any P (f y)) (x ∷ xs)
  out_of x xs (inl here) rest = (0, x, omega arith, refl, any_of P (f x) here)
  out_of x xs (inr found) rest = later (rest found)
    where
      later : Any (λ y. Any P (f y)) xs → Any (λ y. Any P (f y)) (x ∷ xs)
      later (k, y, less, at, holds) = (suc k, y, omega (arith, less), at, holds)

  flat_out : (xs : List X) → Some_of P (flat_map f xs) → Any (λ x. Any P (f x)) xs
  flat_out [] none = absurd none
  flat_out (x ∷ xs) found =
      out_of x xs (some_cases P (f x) (flat_map f xs) (subst (Some_of P) (flat_map-cons f x xs) found)) (λ rest. flat_out xs rest)

  flat_in : (xs : List X) → Some_of (λ x. Any P (f x)) xs → Some_of P (flat_map f xs)
  flat_in [] none = absurd none
  flat_in (x ∷ xs) (inl here) =
      subst (Some_of P) (sym (flat_map-cons f x xs)) (some_left P (f x) (flat_map f xs) (some_of P (f x) here))
  flat_in (x ∷ xs) (inr rest) = subst (Some_of P) (sym (flat_map-cons f x xs)) (some_right P (f x) (flat_map f xs) (flat_in xs rest))

  pub any_flat_out : (xs : List X) → Any P (flat_map f xs) → Any (λ x. Any P (f x)) xs
  any_flat_out xs found = flat_out xs (some_of P (flat_map f xs) found)

  pub any_flat_in : (xs : List X) → Any (λ x. Any P (f x)) xs → Any P (flat_map f xs)
  any_flat_in xs found = any_of P (flat_map f xs) (flat_in xs (some_of (λ x. Any P (f x)) xs found))

module _ {X : Type 0} (P : X → Type 0) where
  pub all_front : (xs ys : List X) → All P (xs ++ ys) → All P xs
  all_front xs ys all k d less = subst P (get_or_append_left xs ys d k less) (all k d (omega (arith, length-append xs ys, less)))

  pub all_back : (xs ys : List X) → All P (xs ++ ys) → All P ys
  all_back xs ys all k d less =
      subst P (get_or-append-add xs ys k d) (all (length xs + k) d (omega (arith, length-append xs ys, less)))

  pub all_one : (x : X) → P x → All P (x ∷ [])
  all_one x holds zero d less = holds
  all_one x holds (suc k) d less = absurd (omega (arith, less))
