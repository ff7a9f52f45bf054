-- Reads, one after another, and what takes them.
use Rattle.std.proofs.Common.{◌≡◌, inl, inr, ℕ, ◌+◌, ◌≤◌, List, [], ◌∷◌, ◌++◌, length, take, drop, refl, sym, ap, subst, ◌∙◌, arith, length-append}
use Rattle.std.specs.declared.option.Option.{Option}
use Rattle.std.specs.declared.option.Option.TheVariants.{None, Some}
use Rattle.std.proofs.lemmas.List.{append-nil, append_assoc, drop-drop, length-take, length-take-le, length-drop}
use Rattle.std.proofs.Math.Seq.{take-add}
use Rattle.bp_base.specs.Causes.{Reads, EndsAt}
use Rattle.bp_base.specs.Reading.{Told, HasRead, IsReadTo, joined, TakesEach, HasTakenAll}

read_more : (start now after : Option (List ℕ)) (bytes buffer : List ℕ) (k : ℕ) → HasRead start now bytes → Reads now after k buffer → k ≤ length buffer → HasRead start after (bytes ++ take k buffer)
read_more None now after bytes buffer k so_far here fits = let h = subst (λ (n : Option (List ℕ)). Reads n after k buffer) so_far here in h
read_more (Some l) now after bytes buffer k so_far here fits =
    let h = subst (λ (n : Option (List ℕ)). Reads n after k buffer) so_far.0 here in
    let long : length (bytes ++ take k buffer) ≡ length bytes + k = length-append bytes (take k buffer) ∙ ap (λ (n : ℕ). length bytes + n) (length-take-le k buffer fits) in
    let whole : bytes ++ take k buffer ≡ take (length bytes + k) l = ap (λ (t : List ℕ). bytes ++ t) h.1 ∙ ap (λ (t : List ℕ). t ++ take k (drop (length bytes) l)) so_far.1 ∙ sym (take-add (length bytes) k l) in (
      h.0 ∙ ap (λ (t : List ℕ). Some t) (drop-drop k (length bytes) l ∙ ap (λ (n : ℕ). drop n l) (sym long)),
      whole ∙ ap (λ (n : ℕ). take n l) (sym long),
    )

read_end : (start now : Option (List ℕ)) (bytes : List ℕ) → HasRead start now bytes → EndsAt now 0 → Told start (λ b. length b ≡ length bytes)
read_end None now bytes so_far ends = tt
read_end (Some l) now bytes so_far ends =
    let none : length (drop (length bytes) l) ≡ 0 = subst (λ (n : Option (List ℕ)). EndsAt n 0) so_far.0 ends refl in
    omega (arith, length-drop (length bytes) l, none, ap length so_far.1, length-take (length bytes) l)

read_nothing : (start : Option (List ℕ)) → HasRead start start []
read_nothing None = refl
read_nothing (Some l) = (refl, refl)

joined_push : (pieces : List (List ℕ)) (piece : List ℕ) → joined (pieces ++ piece ∷ []) ≡ joined pieces ++ piece
joined_push [] piece = append-nil piece
joined_push (first ∷ pieces) piece = ap (λ (t : List ℕ). first ++ t) (joined_push pieces piece) ∙ sym (append_assoc first (joined pieces) piece)

module _ {I : Type 0} (takes : I → List ℕ → I → Type 0) where
  each_push : (p q r : I) (pieces : List (List ℕ)) (piece : List ℕ) → TakesEach takes p pieces q → takes q piece r → TakesEach takes p (pieces ++ piece ∷ []) r
  each_push p q r [] piece same last = (r, subst (λ (m : I). takes m piece r) (sym same) last, refl)
  each_push p q r (first ∷ pieces) piece each last = (each.0, each.1, each_push each.0 q r pieces piece each.2 last)

  -- so many bytes were taken so far
  abbrev pub HasTakenOf : I → I → Option (List ℕ) → Option (List ℕ) → ℕ → Type 0
  HasTakenOf p q left now count = (pieces : List (List ℕ)) × TakesEach takes p pieces q × HasRead left now (joined pieces) × (length (joined pieces) ≡ count)

  pub nothing_taken : (p : I) (left : Option (List ℕ)) → HasTakenOf p p left left 0
  nothing_taken p left = ([], refl, read_nothing left, refl)

  pub more_taken : (p q r : I) (left now after : Option (List ℕ)) (count k : ℕ) (buffer : List ℕ) → HasTakenOf p q left now count → Reads now after k buffer → k ≤ length buffer → takes q (take k buffer) r → HasTakenOf p r left after (count + k)
  more_taken p q r left now after count k buffer so_far reads fits last =
      let joins = joined_push so_far.0 (take k buffer) in (
        so_far.0 ++ take k buffer ∷ [],
        each_push p q r so_far.0 (take k buffer) so_far.1 last,
        subst (HasRead left after) (sym joins) (read_more left now after (joined so_far.0) buffer k so_far.2 reads fits),
        ap length joins ∙ length-append (joined so_far.0) (take k buffer) ∙ omega (arith, so_far.3, length-take-le k buffer fits),
      )

  pub all_taken : (most : ℕ) (p q : I) (left now after : Option (List ℕ)) (count k : ℕ) (buffer : List ℕ) → HasTakenOf p q left now count → count ≤ most → Reads now after k buffer → EndsAt now k → k ≡ 0 → HasTakenAll takes most p q left after count
  all_taken most p q left now after count k buffer so_far few reads ends none =
      let bytes : List ℕ = joined so_far.0 in
      let same : bytes ++ take k buffer ≡ bytes = ap (λ (n : ℕ). bytes ++ take n buffer) none ∙ append-nil bytes in
      let read : HasRead left after bytes = subst (HasRead left after) same (read_more left now after bytes buffer k so_far.2 reads (omega (arith, none))) in
      (so_far.0, so_far.1, (read, inr (omega (arith, so_far.3, few), read_end left now bytes so_far.2 (subst (EndsAt now) none ends))), so_far.3)

  pub full_taken : (most : ℕ) (p q : I) (left now : Option (List ℕ)) (count : ℕ) → HasTakenOf p q left now count → count ≡ most → HasTakenAll takes most p q left now count
  full_taken most p q left now count so_far full = (so_far.0, so_far.1, (so_far.2, inl (so_far.3 ∙ full)), so_far.3)

-- what is appended piece by piece
each_appended : {I : Type 0} (items : I → List ℕ) (p q : I) (pieces : List (List ℕ)) → TakesEach (λ (c : I) (b : List ℕ) (d : I). items d ≡ items c ++ b) p pieces q → items q ≡ items p ++ joined pieces
each_appended items p q [] same = ap items (sym same) ∙ sym (append-nil (items p))
each_appended items p q (piece ∷ pieces) each =
    each_appended items each.0 q pieces each.2 ∙ ap (λ (t : List ℕ). t ++ joined pieces) each.1 ∙ append_assoc (items p) piece (joined pieces)

pub whole_appended : {I : Type 0} (items : I → List ℕ) (most count : ℕ) (p q : I) (left after : Option (List ℕ)) → items p ≡ [] → HasTakenAll (λ (c : I) (b : List ℕ) (d : I). items d ≡ items c ++ b) most p q left after count → IsReadTo most left after (items q)
whole_appended items most count p q left after empty all =
    let whole : items q ≡ joined all.0 = each_appended items p q all.0 all.1 ∙ ap (λ (t : List ℕ). t ++ joined all.0) empty in
    subst (IsReadTo most left after) (sym whole) all.2
