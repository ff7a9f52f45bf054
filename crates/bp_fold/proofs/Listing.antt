-- Lists that rise by two numbers of their elements.
use Rattle.std.proofs.Common.{◌≡◌, ◌⊎◌, ℕ, zero, suc, ◌+◌, ◌<◌, List, [], ◌∷◌, ◌++◌, length, get_or, refl, sym, ◌∙◌, ap, subst, arith, inl, inr}
use Rattle.std.specs.List.{AllPairs, Contains}
use Rattle.std.proofs.lemmas.Bool.{cases_eq, cases_order}
use Rattle.std.proofs.lemmas.List.{get_or_append_left, get_or_push, length_push}
use Rattle.std.proofs.lemmas.List.Elements.{Contains-append_cases, Contains-append_left, Contains-append_right, Contains-get_or}
use Rattle.bp_fold.specs.Listing.{ListsBefore}
use Rattle.bp_fold.specs.Vertices.{IsPairBefore}

pub asymmetric : (a b c d : ℕ) → IsPairBefore a b c d → IsPairBefore c d a b → ⊥
asymmetric a b c d (inl l) (inl m) = omega (arith, l, m)
asymmetric a b c d (inl l) (inr m) = omega (arith, l, m.0)
asymmetric a b c d (inr l) (inl m) = omega (arith, l.0, m)
asymmetric a b c d (inr l) (inr m) = omega (arith, l.1, m.1)

pub contains_cons : {X : Type 0} (y : X) (ys : List X) (x : X) → Contains (y ∷ ys) x → (x ≡ y) ⊎ Contains ys x
contains_cons y ys x (zero, less, is) = inl (sym is)
contains_cons y ys x (suc k, less, is) = inr (k, omega (arith, less), is)

contains_none : {X : Type 0} (x : X) → Contains {X = X} [] x → ⊥
contains_none x (k, less, is) = omega (arith, less)

contains_head : {X : Type 0} (y : X) (ys : List X) → Contains (y ∷ ys) y
contains_head y ys = (0, omega arith, refl)

contains_tail : {X : Type 0} (y : X) (ys : List X) (x : X) → Contains ys x → Contains (y ∷ ys) x
contains_tail y ys x (k, less, is) = (suc k, omega (arith, less), is)

module _ {X : Type 0} (B : X → X → Type 0) (asym : (x y : X) → B x y → B y x → ⊥) where
  tail_pairs : (x : X) (xs : List X) → AllPairs B (x ∷ xs) → AllPairs B xs
  tail_pairs x xs h i j d less within = h (suc i) (suc j) d (omega (arith, less)) (omega (arith, within))

  head_before : (x : X) (xs : List X) → AllPairs B (x ∷ xs) → (z : X) → Contains xs z → B x z
  head_before x xs h z (k, less, is) = subst (B x) is (h 0 (suc k) z (omega arith) (omega (arith, less)))

  same_head : (x y : X) (xs ys : List X) → AllPairs B (x ∷ xs) → AllPairs B (y ∷ ys) → Contains (y ∷ ys) x → Contains (x ∷ xs) y → x ≡ y
  same_head x y xs ys up down in_y in_x = elim (contains_cons y ys x in_y) [
    | inl is ↦ is
    | inr later ↦ elim (contains_cons x xs y in_x) [
      | inl is ↦ sym is
      | inr also ↦ absurd (asym x y (head_before x xs up y also) (head_before y ys down x later))
    ]
  ]

  into_tail : (x y : X) (xs ys : List X) → x ≡ y → AllPairs B (x ∷ xs) → ((z : X) → Contains (x ∷ xs) z → Contains (y ∷ ys) z) → (z : X) → Contains xs z → Contains ys z
  into_tail x y xs ys same up into z here = elim (contains_cons y ys z (into z (contains_tail x xs z here))) [
    | inl is ↦
        let before : B x z = head_before x xs up z here in
        let again : B x x = subst (B x) (is ∙ sym same) before in
        absurd (asym x x again again)
    | inr there ↦ there
  ]

  -- a rising list is determined by what it holds
  pub one_list : (xs ys : List X) → AllPairs B xs → AllPairs B ys → ((z : X) → Contains xs z → Contains ys z) → ((z : X) → Contains ys z → Contains xs z) → xs ≡ ys
  one_list [] [] up down into back = refl
  one_list [] (y ∷ ys) up down into back = absurd (contains_none y (back y (contains_head y ys)))
  one_list (x ∷ xs) [] up down into back = absurd (contains_none x (into x (contains_head x xs)))
  one_list (x ∷ xs) (y ∷ ys) up down into back =
      let same : x ≡ y = same_head x y xs ys up down (into x (contains_head x xs)) (back y (contains_head y ys)) in
      let rest : xs ≡ ys = one_list xs ys (tail_pairs x xs up) (tail_pairs y ys down) (into_tail x y xs ys same up into) (into_tail y x ys xs (sym same) down back) in
      ap (λ (z : X). z ∷ xs) same ∙ ap (λ (l : List X). y ∷ l) rest

  -- numbers in a rising list
  pub one_number : (xs : List X) (i j : ℕ) (d : X) → AllPairs B xs → i < length xs → j < length xs → get_or xs i d ≡ get_or xs j d → i ≡ j
  one_number xs i j d up in_i in_j same = elim (cases_order i j) [
    | inl is ↦ is
    | inr (inl less) ↦ let b = subst (λ (x : X). B x (get_or xs j d)) same (up i j d less in_j) in absurd (asym (get_or xs j d) (get_or xs j d) b b)
    | inr (inr more) ↦ let b = subst (λ (x : X). B (get_or xs j d) x) same (up j i d more in_i) in absurd (asym (get_or xs j d) (get_or xs j d) b b)
  ]

  pub number_order : (xs : List X) (i j : ℕ) (d : X) → AllPairs B xs → i < length xs → j < length xs → B (get_or xs i d) (get_or xs j d) → i < j
  number_order xs i j d up in_i in_j before = elim (cases_order i j) [
    | inl is ↦ let b = subst (λ (k : ℕ). B (get_or xs k d) (get_or xs j d)) is before in absurd (asym (get_or xs j d) (get_or xs j d) b b)
    | inr (inl less) ↦ less
    | inr (inr more) ↦ absurd (asym (get_or xs i d) (get_or xs j d) before (up j i d more in_i))
  ]

  pub push_pairs : (xs : List X) (x : X) → AllPairs B xs → ((z : X) → Contains xs z → B z x) → AllPairs B (xs ++ x ∷ [])
  push_pairs xs x up all i j d less within =
      let n = length_push xs x in
      let short : i < length xs = omega (arith, n, less, within) in
      elim (cases_eq (length xs) j) [
        | inl last ↦
            rw (get_or_push xs x d j last, get_or_append_left xs (x ∷ []) d i short) (all (get_or xs i d) (Contains-get_or xs i d short))
        | inr inner ↦
            let in_j : j < length xs = omega (arith, n, within, inner) in
            rw (get_or_append_left xs (x ∷ []) d j in_j, get_or_append_left xs (x ∷ []) d i short) (up i j d less in_j)
      ]

module _ {X : Type 0} (first second : X → ℕ) (P : X → Type 0) where
  none : (x : X) → IsPairBefore (first x) (second x) 0 0 → ⊥
  none x (inl l) = omega (arith, l)
  none x (inr l) = omega (arith, l.1)

  pub lists_none : ListsBefore first second P 0 0 []
  lists_none = record {
    rising = λ i j d less within. absurd (omega (arith, within));
    each = λ x. (λ h. absurd (contains_none x h), λ h. absurd (none x h.1));
  }

  -- nothing new up to a later place
  pub lists_skip : (a b c d : ℕ) (xs : List X) → ((x : X) → IsPairBefore (first x) (second x) a b → IsPairBefore (first x) (second x) c d) → ((x : X) → P x → IsPairBefore (first x) (second x) c d → IsPairBefore (first x) (second x) a b) → ListsBefore first second P a b xs → ListsBefore first second P c d xs
  lists_skip a b c d xs on back h = record {
    rising = h.rising;
    each = λ x. (
      λ here. let is = (h.each x).0 here in (is.0, on x is.1),
      λ is. (h.each x).1 (is.0, back x is.0 is.1),
    );
  }

  one_on : (a b : ℕ) (x : X) → IsPairBefore (first x) (second x) a b → IsPairBefore (first x) (second x) a (b + 1)
  one_on a b x (inl l) = inl l
  one_on a b x (inr l) = inr (l.0, omega (arith, l.1))

  one_back : (a b : ℕ) (x : X) → IsPairBefore (first x) (second x) a (b + 1) → IsPairBefore (first x) (second x) a b ⊎ ((first x ≡ a) × (second x ≡ b))
  one_back a b x (inl l) = inl (inl l)
  one_back a b x (inr l) = elim (cases_eq (second x) b) [
    | inl same ↦ inr (l.0, same)
    | inr apart ↦ inl (inr (l.0, omega (arith, l.1, apart)))
  ]

  -- the element at the place
  pub lists_push : (a b : ℕ) (xs : List X) (x : X) → first x ≡ a → second x ≡ b → P x → ((y : X) → first y ≡ a → second y ≡ b → y ≡ x) → ListsBefore first second P a b xs → ListsBefore first second P a (b + 1) (xs ++ x ∷ [])
  lists_push a b xs x at_a at_b is only h =
      let before : (z : X) → Contains xs z → IsPairBefore (first z) (second z) (first x) (second x) = λ z here. rw (at_a, at_b) ((h.each z).0 here).1 in
      record {
        rising = push_pairs (λ (y z : X). IsPairBefore (first y) (second y) (first z) (second z)) (λ y z. asymmetric (first y) (second y) (first z) (second z)) xs x h.rising before;
        each = λ y. (
          λ here. elim (Contains-append_cases xs (x ∷ []) y here) [
            | inl old ↦ let p = (h.each y).0 old in (p.0, one_on a b y p.1)
            | inr new ↦ elim (contains_cons x [] y new) [
              | inl same ↦ (subst P (sym same) is, inr (ap first same ∙ at_a, omega (arith, ap second same, at_b)))
              | inr no_more ↦ absurd (contains_none y no_more)
            ]
          ],
          λ p. elim (one_back a b y p.1) [
            | inl old ↦ Contains-append_left xs (x ∷ []) y ((h.each y).1 (p.0, old))
            | inr (la, lb) ↦ Contains-append_right xs (x ∷ []) y (subst (Contains (x ∷ [])) (sym (only y la lb)) (contains_head x []))
          ],
        );
      }
