-- A node more: how many leaves there are then.
use Rattle.std.proofs.Common.{◌≡◌, ◌≢◌, inl, inr, ℕ, zero, suc, ◌+◌, ◌<◌, ◌≤◌, Bool, true, false, ◌==◌, ◌||◌, List, [], ◌∷◌, ◌++◌, length, get_or, drop, refl, sym, ◌∙◌, ap, subst, cond, arith, length-append, length-drop}
use Rattle.std.specs.Prelude.{not}
use Rattle.std.specs.List.{filter, list_any, range_with_len}
use Rattle.std.proofs.lemmas.Bool.{cases_eq, ne_eqb, eq-eqb}
use Rattle.std.proofs.lemmas.Grind.{get_or_after_one}
use Rattle.std.proofs.lemmas.List.{drop-append-le, get_or_default}
use Rattle.std.proofs.lemmas.List.Elements.{filter-append}
use Rattle.std.proofs.lemmas.List.Folds.{list_any-append, list_any_none}

-- Two tests of the numbers from a on.

keeps : (p q : ℕ → Bool) (a n : ℕ) → ((k : ℕ) → a ≤ k → k < a + n → p k ≡ q k) → length (filter p (range_with_len a n)) ≡ length (filter q (range_with_len a n))
keeps p q a zero same = refl
keeps p q a (suc n) same =
    let more = keeps p q (a + 1) n (λ k from to. same k (omega arith) (omega arith)) in
    let here : p a ≡ q a = same a (omega arith) (omega arith) in
    rw here (counted (q a) _ _ more)
  where
    counted : (b : Bool) (xs ys : List ℕ) → length xs ≡ length ys → length (cond b (a ∷ xs) xs) ≡ length (cond b (a ∷ ys) ys)
    counted true xs ys e = omega (arith, e)
    counted false xs ys e = e

flips : (p q : ℕ → Bool) (v a n : ℕ) → a ≤ v → v < a + n → p v ≡ true → q v ≡ false → ((k : ℕ) → k ≢ v → p k ≡ q k) → length (filter q (range_with_len a n)) + 1 ≡ length (filter p (range_with_len a n))
flips p q v a zero from to held lost same = absurd (omega arith)
flips p q v a (suc n) from to held lost same = elim (cases_eq a v) [
  | inl is ↦
      let more = keeps p q (a + 1) n (λ k low high. same k (λ e. omega (arith, e, low, is))) in
      let py : p a ≡ true = subst (λ (x : ℕ). p x ≡ true) (sym is) held in
      let qn : q a ≡ false = subst (λ (x : ℕ). q x ≡ false) (sym is) lost in
      rw (py, qn) (omega (arith, more))
  | inr apart ↦
      let more = flips p q v (a + 1) n (omega arith) (omega arith) held lost same in
      let here : p a ≡ q a = same a apart in
      rw here (counted (q a) _ _ more)
]
  where
    counted : (b : Bool) (xs ys : List ℕ) → length xs + 1 ≡ length ys → length (cond b (a ∷ xs) xs) + 1 ≡ length (cond b (a ∷ ys) ys)
    counted true xs ys e = omega (arith, e)
    counted false xs ys e = e

last_number : (a n : ℕ) → range_with_len a (n + 1) ≡ range_with_len a n ++ (a + n) ∷ []
last_number a zero = ap (λ (x : ℕ). x ∷ []) (omega arith)
last_number a (suc n) =
    let more = last_number (a + 1) n in
    let e : (a + 1) + n ≡ a + suc n = omega arith in
    let f : suc n + 1 ≡ suc (n + 1) = omega arith in
    rw f (ap (λ (l : List ℕ). a ∷ l) (more ∙ ap (λ (x : ℕ). range_with_len (a + 1) n ++ x ∷ []) e))

-- Parents, entry 0 of which is the root's.

abbrev has : List ℕ → ℕ → Bool
has ps k = list_any (λ p. p == k) (drop 1 ps)

abbrev leaves : List ℕ → ℕ
leaves ps = length (filter (λ k. not (has ps k)) (range_with_len 0 (length ps)))

zero_more : (n : ℕ) → 0 + n ≡ n
zero_more n = omega arith

module _ (ps : List ℕ) (v : ℕ) (some : 0 < length ps) (below : (k : ℕ) → 0 < k → k < length ps → get_or ps k 0 < length ps) (there : v < length ps) where
  has_more : (k : ℕ) → has (ps ++ v ∷ []) k ≡ (has ps k || ((v == k) || false))
  has_more k =
      let e : drop 1 (ps ++ v ∷ []) ≡ drop 1 ps ++ v ∷ [] = drop-append-le 1 ps (v ∷ []) (omega arith) in
      ap (list_any (λ p. p == k)) e ∙ list_any-append (λ p. p == k) (drop 1 ps) (v ∷ [])

  or_false : (b : Bool) → (b || false) ≡ b
  or_false true = refl
  or_false false = refl

  or_true : (b : Bool) → (b || true) ≡ true
  or_true true = refl
  or_true false = refl

  other : (k : ℕ) → k ≢ v → has (ps ++ v ∷ []) k ≡ has ps k
  other k apart =
      let e : (v == k) ≡ false = ne_eqb v k (λ s. apart (sym s)) in
      has_more k ∙ ap (λ (b : Bool). has ps k || (b || false)) e ∙ or_false (has ps k)

  itself : has (ps ++ v ∷ []) v ≡ true
  itself = has_more v ∙ ap (λ (b : Bool). has ps v || (b || false)) (eq-eqb v v refl) ∙ or_true (has ps v)

  -- the new node has no child
  new_leaf : has (ps ++ v ∷ []) (length ps) ≡ false
  new_leaf =
      other (length ps) (λ e. omega (arith, e, there)) ∙ list_any_none (λ p. p == length ps) (drop 1 ps) (λ k d less.
      let within : 1 + k < length ps = omega (arith, length-drop 1 ps) in
      ne_eqb (get_or (drop 1 ps) k d) (length ps) (λ e. omega (arith, e, value k d within, below (1 + k) (omega arith) within)))
    where
      value : (k d : ℕ) → 1 + k < length ps → get_or (drop 1 ps) k d ≡ get_or ps (1 + k) 0
      value k d within =
          get_or_after_one ps k d ∙ get_or_default ps (1 + k) d 0 within

  counted : leaves (ps ++ v ∷ []) ≡ length (filter (λ k. not (has (ps ++ v ∷ []) k)) (range_with_len 0 (length ps))) + 1
  counted =
      let long : length (ps ++ v ∷ []) ≡ length ps + 1 = length-append ps (v ∷ []) in
      let test : ℕ → Bool = λ k. not (has (ps ++ v ∷ []) k) in
      let last : test (length ps) ≡ true = ap not new_leaf in
      ap (λ (n : ℕ). length (filter test (range_with_len 0 n))) long
      ∙ ap (λ (l : List ℕ). length (filter test l)) (last_number 0 (length ps))
      ∙ ap length (filter-append test (range_with_len 0 (length ps)) ((0 + length ps) ∷ []))
      ∙ length-append (filter test (range_with_len 0 (length ps))) (filter test ((0 + length ps) ∷ []))
      ∙ ap (λ (b : Bool). length (filter test (range_with_len 0 (length ps))) + length (cond b ((0 + length ps) ∷ []) [])) (ap test (zero_more (length ps)) ∙ last)

  pub second_child : has ps v ≡ true → leaves (ps ++ v ∷ []) ≡ leaves ps + 1
  second_child held =
      let same = keeps (λ k. not (has (ps ++ v ∷ []) k)) (λ k. not (has ps k)) 0 (length ps) (λ k low high. elim (cases_eq k v) [
        | inl is ↦ ap not (subst (λ (x : ℕ). has (ps ++ v ∷ []) x ≡ has ps x) (sym is) (itself ∙ sym held))
        | inr apart ↦ ap not (other k apart)
      ]) in
      omega (arith, counted, same)

  pub first_child : has ps v ≡ false → leaves (ps ++ v ∷ []) ≡ leaves ps
  first_child lost =
      let fewer = flips (λ k. not (has ps k)) (λ k. not (has (ps ++ v ∷ []) k)) v 0 (length ps) (omega arith) (omega arith) (ap not lost) (ap not itself) (λ k apart. ap not (sym (other k apart))) in
      omega (arith, counted, fewer)

  pub has_child_now : has (ps ++ v ∷ []) v ≡ true
  has_child_now = itself
