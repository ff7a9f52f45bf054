-- The leaves that are taken in order.
use Rattle.std.proofs.Common.{◌≡◌, inl, inr, ℕ, zero, suc, ◌+◌, ◌<◌, ◌≤◌, true, false, if◌then◌else◌, List, [], ◌∷◌, ◌++◌, length, get_or, fold, refl, sym, ◌∙◌, ap, subst, arith}
use Rattle.std.specs.List.{list_all, range_with_len}
use Rattle.std.specs.Prelude.{nat_le}
use Rattle.std.proofs.lemmas.Bool.{cases_eq, cases_Bool, leb-true, false≢true}
use Rattle.std.proofs.lemmas.List.{get_or_append_left, get_or_at, length_push}
use Rattle.std.proofs.lemmas.List.Sums.{fold_push, AllPass-from_list_all}
use Rattle.bp_base.specs.Tree.{TreeValue, leaf_count}
use Rattle.bp_metric.specs.Distance.{leaf_dist}
use Rattle.bp_metric.specs.Floor.{taken}
use Rattle.bp_metric.proofs.Ranges.{range_more}
use Rattle.bp_floor.specs.Best.{AreApart}

-- one leaf of the walk
abbrev pub step : TreeValue → ℕ → List ℕ → ℕ → List ℕ
step T m ls i = if list_all (λ k. nat_le m (leaf_dist T k i)) ls then ls ++ i ∷ [] else ls

module _ (T : TreeValue) (m : ℕ) where
  -- the leaves taken among the first n
  abbrev pub taken_to : ℕ → List ℕ
  taken_to n = fold (step T m) [] (range_with_len 1 n)

  none_apart : AreApart T m 0 []
  none_apart = record { leaf = λ k less. absurd (omega arith); rising = λ k l kl less. absurd (omega arith); far = λ k l kl less. absurd (omega arith); few = omega arith; some = λ le. absurd (omega arith) }

  apart_push : (n : ℕ) (ls : List ℕ) → AreApart T m n ls → list_all (λ k. nat_le m (leaf_dist T k (n + 1))) ls ≡ true → AreApart T m (n + 1) (ls ++ (n + 1) ∷ [])
  apart_push n ls a passes =
      let each = AllPass-from_list_all (λ k. nat_le m (leaf_dist T k (n + 1))) ls passes in
      let long = length_push ls (n + 1) in
      let old : (k : ℕ) → k < length ls → get_or (ls ++ (n + 1) ∷ []) k 0 ≡ get_or ls k 0 = λ k less. get_or_append_left ls ((n + 1) ∷ []) 0 k less in
      let last : (k : ℕ) → k ≡ length ls → get_or (ls ++ (n + 1) ∷ []) k 0 ≡ n + 1 = λ k is. get_or_at ls (n + 1) [] 0 k (sym is) in
      record {
        leaf = λ k less. elim (cases_eq k (length ls)) [
          | inl is ↦ omega (arith, last k is)
          | inr other ↦ let h = a.leaf k (omega (arith, long)) in omega (arith, old k (omega (arith, long)), h.0, h.1)
        ];
        rising = λ k l kl less. elim (cases_eq l (length ls)) [
          | inl is ↦ let h = a.leaf k (omega (arith, long)) in omega (arith, last l is, old k (omega (arith, long)), h.1)
          | inr other ↦ omega (arith, old l (omega (arith, long)), old k (omega (arith, long)), a.rising k l kl (omega (arith, long)))
        ];
        far = λ k l kl less. elim (cases_eq l (length ls)) [
          | inl is ↦
              let near : k < length ls = omega (arith, long) in
              let here : m ≤ leaf_dist T (get_or ls k 0) (n + 1) = leb-true m (leaf_dist T (get_or ls k 0) (n + 1)) (each k 0 near) in
              subst (λ (x : ℕ). m ≤ leaf_dist T x (get_or (ls ++ (n + 1) ∷ []) l 0)) (sym (old k near)) (subst (λ (x : ℕ). m ≤ leaf_dist T (get_or ls k 0) x) (sym (last l is)) here)
          | inr other ↦
              let l_in : l < length ls = omega (arith, long) in
              let k_in : k < length ls = omega (arith, long) in
              subst (λ (x : ℕ). m ≤ leaf_dist T x (get_or (ls ++ (n + 1) ∷ []) l 0)) (sym (old k k_in)) (subst (λ (x : ℕ). m ≤ leaf_dist T (get_or ls k 0) x) (sym (old l l_in)) (a.far k l kl l_in))
        ];
        few = omega (arith, long, a.few);
        some = λ le. omega (arith, long);
      }

  apart_keep : (n : ℕ) (ls : List ℕ) → AreApart T m n ls → list_all (λ k. nat_le m (leaf_dist T k (n + 1))) ls ≡ false → AreApart T m (n + 1) ls
  apart_keep n [] a fails = absurd (false≢true (sym fails))
  apart_keep n (x ∷ ls) a fails = record {
    leaf = λ k less. let h = a.leaf k less in (h.0, omega (arith, h.1));
    rising = a.rising;
    far = a.far;
    few = omega (arith, a.few);
    some = λ le. omega arith;
  }

  taken_more : (n : ℕ) (ls : List ℕ) → ls ≡ taken_to n → step T m ls (n + 1) ≡ taken_to (n + 1)
  taken_more n ls is =
      let next : 1 + n ≡ n + 1 = omega arith in
      ap (λ (l : List ℕ). step T m l (n + 1)) is ∙ ap (λ (i : ℕ). step T m (taken_to n) i) (sym next) ∙ sym (fold_push (step T m) [] (range_with_len 1 n) (1 + n)) ∙ ap (λ (l : List ℕ). fold (step T m) [] l) (sym (range_more 1 n))

  pub taken_yes : (p q leaf : ℕ) (old new : List ℕ) → leaf ≡ p + 1 → q ≡ p + 1 → old ≡ taken_to p → AreApart T m p old → list_all (λ k. nat_le m (leaf_dist T k leaf)) old ≡ true → new ≡ old ++ leaf ∷ [] → (new ≡ taken_to q) × AreApart T m q new
  taken_yes p q leaf old new leaf_is q_is so_far a passes is =
      let f : list_all (λ k. nat_le m (leaf_dist T k (p + 1))) old ≡ true = subst (λ (x : ℕ). list_all (λ k. nat_le m (leaf_dist T k x)) old ≡ true) leaf_is passes in
      let pushed : new ≡ old ++ (p + 1) ∷ [] = subst (λ (x : ℕ). new ≡ old ++ x ∷ []) leaf_is is in
      let stepped : step T m old (p + 1) ≡ old ++ (p + 1) ∷ [] = rw f in
      let whole : new ≡ taken_to (p + 1) = pushed ∙ sym stepped ∙ taken_more p old so_far in
      (subst (λ (x : ℕ). new ≡ taken_to x) (sym q_is) whole, subst (λ (x : ℕ). AreApart T m x new) (sym q_is) (subst (AreApart T m (p + 1)) (sym pushed) (apart_push p old a f)))

  pub taken_no : (p q leaf : ℕ) (old new : List ℕ) → leaf ≡ p + 1 → q ≡ p + 1 → old ≡ taken_to p → AreApart T m p old → list_all (λ k. nat_le m (leaf_dist T k leaf)) old ≡ false → new ≡ old → (new ≡ taken_to q) × AreApart T m q new
  taken_no p q leaf old new leaf_is q_is so_far a fails is =
      let f : list_all (λ k. nat_le m (leaf_dist T k (p + 1))) old ≡ false = subst (λ (x : ℕ). list_all (λ k. nat_le m (leaf_dist T k x)) old ≡ false) leaf_is fails in
      let stepped : step T m old (p + 1) ≡ old = rw f in
      let whole : new ≡ taken_to (p + 1) = is ∙ sym stepped ∙ taken_more p old so_far in
      (subst (λ (x : ℕ). new ≡ taken_to x) (sym q_is) whole, subst (λ (x : ℕ). AreApart T m x new) (sym q_is) (subst (AreApart T m (p + 1)) (sym is) (apart_keep p old a f)))

  pub taken_all : (n : ℕ) (leaves : List ℕ) → leaves ≡ taken_to n → n ≡ leaf_count T → leaves ≡ taken T m
  unfolding taken
  taken_all n leaves is all = is ∙ ap (λ (x : ℕ). taken_to x) all

  pub none_taken : (ls : List ℕ) → ls ≡ [] → (ls ≡ taken_to 0) × AreApart T m 0 ls
  none_taken ls none = (none, subst (AreApart T m 0) (sym none) none_apart)

  walk : (n : ℕ) → AreApart T m n (taken_to n)
  walk zero = none_apart
  walk (suc n) = elim (cases_Bool (list_all (λ k. nat_le m (leaf_dist T k (n + 1))) (taken_to n))) [
    | inl passes ↦ let r = taken_yes n (suc n) (n + 1) (taken_to n) (taken_to n ++ (n + 1) ∷ []) refl (omega arith) refl (walk n) passes refl in subst (AreApart T m (suc n)) r.0 r.1
    | inr fails ↦ let r = taken_no n (suc n) (n + 1) (taken_to n) (taken_to n) refl (omega arith) refl (walk n) fails refl in subst (AreApart T m (suc n)) r.0 r.1
  ]

  -- what is taken is a rising list of leaves that are far enough apart
  pub taken_apart : AreApart T m (leaf_count T) (taken T m)
  unfolding taken
  taken_apart = walk (leaf_count T)
