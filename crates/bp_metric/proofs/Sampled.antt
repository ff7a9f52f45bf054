-- Trees that are written out are trees.
use Rattle.std.proofs.Common.{◌≡◌, ◌≢◌, inl, inr, ℕ, ◌+◌, ◌-◌, ◌<◌, ◌≤◌, Bool, true, false, ◌&&◌, ◌||◌, ◌==◌, List, [], ◌∷◌, ◌++◌, length, get_or, drop, All, AllPairs, refl, sym, ◌∙◌, ap, subst, arith}
use Rattle.std.specs.Prelude.{nat_le, nat_lt, count_by}
use Rattle.std.specs.List.{list_all, range_with_len}
use Rattle.std.proofs.lemmas.Bool.{cases_lt, leb-true, ltb-true, le-leb, eqb-true, true≢false}
use Rattle.std.proofs.lemmas.List.{get_or_past}
use Rattle.std.proofs.lemmas.List.FromFn.{length-range_with_len, get_or-range_with_len, length-map-range_with_len, get_or-map-range_with_len, map-range_with_len_more}
use Rattle.std.proofs.lemmas.List.Sums.{AllPass-from_list_all}
use Rattle.bp_base.specs.Limits.{most_leaves, most_length}
use Rattle.bp_base.specs.Name.{IsName, is_name_byte}
use Rattle.bp_base.specs.Tree.{IsTree, leaf_count}
use Rattle.bp_metric.specs.Samples.{letters, sample, is_sample}

both : (a b : Bool) → (a && b) ≡ true → (a ≡ true) × (b ≡ true)
both true b e = (refl, e)
both false b e = absurd (true≢false (sym e))

either : (a b : Bool) → a ≡ true → (a || b) ≡ true
either a b e = rw e refl

-- a test of each number from 1 to n - 1
each : (p : ℕ → Bool) (n k : ℕ) → list_all p (range_with_len 1 (n - 1)) ≡ true → 0 < k → k < n → p k ≡ true
each p n k passes above below =
    let all = AllPass-from_list_all p (range_with_len 1 (n - 1)) passes (k - 1) 0 (omega (arith, length-range_with_len 1 (n - 1))) in
    let at : get_or (range_with_len 1 (n - 1)) (k - 1) 0 ≡ k = get_or-range_with_len 1 (n - 1) (k - 1) 0 (omega arith) ∙ (omega arith) in
    subst (λ (x : ℕ). p x ≡ true) at all

pub letter : (k : ℕ) → 97 ≤ k → k ≤ 122 → IsName (k ∷ [])
letter k low high =
    let spelled : is_name_byte k ≡ true =
    (let a = le-leb 97 k low in let b = le-leb k 122 high in rw (a, b) refl)
    in record {
      some = omega arith;
      short = omega arith;
      spelled = λ i d less. let first : i ≡ 0 = omega arith in subst (λ (x : ℕ). is_name_byte (get_or (k ∷ []) x d) ≡ true) (sym first) spelled;
    }

letters_spelled : (n : ℕ) → n ≤ 26 → All IsName (letters n)
letters_spelled n few k d less =
    let within : k < n = omega (arith, length-map-range_with_len (λ (x : ℕ). x ∷ []) 97 n) in
    subst IsName (sym (get_or-map-range_with_len (λ (x : ℕ). x ∷ []) 97 n k (97 + k) d within refl)) (letter (97 + k) (omega arith) (omega arith))

letters_differ : (n : ℕ) → AllPairs (λ a b. a ≢ b) (letters n)
letters_differ n i j d ij less same =
    let within : j < n = omega (arith, length-map-range_with_len (λ (x : ℕ). x ∷ []) 97 n) in
    let a = get_or-map-range_with_len (λ (x : ℕ). x ∷ []) 97 n i (97 + i) d (omega arith) refl in
    let b = get_or-map-range_with_len (λ (x : ℕ). x ∷ []) 97 n j (97 + j) d within refl in
    let heads : 97 + i ≡ 97 + j = ap (λ (l : List ℕ). get_or l 0 0) (sym a ∙ same ∙ b) in
    omega (arith, heads)

small_at : (lengths : List ℕ) → list_all (λ n. nat_le n most_length) lengths ≡ true → (k : ℕ) → get_or lengths k 0 ≤ most_length
small_at lengths passes k = elim (cases_lt k (length lengths)) [
  | inl within ↦ leb-true (get_or lengths k 0) most_length (AllPass-from_list_all (λ n. nat_le n most_length) lengths passes k 0 within)
  | inr outside ↦ omega (arith, get_or_past lengths k 0 outside)
]

pub sample_tree : (parents lengths : List ℕ) → is_sample parents lengths ≡ true → IsTree (sample parents lengths)
sample_tree parents lengths passes =
    let n = length parents in
    let T = sample parents lengths in
    let c10 = both _ (nat_le (leaf_count T) most_leaves) passes in
    let c9 = both _ (nat_le 2 (leaf_count T)) c10.0 in
    let c8 = both _ (nat_le 2 (count_by (λ p. p == 0) (drop 1 parents))) c9.0 in
    let c7 = both _ (list_all (λ k. nat_le k most_length) lengths) c8.0 in
    let c6 = both _ (list_all (λ k. nat_le 1 (get_or lengths k 0)) (range_with_len 1 (n - 1))) c7.0 in
    let c5 = both _ (list_all (λ k. nat_lt (get_or parents k 0) k) (range_with_len 1 (n - 1))) c6.0 in
    let c4 = both _ (get_or lengths 0 0 == 0) c5.0 in
    let c3 = both _ (get_or parents 0 0 == 0) c4.0 in
    let c2 = both (length lengths == n) (nat_le n 26) c3.0 in
    let few = leb-true n 26 c2.1 in
    record {
      lengths_as_parents = eqb-true (length lengths) n c2.0;
      names_as_parents = length-map-range_with_len (λ (x : ℕ). x ∷ []) 97 n;
      root_parent = eqb-true (get_or parents 0 0) 0 c3.1;
      root_length = eqb-true (get_or lengths 0 0) 0 c4.1;
      parents_before = λ k above below. ltb-true (get_or parents k 0) k (each (λ x. nat_lt (get_or parents x 0) x) n k c5.1 above below);
      lengths_positive = λ k above below. leb-true 1 (get_or lengths k 0) (each (λ x. nat_le 1 (get_or lengths x 0)) n k c6.1 above below);
      lengths_small = small_at lengths c7.1;
      names_spelled = letters_spelled n few;
      names_differ = letters_differ n;
      nodes = omega (arith, few);
      root_children = leb-true 2 (count_by (λ p. p == 0) (drop 1 parents)) c8.1;
      leaves_enough = leb-true 2 (leaf_count T) c9.1;
      leaves_few = leb-true (leaf_count T) most_leaves c10.1;
    }

-- as the code has the lists
pub made_tree : (parents lengths ps ls : List ℕ) (names : List (List ℕ)) (n : ℕ) → is_sample parents lengths ≡ true → ps ≡ parents → ls ≡ lengths → names ≡ letters n → n ≡ length parents → IsTree (record { parents = ps; lengths = ls; names = names })
made_tree parents lengths ps ls names n passes ps_is ls_is names_is all =
    let same : record { parents = ps; lengths = ls; names = names } ≡ sample parents lengths = let ns : names ≡ letters (length parents) = names_is ∙ ap letters all in λ i. record { parents = ps_is i; lengths = ls_is i; names = ns i } in
    subst IsTree (sym same) (sample_tree parents lengths passes)

pub letters_more : (n : ℕ) (names new : List (List ℕ)) (name : List ℕ) → names ≡ letters n → name ≡ (97 + n) ∷ [] → new ≡ names ++ name ∷ [] → new ≡ letters (n + 1)
letters_more n names new name so_far is pushed =
    pushed ∙ ap (λ (l : List (List ℕ)). l ++ name ∷ []) so_far ∙ ap (λ (x : List ℕ). letters n ++ x ∷ []) is ∙ sym (map-range_with_len_more (λ (x : ℕ). x ∷ []) 97 n (97 + n) refl)
