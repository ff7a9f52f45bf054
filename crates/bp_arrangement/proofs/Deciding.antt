-- What the tests of a swap read: the pairs from one on, their leaves, and what makes a swap admissible.
use Rattle.std.proofs.Common.{◌≡◌, ◌≢◌, ℕ, zero, suc, ◌+◌, ◌-◌, ◌<◌, ◌≤◌, List, [], ◌∷◌, length, get_or, take, drop, All, AllPairs, refl, sym, ◌∙◌, ap, subst, arith, drop-cons}
use Rattle.std.proofs.lemmas.Bool.{eq-eqb, ne_eqb}
use Rattle.std.proofs.lemmas.List.{at_drop_all, take_all, length-drop}
use Rattle.std.proofs.lemmas.List.Elements.{All-nil, All-cons, All-head, All-tail}
use Rattle.std.proofs.lemmas.List.Kept.{AllPairs-cons}
use Rattle.bp_base.specs.declared.path.Pair.{Pair}
use Rattle.bp_base.specs.Tree.{TreeValue, IsLeaf, leaf_count}
use Rattle.bp_arrangement.specs.Swaps.{IsSwap, leaves_of, sent}
use Rattle.bp_arrangement.specs.Tests.{AllDiffer, AreLeavesOf, IsApart, IsWithout, KeepsFrom}

abbrev pub no_pair : Pair
no_pair = record { i = 0; j = 0 }

-- the pair of this place, and the pairs behind it
pub from_place : (swap : List Pair) (at : ℕ) → at < length swap → drop at swap ≡ get_or swap at no_pair ∷ drop (at + 1) swap
from_place swap at less =
    let one : suc at ≡ at + 1 = omega arith in
    drop-cons swap at no_pair less ∙ ap (λ (n : ℕ). get_or swap at no_pair ∷ drop n swap) one

at_i : (p : Pair) (rest : List Pair) (k : ℕ) → k ≡ p.i → sent (p ∷ rest) k ≡ p.j
unfolding sent
at_i p rest k is = rw (eq-eqb k p.i is) refl

at_j : (p : Pair) (rest : List Pair) (k : ℕ) → k ≢ p.i → k ≡ p.j → sent (p ∷ rest) k ≡ p.i
unfolding sent
at_j p rest k not_i is = rw (ne_eqb k p.i not_i, eq-eqb k p.j is) refl

at_none : (p : Pair) (rest : List Pair) (k : ℕ) → k ≢ p.i → k ≢ p.j → sent (p ∷ rest) k ≡ sent rest k
unfolding sent
at_none p rest k not_i not_j = rw (ne_eqb k p.i not_i, ne_eqb k p.j not_j) refl

at_end : (k : ℕ) → sent [] k ≡ k
unfolding sent
at_end k = refl

module _ (swap : List Pair) (k at : ℕ) (so_far : sent swap k ≡ sent (drop at swap) k) where
  here : at < length swap → sent swap k ≡ sent (get_or swap at no_pair ∷ drop (at + 1) swap) k
  here less = so_far ∙ ap (λ (l : List Pair). sent l k) (from_place swap at less)

  pub goes_i : at < length swap → k ≡ (get_or swap at no_pair).i → (get_or swap at no_pair).j ≡ sent swap k
  goes_i less is = sym (here less ∙ at_i (get_or swap at no_pair) (drop (at + 1) swap) k is)

  pub goes_j : at < length swap → k ≢ (get_or swap at no_pair).i → k ≡ (get_or swap at no_pair).j → (get_or swap at no_pair).i ≡ sent swap k
  goes_j less not_i is = sym (here less ∙ at_j (get_or swap at no_pair) (drop (at + 1) swap) k not_i is)

  pub goes_on : at < length swap → k ≢ (get_or swap at no_pair).i → k ≢ (get_or swap at no_pair).j → sent swap k ≡ sent (drop (at + 1) swap) k
  goes_on less not_i not_j = here less ∙ at_none (get_or swap at no_pair) (drop (at + 1) swap) k not_i not_j

  pub goes_nowhere : length swap ≤ at → k ≡ sent swap k
  goes_nowhere past = sym (so_far ∙ at_drop_all (λ l. sent l k) swap at past ∙ at_end k)

-- what holds of both leaves of each pair holds of each leaf that the swap names
pub pairs_leaves : (C : ℕ → Type 0) (swap : List Pair) → All (λ (p : Pair). C p.i × C p.j) swap → All C (leaves_of swap)
pairs_leaves C [] each = All-nil C
pairs_leaves C (p ∷ rest) each =
    let both = All-head (λ (r : Pair). C r.i × C r.j) p rest each in
    let more = pairs_leaves C rest (All-tail (λ (r : Pair). C r.i × C r.j) p rest each) in
    All-cons C p.i (p.j ∷ leaves_of rest) both.0 (All-cons C p.j (leaves_of rest) both.1 more)

pub leaves_pairs : (C : ℕ → Type 0) (swap : List Pair) → All C (leaves_of swap) → All (λ (p : Pair). C p.i × C p.j) swap
leaves_pairs C [] each = All-nil (λ (r : Pair). C r.i × C r.j)
leaves_pairs C (p ∷ rest) each =
    let more = All-tail C p.i (p.j ∷ leaves_of rest) each in
    All-cons (λ (r : Pair). C r.i × C r.j) p rest (All-head C p.i (p.j ∷ leaves_of rest) each, All-head C p.j (leaves_of rest) more) (leaves_pairs C rest (All-tail C p.j (leaves_of rest) more))

-- the pair's leaves differ, and no later pair names them
abbrev pub IsFirst : Pair → List Pair → Type 0
IsFirst p rest = (p.i ≢ p.j) × All (IsWithout p.i) rest × All (IsWithout p.j) rest

other : (k : ℕ) (rest : List Pair) → All (IsWithout k) rest → All (λ l. k ≢ l) (leaves_of rest)
other k rest each i d less same = pairs_leaves (λ l. l ≢ k) rest each i d less (sym same)

without : (k : ℕ) (rest : List Pair) → All (λ l. k ≢ l) (leaves_of rest) → All (IsWithout k) rest
without k rest each = leaves_pairs (λ l. l ≢ k) rest (λ i d less same. each i d less (sym same))

differ_more : (p : Pair) (rest : List Pair) → IsFirst p rest → AllDiffer rest → AllDiffer (p ∷ rest)
differ_more p rest first differ =
    AllPairs-cons (λ i j. i ≢ j) p.i (p.j ∷ leaves_of rest) (All-cons (λ l. p.i ≢ l) p.j (leaves_of rest) first.0 (other p.i rest first.1)) (AllPairs-cons (λ i j. i ≢ j) p.j (leaves_of rest) (other p.j rest first.2) differ)

pairs_tail : (x : ℕ) (xs : List ℕ) → AllPairs (λ i j. i ≢ j) (x ∷ xs) → AllPairs (λ i j. i ≢ j) xs
pairs_tail x xs h i j d ij less = h (suc i) (suc j) d (omega arith) (omega arith)

pairs_head : (x : ℕ) (xs : List ℕ) → AllPairs (λ i j. i ≢ j) (x ∷ xs) → All (λ l. x ≢ l) xs
pairs_head x xs h k d less = h 0 (suc k) d (omega arith) (omega arith)

differ_first : (p : Pair) (rest : List Pair) → AllDiffer (p ∷ rest) → IsFirst p rest
differ_first p rest differ =
    let heads = pairs_head p.i (p.j ∷ leaves_of rest) differ in
    let more = pairs_tail p.i (p.j ∷ leaves_of rest) differ in
    (All-head (λ l. p.i ≢ l) p.j (leaves_of rest) heads, without p.i rest (All-tail (λ l. p.i ≢ l) p.j (leaves_of rest) heads), without p.j rest (pairs_head p.j (leaves_of rest) more))

differ_drop : (swap : List Pair) (at : ℕ) → AllDiffer swap → AllDiffer (drop at swap)
differ_drop swap zero differ = differ
differ_drop [] (suc at) differ = differ
differ_drop (p ∷ rest) (suc at) differ = differ_drop rest at (pairs_tail p.j (leaves_of rest) (pairs_tail p.i (p.j ∷ leaves_of rest) differ))

-- the pairs behind this place, as the code has them
abbrev pub later : List Pair → ℕ → List Pair
later swap at = take (length swap - (at + 1)) (drop (at + 1) swap)

later_is : (swap : List Pair) (at : ℕ) → later swap at ≡ drop (at + 1) swap
later_is swap at = take_all (length swap - (at + 1)) (drop (at + 1) swap) (omega (arith, length-drop (at + 1) swap))

module _ (swap : List Pair) (at : ℕ) (less : at < length swap) where
  pub differ_at : AllDiffer swap → IsFirst (get_or swap at no_pair) (later swap at)
  differ_at differ = subst (IsFirst (get_or swap at no_pair)) (sym (later_is swap at)) (differ_first (get_or swap at no_pair) (drop (at + 1) swap) (subst AllDiffer (from_place swap at less) (differ_drop swap at differ)))

  pub differ_step : IsFirst (get_or swap at no_pair) (later swap at) → AllDiffer (drop (at + 1) swap) → AllDiffer (drop at swap)
  differ_step first differ = subst AllDiffer (sym (from_place swap at less)) (differ_more (get_or swap at no_pair) (drop (at + 1) swap) (subst (IsFirst (get_or swap at no_pair)) (later_is swap at) first) differ)

module _ (T : TreeValue) (n : ℕ) (swap : List Pair) (counted : n ≡ leaf_count T) where
  pub leaves_from : All (AreLeavesOf n) swap → All (IsLeaf T) (leaves_of swap)
  leaves_from each k d less = let h = pairs_leaves (λ l. (1 ≤ l) × (l ≤ n)) swap each k d less in (h.0, omega (arith, h.1, counted))

  pub leaves_to : All (IsLeaf T) (leaves_of swap) → All (AreLeavesOf n) swap
  leaves_to leaves = leaves_pairs (λ l. (1 ≤ l) × (l ≤ n)) swap (λ k d less. let l = leaves k d less in (l.0, omega (arith, l.1, counted)))

  pub swap_from : 1 ≤ length swap → length swap ≤ 16 → All (AreLeavesOf n) swap → AllDiffer swap → ((i : ℕ) → IsLeaf T i → KeepsFrom T swap i) → IsSwap T swap
  swap_from some few each differ keeps = record {
    some = some;
    few = few;
    leaves = leaves_from each;
    differ = differ;
    keeps = λ i j i_leaf j_leaf. keeps i i_leaf j j_leaf;
  }

-- no pair names A or B exactly where no leaf that the swap names is A or B
pub apart_leaves : (A B : ℕ) (swap : List Pair) → All (IsApart A B) swap → All (λ k. (k ≢ A) × (k ≢ B)) (leaves_of swap)
apart_leaves A B swap each = pairs_leaves (λ k. (k ≢ A) × (k ≢ B)) swap each

pub leaves_apart : (A B : ℕ) (swap : List Pair) → All (λ k. (k ≢ A) × (k ≢ B)) (leaves_of swap) → All (IsApart A B) swap
leaves_apart A B swap each = leaves_pairs (λ k. (k ≢ A) × (k ≢ B)) swap each
