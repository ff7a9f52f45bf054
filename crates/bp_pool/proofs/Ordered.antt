-- Hands that are sorted by their numbers stand in order.
use Rattle.std.proofs.Common.{◌≡◌, ℕ, zero, suc, ◌+◌, ◌<◌, ◌≤◌, cond, nat_lt, List, [], ◌∷◌, ◌++◌, length, map, take, get_or, refl, sym, ◌∙◌, ap, arith, inl, inr, ◌⊎◌}
use Rattle.std.specs.List.{range_with_len, sum_by, flat_map}
use Rattle.std.specs.List.Sorted.{IsPermutation, IsNonDecreasingBy}
use Rattle.std.proofs.lemmas.List.{length-map, get_or-map}
use Rattle.std.proofs.lemmas.List.FromFn.{length-range_with_len}
use Rattle.std.proofs.lemmas.List.Sorted.{sum_by-IsPermutation, All-permutation, length_permutation}
use Rattle.std.proofs.lemmas.List.Sums.{sum_by-cons}
use Rattle.std.proofs.lemmas.Bool.{cases_lt, lt-ltb, le-ltb}
use Rattle.bp_base.specs.Bags.{AreSame}
use Rattle.bp_base.proofs.Bags.{sum_by-map, sum_by-flat_map}
use Rattle.bp_base.specs.declared.record.Task.{Task}
use Rattle.bp_pool.specs.Rest.{PoolView}
use Rattle.bp_pool.specs.Hands.{HandView}
use Rattle.bp_pool.specs.Opens.{IsNewPool}
use Rattle.bp_pool.specs.Rows.{AreKept, IsWhole, IsInOrder}

-- 1 for a number below a, and else 0
abbrev under : ℕ → ℕ → ℕ
under a x = cond (nat_lt x a) 1 0

under_yes : (a x : ℕ) → x < a → under a x ≡ 1
under_yes a x less = rw (lt-ltb x a less) refl

under_no : (a x : ℕ) → a ≤ x → under a x ≡ 0
under_no a x most = rw (le-ltb x a most) refl

none_under : (a s n : ℕ) → a ≤ s → sum_by (under a) (range_with_len s n) ≡ 0
none_under a s zero from = refl
none_under a s (suc n) from = omega (arith, sum_by-cons (under a) s (range_with_len (s + 1) n), under_no a s from, none_under a (s + 1) n (omega (arith, from)))

-- in a rising list whose first number is above a no number is at most a
none_low : (a : ℕ) (xs : List ℕ) → ((k : ℕ) → k < length xs → a < get_or xs k 0) → sum_by (under (a + 1)) xs ≡ 0
none_low a [] all = refl
none_low a (x ∷ xs) all =
    omega (arith, sum_by-cons (under (a + 1)) x xs, under_no (a + 1) x (omega (arith, all 0 (omega arith))), none_low a xs (λ k less. all (suc k) (omega arith)))

abbrev Rises : List ℕ → Type 0
Rises xs = (i j : ℕ) → i ≤ j → j < length xs → get_or xs i 0 ≤ get_or xs j 0

-- a rising list of the numbers from a on, each as often, is that range
sorted_range : (xs : List ℕ) (a n : ℕ) → Rises xs → AreSame xs (range_with_len a n) → xs ≡ range_with_len a n
sorted_range [] a zero rises same = refl
sorted_range [] a (suc n) rises same =
    absurd (omega (arith, same (λ x. 1), sum_by-cons (λ (x : ℕ). 1) a (range_with_len (a + 1) n)))
sorted_range (x ∷ xs) a zero rises same = absurd (omega (arith, same (λ x. 1), sum_by-cons (λ (x : ℕ). 1) x xs))
sorted_range (x ∷ xs) a (suc n) rises same =
    let first : x ≡ a = elim (cases_lt x a) [
      | inl below ↦ absurd (omega (arith, same (under a), sum_by-cons (under a) x xs, under_yes a x below, none_under a a (suc n) (omega arith)))
      | inr from ↦ elim (cases_lt a x) [
        | inl above ↦
            absurd (omega (arith, same (under (a + 1)), none_low a (x ∷ xs) (λ k less. omega (arith, above, rises 0 k (omega arith) less)), sum_by-cons (under (a + 1)) a (range_with_len (a + 1) n), under_yes (a + 1) a (omega arith)))
        | inr most ↦ omega (arith, from, most)
      ]
    ] in
    let rest : AreSame xs (range_with_len (a + 1) n) = λ h. omega (arith, same h, sum_by-cons h x xs, sum_by-cons h a (range_with_len (a + 1) n), ap h first) in
    let tail = sorted_range xs (a + 1) n (λ i j less within. rises (suc i) (suc j) (omega (arith, less)) (omega (arith, within))) rest in
    λ i. first i ∷ tail i

range_at : (a n k d : ℕ) → k < n → get_or (range_with_len a n) k d ≡ a + k
range_at a zero k d less = absurd (omega (arith, less))
range_at a (suc n) zero d less = omega arith
range_at a (suc n) (suc k) d less = omega (arith, range_at (a + 1) n k d (omega (arith, less)))

abbrev pub number : HandView → ℕ
number v = v.number

-- sorted by their numbers, all hands stand in order
pub sorted_in_order : (old new : List HandView) → IsPermutation old new → IsNonDecreasingBy number new → (pool : PoolView) → IsWhole pool old → IsInOrder pool new
sorted_in_order old new moved rises pool whole =
    let n = length pool.deques in
    let numbers : map number new ≡ range_with_len 1 n = sorted_range (map number new) 1 n rising same in
    let long : length new ≡ n = sym (length-map new number) ∙ ap length numbers ∙ length-range_with_len 1 n in
    record {
      some = omega (arith, whole.some, length_permutation old new moved);
      count = long;
      each = λ k d less. (All-permutation (λ (v : HandView). v.pool ≡ pool) old new moved whole.of_pool k d less, sym (get_or-map number new k d 0 less) ∙ ap (λ (l : List ℕ). get_or l k 0) numbers ∙ range_at 1 n k 0 (omega (arith, less, long)) ∙ omega arith);
    }
  where
    same : AreSame (map number new) (range_with_len 1 (length pool.deques))
    same h =
        sum_by-map h number new ∙ sum_by-IsPermutation (λ (v : HandView). h v.number) old new moved ∙ sym (sum_by-map h number old) ∙ whole.numbers h

    rising : Rises (map number new)
    rising i j less within =
        let long : length (map number new) ≡ length new = length-map new number in
        go i j less (omega (arith, within, long))
      where
        go : (i j : ℕ) → i ≤ j → j < length new → get_or (map number new) i 0 ≤ get_or (map number new) j 0
        go i j less within = elim (first_of new refl) [
          | inl none ↦ absurd (omega (arith, within, ap length none))
          | inr some ↦
              omega (arith, get_or-map number new i some.0 0 (omega (arith, less, within)), get_or-map number new j some.0 0 within, rises i j some.0 less within)
        ]
          where
            first_of : (l : List HandView) → new ≡ l → (new ≡ []) ⊎ ((v : HandView) × (new ≡ l))
            first_of [] e = inl e
            first_of (v ∷ l) e = inr (v, e)

-- what hands pushed and took is the same in any order
pub moved_same : {X : Type 0} (old new : List HandView) (f : HandView → List X) → IsPermutation old new → AreSame (flat_map f new) (flat_map f old)
moved_same old new f moved h =
    sum_by-flat_map h f new ∙ sum_by-IsPermutation (λ (v : HandView). sum_by h (f v)) old new moved ∙ sym (sum_by-flat_map h f old)

-- hands with the numbers from s on
numbered : (vs : List HandView) (s n : ℕ) → length vs ≡ n → ((k : ℕ) (d : HandView) → k < length vs → (get_or vs k d).number ≡ s + k) → map number vs ≡ range_with_len s n
numbered [] s zero long each = refl
numbered [] s (suc n) long each = absurd (omega (arith, long))
numbered (v ∷ vs) s zero long each = absurd (omega (arith, long))
numbered (v ∷ vs) s (suc n) long each =
    let first : v.number ≡ s = omega (arith, each 0 v (omega arith)) in
    let rest = numbered vs (s + 1) n (omega (arith, long)) (λ k d less. omega (arith, each (suc k) d (omega (arith, less)))) in
    λ i. first i ∷ rest i

-- hands of a new pool that stay in their places are all hands of it
pub whole_of_new : (hands leaves : ℕ) (root : Task) (all later : List HandView) (new : IsNewPool hands leaves root all) → 0 < hands → AreKept all later → IsWhole new.pool later
whole_of_new hands leaves root all later new some kept = record {
  some = omega (arith, some, kept.long, new.count);
  of_pool = λ k d less. (kept.each k d (omega (arith, less, kept.long))).0 ∙ ap (λ (v : HandView). v.pool) (new.each k d (omega (arith, less, kept.long, new.count)));
  numbers = λ h. ap (sum_by h) numbers;
}
  where
    at : (k : ℕ) (d : HandView) → k < hands → (get_or later k d).number ≡ 1 + k
    at k d less =
        let from_all : k < length all = omega (arith, less, new.count) in
        (kept.each k d from_all).1 ∙ ap (λ (v : HandView). v.number) (new.each k d less) ∙ omega arith

    numbers : map number later ≡ range_with_len 1 (length new.pool.deques)
    numbers = numbered later 1 (length new.pool.deques) (omega (arith, kept.long, new.count)) (λ k d less. at k d (omega (arith, less, kept.long, new.count)))

-- what a slice wrote stands before the rest
pub take_front : {X : Type 0} (xs rest : List X) (n : ℕ) → length xs ≡ n → take n (xs ++ rest) ≡ xs
take_front [] rest zero long = refl
take_front [] rest (suc n) long = absurd (omega (arith, long))
take_front (x ∷ xs) rest zero long = absurd (omega (arith, long))
take_front (x ∷ xs) rest (suc n) long = ap (λ l. x ∷ l) (take_front xs rest n (omega (arith, long)))
