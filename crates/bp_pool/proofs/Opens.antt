-- The deques of a pool are dealt out.
use Rattle.std.proofs.Common.{◌≡◌, ◌≢◌, ℕ, zero, suc, ◌+◌, ◌<◌, ◌≤◌, List, [], ◌∷◌, ◌++◌, length, set, get_or, drop, take, All, sym, refl, ap, ◌∙◌, subst, arith}
use Rattle.std.specs.List.{range_with_len, flat_map, sum_by}
use Rattle.bp_base.specs.declared.record.Task.{Task}
use Rattle.bp_pool.specs.declared.deque.Deeds.{Deeds}
use Rattle.bp_pool.specs.declared.deque.Rights.{Rights}
use Rattle.bp_pool.specs.Shares.{untouched, rest_of, pushed_of}
use Rattle.crossbeam_deque.specs.Handles.{worker_deque}
use Rattle.bp_pool.specs.Kept.{Deque}
use Rattle.bp_pool.specs.Opens.{ids_of}
use Rattle.std.proofs.lemmas.List.{get_or-set_same, get_or-set_other}
use Rattle.std.proofs.lemmas.List.Elements.{All-append}
use mathlib.Core.Logic.{dite}
use native.Mathlib.Decide.{ℕ_discrete}

plus_one : (n : ℕ) → n + 1 ≡ suc n
plus_one n = omega arith

-- a right is cut off
pub cut_rest : (n : ℕ) → 0 < n → rest_of (untouched (n + 1)) ≡ untouched n
cut_rest zero more = absurd (omega (arith, more))
cut_rest (suc n) more = ap (λ (k : ℕ). rest_of (untouched k)) (plus_one (suc n))

pub cut_one : (n : ℕ) → 0 < n → take 1 (drop 1 (untouched (n + 1))) ≡ untouched 1
cut_one zero more = absurd (omega (arith, more))
cut_one (suc n) more = ap (λ (k : ℕ). take 1 (drop 1 (untouched k))) (plus_one (suc n))

pub untouched_count : (n : ℕ) → length (untouched n) ≡ n
untouched_count zero = refl
untouched_count (suc n) = omega (arith, untouched_count n)

range_suc : (a n : ℕ) → range_with_len a (suc n) ≡ range_with_len a n ++ (a + n) ∷ []
range_suc a zero = let e : a ≡ a + 0 = omega arith in ap (λ (k : ℕ). k ∷ []) e
range_suc a (suc n) = let e : a + 1 + n ≡ a + suc n = omega arith in ap (λ (l : List ℕ). a ∷ l) (range_suc (a + 1) n ∙ ap (λ (k : ℕ). range_with_len (a + 1) n ++ k ∷ []) e)

pub range_more : (n : ℕ) → range_with_len 0 (n + 1) ≡ range_with_len 0 n ++ n ∷ []
range_more n = let e : 0 + n ≡ n = omega arith in ap (range_with_len 0) (plus_one n) ∙ range_suc 0 n ∙ ap (λ (k : ℕ). range_with_len 0 n ++ k ∷ []) e

take_suc : {X : Type 0} (xs : List X) (j : ℕ) (x : X) → j < length xs → get_or xs j x ≡ x → take (suc j) xs ≡ take j xs ++ x ∷ []
take_suc [] j x lt at = absurd (omega (arith, lt))
take_suc (y ∷ ys) zero x lt at = ap (λ z. z ∷ []) at
take_suc (y ∷ ys) (suc j) x lt at = ap (λ l. y ∷ l) (take_suc ys j x (omega (arith, lt)) at)

pub take_more : {X : Type 0} (xs : List X) (j : ℕ) (x : X) → j < length xs → get_or xs j x ≡ x → take (j + 1) xs ≡ take j xs ++ x ∷ []
take_more xs j x lt at = ap (λ (k : ℕ). take k xs) (plus_one j) ∙ take_suc xs j x lt at

-- one more element is done
pub done_more : {X : Type 0} (P : X → Type 0) (xs : List X) (j : ℕ) (x : X) → j < length xs → ((i : ℕ) (d : X) → i < j → P (get_or xs i d)) → P x → (i : ℕ) (d : X) → i < j + 1 → P (get_or (set xs j x) i d)
done_more P xs j x in_range done here i d lt = dite (ℕ_discrete i j)
    (λ (e : i ≡ j). subst (λ (k : ℕ). P (get_or (set xs j x) k d)) (sym e) (subst P (sym (get_or-set_same xs j x d in_range)) here))
    (λ (other : i ≢ j). subst P (sym (get_or-set_other xs j i x d other)) (done i d (omega (arith, lt, other))))

pub todo_less : {X : Type 0} (P : X → Type 0) (xs : List X) (j n : ℕ) (x : X) → ((i : ℕ) (d : X) → j ≤ i → i < n → P (get_or xs i d)) → (i : ℕ) (d : X) → j + 1 ≤ i → i < n → P (get_or (set xs j x) i d)
todo_less P xs j n x todo i d ge lt = let other : i ≢ j = λ (e : i ≡ j). absurd (omega (arith, ge, e)) in subst P (sym (get_or-set_other xs j i x d other)) (todo i d (omega (arith, ge)) lt)

pub all_push : {X : Type 0} (P : X → Type 0) (xs : List X) (x : X) → All P xs → P x → All P (xs ++ x ∷ [])
all_push P xs x all here = All-append P xs (x ∷ []) all one
  where
    one : All P (x ∷ [])
    one zero d lt = here
    one (suc k) d lt = absurd (omega (arith, lt))

pub take_all : {X : Type 0} (xs : List X) (n : ℕ) → length xs ≡ n → take n xs ≡ xs
take_all [] zero e = refl
take_all [] (suc n) e = refl
take_all (x ∷ xs) zero e = absurd (omega (arith, e))
take_all (x ∷ xs) (suc n) e = ap (λ l. x ∷ l) (take_all xs n (omega (arith, e)))

pub id_at : (ws : List Deque) (i : ℕ) (w : Deque) → i < length ws → get_or ws i w ≡ w → get_or (ids_of ws) i (worker_deque w) ≡ worker_deque w
id_at [] i w lt at = absurd (omega arith)
id_at (v ∷ vs) zero w lt at = ap (λ (u : Deque). worker_deque u) at
id_at (v ∷ vs) (suc i) w lt at = id_at vs i w (omega (arith, lt)) at

-- nothing is pushed under a new right
pub untouched_push : (each : ℕ) (v : Rights) → v.deeds ≡ untouched each → (h : Task → ℕ) → sum_by h (pushed_of v) ≡ 0
untouched_push each v is h = ap (λ (ds : List Deeds). sum_by h (flat_map (λ (d : Deeds). d.pushed) ds)) is ∙ none each h
  where
    none : (n : ℕ) (h : Task → ℕ) → sum_by h (flat_map (λ (d : Deeds). d.pushed) (untouched n)) ≡ 0
    none zero h = refl
    none (suc n) h = none n h
