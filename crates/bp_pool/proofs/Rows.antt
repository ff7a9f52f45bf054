-- A deque of a pool takes a pass back.
use Rattle.std.proofs.Common.{◌≡◌, ◌≢◌, ℕ, zero, suc, ◌+◌, ◌<◌, List, [], ◌∷◌, ◌++◌, length, set, get_or, All, slice_get, slice_index, Some, sym, refl, ap, ◌∙◌, subst, arith, cond, eq-eqb, ne_eqb, Bool, length-append}
use Rattle.std.specs.List.{sum_by}
use Rattle.std.proofs.lemmas.List.{map-set, length-map}
use Rattle.std.proofs.lemmas.List.Sums.{sum_by-set}
use mathlib.Core.Logic.{dite}
use native.Mathlib.Decide.{ℕ_discrete}
use Rattle.crossbeam_deque.specs.Handles.{view, worker_deque, worker_view}
use Rattle.bp_base.specs.declared.record.Task.{Task}
use Rattle.bp_pool.specs.declared.hand.Theft.{Theft}
use Rattle.bp_pool.specs.declared.deque.Rights.{Rights}
use Rattle.bp_pool.specs.Shares.{count_of, pushed_of, taken_of, both, Works}
use Rattle.bp_pool.specs.Rows.{counts_of, all_pushed, all_taken, IsOwner, AreOwners, rights_at, pushed_in, taken_in}
use Rattle.bp_pool.specs.Rest.{DequeId}
use Rattle.bp_pool.specs.Kept.{Deque}
use Rattle.bp_pool.specs.Opens.{ids_of}
use Rattle.bp_pool.proofs.Deques.{p_append, t_append}

-- the last pass of a list
pub last_of : (P : Theft → Type 0) (ps qs : List Theft) (p : Theft) → ps ≡ qs ++ p ∷ [] → All P ps → All P qs × P p
last_of P ps qs p is all = go P qs p (subst (All P) is all)
  where
    cons : (P : Theft → Type 0) (q : Theft) (qs : List Theft) → P q → All P qs → All P (q ∷ qs)
    cons P q qs here rest zero d lt = here
    cons P q qs here rest (suc k) d lt = rest k d (omega arith)

    go : (P : Theft → Type 0) (qs : List Theft) (p : Theft) → All P (qs ++ p ∷ []) → All P qs × P p
    go P [] p all = ((λ k d lt. absurd (omega arith)), all 0 p (omega arith))
    go P (q ∷ qs) p all = let rest = go P qs p (λ k d lt. all (suc k) d (omega arith)) in (cons P q qs (all 0 q (omega arith)) rest.0, rest.1)

pub id_at : (ws : List Deque) (i : ℕ) (w : Deque) (id : DequeId) → i < length ws → get_or ws i w ≡ w → slice_get (ids_of ws) i ≡ Some id → worker_deque w ≡ id
id_at [] i w id lt at is = absurd (omega arith)
id_at (x ∷ xs) zero w id lt at is = sym (ap worker_deque at) ∙ some_same is
  where
    some_same : Some (worker_deque x) ≡ Some id → worker_deque x ≡ id
    some_same e = cc
id_at (x ∷ xs) (suc i) w id lt at is = id_at xs i w id (omega arith) at is

pub owners_set : (ws : List Deque) (i : ℕ) (w : Deque) → AreOwners ws → IsOwner w → AreOwners (set ws i w)
owners_set [] i w all new k d lt = all k d lt
owners_set (x ∷ xs) zero w all new zero d lt = new
owners_set (x ∷ xs) zero w all new (suc k) d lt = all (suc k) d lt
owners_set (x ∷ xs) (suc i) w all new zero d lt = all 0 d (omega arith)
owners_set (x ∷ xs) (suc i) w all new (suc k) d lt = owners_set xs i w (λ j e l. all (suc j) e (omega arith)) new k d (omega arith)

rights_here : (i : ℕ) (u : Theft) → u.place ≡ i → rights_at i u ≡ count_of (view u.pass)
rights_here i u place = ap (λ (b : Bool). cond b (count_of (view u.pass)) 0) (eq-eqb u.place i place)

rights_else : (j : ℕ) (u : Theft) → u.place ≢ j → rights_at j u ≡ 0
rights_else j u apart = ap (λ (b : Bool). cond b (count_of (view u.pass)) 0) (ne_eqb u.place j apart)

count_both : (v w : Rights) → count_of (both v w) ≡ count_of v + count_of w
count_both v w = length-append v.deeds w.deeds

counted_at : (ws : List Deque) (i : ℕ) (w : Deque) → i < length ws → get_or ws i w ≡ w → slice_index (counts_of ws) i ≡ count_of (worker_view w)
counted_at [] i w lt at = absurd (omega arith)
counted_at (x ∷ xs) zero w lt at = ap (λ (y : Deque). count_of (worker_view y)) at
counted_at (x ∷ xs) (suc i) w lt at = counted_at xs i w (omega arith) at

set_at : (ns : List ℕ) (i n : ℕ) → i < length ns → slice_index (set ns i n) i ≡ n
set_at [] i n lt = absurd (omega arith)
set_at (m ∷ ms) zero n lt = refl
set_at (m ∷ ms) (suc i) n lt = set_at ms i n (omega arith)

set_else : (ns : List ℕ) (i j n : ℕ) → j ≢ i → slice_index (set ns i n) j ≡ slice_index ns j
set_else [] i j n apart = refl
set_else (m ∷ ms) zero zero n apart = absurd (apart refl)
set_else (m ∷ ms) zero (suc j) n apart = refl
set_else (m ∷ ms) (suc i) zero n apart = refl
set_else (m ∷ ms) (suc i) (suc j) n apart = set_else ms i j n (λ e. apart (ap suc e))

pub counts_set : (ws : List Deque) (i j : ℕ) (old new : Deque) (u : Theft) → i < length ws → get_or ws i old ≡ old → u.place ≡ i → worker_view new ≡ both (worker_view old) (view u.pass)
    → slice_index (counts_of (set ws i new)) j ≡ slice_index (counts_of ws) j + rights_at j u
counts_set ws i j old new u lt at place is =
    let f : Deque → ℕ = λ w. count_of (worker_view w) in
    let whole : counts_of (set ws i new) ≡ set (counts_of ws) i (f new) = map-set f ws i new in
    dite (ℕ_discrete j i)
    (λ (e : j ≡ i). let same : slice_index (counts_of (set ws i new)) i ≡ slice_index (counts_of ws) i + rights_at i u =
    omega (arith, ap (λ (l : List ℕ). slice_index l i) whole, set_at (counts_of ws) i (f new) (omega (arith, lt, length-map ws f)), ap count_of is, count_both (worker_view old) (view u.pass), counted_at ws i old lt at, rights_here i u place) in
    subst (λ (n : ℕ). slice_index (counts_of (set ws i new)) n ≡ slice_index (counts_of ws) n + rights_at n u) (sym e) same)
    (λ (apart : j ≢ i). omega (arith, ap (λ (l : List ℕ). slice_index l j) whole, set_else (counts_of ws) i j (f new) apart, rights_else j u (λ e. apart (sym e ∙ place))))

pub pushed_set : (h : Task → ℕ) (ws : List Deque) (i : ℕ) (old new : Deque) (u : Theft) → i < length ws → get_or ws i old ≡ old → worker_view new ≡ both (worker_view old) (view u.pass) → all_pushed h (set ws i new) ≡ all_pushed h ws + pushed_in h u
pushed_set h ws i old new u lt at is = let f : Deque → ℕ = λ w. sum_by h (pushed_of (worker_view w)) in
    omega (arith, sum_by-set f ws i new old lt, ap f at, ap (λ (v : Rights). sum_by h (pushed_of v)) is, p_append h (worker_view old).deeds (view u.pass).deeds)

pub taken_set : (h : Task → ℕ) (ws : List Deque) (i : ℕ) (old new : Deque) (u : Theft) → i < length ws → get_or ws i old ≡ old → worker_view new ≡ both (worker_view old) (view u.pass) → all_taken h (set ws i new) ≡ all_taken h ws + taken_in h u
taken_set h ws i old new u lt at is = let f : Deque → ℕ = λ w. sum_by h (taken_of (worker_view w)) in
    omega (arith, sum_by-set f ws i new old lt, ap f at, ap (λ (v : Rights). sum_by h (taken_of v)) is, t_append h (worker_view old).deeds (view u.pass).deeds)

pub within : (ws : List Deque) (i : ℕ) (id : DequeId) → slice_get (ids_of ws) i ≡ Some id → i < length ws
within [] i id got = absurd (none_some got)
  where
    none_some : slice_get (ids_of []) i ≡ Some id → ⊥
    none_some e = cc
within (x ∷ xs) zero id got = omega arith
within (x ∷ xs) (suc i) id got = let lt = within xs i id got in omega arith

pub count_more : (new old : Deque) (u : Theft) → worker_view new ≡ both (worker_view old) (view u.pass) → Works (worker_view old) → Works (worker_view new)
count_more new old u is works = omega (arith, ap count_of is, count_both (worker_view old) (view u.pass), works)
