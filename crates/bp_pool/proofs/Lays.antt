-- The deques of a pool are told and dealt out, and its hands are made.
use Rattle.std.proofs.Common.{◌≡◌, ℕ, zero, suc, ◌+◌, ◌<◌, List, [], ◌∷◌, ◌++◌, Some, length, get_or, slice_get, set, All, sym, refl, ap, ◌∙◌, subst, arith, cond, ◌==◌, Bool, false, length-append}
use Rattle.std.proofs.Math.Seq.{get_or-append_seam}
use Rattle.std.proofs.lemmas.List.{get_or_append_left}
use Rattle.std.proofs.lemmas.Bool.Decides.{nat_tests}
use Rattle.crossbeam_deque.specs.Handles.{worker_deque}
use Rattle.bp_pool.specs.declared.deque.Facts.{Facts}
use Rattle.bp_pool.specs.declared.hand.Theft.{Theft}
use Rattle.bp_pool.specs.Rest.{DequeId, PoolView}
use Rattle.bp_pool.specs.Hands.{HandView}
use Rattle.bp_pool.specs.Shares.{facts_of, HasAll, with_given}
use Rattle.bp_pool.specs.Kept.{Deque, deques_of, each_of, rights_of, total_of, given_to}
use Rattle.bp_pool.specs.Opens.{ids_of, all_facts, facts_in, IsLeft, IsTold, IsRow, IsLaid, new_hand, IsNewPool}
use Rattle.std.proofs.lemmas.List.{get_or-set_same, get_or-set_other, length-map}
use Rattle.std.proofs.lemmas.List.Elements.{All-set}
use Rattle.crossbeam_deque.specs.Handles.{worker_view, SameWorker}
use Rattle.bp_base.specs.declared.record.Task.{Task}
use Rattle.bp_pool.specs.declared.deque.Rights.{Rights}
use Rattle.bp_pool.proofs.Opens.{untouched_count}

pub one_less : (hands m : ℕ) → 0 < hands → rights_of hands m + each_of hands ≡ rights_of hands (m + 1)
one_less hands m more = grind (arith, nat_tests)

pub none_left : (hands : ℕ) → rights_of hands 0 ≡ 1
none_left hands = grind (arith, nat_tests)

pub some_left : (hands m : ℕ) → 0 < rights_of hands m
some_left hands m = grind (arith, nat_tests)

pub last_all : {X : Type 0} (P : X → Type 0) (xs : List X) (x : X) → All P (xs ++ x ∷ []) → All P xs × P x
last_all P xs x all = (
  (λ k d lt. subst P (get_or_append_left xs (x ∷ []) d k lt) (all k d (omega (arith, lt, length-append xs (x ∷ []))))),
  subst P (get_or-append_seam xs x [] x) (all (length xs) x (omega (arith, length-append xs (x ∷ [])))),
)

pub shorter : {X : Type 0} (ws us vs : List X) (x : X) → vs ≡ us ++ x ∷ [] → ((i : ℕ) (d : X) → i < length vs → get_or vs i d ≡ get_or ws i d) → ((i : ℕ) (d : X) → i < length us → get_or us i d ≡ get_or ws i d) × ((d : X) → get_or ws (length us) d ≡ x)
shorter ws us vs x is same = (
  (λ i d lt. sym (get_or_append_left us (x ∷ []) d i lt) ∙ ap (λ l. get_or l i d) (sym is) ∙ same i d (omega (arith, lt, ap length is, length-append us (x ∷ [])))),
  (λ d. sym (same (length us) d (omega (arith, ap length is, length-append us (x ∷ [])))) ∙ ap (λ l. get_or l (length us) d) is ∙ get_or-append_seam us x [] d),
)

pub found_id : (ws : List Deque) (i : ℕ) (w : Deque) → i < length ws → get_or ws i w ≡ w → slice_get (ids_of ws) i ≡ Some (worker_deque w)
found_id [] i w lt at = absurd (omega (arith, lt))
found_id (v ∷ vs) zero w lt at = ap (λ (u : Deque). Some (worker_deque u)) at
found_id (v ∷ vs) (suc i) w lt at = found_id vs i w (omega (arith, lt)) at

pub own_row : (leaves hands : ℕ) (ids : List DequeId) (ts : List Theft) → IsRow leaves hands ids ts → IsRow leaves hands (deques_of ts) ts
own_row leaves hands ids ts row = record { places = row.places; deques = refl; thefts = row.thefts }

-- what is known of a laid deque
pub own_facts : (pool : PoolView) (hands k : ℕ) (ws : List Deque) (own : Deque) → IsLaid pool hands ws → k < length ws → get_or ws k own ≡ own → facts_in own ≡ facts_of pool.leaves (total_of hands) pool.root (given_to (k + 1) pool.root)
own_facts pool hands k ws own laid lt at = sym (ap facts_in at) ∙ laid.told k own lt

pub right_facts : (pool : PoolView) (hands k : ℕ) (own : Deque) → facts_in own ≡ facts_of pool.leaves (total_of hands) pool.root (given_to (k + 1) pool.root) → ((facts_in own).total ≡ total_of hands) × ((facts_in own).given ≡ given_to (k + 1) (facts_in own).root)
right_facts pool hands k own is = (ap (λ (f : Facts). f.total) is, ap (λ (f : Facts). f.given) is ∙ ap (given_to (k + 1)) (sym (ap (λ (f : Facts). f.root) is)))

pub same_pool : (pool : PoolView) (hands number k : ℕ) (ds : List DequeId) (own : Deque) (h : HandView) → ds ≡ pool.deques → number ≡ k + 1 → facts_in own ≡ facts_of pool.leaves (total_of hands) pool.root (given_to (k + 1) pool.root)
    → h ≡ new_hand (record { deques = ds; leaves = (facts_in own).leaves; root = (facts_in own).root }) number → h ≡ new_hand pool (k + 1)
same_pool pool hands number k ds own h deques num is made =
    let leaves = ap (λ (f : Facts). f.leaves) is in
    let root = ap (λ (f : Facts). f.root) is in
    let p : (record { deques = ds; leaves = (facts_in own).leaves; root = (facts_in own).root }) ≡ pool = λ i. record { deques = deques i; leaves = leaves i; root = root i } in
    made ∙ ap (λ (q : PoolView). new_hand q number) p ∙ ap (new_hand pool) num

-- one more hand in front
pub one_more_hand : (pool : PoolView) (n m : ℕ) (h : HandView) (hs all : List HandView) → all ≡ h ∷ hs → m ≡ n + 1 → h ≡ new_hand pool (n + 1) → ((i : ℕ) (d : HandView) → i < length hs → get_or hs i d ≡ new_hand pool (m + i + 1)) → (i : ℕ) (d : HandView) → i < length all → get_or all i d ≡ new_hand pool (n + i + 1)
one_more_hand pool n m h hs all is more first rest i d lt = ap (λ (l : List HandView). get_or l i d) is ∙ go i (omega (arith, lt, ap length is))
  where
    go : (i : ℕ) → i < length (h ∷ hs) → get_or (h ∷ hs) i d ≡ new_hand pool (n + i + 1)
    go zero lt = let e : n + 1 ≡ n + 0 + 1 = omega arith in first ∙ ap (new_hand pool) e
    go (suc j) lt = let e : m + j + 1 ≡ n + suc j + 1 = omega (arith, more) in rest j d (omega (arith, lt)) ∙ ap (new_hand pool) e

-- a deque that was told, and one that was given the root

is_left : (leaves total : ℕ) (root : Task) (w : Deque) → IsTold (facts_of leaves total root []) w → IsLeft leaves total w
is_left leaves total root w told = record { lifo = told.lifo; untouched_are = ap (λ (v : Rights). v.deeds) told.fresh_is; leaves_are = ap (λ (v : Rights). v.facts.leaves) told.fresh_is }

pub may_give : (leaves total : ℕ) (root : Task) (w : Deque) → 0 < total → IsTold (facts_of leaves total root []) w → HasAll (worker_view w) × ((worker_view w).facts.given ≡ [])
may_give leaves total root w more told =
    let count = ap (λ (v : Rights). length v.deeds) told.fresh_is ∙ untouched_count total in
    let same = ap (λ (v : Rights). v.facts.total) told.fresh_is in
    ((omega (arith, count, more), omega (arith, count, same)), ap (λ (v : Rights). v.facts.given) told.fresh_is)

later : (k : ℕ) (root : Task) → given_to (suc k + 1) root ≡ []
later k root = let e : suc k + 1 ≡ suc (suc k) = omega arith in ap (λ (n : ℕ). given_to n root) e ∙ two k root
  where
    test : (k : ℕ) → (suc (suc k) == 1) ≡ false
    test k = grind (arith, nat_tests)

    two : (k : ℕ) (root : Task) → given_to (suc (suc k)) root ≡ []
    two k root = ap (λ (b : Bool). cond b (root ∷ []) []) (test k)

module _ (leaves total : ℕ) (root : Task) (ws : List Deque) (old new : Deque) (told : All (IsTold (facts_of leaves total root [])) ws) (some : 0 < length ws) (at : get_or ws 0 old ≡ old)
    (same : SameWorker old new) (is : worker_view new ≡ with_given (worker_view old) (root ∷ [])) where
  first : IsTold (facts_of leaves total root []) old
  first = subst (IsTold (facts_of leaves total root [])) at (told 0 old some)

  pub laid_left : All (IsLeft leaves total) (set ws 0 new)
  laid_left =
      let was = is_left leaves total root old first in
      All-set (IsLeft leaves total) ws 0 new
      (record { lifo = same.1 ∙ was.lifo; untouched_are = ap (λ (v : Rights). v.deeds) is ∙ was.untouched_are; leaves_are = ap (λ (v : Rights). v.facts.leaves) is ∙ was.leaves_are })
      (λ k d lt. is_left leaves total root (get_or ws k d) (told k d lt))

  pub laid_told : (k : ℕ) (d : Deque) → k < length ws → facts_in (get_or (set ws 0 new) k d) ≡ facts_of leaves total root (given_to (k + 1) root)
  laid_told zero d lt = ap facts_in (get_or-set_same ws 0 new d some) ∙ ap (λ (v : Rights). v.facts) is ∙ ap (λ (v : Rights). facts_of v.facts.leaves v.facts.total v.facts.root (root ∷ [])) first.fresh_is
  laid_told (suc k) d lt =
      let was : facts_in (get_or ws (suc k) d) ≡ facts_of leaves total root [] = ap (λ (v : Rights). v.facts) (told (suc k) d lt).fresh_is in
      ap facts_in (get_or-set_other ws 0 (suc k) new d (λ z. absurd (omega (arith, z)))) ∙ was ∙ sym (ap (facts_of leaves total root) (later k root))

facts_at : (ws : List Deque) (k : ℕ) (d : Deque) → get_or (all_facts ws) k (facts_in d) ≡ facts_in (get_or ws k d)
facts_at [] k d = refl
facts_at (w ∷ ws) zero d = refl
facts_at (w ∷ ws) (suc k) d = facts_at ws k d

pub is_laid : (hands leaves : ℕ) (root : Task) (ws us : List Deque) → ids_of us ≡ ids_of ws → all_facts us ≡ all_facts ws → length ws ≡ hands → ((k : ℕ) (d : Deque) → k < hands → facts_in (get_or ws k d) ≡ facts_of leaves (total_of hands) root (given_to (k + 1) root))
    → IsLaid (record { deques = ids_of us; leaves = leaves; root = root }) hands us
is_laid hands leaves root ws us ids facts count told =
    let len : length us ≡ length ws = sym (length-map us (λ (w : Deque). worker_deque w)) ∙ ap length ids ∙ length-map ws (λ (w : Deque). worker_deque w) in
    record {
      ids = refl;
      count = len ∙ count;
      told = λ k d lt. sym (facts_at us k d) ∙ ap (λ (l : List Facts). get_or l k (facts_in d)) facts ∙ facts_at ws k d ∙ told k d (omega (arith, lt, len, count));
    }

pub new_pool : (hands leaves : ℕ) (root : Task) (us : List Deque) (all : List HandView) → IsLaid (record { deques = ids_of us; leaves = leaves; root = root }) hands us → length all ≡ hands
    → ((pool : PoolView) → IsLaid pool hands us → (k : ℕ) (d : HandView) → k < hands → get_or all k d ≡ new_hand pool (k + 1)) → IsNewPool hands leaves root all
new_pool hands leaves root us all laid count each = record {
  pool = record { deques = ids_of us; leaves = leaves; root = root };
  leaves_are = refl;
  root_is = refl;
  count = (length-map us (λ (w : Deque). worker_deque w) ∙ laid.count, count);
  each = λ k d lt. each (record { deques = ids_of us; leaves = leaves; root = root }) laid k d lt;
}
