-- Hands are parted into their deques and their passes.
use Rattle.std.proofs.Common.{get_or, slice_index, take, min, ◌≡◌, ◌≢◌, ℕ, zero, suc, ◌+◌, ◌-◌, ◌*◌, ◌<◌, ◌≤◌, List, [], ◌∷◌, ◌++◌, Some, length, map, drop, slice_get, All, sym, refl, ap, ◌∙◌, subst, arith, length-append, cond, eq-eqb, ne_eqb, Bool}
use Rattle.std.specs.List.{flat_map, range_with_len, sum_by}
use Rattle.std.proofs.lemmas.List.{length-map}
use Rattle.std.proofs.lemmas.List.Sums.{sum_by-append, sum_by-cons, sum_by_push}
use Rattle.std.proofs.lemmas.List.Elements.{All-append}
use Rattle.std.proofs.lemmas.List.Concat.{flat_map-cons}
use mathlib.Core.Logic.{dite}
use native.Mathlib.Decide.{ℕ_discrete}
use Rattle.crossbeam_deque.specs.Handles.{view, worker_view, worker_deque}
use Rattle.bp_base.specs.declared.record.Task.{Task}
use Rattle.bp_pool.specs.declared.hand.Theft.{Theft}
use Rattle.bp_pool.specs.declared.hand.Hand.TheInside.{Inside}
use Rattle.bp_pool.specs.Shares.{pushed_of, taken_of, count_of, facts_of}
use Rattle.bp_pool.specs.Rest.{DequeId, PoolView}
use Rattle.bp_pool.specs.Hands.{HandView}
use Rattle.bp_pool.specs.Kept.{hand_view, taken_by, deque_of, deques_of, each_of, total_of, given_to, IsTheft, IsHand, Deque}
use Rattle.bp_pool.specs.Rows.{IsOf, rights_at, pushed_in, taken_in, IsInOrder, IsOwn, IsParted, IsParts, all_given, all_pushed, all_taken, hands_pushed, hands_taken}
use Rattle.bp_base.specs.Bags.{AreSame}
use Rattle.bp_pool.specs.declared.deque.Facts.{Facts}
use Rattle.bp_pool.specs.Rows.{AreOwners, IsFull, counts_of, pushed_by_all, taken_by_all}
use Rattle.bp_pool.specs.Hands.{top}
use Rattle.bp_pool.specs.Opens.{ids_of, all_facts, facts_in}
use Rattle.bp_pool.proofs.Lays.{shorter}
use Rattle.bp_pool.proofs.Opens.{take_more}

flat_taken : (h : Task → ℕ) (ts : List Theft) → sum_by h (flat_map taken_by ts) ≡ sum_by (taken_in h) ts
flat_taken h [] = refl
flat_taken h (t ∷ ts) = omega (arith, ap (sum_by h) (flat_map-cons taken_by t ts), sum_by-append h (taken_by t) (flat_map taken_by ts), sum_by-cons (taken_in h) t ts, flat_taken h ts)

pub parts_of : (o : Inside) → IsHand o → IsParts (hand_view o) o.own o.thefts.items
parts_of o was =
    let ts = o.thefts.items in
    let f = (worker_view o.own).facts in
    let len : length ts ≡ length (deques_of ts) = sym (length-map ts deque_of) in
    let total : f.total ≡ total_of (length (deques_of ts)) = was.told.total ∙ ap total_of len in
    let given = was.told.given in
    record {
      deques = refl;
      lifo = was.lifo;
      one = was.one;
      is = was.own_place;
      facts = λ i. record { leaves = f.leaves; total = total i; root = f.root; given = given i };
      places = was.places ∙ ap (range_with_len 0) len;
      thefts_are = subst (λ (n : ℕ). All (IsTheft (each_of n) f.leaves) ts) len was.told.thefts_are;
      pushed = λ h. refl;
      taken = λ h. omega (arith, sum_by-append h (taken_of (worker_view o.own)) (flat_map taken_by ts), flat_taken h ts);
    }

-- The passes of one hand.

head_is : (t : Theft) (ts : List Theft) (a n : ℕ) → map (λ (t : Theft). t.place) (t ∷ ts) ≡ range_with_len a (suc n) → t.place ≡ a
head_is t ts a n is = ap (λ (l : List ℕ). get_or l 0 0) is

tail_is : (t : Theft) (ts : List Theft) (a n : ℕ) → map (λ (t : Theft). t.place) (t ∷ ts) ≡ range_with_len a (suc n) → map (λ (t : Theft). t.place) ts ≡ range_with_len (a + 1) n
tail_is t ts a n is = ap (drop 1) is

placed : (ts : List Theft) (a : ℕ) → map (λ (t : Theft). t.place) ts ≡ range_with_len a (length ts) → (k : ℕ) (d : Theft) → k < length ts → (get_or ts k d).place ≡ a + k
placed [] a is k d lt = absurd (omega (arith, lt))
placed (t ∷ ts) a is zero d lt = omega (arith, head_is t ts a (length ts) is)
placed (t ∷ ts) a is (suc k) d lt = omega (arith, placed ts (a + 1) (tail_is t ts a (length ts) is) k d (omega (arith, lt)))

found : (ts : List Theft) (k : ℕ) (d : Theft) → k < length ts → slice_get (deques_of ts) k ≡ Some (deque_of (get_or ts k d))
found [] k d lt = absurd (omega (arith, lt))
found (t ∷ ts) zero d lt = refl
found (t ∷ ts) (suc k) d lt = found ts k d (omega (arith, lt))

rights_here : (j : ℕ) (t : Theft) → t.place ≡ j → rights_at j t ≡ count_of (view t.pass)
rights_here j t place = ap (λ (b : Bool). cond b (count_of (view t.pass)) 0) (eq-eqb t.place j place)

rights_else : (j : ℕ) (t : Theft) → t.place ≢ j → rights_at j t ≡ 0
rights_else j t apart = ap (λ (b : Bool). cond b (count_of (view t.pass)) 0) (ne_eqb t.place j apart)

none_before : (ts : List Theft) (a j : ℕ) → map (λ (t : Theft). t.place) ts ≡ range_with_len a (length ts) → j < a → sum_by (rights_at j) ts ≡ 0
none_before [] a j is lt = refl
none_before (t ∷ ts) a j is lt =
    let here = head_is t ts a (length ts) is in
    omega (arith, sum_by-cons (rights_at j) t ts, rights_else j t (λ e. absurd (omega (arith, e, here, lt))), none_before ts (a + 1) j (tail_is t ts a (length ts) is) (omega (arith, lt)))

rest_all : (P : Theft → Type 0) (t : Theft) (ts : List Theft) → All P (t ∷ ts) → All P ts
rest_all P t ts all k d lt = all (suc k) d (omega (arith, lt))

row_rights : (each leaves : ℕ) (ts : List Theft) (a j : ℕ) → map (λ (t : Theft). t.place) ts ≡ range_with_len a (length ts) → All (IsTheft each leaves) ts → a ≤ j → j < a + length ts → sum_by (rights_at j) ts ≡ each
row_rights each leaves [] a j is all ge lt = absurd (omega (arith, ge, lt))
row_rights each leaves (t ∷ ts) a j is all ge lt =
    let here = head_is t ts a (length ts) is in
    let tail = tail_is t ts a (length ts) is in
    dite (ℕ_discrete a j)
    (λ (e : a ≡ j). omega (arith, sum_by-cons (rights_at j) t ts, rights_here j t (here ∙ e), (all 0 t (omega arith)).count, none_before ts (a + 1) j tail (omega (arith, e))))
    (λ (apart : a ≢ j). omega (arith, sum_by-cons (rights_at j) t ts, rights_else j t (λ e. apart (sym here ∙ e)), row_rights each leaves ts (a + 1) j tail (rest_all (IsTheft each leaves) t ts all) (omega (arith, ge, apart)) (omega (arith, lt))))

row_push : (h : Task → ℕ) (each leaves : ℕ) (ts : List Theft) → All (IsTheft each leaves) ts → sum_by (pushed_in h) ts ≡ 0
row_push h each leaves [] all = refl
row_push h each leaves (t ∷ ts) all = omega (arith, sum_by-cons (pushed_in h) t ts, (all 0 t (omega arith)).no_push h, row_push h each leaves ts (rest_all (IsTheft each leaves) t ts all))

-- A hand at its place in the pool.
module _ (pool : PoolView) (v : HandView) (k : ℕ) (own : Deque) (held : List Theft) (hp : v.pool ≡ pool) (num : v.number ≡ k + 1) (parts : IsParts v own held) where
  own_in : IsOwn pool k own
  own_in =
      let e : k ≡ v.number - 1 = omega (arith, num) in
      record {
        lifo = parts.lifo;
        one = parts.one;
        is = ap (slice_get pool.deques) e ∙ subst (λ (q : PoolView). slice_get q.deques (v.number - 1) ≡ Some (worker_deque own)) hp parts.is;
        facts = subst (λ (q : PoolView). (worker_view own).facts ≡ facts_of q.leaves (total_of (length q.deques)) q.root (given_to v.number q.root)) hp parts.facts ∙ ap (λ (n : ℕ). facts_of pool.leaves (total_of (length pool.deques)) pool.root (given_to n pool.root)) num;
      }

  deques_in : deques_of held ≡ pool.deques
  deques_in = parts.deques ∙ ap (λ (q : PoolView). q.deques) hp

  row_len : length held ≡ length pool.deques
  row_len = sym (length-map held deque_of) ∙ ap length deques_in

  places_in : map (λ (t : Theft). t.place) held ≡ range_with_len 0 (length held)
  places_in = parts.places ∙ ap (λ (q : PoolView). range_with_len 0 (length q.deques)) hp ∙ ap (range_with_len 0) (sym row_len)

  thefts_in : All (IsTheft (each_of (length pool.deques)) pool.leaves) held
  thefts_in = subst (λ (q : PoolView). All (IsTheft (each_of (length q.deques)) q.leaves) held) hp parts.thefts_are

  are_of : All (IsOf pool.deques) held
  are_of i d lt =
      let t = get_or held i d in
      let place : t.place ≡ i = omega (arith, placed held 0 places_in i d lt) in
      (deque_of t, ap (slice_get pool.deques) place ∙ ap (λ (l : List DequeId). slice_get l i) (sym deques_in) ∙ found held i d lt, (thefts_in i d lt).of)

zero_times : (e : ℕ) → 0 ≡ 0 * e
zero_times e = omega arith

pub parted_first : (pool : PoolView) (all : List HandView) (us : List Deque) (ts : List Theft) → us ≡ [] → ts ≡ [] → IsInOrder pool all → IsParted pool all all us ts
parted_first pool all us ts no_us no_ts whole = subst (IsParted pool all all us) (sym no_ts) (subst (λ (l : List Deque). IsParted pool all all l []) (sym no_us) (record {
  count = omega (arith, whole.count);
  prefix = λ k d lt. refl;
  owners_are = λ k d lt. absurd (omega (arith, lt));
  thefts_are = λ k d lt. absurd (omega (arith, lt));
  rights = λ j lt. zero_times (each_of (length pool.deques));
  no_push = λ h. refl;
  pushed = λ h. omega arith;
  taken = λ h. omega arith;
}))

owners_more : (pool : PoolView) (n m : ℕ) (own : Deque) (us : List Deque) → m ≡ n + 1 → IsOwn pool n own → ((k : ℕ) (d : Deque) → k < length us → IsOwn pool (m + k) (get_or us k d)) → (k : ℕ) (d : Deque) → k < length (own ∷ us) → IsOwn pool (n + k) (get_or (own ∷ us) k d)
owners_more pool n m own us more here rest zero d lt = let e : n ≡ n + 0 = omega arith in subst (λ (p : ℕ). IsOwn pool p own) e here
owners_more pool n m own us more here rest (suc k) d lt = let e : m + k ≡ n + suc k = omega (arith, more) in subst (λ (p : ℕ). IsOwn pool p (get_or us k d)) e (rest k d (omega (arith, lt)))

times : (n e : ℕ) → suc n * e ≡ n * e + e
times n e = grind arith

pub parted_more : (pool : PoolView) (left rest all : List HandView) (v : HandView) (us us' : List Deque) (ts ts' : List Theft) (own : Deque) (held : List Theft)
    → left ≡ rest ++ v ∷ [] → us' ≡ own ∷ us → ts' ≡ ts ++ held → IsParts v own held → IsInOrder pool all → IsParted pool left all us ts → IsParted pool rest all us' ts'
parted_more pool left rest all v us us' ts ts' own held is more_us more_ts parts whole was =
    let sh = shorter all rest left v is was.prefix in
    let len : length left ≡ length rest + 1 = omega (arith, ap length is, length-append rest (v ∷ [])) in
    let lt : length rest < length all = omega (arith, len, was.count, whole.count) in
    let at = whole.each (length rest) v lt in
    let hp : v.pool ≡ pool = ap (λ (u : HandView). u.pool) (sym (sh.1 v)) ∙ at.0 in
    let num : v.number ≡ length rest + 1 = ap (λ (u : HandView). u.number) (sym (sh.1 v)) ∙ at.1 in
    let each = each_of (length pool.deques) in
    let thefts = thefts_in pool v (length rest) own held hp num parts in
    subst (IsParted pool rest all us') (sym more_ts) (subst (λ (l : List Deque). IsParted pool rest all l (ts ++ held)) (sym more_us) (record {
      count = omega (arith, was.count, len);
      prefix = sh.0;
      owners_are = owners_more pool (length rest) (length left) own us len (own_in pool v (length rest) own held hp num parts) was.owners_are;
      thefts_are = All-append (IsOf pool.deques) ts held was.thefts_are (are_of pool v (length rest) own held hp num parts);
      rights = λ j jlt. omega (arith, sum_by-append (rights_at j) ts held, was.rights j jlt, row_rights each pool.leaves held 0 j (places_in pool v (length rest) own held hp num parts) thefts (omega arith) (omega (arith, jlt, row_len pool v (length rest) own held hp num parts)), times (length us) each);
      no_push = λ h. omega (arith, sum_by-append (pushed_in h) ts held, was.no_push h, row_push h each pool.leaves held thefts);
      pushed = λ h. omega (arith, was.pushed h, sum_by-cons (λ (w : Deque). sum_by h (pushed_of (worker_view w))) own us, ap (hands_pushed h) is, sum_by_push (λ (u : HandView). sum_by h u.pushed) rest v, parts.pushed h);
      taken = λ h. omega (arith, was.taken h, sum_by-cons (λ (w : Deque). sum_by h (taken_of (worker_view w))) own us, sum_by-append (taken_in h) ts held, ap (hands_taken h) is, sum_by_push (λ (u : HandView). sum_by h u.taken) rest v, parts.taken h);
    }))

-- one more deque is emptied
pub drained_more : (h : Task → ℕ) (all ws us : List Deque) (w : Deque) (old new : List Task) → ws ≡ us ++ w ∷ [] → sum_by h (old ++ (worker_view w).facts.given ++ pushed_of (worker_view w)) ≡ sum_by h (taken_of (worker_view w) ++ new)
    → all_given h all + all_pushed h all + all_taken h ws ≡ all_given h ws + all_pushed h ws + all_taken h all + sum_by h old
    → all_given h all + all_pushed h all + all_taken h us ≡ all_given h us + all_pushed h us + all_taken h all + sum_by h new
drained_more h all ws us w old new is drained was =
    let given = (worker_view w).facts.given in
    let pushed = pushed_of (worker_view w) in
    let taken = taken_of (worker_view w) in
    omega (
      arith,
      was,
      drained,
      ap (all_given h) is,
      sum_by_push (λ (w : Deque). sum_by h (worker_view w).facts.given) us w,
      ap (all_pushed h) is,
      sum_by_push (λ (w : Deque). sum_by h (pushed_of (worker_view w))) us w,
      ap (all_taken h) is,
      sum_by_push (λ (w : Deque). sum_by h (taken_of (worker_view w))) us w,
      sum_by-append h (old ++ given) pushed,
      sum_by-append h old given,
      sum_by-append h taken new,
    )

-- The hands are counted.

pub counted_more : (f : HandView → ℕ) (all : List HandView) (j : ℕ) (v : HandView) (n m r : ℕ) → j < length all → get_or all j v ≡ v → n ≡ min (sum_by f (take j all)) top → m ≡ min (f v) top → r ≡ min (n + m) top → r ≡ min (sum_by f (take (j + 1) all)) top
counted_more f all j v n m r lt at was here is = let more : sum_by f (take (j + 1) all) ≡ sum_by f (take j all) + f v = ap (sum_by f) (take_more all j v lt at) ∙ sum_by_push f (take j all) v in mins (sum_by f (take j all)) (f v) n m r _ more was here is
  where
    mins : (a b n m r s : ℕ) → s ≡ a + b → n ≡ min a top → m ≡ min b top → r ≡ min (n + m) top → r ≡ min s top
    mins a b n m r s more was here is = omega (arith, more, was, here, is)

pub flat_length : (f : HandView → List Task) (all : List HandView) → length (flat_map f all) ≡ sum_by (λ (v : HandView). length (f v)) all
flat_length f [] = refl
flat_length f (v ∷ vs) = omega (arith, ap (λ (l : List Task). length l) (flat_map-cons f v vs), length-append (f v) (flat_map f vs), sum_by-cons (λ (v : HandView). length (f v)) v vs, flat_length f vs)

flat_sum : (h : Task → ℕ) (f : HandView → List Task) (all : List HandView) → sum_by h (flat_map f all) ≡ sum_by (λ (v : HandView). sum_by h (f v)) all
flat_sum h f [] = refl
flat_sum h f (v ∷ vs) = omega (arith, ap (sum_by h) (flat_map-cons f v vs), sum_by-append h (f v) (flat_map f vs), sum_by-cons (λ (v : HandView). sum_by h (f v)) v vs, flat_sum h f vs)

count_at : (ws : List Deque) (k : ℕ) (d : Deque) → k < length ws → slice_index (counts_of ws) k ≡ count_of (worker_view (get_or ws k d))
count_at [] k d lt = absurd (omega (arith, lt))
count_at (w ∷ ws) zero d lt = refl
count_at (w ∷ ws) (suc k) d lt = count_at ws k d (omega (arith, lt))

facts_at : (ws : List Deque) (k : ℕ) (d : Deque) → get_or (all_facts ws) k (facts_in d) ≡ facts_in (get_or ws k d)
facts_at [] k d = refl
facts_at (w ∷ ws) zero d = refl
facts_at (w ∷ ws) (suc k) d = facts_at ws k d

whole_total : (n : ℕ) → 0 < n → 1 + n * each_of n ≡ total_of n
whole_total n more = dite (ℕ_discrete n 1)
    (λ (e : n ≡ 1). subst (λ (m : ℕ). 1 + m * each_of m ≡ total_of m) (sym e) refl)
    (λ (apart : n ≢ 1). let one : each_of n ≡ 1 = omega (arith, apart, more) in
    let product : n * each_of n ≡ n = ap (λ (m : ℕ). n * m) one ∙ omega arith in
    let total : total_of n ≡ 1 + n = ap (λ (b : Bool). cond b 1 (1 + n)) (ne_eqb n 1 apart) in
    omega (arith, product, total))

given_none : (h : Task → ℕ) (root : Task) (us : List Deque) (a : ℕ) → 0 < a → ((k : ℕ) (d : Deque) → k < length us → (facts_in (get_or us k d)).given ≡ given_to (a + k + 1) root) → all_given h us ≡ 0
given_none h root [] a more each = refl
given_none h root (u ∷ us) a more each =
    let apart : a + 0 + 1 ≢ 1 = λ e. absurd (omega (arith, e, more)) in
    let here : (facts_in u).given ≡ [] = each 0 u (omega arith) ∙ ap (λ (b : Bool). cond b (root ∷ []) []) (ne_eqb (a + 0 + 1) 1 apart) in
    omega (arith, sum_by-cons (λ (w : Deque). sum_by h (worker_view w).facts.given) u us, ap (sum_by h) here, given_none h root us (a + 1) (omega arith) (λ k d lt. let e : a + suc k + 1 ≡ a + 1 + k + 1 = omega arith in each (suc k) d (omega (arith, lt)) ∙ ap (λ (n : ℕ). given_to n root) e))

given_once : (h : Task → ℕ) (root : Task) (us : List Deque) → 0 < length us → ((k : ℕ) (d : Deque) → k < length us → (facts_in (get_or us k d)).given ≡ given_to (k + 1) root) → all_given h us ≡ h root
given_once h root [] more each = absurd (omega (arith, more))
given_once h root (u ∷ us) more each =
    let here : (facts_in u).given ≡ root ∷ [] = each 0 u (omega arith) in
    omega (arith, sum_by-cons (λ (w : Deque). sum_by h (worker_view w).facts.given) u us, ap (sum_by h) here, sum_by-cons h root [], given_none h root us 1 (omega arith) (λ k d lt. let e : suc k + 1 ≡ 1 + k + 1 = omega arith in each (suc k) d (omega (arith, lt)) ∙ ap (λ (n : ℕ). given_to n root) e))

-- The owners, once all passes are back.

module _ (pool : PoolView) (all : List HandView) (us ws : List Deque) (ts : List Theft) (parted : IsParted pool [] all us ts) where
  pub are_owners : AreOwners us
  are_owners k d lt = let own = parted.owners_are k d lt in (own.lifo, omega (arith, own.one))

  own_at : (k : ℕ) (d : Deque) → k < length us → IsOwn pool k (get_or us k d)
  own_at k d lt = let e : length {A = HandView} [] + k ≡ k = omega arith in subst (λ (p : ℕ). IsOwn pool p (get_or us k d)) e (parted.owners_are k d lt)

  us_len : length us ≡ length pool.deques
  us_len = omega (arith, parted.count)

  pub same_ids : ids_of us ≡ pool.deques
  same_ids = same_list us pool.deques us_len (λ k d lt. (own_at k d lt).is)
    where
      same_list : (us : List Deque) (ids : List DequeId) → length us ≡ length ids → ((k : ℕ) (d : Deque) → k < length us → slice_get ids k ≡ Some (worker_deque (get_or us k d))) → ids_of us ≡ ids
      same_list [] [] len each = refl
      same_list [] (i ∷ is) len each = absurd (omega (arith, len))
      same_list (u ∷ us) [] len each = absurd (omega (arith, len))
      same_list (u ∷ us) (i ∷ is) len each = let here : worker_deque u ≡ i = sym (some_same i (worker_deque u) (each 0 u (omega arith))) in λ k. here k ∷ same_list us is (omega (arith, len)) (λ k d lt. each (suc k) d (omega (arith, lt))) k
        where
          some_same : (a b : DequeId) → Some a ≡ Some b → a ≡ b
          some_same a b e = cc

  pub are_of_us : All (IsOf (ids_of us)) ts
  are_of_us = subst (λ (l : List DequeId). All (IsOf l) ts) (sym same_ids) parted.thefts_are

  module _ (whole : IsInOrder pool all) (owners : AreOwners ws × (ids_of ws ≡ ids_of us) × (all_facts ws ≡ all_facts us)) where
    some : 0 < length pool.deques
    some = omega (arith, whole.some, whole.count)

    ws_len : length ws ≡ length us
    ws_len = sym (length-map ws facts_in) ∙ ap length owners.2 ∙ length-map us facts_in

    facts_now : (k : ℕ) (d : Deque) → k < length ws → facts_in (get_or ws k d) ≡ facts_of pool.leaves (total_of (length pool.deques)) pool.root (given_to (k + 1) pool.root)
    facts_now k d lt = sym (facts_at ws k d) ∙ ap (λ (l : List Facts). get_or l k (facts_in d)) owners.2 ∙ facts_at us k d ∙ (own_at k d (omega (arith, lt, ws_len))).facts

    pub are_full : ((j : ℕ) → slice_index (counts_of ws) j ≡ slice_index (counts_of us) j + sum_by (rights_at j) ts) → All IsFull ws
    are_full rights k d lt =
        let n = length pool.deques in
        let w = get_or ws k d in
        let ult : k < length us = omega (arith, lt, ws_len) in
        let product : length us * each_of n ≡ n * each_of n = ap (λ (m : ℕ). m * each_of n) us_len in
        let count : count_of (worker_view w) ≡ total_of n = omega (arith, rights k, count_at ws k d lt, count_at us k d ult, (own_at k d ult).one, parted.rights k (omega (arith, ult, us_len)), product, whole_total n some) in
        let total : (facts_in w).total ≡ total_of n = ap (λ (f : Facts). f.total) (facts_now k d lt) in
        ((owners.0 k d lt).0, ((owners.0 k d lt).1, count ∙ sym total))

    pub leaves_now : All (λ (w : Deque). (worker_view w).facts.leaves ≡ pool.leaves) ws
    leaves_now k d lt = ap (λ (f : Facts). f.leaves) (facts_now k d lt)

    pub all_same : (left : List Task) → ((h : Task → ℕ) → all_pushed h ws ≡ all_pushed h us + sum_by (pushed_in h) ts) → ((h : Task → ℕ) → all_taken h ws ≡ all_taken h us + sum_by (taken_in h) ts)
        → ((h : Task → ℕ) → all_given h ws + all_pushed h ws ≡ all_taken h ws + sum_by h left) → AreSame (pool.root ∷ pushed_by_all all) (taken_by_all all ++ left)
    all_same left pushed taken drained h = omega (
      arith,
      pushed h,
      taken h,
      drained h,
      given_once h pool.root ws (omega (arith, ws_len, us_len, some)) (λ k d lt. ap (λ (f : Facts). f.given) (facts_now k d lt)),
      parted.no_push h,
      parted.pushed h,
      parted.taken h,
      sum_by-cons h pool.root (pushed_by_all all),
      flat_sum h (λ (v : HandView). v.pushed) all,
      flat_sum h (λ (v : HandView). v.taken) all,
      sum_by-append h (taken_by_all all) left,
    )
