-- What a push, a pop and a steal change in a hand.
use Rattle.std.proofs.Common.{◌≡◌, ◌≢◌, ℕ, suc, ◌+◌, ◌-◌, ◌<◌, ◌≤◌, min, List, [], ◌∷◌, ◌++◌, Some, length, set, get_or, map, slice_get, All, sym, refl, ap, ◌∙◌, subst, arith, length-append}
use Rattle.std.specs.Prelude.{Vec}
use Rattle.std.specs.List.{sum_by, flat_map, range_with_len}
use Rattle.std.specs.declared.alloc.Global.{Global}
use Rattle.std.proofs.lemmas.List.Sums.{sum_by-cons, sum_by-append, sum_by-set}
use Rattle.std.proofs.lemmas.List.Concat.{flat_map-cons}
use Rattle.std.proofs.lemmas.List.Elements.{All-append, All-set}
use Rattle.std.proofs.lemmas.List.{length-set, length-map}
use Rattle.std.proofs.Math.Seq.{map-set_same}
use Rattle.crossbeam_deque.specs.Handles.{worker_view, SameWorker}
use Rattle.bp_base.specs.declared.record.Task.{Task}
use Rattle.bp_base.specs.Bags.{AreSame}
use Rattle.bp_base.specs.Limits.{most_hands}
use Rattle.bp_pool.specs.Rest.{DequeId, PoolView, RestView}
use Rattle.bp_base.proofs.Bags.{kept_all, same-length, same_sym, sum_by-flat_map}
use Rattle.bp_pool.specs.declared.deque.Deeds.{Deeds}
use Rattle.bp_pool.specs.declared.deque.Facts.{Facts}
use Rattle.bp_pool.specs.declared.deque.Rights.{Rights}
use Rattle.bp_pool.specs.declared.hand.Theft.{Theft}
use Rattle.bp_pool.specs.declared.hand.Hand.TheInside.{Inside}
use Rattle.bp_pool.specs.declared.tries.Stolen.{Stolen}
use Rattle.bp_pool.specs.declared.tries.Stolen.TheVariants as stolen
use Rattle.bp_pool.specs.Shares.{IsTaskOf, count_of, pushed_of, taken_of, with_pushed, with_taken, pushed_by_first, HasAll, IsDone}
use Rattle.bp_pool.specs.Tries.{AreCounts, NoneFell, MatchStolen, MatchTake, with_task, of_stolen}
use Rattle.bp_pool.specs.declared.tries.Take.{Take}
use Rattle.bp_pool.specs.declared.tries.Take.TheVariants as took
use Rattle.bp_pool.specs.Hands.{HandView, top, hands_of, rest_of_hand, of_take}
use Rattle.bp_pool.specs.Kept.{hand_view, taken_by, all_taken, deque_of, deques_of, each_of, total_of, given_to, IsTheft, IsTold, IsHand, Deque, view_of}
use Rattle.bp_pool.proofs.Deques.{taking, taking_pushes, pushing, taken_count, All_one, back_good}

-- Counts.

pub recount : (old new : List ℕ) (n : ℕ) → AreCounts old n → length new ≡ length old → NoneFell old new → AreCounts new n
recount old new n was len fell = (len ∙ was.0, λ k. (fell k).1)

pub steady : (l : List ℕ) (n : ℕ) → AreCounts l n → NoneFell l l
steady l n was k = (omega arith, was.1 k)

pub from_view : (seen kept new : List ℕ) → kept ≡ seen → NoneFell kept new → NoneFell seen new
from_view seen kept new is fell = subst (λ (l : List ℕ). NoneFell l new) is fell

one_up : (n len len' : ℕ) → n ≡ min len top → len' ≡ len + 1 → min (n + 1) top ≡ min len' top
one_up n len len' is more = omega arith

-- Lists of tasks.

push_keeps : (ds : List Deeds) (xs : List Task) → flat_map (λ (d : Deeds). d.taken) (pushed_by_first ds xs) ≡ flat_map (λ (d : Deeds). d.taken) ds
push_keeps [] xs = refl
push_keeps (d ∷ ds) xs = refl

pub grown : (P : Task → Type 0) (old new : List Task) (t : Task) (q : ℕ) → AreSame new (old ++ t ∷ []) → q ≡ min (length old) top → All P old → P t → (min (q + 1) top ≡ min (length new) top) × All P new
grown P old new t q same is all here = (
  one_up q (length old) (length new) is (same-length new (old ++ t ∷ []) same ∙ length-append old (t ∷ [])),
  kept_all P (old ++ t ∷ []) new (same_sym new (old ++ t ∷ []) same) (All-append P old (t ∷ []) all (All_one P t here)),
)

pub as_before : (P : Task → Type 0) (old new : List Task) (q : ℕ) → AreSame new old → q ≡ min (length old) top → All P old → (q ≡ min (length new) top) × All P new
as_before P old new q same is all = (is ∙ ap (λ (n : ℕ). min n top) (sym (same-length new old same)), kept_all P old new (same_sym new old same) all)

after : (h : Task → ℕ) (own : List Task) (ts : List Theft) (i : ℕ) (old new : Theft) → i < length ts → get_or ts i old ≡ old
    → sum_by h (own ++ flat_map taken_by (set ts i new)) + sum_by h (taken_by old) ≡ sum_by h (own ++ flat_map taken_by ts) + sum_by h (taken_by new)
after h own ts i old new lt at =
    let f : Theft → ℕ = λ t. sum_by h (taken_by t) in
    omega (arith, sum_by-append h own (flat_map taken_by (set ts i new)), sum_by-append h own (flat_map taken_by ts), sum_by-flat_map h taken_by (set ts i new), sum_by-flat_map h taken_by ts, sum_by-set f ts i new old lt, ap f at)

ones : (ts : List Task) → sum_by (λ (t : Task). 1) ts ≡ length ts
ones [] = refl
ones (t ∷ ts) = omega (arith, sum_by-cons (λ (t : Task). 1) t ts, ones ts)

-- passes without rights have taken nothing
no_rights : (h : Task → ℕ) (leaves : ℕ) (ts : List Theft) → All (IsTheft 0 leaves) ts → sum_by h (flat_map taken_by ts) ≡ 0
no_rights h leaves [] all = refl
no_rights h leaves (t ∷ ts) all =
    let here = all 0 t (omega arith) in
    omega (arith, ap (sum_by h) (flat_map-cons taken_by t ts), sum_by-append h (taken_by t) (flat_map taken_by ts), ap (λ (ds : List Deeds). sum_by h (flat_map (λ (d : Deeds). d.taken) ds)) (empty (view_of t).deeds here.count), no_rights h leaves ts (λ k d lt. all (suc k) d (omega arith)))
  where
    empty : (ds : List Deeds) → length ds ≡ 0 → ds ≡ []
    empty [] z = refl
    empty (d ∷ ds) z = absurd (omega (arith, z))

-- Changes of a hand.

module _ (o : Inside) (was : IsHand o) where
  pub own_changed : (w : Deque) (p q : ℕ) → SameWorker o.own w → count_of (worker_view w) ≡ count_of (worker_view o.own) → (worker_view w).facts ≡ (worker_view o.own).facts → p ≡ min (length (pushed_of (worker_view w))) top
      → (q ≡ min (length (taken_of (worker_view w) ++ flat_map taken_by o.thefts.items)) top) × All (IsTaskOf (worker_view o.own).facts.leaves) (taken_of (worker_view w) ++ flat_map taken_by o.thefts.items)
      → IsHand (record o { own = w; pushes = p; takes = q })
  own_changed w p q same count facts is_p taken = record {
    lifo = same.1 ∙ was.lifo;
    one = count ∙ was.one;
    told = subst (λ (f : Facts). IsTold f o.number o.thefts.items) (sym facts) was.told;
    places = was.places;
    number = was.number;
    own_place = was.own_place ∙ ap Some (sym same.0);
    misses = was.misses;
    lost = was.lost;
    pushes = is_p;
    takes = taken.0;
    good = subst (λ (f : Facts). All (IsTaskOf f.leaves) (taken_of (worker_view w) ++ flat_map taken_by o.thefts.items)) (sym facts) taken.1;
  }

  pub recounted : (m l : Vec ℕ Global) → AreCounts m.items (length o.thefts.items) → AreCounts l.items (length o.thefts.items) → IsHand (record o { misses = m; lost = l })
  recounted m l ms ls = record {
    lifo = was.lifo;
    one = was.one;
    told = was.told;
    places = was.places;
    number = was.number;
    own_place = was.own_place;
    misses = ms;
    lost = ls;
    pushes = was.pushes;
    takes = was.takes;
    good = was.good;
  }

  -- a push that found room
  pub pushed : (w : Deque) (t : Task) → SameWorker o.own w → worker_view w ≡ with_pushed (worker_view o.own) (t ∷ []) → IsHand (record o { own = w; pushes = min (o.pushes + 1) top })
  pushed w t same is =
      let v = worker_view o.own in
      let one : Task → ℕ = λ _. 1 in
      let keeps : taken_of (worker_view w) ≡ taken_of v = ap taken_of is ∙ push_keeps v.deeds (t ∷ []) in
      own_changed w (min (o.pushes + 1) top) o.takes same (ap count_of is ∙ push_count v.deeds) (ap (λ (u : Rights). u.facts) is)
      (one_up o.pushes (length (pushed_of v)) (length (pushed_of (worker_view w))) was.pushes (omega (arith, ones (pushed_of v), ones (pushed_of (worker_view w)), ap (λ (u : Rights). sum_by one (pushed_of u)) is, pushing one v.deeds (t ∷ []) (omega (arith, was.one)))))
      (subst (λ (l : List Task). (o.takes ≡ min (length (l ++ flat_map taken_by o.thefts.items)) top) × All (IsTaskOf v.facts.leaves) (l ++ flat_map taken_by o.thefts.items)) (sym keeps) (was.takes, was.good))
    where
      push_count : (ds : List Deeds) → length (pushed_by_first ds (t ∷ [])) ≡ length ds
      push_count [] = refl
      push_count (d ∷ ds) = refl

  -- a pop or a push that gave nothing
  pub as_it_was : (w : Deque) → SameWorker o.own w → worker_view w ≡ worker_view o.own → IsHand (record o { own = w })
  as_it_was w same is =
      let v = worker_view o.own in
      own_changed w o.pushes o.takes same (ap count_of is) (ap (λ (u : Rights). u.facts) is) (was.pushes ∙ ap (λ (u : Rights). min (length (pushed_of u)) top) (sym is))
      (subst (λ (u : Rights). (o.takes ≡ min (length (taken_of u ++ flat_map taken_by o.thefts.items)) top) × All (IsTaskOf v.facts.leaves) (taken_of u ++ flat_map taken_by o.thefts.items)) (sym is) (was.takes, was.good))

  pub popped_same : (w : Deque) (t : Task) → worker_view w ≡ with_taken (worker_view o.own) (t ∷ []) → AreSame (taken_of (worker_view w) ++ flat_map taken_by o.thefts.items) (all_taken o ++ t ∷ [])
  popped_same w t is h =
      let v = worker_view o.own in
      let rest = flat_map taken_by o.thefts.items in
      omega (
        arith,
        sum_by-append h (taken_of (worker_view w)) rest,
        ap (λ (u : Rights). sum_by h (taken_of u)) is,
        taking h v.deeds (t ∷ []) (omega (arith, was.one)),
        sum_by-append h (all_taken o) (t ∷ []),
        sum_by-append h (taken_of v) rest,
      )

  -- a pop that gave a task
  pub popped : (w : Deque) (t : Task) → SameWorker o.own w → worker_view w ≡ with_taken (worker_view o.own) (t ∷ []) → IsTaskOf (worker_view o.own).facts.leaves t → IsHand (record o { own = w; takes = min (o.takes + 1) top })
  popped w t same is good =
      let v = worker_view o.own in
      own_changed w o.pushes (min (o.takes + 1) top) same (ap count_of is ∙ taken_count v.deeds (t ∷ [])) (ap (λ (u : Rights). u.facts) is) (was.pushes ∙ ap (λ (l : List Task). min (length l) top) (sym (ap pushed_of is ∙ take_keeps v.deeds)))
      (grown (IsTaskOf v.facts.leaves) (all_taken o) (taken_of (worker_view w) ++ flat_map taken_by o.thefts.items) t o.takes (popped_same w t is) was.takes was.good good)
    where
      take_keeps : (ds : List Deeds) → pushed_of (with_taken (record { facts = (worker_view o.own).facts; deeds = ds }) (t ∷ [])) ≡ flat_map (λ (d : Deeds). d.pushed) ds
      take_keeps [] = refl
      take_keeps (d ∷ ds) = refl

  pub stolen_same : (i : ℕ) (old new : Theft) (r : Stolen) (P : Task → Type 0) → i < length o.thefts.items → get_or o.thefts.items i old ≡ old
      → MatchStolen r (λ t. ((h : Task → ℕ) → sum_by h (taken_by new) ≡ sum_by h (taken_by old) + h t) × P t) (taken_by new ≡ taken_by old) (taken_by new ≡ taken_by old)
      → AreSame (taken_of (worker_view o.own) ++ flat_map taken_by (set o.thefts.items i new)) (with_task (all_taken o) (of_stolen r))
  stolen_same i old new (stolen.Task t) P lt at more h = omega (arith, after h (taken_of (worker_view o.own)) o.thefts.items i old new lt at, more.0 h, sum_by-append h (all_taken o) (t ∷ []), sum_by-cons h t [])
  stolen_same i old new stolen.Empty P lt at none h = omega (arith, after h (taken_of (worker_view o.own)) o.thefts.items i old new lt at, ap (sum_by h) none)
  stolen_same i old new stolen.Lost P lt at none h = omega (arith, after h (taken_of (worker_view o.own)) o.thefts.items i old new lt at, ap (sum_by h) none)

  -- a steal, whatever it gave
  pub stole : (ts : Vec Theft Global) (q i : ℕ) (old new : Theft) → ts.items ≡ set o.thefts.items i new → get_or o.thefts.items i old ≡ old → (new.place ≡ old.place) × (deque_of new ≡ deque_of old)
      → IsTheft (each_of (length o.thefts.items)) (worker_view o.own).facts.leaves new
      → (q ≡ min (length (taken_of (worker_view o.own) ++ flat_map taken_by ts.items)) top) × All (IsTaskOf (worker_view o.own).facts.leaves) (taken_of (worker_view o.own) ++ flat_map taken_by ts.items)
      → IsHand (record o { thefts = ts; takes = q })
  stole ts q i old new is at same theft taken =
      let was_ts = o.thefts.items in
      let len : length ts.items ≡ length was_ts = ap length is ∙ length-set was_ts i new in
      let deques : deques_of ts.items ≡ deques_of was_ts = ap deques_of is ∙ map-set_same deque_of was_ts i new old (same.1 ∙ ap deque_of (sym at)) in
      let facts = (worker_view o.own).facts in
      record {
        lifo = was.lifo;
        one = was.one;
        told = record {
          total = was.told.total ∙ ap (λ (n : ℕ). total_of n) (sym len);
          given = was.told.given;
          thefts_are = subst (λ (l : List Theft). All (IsTheft (each_of (length l)) facts.leaves) l) (sym is)
              (subst (λ (n : ℕ). All (IsTheft (each_of n) facts.leaves) (set was_ts i new)) (sym (length-set was_ts i new)) (All-set (IsTheft (each_of (length was_ts)) facts.leaves) was_ts i new theft was.told.thefts_are));
        };
        places = ap (map (λ (t : Theft). t.place)) is ∙ map-set_same (λ (t : Theft). t.place) was_ts i new old (same.0 ∙ ap (λ (t : Theft). t.place) (sym at)) ∙ was.places ∙ ap (range_with_len 0) (sym len);
        number = subst (λ (n : ℕ). (1 ≤ o.number) × (o.number ≤ n) × (n ≤ most_hands)) (sym len) was.number;
        own_place = ap (λ (l : List DequeId). slice_get l (o.number - 1)) deques ∙ was.own_place;
        misses = subst (AreCounts o.misses.items) (sym len) was.misses;
        lost = subst (AreCounts o.lost.items) (sym len) was.lost;
        pushes = was.pushes;
        takes = taken.0;
        good = taken.1;
      }

  -- the pool of one hand
  alone : length o.thefts.items ≡ 1 → HasAll (worker_view o.own) × ((worker_view o.own).facts.given ≡ (worker_view o.own).facts.root ∷ []) × ((h : Task → ℕ) → sum_by h (flat_map taken_by o.thefts.items) ≡ 0)
  alone is = (
    (omega (arith, was.one), was.one ∙ sym (was.told.total ∙ ap (λ (n : ℕ). total_of n) is)),
    was.told.given ∙ ap (λ (n : ℕ). given_to n (worker_view o.own).facts.root) first,
    λ h. no_rights h (worker_view o.own).facts.leaves o.thefts.items (subst (λ (n : ℕ). All (IsTheft (each_of n) (worker_view o.own).facts.leaves) o.thefts.items) is was.told.thefts_are),
  )
    where
      first : o.number ≡ 1
      first = omega (arith, was.number, is)

  pub all_taken_here : length o.thefts.items ≡ 1 → IsDone (worker_view o.own) → AreSame ((worker_view o.own).facts.root ∷ pushed_of (worker_view o.own)) (all_taken o)
  all_taken_here is done h =
      let a = alone is in
      let v = worker_view o.own in
      omega (arith, done a.0 h, ap (λ (l : List Task). sum_by h (l ++ pushed_of v)) a.1, sum_by-append h (taken_of v) (flat_map taken_by o.thefts.items), a.2 h)

  pub not_all_taken : (w : Deque) (t : Task) → length o.thefts.items ≡ 1 → worker_view w ≡ with_taken (worker_view o.own) (t ∷ []) → (HasAll (worker_view o.own) → length (taken_of (worker_view w)) ≤ length (worker_view o.own).facts.given + length (pushed_of (worker_view w)))
      → ¬ AreSame ((worker_view o.own).facts.root ∷ pushed_of (worker_view o.own)) (all_taken o)
  not_all_taken w t is taken le same =
      let a = alone is in
      let v = worker_view o.own in
      let one : Task → ℕ = λ _. 1 in
      absurd (omega (
        arith,
        le a.0,
        ap (λ (l : List Task). length l) a.1,
        same one,
        sum_by-cons one v.facts.root (pushed_of v),
        sum_by-append one (taken_of v) (flat_map taken_by o.thefts.items),
        a.2 one,
        ones (taken_of (worker_view w)),
        ones (pushed_of (worker_view w)),
        ap (λ (u : Rights). sum_by one (taken_of u)) taken,
        ap (λ (u : Rights). sum_by one (pushed_of u)) taken,
        taking one v.deeds (t ∷ []) (omega (arith, was.one)),
        taking_pushes one v.deeds (t ∷ []),
      ))

  -- a steal leaves the hand in its place
  pub in_place : (seen : HandView) (i : ℕ) (old new : Theft) → hand_view o ≡ seen → get_or o.thefts.items i old ≡ old → deque_of new ≡ deque_of old
      → (((record { deques = deques_of (set o.thefts.items i new); leaves = (worker_view o.own).facts.leaves; root = (worker_view o.own).facts.root }) ≡ seen.pool) × (o.number ≡ seen.number))
      × ((record { pool = record { deques = deques_of (set o.thefts.items i new); leaves = (worker_view o.own).facts.leaves; root = (worker_view o.own).facts.root }; pushed = pushed_of (worker_view o.own); idle = o.idle }) ≡ rest_of_hand seen)
  in_place seen i old new is at same =
      let leaves = (worker_view o.own).facts.leaves in
      let root = (worker_view o.own).facts.root in
      let deques : deques_of (set o.thefts.items i new) ≡ deques_of o.thefts.items = map-set_same deque_of o.thefts.items i new old (same ∙ ap deque_of (sym at)) in
      let pool : List DequeId → PoolView = λ ds. record { deques = ds; leaves = leaves; root = root } in
      let rest : List DequeId → RestView = λ ds. record { pool = pool ds; pushed = pushed_of (worker_view o.own); idle = o.idle } in
      ((ap pool deques ∙ ap (λ (v : HandView). v.pool) is, ap (λ (v : HandView). v.number) is), ap rest deques ∙ ap rest_of_hand is)

  pub hand_count : (seen : HandView) → hand_view o ≡ seen → length o.thefts.items ≡ hands_of seen
  hand_count seen is = sym (length-map o.thefts.items deque_of) ∙ ap hands_of is

  -- the pass on another hand's deque
  pub theft_at : (i : ℕ) (old : Theft) → i < length o.thefts.items → get_or o.thefts.items i old ≡ old → IsTheft (each_of (length o.thefts.items)) (worker_view o.own).facts.leaves old
  theft_at i old lt at = subst (IsTheft (each_of (length o.thefts.items)) (worker_view o.own).facts.leaves) at (was.told.thefts_are i old lt)

some_right : (n number from : ℕ) → 1 ≤ from → from ≤ n → from ≢ number → 1 ≤ number → number ≤ n → 0 < each_of n
some_right n number from a b c d e = omega arith

pub known_good : (each leaves n number from : ℕ) (old : Theft) (t : Task) → each ≡ each_of n → IsTheft each leaves old → 1 ≤ from → from ≤ n → from ≢ number → 1 ≤ number → number ≤ n → IsTaskOf (view_of old).facts.leaves t → IsTaskOf leaves t
known_good each leaves n number from old t is theft a b c d e good = let more = some_right n number from a b c d e in subst (λ (m : ℕ). IsTaskOf m t) (theft.leaves_are (omega (arith, more, is))) good

-- what a take gave is of the pool's number of leaves
pub taken_good : (leaves : ℕ) (all old : List Task) (r : Take) → AreSame all (with_task old (of_take r)) → All (IsTaskOf leaves) all → MatchTake r (IsTaskOf leaves) (Unit {0}) (Unit {0})
taken_good leaves all old (took.Task t) same good = back_good (IsTaskOf leaves) old (t ∷ []) (kept_all (IsTaskOf leaves) all (old ++ t ∷ []) same good) 0 t (omega arith)
taken_good leaves all old took.Empty same good = tt
taken_good leaves all old took.Contended same good = tt
