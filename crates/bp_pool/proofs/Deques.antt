-- Each step on a deque keeps its rule.
use Rattle.std.proofs.Common.{All, ⊎_elim}
use Rattle.std.proofs.lemmas.List.Elements.{All-append, All-take, All-drop}
use lib.Seq.{take-append_seam, drop-append_seam}
use Rattle.crossbeam_deque.proofs.Lists.{at_set, at_snoc}
use Rattle.bp_pool.specs.Shares.{IsTaskOf}
use Rattle.bp_pool.specs.Shares as shares
use Rattle.std.proofs.Common.{◌≡◌, ◌≢◌, ℕ, zero, suc, ◌+◌, ◌<◌, List, [], ◌∷◌, ◌++◌, length, set, drop, take, sym, refl, ap, ◌∙◌, subst, arith, length-append}
use Rattle.std.specs.List.{sum_by, flat_map}
use Rattle.std.proofs.lemmas.List.Sums.{sum_by-cons, sum_by-append, sum_by_push}
use Rattle.std.proofs.lemmas.List.Concat.{flat_map-cons}
use Rattle.std.proofs.lemmas.Grind.{flat_map-append}
use mathlib.Core.Option.{some, some-injective, some-ne-none}
use lib.ListN.{get_elem?}
use Rattle.crossbeam_deque.specs.Tasks.{Pushes, Takes, Pops, Finds, Forks, Merges}
use Rattle.bp_base.specs.declared.record.Task.{Task}
use Rattle.bp_pool.specs.declared.deque.Deeds.{Deeds}
use Rattle.bp_pool.specs.declared.deque.Rights.{Rights}
use Rattle.bp_pool.specs.Shares.{share, rights, none, untold, facts_of, untouched, fresh, pushed_of, taken_of, all_rights, all_pushed, all_taken, KeepsTasks, pushed_by_first, taken_by_first, with_pushed, with_taken, with_given, count_of, Works, rest_of, dealt_rest, dealt_one, dealt_none, both, HasAll, IsDone, Drains}
use Rattle.bp_base.proofs.Bags.{total_set, total_at}
use Rattle.bp_pool.specs.declared.deque.Facts.{Facts}

abbrev count : Rights → ℕ
count v = length v.deeds

abbrev pushed : (Task → ℕ) → Rights → ℕ
pushed h v = sum_by h (pushed_of v)

abbrev taken : (Task → ℕ) → Rights → ℕ
taken h v = sum_by h (taken_of v)

-- The sums over a list of deeds
abbrev p_sum : (Task → ℕ) → List Deeds → ℕ
p_sum h ds = sum_by h (flat_map (λ (d : Deeds). d.pushed) ds)

abbrev t_sum : (Task → ℕ) → List Deeds → ℕ
t_sum h ds = sum_by h (flat_map (λ (d : Deeds). d.taken) ds)

p_cons : (h : Task → ℕ) (d : Deeds) (ds : List Deeds) → p_sum h (d ∷ ds) ≡ sum_by h d.pushed + p_sum h ds
p_cons h d ds = ap (sum_by h) (flat_map-cons (λ (d : Deeds). d.pushed) d ds) ∙ sum_by-append h d.pushed (flat_map (λ (d : Deeds). d.pushed) ds)

t_cons : (h : Task → ℕ) (d : Deeds) (ds : List Deeds) → t_sum h (d ∷ ds) ≡ sum_by h d.taken + t_sum h ds
t_cons h d ds = ap (sum_by h) (flat_map-cons (λ (d : Deeds). d.taken) d ds) ∙ sum_by-append h d.taken (flat_map (λ (d : Deeds). d.taken) ds)

pub p_append : (h : Task → ℕ) (ds es : List Deeds) → p_sum h (ds ++ es) ≡ p_sum h ds + p_sum h es
p_append h ds es = ap (sum_by h) (flat_map-append (λ (d : Deeds). d.pushed) ds es) ∙ sum_by-append h (flat_map (λ (d : Deeds). d.pushed) ds) (flat_map (λ (d : Deeds). d.pushed) es)

pub t_append : (h : Task → ℕ) (ds es : List Deeds) → t_sum h (ds ++ es) ≡ t_sum h ds + t_sum h es
t_append h ds es = ap (sum_by h) (flat_map-append (λ (d : Deeds). d.taken) ds es) ∙ sum_by-append h (flat_map (λ (d : Deeds). d.taken) ds) (flat_map (λ (d : Deeds). d.taken) es)

-- what a push by the first right changes
pub pushing : (h : Task → ℕ) (ds : List Deeds) (xs : List Task) → 0 < length ds → p_sum h (pushed_by_first ds xs) ≡ p_sum h ds + sum_by h xs
pushing h [] xs some_right = absurd (omega arith)
pushing h (d ∷ ds) xs some_right = omega (arith, p_cons h (share (d.pushed ++ xs) d.taken) ds, p_cons h d ds, sum_by-append h d.pushed xs)

pub pushing_takes : (h : Task → ℕ) (ds : List Deeds) (xs : List Task) → t_sum h (pushed_by_first ds xs) ≡ t_sum h ds
pushing_takes h [] xs = refl
pushing_takes h (d ∷ ds) xs = omega (arith, t_cons h (share (d.pushed ++ xs) d.taken) ds, t_cons h d ds)

pub taking : (h : Task → ℕ) (ds : List Deeds) (xs : List Task) → 0 < length ds → t_sum h (taken_by_first ds xs) ≡ t_sum h ds + sum_by h xs
taking h [] xs some_right = absurd (omega arith)
taking h (d ∷ ds) xs some_right = omega (arith, t_cons h (share d.pushed (d.taken ++ xs)) ds, t_cons h d ds, sum_by-append h d.taken xs)

pub taking_pushes : (h : Task → ℕ) (ds : List Deeds) (xs : List Task) → p_sum h (taken_by_first ds xs) ≡ p_sum h ds
taking_pushes h [] xs = refl
taking_pushes h (d ∷ ds) xs = omega (arith, p_cons h (share d.pushed (d.taken ++ xs)) ds, p_cons h d ds)

pushed_count : (ds : List Deeds) (xs : List Task) → length (pushed_by_first ds xs) ≡ length ds
pushed_count [] xs = refl
pushed_count (d ∷ ds) xs = refl

pub taken_count : (ds : List Deeds) (xs : List Task) → length (taken_by_first ds xs) ≡ length ds
taken_count [] xs = refl
taken_count (d ∷ ds) xs = refl

abbrev Known : Facts → Rights → Type 0
Known facts v = 0 < length v.deeds → v.facts ≡ facts

known_set : (facts : Facts) (views : List Rights) (i : ℕ) (w : Rights) → ((j : ℕ) (v : Rights) → get_elem? views j ≡ some v → Known facts v) → Known facts w → (j : ℕ) (v : Rights) → get_elem? (set views i w) j ≡ some v → Known facts v
known_set facts views i w known new j v e = ⊎_elim (λ (x : (j ≡ i) × (w ≡ v)). subst (Known facts) x.1 new) (λ (x : (j ≢ i) × (get_elem? views j ≡ some v)). known j v x.1) (at_set views i j w v e)

pub All_one : (P : Task → Type 0) (t : Task) → P t → All P (t ∷ [])
All_one P t h zero d lt = h
All_one P t h (suc k) d lt = absurd (omega arith)

front_good : (P : Task → Type 0) (xs ys : List Task) → All P (xs ++ ys) → All P xs
front_good P xs ys all = subst (All P) (take-append_seam xs ys) (All-take P (length xs) (xs ++ ys) all)

pub back_good : (P : Task → Type 0) (xs ys : List Task) → All P (xs ++ ys) → All P ys
back_good P xs ys all = subst (All P) (drop-append_seam xs ys) (All-drop P (length xs) (xs ++ ys) all)

pub pushes : (port : ℕ) (v : Rights) (xs : List Task) → Works v → All (IsTaskOf v.facts.leaves) xs → Pushes KeepsTasks port v xs (λ w. w ≡ with_pushed v xs)
pushes port v xs works new items views kept at = let w = with_pushed v xs in let is = kept.known port v at works in (
  w,
  record {
    facts = kept.facts;
    total = omega (arith, total_set count views port v w at, pushed_count v.deeds xs, kept.total);
    known = known_set kept.facts views port w kept.known (λ _. is);
    good = All-append (IsTaskOf kept.facts.leaves) items xs kept.good (subst (λ (f : Facts). All (IsTaskOf f.leaves) xs) is new);
    same = λ h. omega (arith, total_set (pushed h) views port v w at, total_set (taken h) views port v w at, pushing h v.deeds xs works, pushing_takes h v.deeds xs, sum_by-append h items xs, kept.same h);
  },
  refl,
)

-- the rule after tasks xs were taken, which the deque held beside `items`
pub took : (port : ℕ) (v : Rights) (xs was items : List Task) (views : List Rights) → Works v → ((h : Task → ℕ) → sum_by h was ≡ sum_by h items + sum_by h xs) → ((P : Task → Type 0) → All P was → All P items) → KeepsTasks was views → get_elem? views port ≡ some v → KeepsTasks items (set views port (with_taken v xs))
took port v xs was items views works less fewer kept at = let w = with_taken v xs in record {
  facts = kept.facts;
  total = omega (arith, total_set count views port v w at, taken_count v.deeds xs, kept.total);
  known = known_set kept.facts views port w kept.known (λ _. kept.known port v at works);
  good = fewer (IsTaskOf kept.facts.leaves) kept.good;
  same = λ h. omega (arith, total_set (pushed h) views port v w at, total_set (taken h) views port v w at, taking h v.deeds xs works, taking_pushes h v.deeds xs, less h, kept.same h);
}

mine : (v : Rights) (xs : List Task) (facts : Facts) → v.facts ≡ facts → All (IsTaskOf facts.leaves) xs → All (IsTaskOf v.facts.leaves) xs
mine v xs facts is all = subst (λ (f : Facts). All (IsTaskOf f.leaves) xs) (sym is) all

pub pops : (port : ℕ) (v : Rights) → Works v → Pops KeepsTasks port v (shares.Takes v)
pops port v works x items views kept at = (
  with_taken v (x ∷ []),
  took port v (x ∷ []) (items ++ x ∷ []) items views works (λ h. sum_by-append h items (x ∷ [])) (λ P all. front_good P items (x ∷ []) all) kept at,
  (refl, mine v (x ∷ []) kept.facts (kept.known port v at works) (back_good (IsTaskOf kept.facts.leaves) items (x ∷ []) kept.good)),
)

pub takes : (port : ℕ) (v : Rights) (most : ℕ) → Works v → Takes KeepsTasks port v most (shares.Takes v)
takes port v most works xs items views _ _ kept at = (
  with_taken v xs,
  took port v xs (xs ++ items) items views works (λ h. omega (arith, sum_by-append h xs items)) (λ P all. back_good P xs items all) kept at,
  (refl, mine v xs kept.facts (kept.known port v at works) (front_good (IsTaskOf kept.facts.leaves) xs items kept.good)),
)

rest_count : (ds : List Deeds) → length (rest_of ds) + length (take 1 (drop 1 ds)) ≡ length ds
rest_count [] = refl
rest_count (d ∷ []) = refl
rest_count (d ∷ e ∷ es) = omega arith

rest_pushed : (h : Task → ℕ) (ds : List Deeds) → p_sum h (rest_of ds) + p_sum h (take 1 (drop 1 ds)) ≡ p_sum h ds
rest_pushed h [] = refl
rest_pushed h (d ∷ []) = omega arith
rest_pushed h (d ∷ e ∷ es) = omega (arith, p_cons h d es, p_cons h e [], p_cons h d (e ∷ es), p_cons h e es)

rest_taken : (h : Task → ℕ) (ds : List Deeds) → t_sum h (rest_of ds) + t_sum h (take 1 (drop 1 ds)) ≡ t_sum h ds
rest_taken h [] = refl
rest_taken h (d ∷ []) = omega arith
rest_taken h (d ∷ e ∷ es) = omega (arith, t_cons h d es, t_cons h e [], t_cons h d (e ∷ es), t_cons h e es)

pub forks : (port : ℕ) (v : Rights) → Forks KeepsTasks port v (dealt_rest v) (dealt_one v)
forks port v items views kept at = let l = dealt_rest v in let r = dealt_one v in let vs = set views port l in record {
  facts = kept.facts;
  total = omega (arith, total_set count views port v l at, sum_by_push count vs r, rest_count v.deeds, kept.total);
  known = λ j u e. ⊎_elim (λ (old : get_elem? vs j ≡ some u). known_set kept.facts views port l kept.known (λ more. kept.known port v at (omega (arith, more, rest_count v.deeds))) j u old)
      (λ (new : r ≡ u). subst (Known kept.facts) new (λ more. kept.known port v at (omega (arith, more, rest_count v.deeds)))) (at_snoc vs r u j e);
  good = kept.good;
  same = λ h. omega (arith, total_set (pushed h) views port v l at, total_set (taken h) views port v l at, sum_by_push (pushed h) vs r, sum_by_push (taken h) vs r, rest_pushed h v.deeds, rest_taken h v.deeds, kept.same h);
}

pub forks_none : (port : ℕ) (v : Rights) → Forks KeepsTasks port v v (dealt_none v)
forks_none port v items views kept at = let r = dealt_none v in let vs = set views port v in record {
  facts = kept.facts;
  total = omega (arith, total_set count views port v v at, sum_by_push count vs r, kept.total);
  known = λ j u e. ⊎_elim (λ (old : get_elem? vs j ≡ some u). known_set kept.facts views port v kept.known (λ more. kept.known port v at more) j u old)
      (λ (new : r ≡ u) more. absurd (omega (arith, more, ap count (sym new)))) (at_snoc vs r u j e);
  good = kept.good;
  same = λ h. omega (arith, total_set (pushed h) views port v v at, total_set (taken h) views port v v at, sum_by_push (pushed h) vs r, sum_by_push (taken h) vs r, kept.same h);
}

pub merges : (port : ℕ) (v : Rights) (other : ℕ) (u : Rights) → Works v → Merges KeepsTasks port v other u (both v u) none
merges port v other u works items views kept at _ at' = let b = both v u in let vs = set views port b in record {
  facts = kept.facts;
  total = omega (arith, total_set count views port v b at, total_set count vs other u none at', length-append v.deeds u.deeds, kept.total);
  known = known_set kept.facts vs other none (known_set kept.facts views port b kept.known (λ _. kept.known port v at works)) (λ more. absurd (omega arith));
  good = kept.good;
  same = λ h. omega (
    arith,
    total_set (pushed h) views port v b at,
    total_set (taken h) views port v b at,
    total_set (pushed h) vs other u none at',
    total_set (taken h) vs other u none at',
    p_append h v.deeds u.deeds,
    t_append h v.deeds u.deeds,
    kept.same h,
  );
}

pub begins : KeepsTasks [] (fresh untold ∷ [])
begins = record { facts = untold; total = refl; known = at_first; good = λ k d lt. absurd (omega arith); same = λ h. refl }
  where
    at_first : (i : ℕ) (v : Rights) → get_elem? (fresh untold ∷ []) i ≡ some v → 0 < length v.deeds → v.facts ≡ untold
    at_first zero v e more = ap (λ u. u.facts) (sym (some-injective (fresh untold) v e))
    at_first (suc i) v e more = absurd (some-ne-none v (sym e))

-- a view with no right has pushed and taken nothing
none_else : (h : Task → ℕ) (views : List Rights) → all_rights views ≡ 0 → (all_pushed h views ≡ 0) × (all_taken h views ≡ 0)
none_else h [] zeros = (refl, refl)
none_else h (v ∷ vs) zeros =
    let c = sum_by-cons count v vs in
    let e = none_else h vs (omega arith) in
    let nothing : (v.deeds ≡ []) = empty v.deeds (omega arith) in
    (omega (arith, sum_by-cons (pushed h) v vs, e.0, ap (p_sum h) nothing), omega (arith, sum_by-cons (taken h) v vs, e.1, ap (t_sum h) nothing))
  where
    empty : (ds : List Deeds) → length ds ≡ 0 → ds ≡ []
    empty [] z = refl
    empty (d ∷ ds) z = absurd (omega arith)

-- where one view has all rights, it has all that was done
all_here : (h : Task → ℕ) (views : List Rights) (port : ℕ) (v : Rights) → all_rights views ≡ length v.deeds → get_elem? views port ≡ some v → (all_pushed h views ≡ pushed h v) × (all_taken h views ≡ taken h v)
all_here h [] port v all at = absurd (some-ne-none v (sym at))
all_here h (x ∷ xs) zero v all at =
    let e = some-injective x v at in
    let n = none_else h xs (omega (arith, sum_by-cons count x xs, ap count e, all)) in
    (omega (arith, sum_by-cons (pushed h) x xs, ap (pushed h) e, n.0), omega (arith, sum_by-cons (taken h) x xs, ap (taken h) e, n.1))
all_here h (x ∷ xs) (suc i) v all at =
    let at' : get_elem? xs i ≡ some v = at in
    let le = total_at count xs i v at' in
    let c = sum_by-cons count x xs in
    let e = all_here h xs i v (omega (arith, c, le, all)) at' in
    let z : length x.deeds ≡ 0 = omega (arith, c, le, all) in
    let n = none_else h (x ∷ []) (omega (arith, sum_by-cons count x [], z)) in
    (omega (arith, sum_by-cons (pushed h) x xs, sum_by-cons (pushed h) x [], e.0, n.0), omega (arith, sum_by-cons (taken h) x xs, sum_by-cons (taken h) x [], e.1, n.1))

-- where one view has all rights, no other has one
others : (views : List Rights) (i j : ℕ) (v u : Rights) → all_rights views ≡ length v.deeds → j ≢ i → get_elem? views i ≡ some v → get_elem? views j ≡ some u → length u.deeds ≡ 0
others [] i j v u all apart at e = absurd (some-ne-none v (sym at))
others (x ∷ xs) zero zero v u all apart at e = absurd (apart refl)
others (x ∷ xs) zero (suc j) v u all apart at e = let le = total_at count xs j u e in omega (arith, le, all, sum_by-cons count x xs, ap count (some-injective x v at))
others (x ∷ xs) (suc i) zero v u all apart at e = let le = total_at count xs i v at in omega (arith, le, all, sum_by-cons count x xs, ap count (some-injective x u e))
others (x ∷ xs) (suc i) (suc j) v u all apart at e = let le = total_at count xs i v at in others xs i j v u (omega (arith, le, all, sum_by-cons count x xs)) (λ z. apart (ap suc z)) at e

all_counted : (items : List Task) (views : List Rights) (port : ℕ) (v : Rights) → HasAll v → KeepsTasks items views → get_elem? views port ≡ some v → all_rights views ≡ length v.deeds
all_counted items views port v all kept at = omega (arith, kept.total, ap (λ (f : Facts). f.total) (kept.known port v at all.0), all.1)

pub finds : (port : ℕ) (v : Rights) → Finds KeepsTasks port v (IsDone v)
finds port v views kept at all h =
    let a = all_here h views port v (all_counted [] views port v all kept at) at in
    omega (arith, a.0, a.1, kept.same h, sum_by-append h v.facts.given (pushed_of v), ap (λ (f : Facts). sum_by h f.given) (kept.known port v at all.0))

ones : (ts : List Task) → sum_by (λ (t : Task). 1) ts ≡ length ts
ones [] = refl
ones (t ∷ ts) = omega (arith, sum_by-cons (λ (t : Task). 1) t ts, ones ts)

set_at : (l : List Rights) (i : ℕ) (w v : Rights) → get_elem? l i ≡ some v → get_elem? (set l i w) i ≡ some w
set_at [] i w v at = absurd (some-ne-none v (sym at))
set_at (x ∷ xs) zero w v at = refl
set_at (x ∷ xs) (suc i) w v at = set_at xs i w v at

pub drains : (port : ℕ) (v : Rights) → Works v → Pops KeepsTasks port v (Drains v)
drains port v works x items views kept at = let w = with_taken v (x ∷ []) in let kept' = took port v (x ∷ []) (items ++ x ∷ []) items views works (λ h. sum_by-append h items (x ∷ [])) (λ P all. front_good P items (x ∷ []) all) kept at in (
  w,
  kept',
  (
    refl,
    mine v (x ∷ []) kept.facts (kept.known port v at works) (back_good (IsTaskOf kept.facts.leaves) items (x ∷ []) kept.good),
    λ all. let one : Task → ℕ = λ _. 1 in let vs = set views port w in let here : get_elem? vs port ≡ some w = set_at views port w v at in
        let same_count = taken_count v.deeds (x ∷ []) in
        let all' : HasAll w = (omega (arith, same_count, all.0), omega (arith, same_count, all.1)) in
        let a = all_here one vs port w (all_counted items vs port w all' kept' here) here in
        omega (arith, a.0, a.1, kept'.same one, ones (taken_of w), ones (pushed_of w), ones v.facts.given, ap (λ (f : Facts). sum_by one f.given) (kept'.known port w here all'.0)),
  ),
)

untouched_count : (n : ℕ) → length (untouched n) ≡ n
untouched_count zero = refl
untouched_count (suc n) = omega (arith, untouched_count n)

untouched_pushed : (h : Task → ℕ) (n : ℕ) → p_sum h (untouched n) ≡ 0
untouched_pushed h zero = refl
untouched_pushed h (suc n) = omega (arith, p_cons h (share [] []) (untouched n), untouched_pushed h n)

untouched_taken : (h : Task → ℕ) (n : ℕ) → t_sum h (untouched n) ≡ 0
untouched_taken h zero = refl
untouched_taken h (suc n) = omega (arith, t_cons h (share [] []) (untouched n), untouched_taken h n)

pub fresh_count : (facts : Facts) → count_of (fresh facts) ≡ facts.total
fresh_count facts = untouched_count facts.total

no_task : (ts : List Task) → sum_by (λ (t : Task). 1) ts ≡ 0 → ts ≡ []
no_task [] z = refl
no_task (t ∷ ts) z = absurd (omega (arith, z, sum_by-cons (λ (t : Task). 1) t ts))

-- where one pass has all rights and did nothing, and the deque was given nothing, there is nothing in the deque, and the facts are still open
pub tells : (port : ℕ) (facts : Facts) (v : Rights) → facts.given ≡ [] → v ≡ fresh untold → Forks KeepsTasks port v (fresh facts) none
tells port facts v bare new items views kept at = let l = fresh facts in let vs = set views port l in
    let all : HasAll v = subst HasAll (sym new) (omega arith, refl) in
    let counted = all_counted items views port v all kept at in
    let one : Task → ℕ = λ _. 1 in
    let a = all_here one views port v counted at in
    let nothing : kept.facts.given ≡ [] = sym (ap (λ (f : Facts). f.given) (kept.known port v at all.0)) ∙ ap (λ (u : Rights). u.facts.given) new in
    let none_in : items ≡ [] = no_task items (omega (arith, a.0, a.1, kept.same one, ap (pushed one) new, ap (taken one) new, ap (sum_by one) nothing)) in
    let was : (j : ℕ) (u : Rights) → j ≢ port → get_elem? views j ≡ some u → length u.deeds ≡ 0 = λ j u apart e. others views port j v u counted apart at e in
    record {
      facts = facts;
      total = omega (arith, total_set count views port v l at, sum_by_push count vs none, counted, untouched_count facts.total);
      known = λ j u e more. ⊎_elim (λ (old : get_elem? vs j ≡ some u). ⊎_elim (λ (x : (j ≡ port) × (l ≡ u)). ap (λ y. y.facts) (sym x.1)) (λ (x : (j ≢ port) × (get_elem? views j ≡ some u)). absurd (omega (arith, more, was j u x.0 x.1))) (at_set views port j l u old))
          (λ (new' : none ≡ u). absurd (omega (arith, more, ap count (sym new')))) (at_snoc vs none u j e);
      good = subst (All (IsTaskOf facts.leaves)) (sym none_in) (λ k d lt. absurd (omega arith));
      same = λ h. omega (arith, total_set (pushed h) views port v l at, total_set (taken h) views port v l at, sum_by_push (pushed h) vs none, sum_by_push (taken h) vs none, kept.same h, untouched_pushed h facts.total, untouched_taken h facts.total, ap (pushed h) new, ap (taken h) new, ap (sum_by h) nothing, ap (sum_by h) bare);
    }

-- where one pass has all rights, it may give the deque its first tasks
pub gives : (port : ℕ) (v : Rights) (xs : List Task) → HasAll v → v.facts.given ≡ [] → All (IsTaskOf v.facts.leaves) xs → Pushes KeepsTasks port v xs (λ w. w ≡ with_given v xs)
gives port v xs all bare new items views kept at = let w = with_given v xs in let is = kept.known port v at all.0 in
    let counted = all_counted items views port v all kept at in
    let nothing : kept.facts.given ≡ [] = sym (ap (λ (f : Facts). f.given) is) ∙ bare in
    let leaves : v.facts.leaves ≡ kept.facts.leaves = ap (λ (f : Facts). f.leaves) is in
    let was : (j : ℕ) (u : Rights) → j ≢ port → get_elem? views j ≡ some u → length u.deeds ≡ 0 = λ j u apart e. others views port j v u counted apart at e in (
      w,
      record {
        facts = w.facts;
        total = omega (arith, total_set count views port v w at, counted, all.1);
        known = λ j u e more. ⊎_elim (λ (x : (j ≡ port) × (w ≡ u)). ap (λ y. y.facts) (sym x.1)) (λ (x : (j ≢ port) × (get_elem? views j ≡ some u)). absurd (omega (arith, more, was j u x.0 x.1))) (at_set views port j w u e);
        good = All-append (IsTaskOf v.facts.leaves) items xs (subst (λ (n : ℕ). All (IsTaskOf n) items) (sym leaves) kept.good) new;
        same = λ h. omega (arith, total_set (pushed h) views port v w at, total_set (taken h) views port v w at, sum_by-append h items xs, kept.same h, ap (sum_by h) nothing);
      },
      refl,
    )
