-- Sums over lists, and lists with the same values: what stands in one stands in the other.
use Rattle.std.proofs.Common.{◌≡◌, ℕ, zero, suc, ◌+◌, ◌<◌, ◌≤◌, Bool, true, false, true≢false, ◌&&◌, ◌==◌, cond, List, [], ◌∷◌, ◌++◌, map, length, set, get_or, All, sym, refl, ap, ◌∙◌, subst, arith}
use Rattle.std.specs.List.{sum_by, flat_map, Contains}
use Rattle.std.specs.List.Sorted.{IsPermutation}
use Rattle.std.proofs.lemmas.List.Sums.{sum_by-cons, sum_by-append}
use Rattle.std.proofs.lemmas.List.Sorted.{sum_by-IsPermutation}
use Rattle.std.proofs.lemmas.List.{get_or_default}
use mathlib.Core.Option.{some, some-injective, some-ne-none}
use lib.ListN.{get_elem?}
use Rattle.std.proofs.lemmas.Bool.Decides.{nat_tests}
use Rattle.bp_base.specs.declared.path.Choice.{Choice}
use Rattle.bp_base.specs.declared.path.Choice.TheVariants.{Left, Right, Below, Above}
use Rattle.bp_base.specs.declared.path.Step.{Step}
use Rattle.bp_base.specs.declared.record.Task.{Task}
use Rattle.bp_base.specs.Bags.{AreSame, choice_number, same_step, same_path, same_task}

-- Sums.

module _ {X : Type 0} (f : X → ℕ) where
  -- the sum after a change of one element
  pub total_set : (xs : List X) (i : ℕ) (v w : X) → get_elem? xs i ≡ some v → sum_by f (set xs i w) + f v ≡ sum_by f xs + f w
  total_set [] i v w at = absurd (some-ne-none v (sym at))
  total_set (x ∷ xs) zero v w at = omega (arith, sum_by-cons f w xs, sum_by-cons f x xs, ap f (some-injective x v at))
  total_set (x ∷ xs) (suc i) v w at = omega (arith, sum_by-cons f x (set xs i w), sum_by-cons f x xs, total_set xs i v w at)

  -- a part is at most the sum
  pub total_at : (xs : List X) (i : ℕ) (v : X) → get_elem? xs i ≡ some v → f v ≤ sum_by f xs
  total_at [] i v at = absurd (some-ne-none v (sym at))
  total_at (x ∷ xs) zero v at = omega (arith, sum_by-cons f x xs, ap f (some-injective x v at))
  total_at (x ∷ xs) (suc i) v at = omega (arith, sum_by-cons f x xs, total_at xs i v at)

  pub sum_by-map : {A : Type 0} (g : A → X) (ts : List A) → sum_by f (map g ts) ≡ sum_by (λ t. f (g t)) ts
  sum_by-map g [] = refl
  sum_by-map g (t ∷ ts) = omega (arith, sum_by-cons f (g t) (map g ts), sum_by-cons (λ t. f (g t)) t ts, sum_by-map g ts)

  pub sum_by-flat_map : {A : Type 0} (g : A → List X) (ts : List A) → sum_by f (flat_map g ts) ≡ sum_by (λ t. sum_by f (g t)) ts
  sum_by-flat_map g [] = refl
  sum_by-flat_map g (t ∷ ts) = omega (arith, sum_by-append f (g t) (flat_map g ts), sum_by-cons (λ t. sum_by f (g t)) t ts, sum_by-flat_map g ts)

  pub sum_by-plus : (g : X → ℕ) (xs : List X) → sum_by (λ x. f x + g x) xs ≡ sum_by f xs + sum_by g xs
  sum_by-plus g [] = refl
  sum_by-plus g (x ∷ xs) = omega (arith, sum_by-cons (λ x. f x + g x) x xs, sum_by-cons f x xs, sum_by-cons g x xs, sum_by-plus g xs)

  -- where no element weighs more by f than by g, the sum doesn't either
  pub sum_by-mono : (g : X → ℕ) (xs : List X) → ((x : X) → f x ≤ g x) → sum_by f xs ≤ sum_by g xs
  sum_by-mono g [] le = omega arith
  sum_by-mono g (x ∷ xs) le = omega (arith, sum_by-cons f x xs, sum_by-cons g x xs, le x, sum_by-mono g xs le)

sum_by-ones : {X : Type 0} (xs : List X) → sum_by (λ x. 1) xs ≡ length xs
sum_by-ones [] = refl
sum_by-ones (x ∷ xs) = omega (arith, sum_by-cons (λ x. 1) x xs, sum_by-ones xs)

-- Lists with the same values.

module _ {X : Type 0} where
  pub same_refl : (xs : List X) → AreSame xs xs
  same_refl xs h = refl

  pub same_sym : (xs ys : List X) → AreSame xs ys → AreSame ys xs
  same_sym xs ys both h = sym (both h)

  pub same_trans : (xs ys zs : List X) → AreSame xs ys → AreSame ys zs → AreSame xs zs
  same_trans xs ys zs first second h = first h ∙ second h

  pub same-IsPermutation : (xs ys : List X) → IsPermutation xs ys → AreSame xs ys
  same-IsPermutation xs ys moves h = sym (sum_by-IsPermutation h xs ys moves)

  pub same-length : (xs ys : List X) → AreSame xs ys → length xs ≡ length ys
  same-length xs ys both = sym (sum_by-ones xs) ∙ both (λ x. 1) ∙ sum_by-ones ys

  pub same-append : (xs ys us vs : List X) → AreSame xs ys → AreSame us vs → AreSame (xs ++ us) (ys ++ vs)
  same-append xs ys us vs front back h = omega (arith, sum_by-append h xs us, sum_by-append h ys vs, front h, back h)

  pub same-append_comm : (xs ys : List X) → AreSame (xs ++ ys) (ys ++ xs)
  same-append_comm xs ys h = omega (arith, sum_by-append h xs ys, sum_by-append h ys xs)

  pub same-cons : (x : X) (xs ys : List X) → AreSame xs ys → AreSame (x ∷ xs) (x ∷ ys)
  same-cons x xs ys both h = omega (arith, sum_by-cons h x xs, sum_by-cons h x ys, both h)

  -- an element may stand anywhere
  pub same-middle : (xs : List X) (x : X) (ys : List X) → AreSame (xs ++ x ∷ ys) (x ∷ (xs ++ ys))
  same-middle xs x ys h = omega (arith, sum_by-append h xs (x ∷ ys), sum_by-cons h x ys, sum_by-cons h x (xs ++ ys), sum_by-append h xs ys)

  pub same_push : (xs : List X) (x : X) → AreSame (xs ++ x ∷ []) (x ∷ xs)
  same_push xs x h = omega (arith, sum_by-append h xs (x ∷ []), sum_by-cons h x [], sum_by-cons h x xs)

  -- what stands in front of both may be left out
  pub same_cut : (us xs ys : List X) → AreSame (us ++ xs) (us ++ ys) → AreSame xs ys
  same_cut us xs ys both h = omega (arith, sum_by-append h us xs, sum_by-append h us ys, both h)

  pub same_cut_one : (x : X) (xs ys : List X) → AreSame (x ∷ xs) (x ∷ ys) → AreSame xs ys
  same_cut_one x xs ys both h = omega (arith, sum_by-cons h x xs, sum_by-cons h x ys, both h)

  pub same-map : {A : Type 0} (g : X → A) (xs ys : List X) → AreSame xs ys → AreSame (map g xs) (map g ys)
  same-map g xs ys both h = sum_by-map h g xs ∙ both (λ x. h (g x)) ∙ sym (sum_by-map h g ys)

  pub same-flat_map : {A : Type 0} (g : X → List A) (xs ys : List X) → AreSame xs ys → AreSame (flat_map g xs) (flat_map g ys)
  same-flat_map g xs ys both h = sum_by-flat_map h g xs ∙ both (λ x. sum_by h (g x)) ∙ sym (sum_by-flat_map h g ys)

module _ {X : Type 0} (eq : X → X → Bool) (same : (x : X) → eq x x ≡ true) (sound : (x y : X) → eq x y ≡ true → x ≡ y) where
  abbrev one : X → X → ℕ
  one x y = cond (eq y x) 1 0

  one_here : (x : X) → one x x ≡ 1
  one_here x = ap (λ (b : Bool). cond b 1 0) (same x)

  found : (x : X) (xs : List X) → 0 < sum_by (one x) xs → Contains xs x
  found x [] more = absurd (omega arith)
  found x (y ∷ ys) more = go (eq y x) refl (λ some_more. found x ys some_more)
    where
      go : (b : Bool) → eq y x ≡ b → (0 < sum_by (one x) ys → Contains ys x) → Contains (y ∷ ys) x
      go true e rest = (0, omega arith, sound y x e)
      go false e rest = let zero_here : one x y ≡ 0 = ap (λ (b : Bool). cond b 1 0) e in let c = rest (omega (arith, more, sum_by-cons (one x) y ys, zero_here)) in let lt = c.1 in (suc c.0, omega arith, c.2)

  counts : (x : X) (xs : List X) (k : ℕ) → k < length xs → get_or xs k x ≡ x → 0 < sum_by (one x) xs
  counts x [] k lt is = absurd (omega arith)
  counts x (y ∷ ys) zero lt is = omega (arith, sum_by-cons (one x) y ys, ap (one x) is, one_here x)
  counts x (y ∷ ys) (suc k) lt is = let c = counts x ys k (omega arith) is in omega (arith, sum_by-cons (one x) y ys, c)

  pub moved : (xs ys : List X) (x : X) → AreSame xs ys → Contains xs x → Contains ys x
  moved xs ys x both c = found x ys (omega (arith, both (one x), counts x xs c.0 c.1 c.2))

  -- what holds of all values of one list holds of all of the other
  pub all_moved : (P : X → Type 0) (xs ys : List X) → AreSame xs ys → All P xs → All P ys
  all_moved P xs ys both all i d less =
      let x : X = get_or ys i d in
      let c = moved ys xs x (same_sym xs ys both) (i, less, get_or_default ys i x d less) in
      subst P c.2 (all c.0 x c.1)

pub both_true : (a b : Bool) → (a && b) ≡ true → (a ≡ true) × (b ≡ true)
both_true true b e = (refl, e)
both_true false b e = absurd (true≢false (sym e))

pub equal : (m n : ℕ) → (m == n) ≡ true → m ≡ n
equal m n e = grind (arith, nat_tests)

pub itself : (m : ℕ) → (m == m) ≡ true
itself m = grind (arith, nat_tests)

pub choice_from : (c d : Choice) → choice_number c ≡ choice_number d → c ≡ d
choice_from Left Left e = refl
choice_from Right Right e = refl
choice_from Below Below e = refl
choice_from Above Above e = refl
choice_from Left Right e = absurd (omega arith)
choice_from Left Below e = absurd (omega arith)
choice_from Left Above e = absurd (omega arith)
choice_from Right Left e = absurd (omega arith)
choice_from Right Below e = absurd (omega arith)
choice_from Right Above e = absurd (omega arith)
choice_from Below Left e = absurd (omega arith)
choice_from Below Right e = absurd (omega arith)
choice_from Below Above e = absurd (omega arith)
choice_from Above Left e = absurd (omega arith)
choice_from Above Right e = absurd (omega arith)
choice_from Above Below e = absurd (omega arith)

pub step_itself : (s : Step) → same_step s s ≡ true
step_itself s = rw (itself s.pair.i, itself s.pair.j, itself (choice_number s.choice)) refl

pub step_sound : (s t : Step) → same_step s t ≡ true → s ≡ t
step_sound s t e =
    let outer = both_true ((s.pair.i == t.pair.i) && (s.pair.j == t.pair.j)) (choice_number s.choice == choice_number t.choice) e in
    let inner = both_true (s.pair.i == t.pair.i) (s.pair.j == t.pair.j) outer.0 in
    let i = equal s.pair.i t.pair.i inner.0 in
    let j = equal s.pair.j t.pair.j inner.1 in
    let c = choice_from s.choice t.choice (equal (choice_number s.choice) (choice_number t.choice) outer.1) in
    λ k. record { pair = record { i = i k; j = j k }; choice = c k }

pub path_itself : (p : List Step) → same_path p p ≡ true
path_itself [] = refl
path_itself (s ∷ ss) = rw (step_itself s) (path_itself ss)

pub path_sound : (p q : List Step) → same_path p q ≡ true → p ≡ q
path_sound [] [] e = refl
path_sound [] (t ∷ ts) e = absurd (true≢false (sym e))
path_sound (s ∷ ss) [] e = absurd (true≢false (sym e))
path_sound (s ∷ ss) (t ∷ ts) e = let b = both_true (same_step s t) (same_path ss ts) e in let h = step_sound s t b.0 in let r = path_sound ss ts b.1 in λ k. h k ∷ r k

task_itself : (t : Task) → same_task t t ≡ true
task_itself t = rw (itself t.bound) (path_itself t.path)

task_sound : (t u : Task) → same_task t u ≡ true → t ≡ u
task_sound t u e = let b = both_true (t.bound == u.bound) (same_path t.path u.path) e in let p = path_sound t.path u.path b.1 in let n = equal t.bound u.bound b.0 in λ k. record { path = p k; bound = n k }

-- what stands in one list of tasks stands in each list of the same tasks
pub kept : (xs ys : List Task) (t : Task) → AreSame xs ys → Contains xs t → Contains ys t
kept xs ys t both c = moved same_task task_itself task_sound xs ys t both c

-- the same for paths
pub kept_path : (ps qs : List (List Step)) (p : List Step) → AreSame ps qs → Contains ps p → Contains qs p
kept_path ps qs p both c = moved same_path path_itself path_sound ps qs p both c

-- what holds of each task of one list holds of each task of the other
pub kept_all : (P : Task → Type 0) (xs ys : List Task) → AreSame xs ys → All P xs → All P ys
kept_all P xs ys both all = all_moved same_task task_itself task_sound P xs ys both all
