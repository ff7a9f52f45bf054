-- The paths of records and of tasks left are all different, and each record has at most four children.
use Rattle.std.proofs.Common.{◌≡◌, ◌≢◌, ℕ, zero, suc, ◌+◌, ◌*◌, ◌≤◌, Bool, true, false, ◌&&◌, ◌==◌, cond, List, [], ◌∷◌, ◌++◌, length, get_or, All, refl, sym, ap, ◌∙◌, subst, arith, length-append}
use Rattle.std.specs.List.{AllPairs, sum_by, flat_map}
use Rattle.std.proofs.lemmas.Grind.{flat_map-append}
use Rattle.std.proofs.lemmas.List.{length-map, map-append}
use Rattle.std.proofs.lemmas.List.Elements.{All-append, All-map}
use Rattle.std.proofs.lemmas.List.Kept.{AllPairs-cons}
use Rattle.std.proofs.lemmas.List.Sums.{sum_by-cons, sum_by-append, get_or-le-sum_by}
use Rattle.bp_base.specs.declared.path.Choice.{Choice}
use Rattle.bp_base.specs.declared.path.Choice.TheVariants.{Left, Right, Below, Above}
use Rattle.bp_base.specs.declared.path.Pair.{Pair}
use Rattle.bp_base.specs.declared.path.Step.{Step}
use Rattle.bp_base.specs.declared.point.Sheet.{Sheet}
use Rattle.bp_base.specs.declared.point.Sheet.TheVariants.{Square, Strip}
use Rattle.bp_base.specs.declared.record.Record.{Record}
use Rattle.bp_base.specs.declared.record.RecordKind.{RecordKind}
use Rattle.bp_base.specs.declared.record.RecordKind.TheVariants.{Split, Closed}
use Rattle.bp_base.specs.declared.record.Task.{Task}
use Rattle.bp_base.specs.Bags.{choice_number, same_path, same_step}
use Rattle.bp_base.specs.Tree.{TreeValue}
use Rattle.bp_base.proofs.Bags.{same-length, sum_by-map, sum_by-flat_map, sum_by-mono, path_itself}
use Rattle.bp_metric.specs.Choices.{allowed, are_late_twins, is_pair_of}
use Rattle.bp_metric.specs.Records.{IsBalanced, children_of, children_of_kind, paths_left, paths_of}
use Rattle.bp_metric.specs.Refutation.{extended}

-- The choices of a pair.

by_if : (P : List Choice → Type 0) (b : Bool) (xs ys : List Choice) → P xs → P ys → P (cond b xs ys)
by_if P true xs ys first second = first
by_if P false xs ys first second = second

-- what holds of each list that can be allowed
by_lists : (P : List Choice → Type 0) → P (Left ∷ []) → P (Left ∷ Below ∷ []) → P (Left ∷ Right ∷ Below ∷ []) → P (Left ∷ Right ∷ Below ∷ Above ∷ []) → (T : TreeValue) (G : Sheet) (p : Pair) → P (allowed T G p)
unfolding allowed
by_lists P one two three four T Square p = by_if P (is_pair_of 1 2 p) _ _ one (by_if P (is_pair_of 1 3 p) _ _ three (by_if P (are_late_twins T p) _ _ two four))
by_lists P one two three four T (Strip width) p = by_if P (is_pair_of 1 2 p) _ _ two (by_if P (are_late_twins T p) _ _ two four)

few_allowed : (T : TreeValue) (G : Sheet) (p : Pair) → length (allowed T G p) ≤ 4
few_allowed T G p = by_lists (λ cs. length cs ≤ 4) (omega arith) (omega arith) (omega arith) (omega arith) T G p

abbrev one_if : Bool → ℕ
one_if b = cond b 1 0

abbrev is_choice : ℕ → Choice → ℕ
is_choice n c = cond (choice_number c == n) 1 0

-- no choice is allowed twice
once_allowed : (T : TreeValue) (G : Sheet) (p : Pair) (d : Choice) → sum_by (is_choice (choice_number d)) (allowed T G p) ≤ 1
once_allowed T G p Left = by_lists (λ cs. sum_by (is_choice 0) cs ≤ 1) (omega arith) (omega arith) (omega arith) (omega arith) T G p
once_allowed T G p Right = by_lists (λ cs. sum_by (is_choice 1) cs ≤ 1) (omega arith) (omega arith) (omega arith) (omega arith) T G p
once_allowed T G p Below = by_lists (λ cs. sum_by (is_choice 2) cs ≤ 1) (omega arith) (omega arith) (omega arith) (omega arith) T G p
once_allowed T G p Above = by_lists (λ cs. sum_by (is_choice 3) cs ≤ 1) (omega arith) (omega arith) (omega arith) (omega arith) T G p

-- How often a path stands in a list.

abbrev at : List Step → List Step → ℕ
at p q = cond (same_path q p) 1 0

at_most : (b : Bool) → cond b 1 0 ≤ 1
at_most true = omega arith
at_most false = omega arith

and_false : (b : Bool) → (b && false) ≡ false
and_false true = refl
and_false false = refl

-- the last steps are compared last
same_last : (p q : List Step) (x s : Step) → same_path (p ++ x ∷ []) (q ++ s ∷ []) ≡ (same_path p q && same_step x s)
same_last [] [] x s = go (same_step x s)
  where
    go : (b : Bool) → (b && true) ≡ b
    go true = refl
    go false = refl
same_last [] (y ∷ []) x s = and_false (same_step x y)
same_last [] (y ∷ z ∷ q) x s = and_false (same_step x y)
same_last (w ∷ []) [] x s = and_false (same_step w s)
same_last (w ∷ z ∷ p) [] x s = and_false (same_step w s)
same_last (w ∷ p) (y ∷ q) x s = ap (λ (b : Bool). same_step w y && b) (same_last p q x s) ∙ sym (assoc (same_step w y) (same_path p q) (same_step x s))
  where
    assoc : (a b c : Bool) → ((a && b) && c) ≡ (a && (b && c))
    assoc true b c = refl
    assoc false b c = refl

not_root : (p : List Step) (x : Step) → same_path (p ++ x ∷ []) [] ≡ false
not_root [] x = refl
not_root (w ∷ p) x = refl

root_not : (p : List Step) (x : Step) → same_path [] (p ++ x ∷ []) ≡ false
root_not [] x = refl
root_not (w ∷ p) x = refl

step_choice : (x s : Step) → cond (same_step x s) 1 0 ≤ is_choice (choice_number s.choice) x.choice
step_choice x s = go ((x.pair.i == s.pair.i) && (x.pair.j == s.pair.j)) (choice_number x.choice == choice_number s.choice)
  where
    go : (a b : Bool) → cond (a && b) 1 0 ≤ cond b 1 0
    go true b = omega arith
    go false true = omega arith
    go false false = omega arith

module _ (T : TreeValue) (G : Sheet) where
  no_child_root : (path : List Step) (kind : RecordKind) → sum_by (at []) (children_of_kind T G path kind) ≡ 0
  no_child_root path (Split p) = sum_by-map (at []) (extended path p) (allowed T G p) ∙ none (allowed T G p)
    where
      none : (cs : List Choice) → sum_by (λ c. at [] (extended path p c)) cs ≡ 0
      none [] = refl
      none (c ∷ cs) = omega (arith, sum_by-cons (λ d. at [] (extended path p d)) c cs, ap one_if (not_root path (record { pair = p; choice = c })), none cs)
  no_child_root path (Closed claim) = refl

  -- a path with one more step stands at most once among the children of the path without it, and not among others
  module _ (q : List Step) (s : Step) (path : List Step) (p : Pair) where
    abbrev one : Choice → ℕ
    one c = at (q ++ s ∷ []) (extended path p c)

    one_is : (c : Choice) (b : Bool) → same_path path q ≡ b → one c ≡ cond (b && same_step (record { pair = p; choice = c }) s) 1 0
    one_is c b is = ap one_if (same_last path q (record { pair = p; choice = c }) s ∙ ap (λ (e : Bool). e && same_step (record { pair = p; choice = c }) s) is)

    mapped : sum_by (at (q ++ s ∷ [])) (children_of_kind T G path (Split p)) ≡ sum_by one (allowed T G p)
    mapped = sum_by-map (at (q ++ s ∷ [])) (extended path p) (allowed T G p)

    none : (cs : List Choice) → same_path path q ≡ false → sum_by one cs ≡ 0
    none [] is = refl
    none (c ∷ cs) is = omega (arith, sum_by-cons one c cs, one_is c false is, none cs is)

    split_once : (b : Bool) → same_path path q ≡ b → sum_by (at (q ++ s ∷ [])) (children_of_kind T G path (Split p)) ≤ at q path
    split_once true is =
        let few = sum_by-mono one (is_choice (choice_number s.choice)) (allowed T G p) (λ c. omega (arith, one_is c true is, step_choice (record { pair = p; choice = c }) s)) in
        let here : at q path ≡ 1 = ap one_if is in
        omega (arith, mapped, few, once_allowed T G p s.choice, here)
    split_once false is = omega (arith, mapped, none (allowed T G p) is)

  child_once : (q : List Step) (s : Step) (path : List Step) (kind : RecordKind) → sum_by (at (q ++ s ∷ [])) (children_of_kind T G path kind) ≤ at q path
  child_once q s path (Split p) = split_once q s path p (same_path path q) refl
  child_once q s path (Closed claim) = omega arith

  module _ (records : List Record) (left : List Task) (balanced : IsBalanced T G records left) where
    abbrev paths : List (List Step)
    paths = paths_of records ++ paths_left left

    children_root : (rs : List Record) → sum_by (λ (r : Record). sum_by (at []) (children_of T G r)) rs ≡ 0
    children_root [] = refl
    children_root (r ∷ rs) = omega (arith, sum_by-cons (λ (x : Record). sum_by (at []) (children_of T G x)) r rs, no_child_root r.path r.kind, children_root rs)

    root_once : sum_by (at []) paths ≤ 1
    root_once =
        omega (arith, balanced (at []), sum_by-cons (at []) [] (flat_map (children_of T G) records), sum_by-flat_map (at []) (children_of T G) records, children_root records, at_most (same_path [] []))

    -- no more often than the path without its last step
    last_once : (q : List Step) (s : Step) → sum_by (at (q ++ s ∷ [])) paths ≤ sum_by (at q) paths
    last_once q s =
        let h = at (q ++ s ∷ []) in
        let kids = children_of T G in
        let below = sum_by-mono (λ (r : Record). sum_by h (kids r)) (λ (r : Record). at q r.path) records (λ r. child_once q s r.path r.kind) in
        let root : h [] ≡ 0 = ap one_if (root_not q s) in
        omega (arith, balanced h, sum_by-cons h [] (flat_map kids records), sum_by-flat_map h kids records, below, root, sum_by-map (at q) (λ (r : Record). r.path) records, sum_by-append (at q) (paths_of records) (paths_left left))

    record HasLast (k : ℕ) (p : List Step) : Type 0 where
      front : List Step
      last : Step
      is : p ≡ front ++ last ∷ []
      shorter : length front ≡ k

    has_last : (k : ℕ) (p : List Step) → length p ≡ suc k → HasLast k p
    has_last k [] long = absurd (omega (arith, long))
    has_last zero (s ∷ []) long = record { front = []; last = s; is = refl; shorter = refl }
    has_last (suc k) (s ∷ []) long = absurd (omega (arith, long))
    has_last zero (s ∷ x ∷ p) long = absurd (omega (arith, long))
    has_last (suc k) (s ∷ x ∷ p) long =
        let rest = has_last k (x ∷ p) (omega (arith, long)) in
        record { front = s ∷ rest.front; last = rest.last; is = ap (λ (q : List Step). s ∷ q) rest.is; shorter = ap suc rest.shorter }

    once : (k : ℕ) (p : List Step) → length p ≡ k → sum_by (at p) paths ≤ 1
    once zero [] long = root_once
    once zero (s ∷ p) long = absurd (omega (arith, long))
    once (suc k) p long =
        let end = has_last k p long in
        subst (λ (q : List Step). sum_by (at q) paths ≤ 1) (sym end.is) (omega (arith, last_once end.front end.last, once k end.front end.shorter))

    distinct : (ps : List (List Step)) → ((p : List Step) → sum_by (at p) ps ≤ 1) → AllPairs (λ p r. p ≢ r) ps
    distinct [] few = λ i j d less within. absurd (omega (arith, within))
    distinct (p ∷ ps) few =
        AllPairs-cons (λ q r. q ≢ r) p ps
        (λ k d less same.
        let there = get_or-le-sum_by (at p) ps k d less in
        let here : at p p ≡ 1 = ap one_if (path_itself p) in
        let that : at p (get_or ps k d) ≡ at p p = ap (at p) (sym same) in
        omega (arith, few p, sum_by-cons (at p) p ps, there, here, that))
        (distinct ps (λ q. omega (arith, few q, sum_by-cons (at q) p ps)))

    paths_many : length paths ≡ length records + length left
    paths_many = omega (arith, length-append (paths_of records) (paths_left left), length-map records (λ (r : Record). r.path), length-map left (λ (t : Task). t.path))

    -- records and tasks that are a part of these have different paths too, so a budget that covers such paths covers them
    pub all_covered : (base made : List Record) → records ≡ base ++ made → (P : List Step → Type 0) → All (λ (r : Record). P r.path) made → All (λ (t : Task). P t.path) left → (B : ℕ) → ((ps : List (List Step)) → All P ps → AllPairs (λ p r. p ≢ r) ps → length ps ≤ B) → length made + length left ≤ B
    all_covered base made is P first second B covers =
        let mine = paths_of made ++ paths_left left in
        let of_record : Record → List Step = λ r. r.path in
        let all = All-append P (paths_of made) (paths_left left) (All-map P of_record made first) (All-map P (λ (t : Task). t.path) left second) in
        let differ : AllPairs (λ p r. p ≢ r) mine =
        distinct mine (λ p. (
        let h = at p in
        omega (
          arith,
          once (length p) p refl,
          sum_by-append h (paths_of records) (paths_left left),
          sum_by-append h (paths_of made) (paths_left left),
          ap (λ (rs : List Record). sum_by h (paths_of rs)) is,
          ap (sum_by h) (map-append of_record base made),
          sum_by-append h (paths_of base) (paths_of made),
        ))) in
        omega (
          arith,
          covers mine all differ,
          length-append (paths_of made) (paths_left left),
          length-map made of_record,
          length-map left (λ (t : Task). t.path),
        )

few_children : (T : TreeValue) (G : Sheet) (rs : List Record) → length (flat_map (children_of T G) rs) ≤ 4 * length rs
few_children T G [] = omega arith
few_children T G (r ∷ rs) = omega (arith, length-append (children_of T G r) (flat_map (children_of T G) rs), few_of r.path r.kind, few_children T G rs)
  where
    few_of : (path : List Step) (kind : RecordKind) → length (children_of_kind T G path kind) ≤ 4
    few_of path (Split p) = omega (arith, length-map (allowed T G p) (extended path p), few_allowed T G p)
    few_of path (Closed claim) = omega arith

-- with so many records more there are at most four times as many nodes more
pub few_more : (T : TreeValue) (G : Sheet) (base made : List Record) (first left : List Task) → IsBalanced T G base first → IsBalanced T G (base ++ made) left → length (base ++ made) + length left ≤ length base + length first + 4 * length made
few_more T G base made first left before after =
    omega (
      arith,
      paths_many T G base first before,
      paths_many T G (base ++ made) left after,
      same-length ([] ∷ flat_map (children_of T G) base) (paths_of base ++ paths_left first) before,
      same-length ([] ∷ flat_map (children_of T G) (base ++ made)) (paths_of (base ++ made) ++ paths_left left) after,
      ap length (flat_map-append (children_of T G) base made),
      length-append (flat_map (children_of T G) base) (flat_map (children_of T G) made),
      few_children T G made,
    )
