-- Lists with one element more: its parts, sums over it, and what holds of some or all of it.
use Rattle.std.proofs.Common.{◌≡◌, ◌⊎◌, inl, inr, ℕ, zero, suc, ◌+◌, List, [], ◌∷◌, ◌++◌, map, reverse, length, All, Any, refl, sym, ap, ◌∙◌, subst, arith}
use Rattle.std.specs.List.{flat_map, range_with_len, sum_by}
use Rattle.std.proofs.lemmas.List.{get_or_append_left, get_or_at, length-append, length_push, reverse-append}
use Rattle.std.proofs.lemmas.List.Sums.{sum_by-append, sum_by-cons, sum_by_push}
use Rattle.std.proofs.lemmas.List.Elements.{All-push}
use Rattle.std.proofs.lemmas.List.Sorted.{IsPermutation-reverse}
use Rattle.bp_base.specs.declared.path.Step.{Step}
use Rattle.bp_base.specs.declared.point.Sheet.{Sheet}
use Rattle.bp_base.specs.declared.record.Record.{Record}
use Rattle.bp_base.specs.declared.record.Task.{Task}
use Rattle.bp_base.specs.Bags.{AreSame}
use Rattle.bp_base.specs.Tree.{TreeValue}
use Rattle.bp_base.proofs.Bags.{sum_by-map, sum_by-flat_map, same-IsPermutation}
use Rattle.bp_metric.specs.Records.{IsBalanced, children_of, paths_left}
use Rattle.bp_metric.proofs.Ranges.{range_more}

module _ {X : Type 0} (P : X → Type 0) where
  -- what holds of all of a list holds of its last element, and of those before it
  pub all_last : (xs : List X) (x : X) → All P (xs ++ x ∷ []) → P x
  all_last xs x all = subst P (get_or_at xs x [] x (length xs) refl) (all (length xs) x (omega (arith, length_push xs x)))

  pub all_front : (xs ys : List X) → All P (xs ++ ys) → All P xs
  all_front xs ys all k d less = subst P (get_or_append_left xs ys d k less) (all k d (omega (arith, length-append xs ys, less)))

  pub any_front : (xs ys : List X) → Any P xs → Any P (xs ++ ys)
  any_front xs ys (k, x, less, at, holds) = (k, x, omega (arith, length-append xs ys, less), get_or_append_left xs ys x k less ∙ at, holds)

  pub any_push_cases : (xs : List X) (y : X) → Any P (xs ++ y ∷ []) → Any P xs ⊎ P y
  any_push_cases [] y (zero, x, less, at, holds) = inr (subst P (sym at) holds)
  any_push_cases [] y (suc k, x, less, at, holds) = absurd (omega (arith, less))
  any_push_cases (a ∷ xs) y (zero, x, less, at, holds) = inl (zero, x, omega arith, at, holds)
  any_push_cases (a ∷ xs) y (suc k, x, less, at, holds) = later (any_push_cases xs y (k, x, omega (arith, less), at, holds))
    where
      later : Any P xs ⊎ P y → Any P (a ∷ xs) ⊎ P y
      later (inl (k, x, less, at, holds)) = inl (suc k, x, omega (arith, less), at, holds)
      later (inr holds) = inr holds

-- tickets are the numbers from 0 on, and the next one is drawn
pub tickets_more : (records : List Record) (r : Record) (n : ℕ) → AreSame (map (λ (q : Record). q.ticket) records) (range_with_len 0 n) → r.ticket ≡ n → AreSame (map (λ (q : Record). q.ticket) (records ++ r ∷ [])) (range_with_len 0 (n + 1))
tickets_more records r n same is h =
    let ticket : Record → ℕ = λ q. q.ticket in
    let place : 0 + n ≡ n = omega arith in
    omega (arith, sum_by-map h ticket (records ++ r ∷ []), sum_by_push (λ (q : Record). h q.ticket) records r, sum_by-map h ticket records, same h, ap h is, ap (sum_by h) (range_more 0 n), sum_by_push h (range_with_len 0 n) (0 + n), ap h place)

-- a branch that was left is recorded, and its children are left in its place
pub balanced_more : (T : TreeValue) (G : Sheet) (records : List Record) (left more : List Task) (t : Task) (r : Record) → IsBalanced T G records (left ++ t ∷ []) → r.path ≡ t.path → AreSame (children_of T G r) (paths_left more) → IsBalanced T G (records ++ r ∷ []) (left ++ more)
balanced_more T G records left more t r balanced same children h =
    let path : Record → List Step = λ q. q.path in
    let of_task : Task → List Step = λ u. u.path in
    let P : Record → ℕ = λ q. h q.path in
    let Q : Task → ℕ = λ u. h u.path in
    let C : Record → ℕ = λ q. sum_by h (children_of T G q) in
    omega (
      arith,
      balanced h,
      sum_by-cons h [] (flat_map (children_of T G) records),
      sum_by-cons h [] (flat_map (children_of T G) (records ++ r ∷ [])),
      sum_by-flat_map h (children_of T G) records,
      sum_by-flat_map h (children_of T G) (records ++ r ∷ []),
      sum_by_push C records r,
      sum_by-append h (map path records) (map of_task (left ++ t ∷ [])),
      sum_by-append h (map path (records ++ r ∷ [])) (map of_task (left ++ more)),
      sum_by-map h path records,
      sum_by-map h path (records ++ r ∷ []),
      sum_by_push P records r,
      sum_by-map h of_task (left ++ t ∷ []),
      sum_by_push Q left t,
      sum_by-map h of_task (left ++ more),
      sum_by-append Q left more,
      sum_by-map h of_task more,
      children h,
      ap h same,
    )

pub same_reverse : {X : Type 0} (xs : List X) → AreSame xs (reverse xs)
same_reverse xs = same-IsPermutation xs (reverse xs) (IsPermutation-reverse xs)

-- what holds of all of a list holds of all of it the other way round
pub all_reverse : {X : Type 0} (P : X → Type 0) (xs : List X) → All P xs → All P (reverse xs)
all_reverse P [] all = λ k d less. absurd (omega (arith, less))
all_reverse P (x ∷ xs) all =
    subst (All P) (sym (reverse-append (x ∷ []) xs)) (All-push P (reverse xs) x (all_reverse P xs (λ k d less. all (suc k) d (omega (arith, less)))) (all 0 x (omega arith)))
