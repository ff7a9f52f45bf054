-- Sums over lists by weights that agree, and facts of each element of lists that are put together.
use Rattle.std.proofs.Common.{◌≡◌, ℕ, ◌<◌, List, [], ◌∷◌, ◌++◌, map, length, get_or, All, refl, ◌∙◌, subst, arith}
use Rattle.std.specs.List.{sum_by, flat_map, AllByRecursion}
use Rattle.std.proofs.lemmas.List.Sums.{sum_by-cons}
use Rattle.std.proofs.lemmas.List.Elements.{All-from_recursion, recursion_from_All}
use Rattle.std.proofs.lemmas.List.{get_or_default}
use Rattle.bp_base.specs.declared.path.Step.{Step}
use Rattle.bp_base.specs.Bags.{AreSame}
use Rattle.bp_base.proofs.Bags.{kept_path, same_sym}

pub sum_agree : {X : Type 0} (f g : X → ℕ) (xs : List X) → AllByRecursion (λ x. f x ≡ g x) xs → sum_by f xs ≡ sum_by g xs
sum_agree f g [] same = refl
sum_agree f g (x ∷ xs) same = omega (arith, sum_by-cons f x xs, sum_by-cons g x xs, same.0, sum_agree f g xs same.1)

pub sum_none : {X : Type 0} (f : X → ℕ) (xs : List X) → AllByRecursion (λ x. f x ≡ 0) xs → sum_by f xs ≡ 0
sum_none f [] none = refl
sum_none f (x ∷ xs) none = omega (arith, sum_by-cons f x xs, none.0, sum_none f xs none.1)

pub each-append : {X : Type 0} (P : X → Type 0) (xs ys : List X) → AllByRecursion P xs → AllByRecursion P ys → AllByRecursion P (xs ++ ys)
each-append P [] ys front back = back
each-append P (x ∷ xs) ys front back = (front.0, each-append P xs ys front.1 back)

pub each_front : {X : Type 0} (P : X → Type 0) (xs ys : List X) → AllByRecursion P (xs ++ ys) → AllByRecursion P xs
each_front P [] ys all = tt
each_front P (x ∷ xs) ys all = (all.0, each_front P xs ys all.1)

pub each_back : {X : Type 0} (P : X → Type 0) (xs ys : List X) → AllByRecursion P (xs ++ ys) → AllByRecursion P ys
each_back P [] ys all = all
each_back P (x ∷ xs) ys all = each_back P xs ys all.1

pub each_mapped : {X Y : Type 0} (P : X → Type 0) (f : Y → X) (ys : List Y) → AllByRecursion P (map f ys) → AllByRecursion (λ y. P (f y)) ys
each_mapped P f [] all = tt
each_mapped P f (y ∷ ys) all = (all.0, each_mapped P f ys all.1)

pub each-map : {X Y : Type 0} (P : X → Type 0) (f : Y → X) (ys : List Y) → AllByRecursion (λ y. P (f y)) ys → AllByRecursion P (map f ys)
each-map P f [] all = tt
each-map P f (y ∷ ys) all = (all.0, each-map P f ys all.1)

pub each-flat_map : {X Y : Type 0} (P : X → Type 0) (f : Y → List X) (ys : List Y) → AllByRecursion (λ y. AllByRecursion P (f y)) ys → AllByRecursion P (flat_map f ys)
each-flat_map P f [] all = tt
each-flat_map P f (y ∷ ys) all = each-append P (f y) (flat_map f ys) all.0 (each-flat_map P f ys all.1)

pub each_weaker : {X : Type 0} (P Q : X → Type 0) (xs : List X) → ((x : X) → P x → Q x) → AllByRecursion P xs → AllByRecursion Q xs
each_weaker P Q [] weaker all = tt
each_weaker P Q (x ∷ xs) weaker all = (weaker x all.0, each_weaker P Q xs weaker all.1)

pub each_always : {X : Type 0} (P : X → Type 0) (xs : List X) → ((x : X) → P x) → AllByRecursion P xs
each_always P [] always = tt
each_always P (x ∷ xs) always = (always x, each_always P xs always)

-- what holds of each path of one list holds of each of a list of the same paths
pub each_kept : (P : List Step → Type 0) (ps qs : List (List Step)) → AreSame ps qs → AllByRecursion P ps → AllByRecursion P qs
each_kept P ps qs both each =
    recursion_from_All P qs (λ k d less. there k d less (get_or qs k d) refl)
  where
    all : All P ps
    all = All-from_recursion P ps each

    there : (k : ℕ) (d : List Step) → k < length qs → (q : List Step) → get_or qs k d ≡ q → P q
    there k d less q is =
        let c = kept_path qs ps q (same_sym ps qs both) (k, less, get_or_default qs k q d less ∙ is) in
        subst P c.2 (all c.0 q c.1)
