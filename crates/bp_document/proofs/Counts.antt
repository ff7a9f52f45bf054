-- Counting the nodes of a refutation.
use Rattle.std.proofs.Common.{◌≡◌, ℕ, zero, suc, ◌+◌, ◌<◌, ◌≤◌, List, [], ◌∷◌, ◌++◌, length, get_or, take, ap, ◌∙◌, arith, length-append}
use Rattle.std.specs.List.{flat_map}
use Rattle.std.proofs.lemmas.List.{take_all, take_more}
use Rattle.bp_base.specs.declared.path.Pair.{Pair}
use Rattle.bp_base.specs.declared.chain.Claim.{Claim}
use Rattle.bp_base.specs.declared.refutation.Refutation.{Refutation}
use Rattle.bp_base.specs.declared.refutation.Refutation.TheVariants.{Split, Closed, Open}
use Rattle.bp_metric.specs.Nodes.{parts_of, node_count_of}
use Rattle.bp_metric.proofs.Refutations.{parts-split, parts-closed, parts-open}

pub count-closed : (claim : Claim) → node_count_of (Closed claim) ≡ 1
count-closed claim = ap length (parts-closed claim)

pub count-open : (claim : Claim) → node_count_of (Open claim) ≡ 1
count-open claim = ap length (parts-open claim)

sum_push : (xs : List Refutation) (x : Refutation) → length (flat_map parts_of (xs ++ x ∷ [])) ≡ length (flat_map parts_of xs) + node_count_of x
sum_push [] x = omega (arith, length-append (parts_of x) [])
sum_push (y ∷ xs) x = omega (arith, sum_push xs x, length-append (parts_of y) (flat_map parts_of (xs ++ x ∷ [])), length-append (parts_of y) (flat_map parts_of xs))

-- one more child
pub count_more : (items : List Refutation) (k : ℕ) (child : Refutation) (total more : ℕ) → k < length items → child ≡ get_or items k child → more ≡ node_count_of child → total ≡ 1 + length (flat_map parts_of (take k items)) → total + more ≡ 1 + length (flat_map parts_of (take (k + 1) items))
count_more items k child total more less is counted so_far =
    omega (arith, so_far, counted, ap (λ (l : List Refutation). length (flat_map parts_of l)) (take_more items k child less), sum_push (take k items) (get_or items k child), ap node_count_of is)

pub count_all : (p : Pair) (rs items : List Refutation) (r : Refutation) (k total : ℕ) → r ≡ Split p rs → items ≡ rs → length items ≤ k → total ≡ 1 + length (flat_map parts_of (take k items)) → total ≡ node_count_of r
count_all p rs items r k total is same done so_far =
    omega (arith, so_far, ap (λ (l : List Refutation). length (flat_map parts_of l)) (take_all k items done ∙ same), ap length (parts-split p rs), ap node_count_of is)

front : (xs : List Refutation) (n : ℕ) → length (flat_map parts_of (take n xs)) ≤ length (flat_map parts_of xs)
front [] zero = omega arith
front [] (suc n) = omega arith
front (x ∷ xs) zero = omega arith
front (x ∷ xs) (suc n) = omega (arith, front xs n, length-append (parts_of x) (flat_map parts_of (take n xs)), length-append (parts_of x) (flat_map parts_of xs))

-- the children so far and one more are within the whole
pub count_within : (p : Pair) (rs items : List Refutation) (r : Refutation) (k : ℕ) (child : Refutation) (total more : ℕ) → r ≡ Split p rs → items ≡ rs → k < length items → child ≡ get_or items k child → more ≡ node_count_of child → total ≡ 1 + length (flat_map parts_of (take k items)) → total + more ≤ node_count_of r
count_within p rs items r k child total more is same less here counted so_far =
    let next = count_more items k child total more less here counted so_far in
    let whole : node_count_of r ≡ 1 + length (flat_map parts_of items) = omega (arith, ap node_count_of is, ap length (parts-split p rs), ap (λ (l : List Refutation). length (flat_map parts_of l)) same) in
    omega (arith, next, whole, front items (k + 1))
