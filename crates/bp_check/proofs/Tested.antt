-- The tests decide the conditions.
use Rattle.std.proofs.Common.{◌≡◌, ◌≢◌, ℕ, zero, suc, ◌≤◌, true, false, ◌&&◌, not, eqb, ltb, leb, List, [], ◌∷◌, length, All, AllPairs, refl, sym, ap, arith}
use Rattle.std.specs.Bool.{Decides}
use Rattle.std.specs.List.{list_all}
use Rattle.std.proofs.lemmas.Bool.{true≢false, leb-true, le-leb}
use Rattle.std.proofs.lemmas.Bool.Decides.{Decides-eqb, Decides-ltb, Decides-and, Decides-or, Decides-not, Decides-like, Decides-by_and}
use Rattle.std.proofs.lemmas.List.Folds.{Any-from_list_any, list_any-from_Any}
use Rattle.std.proofs.lemmas.List.Kept.{AllPairs-cons}
use Rattle.bp_base.specs.declared.point.Axis.{Axis}
use Rattle.bp_base.specs.declared.point.Axis.TheVariants.{X, Y}
use Rattle.bp_base.specs.declared.path.Choice.{Choice}
use Rattle.bp_base.specs.declared.path.Choice.TheVariants.{Left, Right, Below, Above}
use Rattle.bp_base.specs.declared.path.Pair.{Pair}
use Rattle.bp_base.specs.declared.path.Step.{Step}
use Rattle.bp_base.specs.declared.chain.Claim.{Claim}
use Rattle.bp_base.specs.declared.chain.Claim.TheVariants.{Walk, Cycle}
use Rattle.bp_base.specs.Path.{IsPairOf}
use Rattle.bp_metric.specs.Chains.{PlacesBy, Places, ArePlaced, IsChain, IsCycle, ClaimHolds, first_of, last_of}
use Rattle.bp_metric.specs.Refutation.{IsOnPath}
use Rattle.bp_check.specs.Tests.{are_ends, places_by, places, are_placed, differ, is_leaf_of, is_chain, is_cycle, claim_passes, is_same_pair, stands_on, may_split}

never : Decides false ⊥
never = (λ is. absurd (true≢false (sym is)), λ none. absurd none)

always : Decides true (Unit {0})
always = (λ is. tt, λ u. refl)

Decides-leb : (a b : ℕ) → Decides (leb a b) (a ≤ b)
Decides-leb a b = (leb-true a b, le-leb a b)

ends : (a b i j : ℕ) → Decides (are_ends a b i j) ((a ≡ i) × (b ≡ j))
ends a b i j = Decides-and (eqb a i) (eqb b j) (Decides-eqb a i) (Decides-eqb b j)

places_by_is : (axis : Axis) (a b : ℕ) (p : Pair) (c : Choice) → Decides (places_by axis a b p c) (PlacesBy axis a b p c)
places_by_is X a b p Left = ends a b p.i p.j
places_by_is X a b p Right = ends a b p.j p.i
places_by_is X a b p Below = never
places_by_is X a b p Above = never
places_by_is Y a b p Left = never
places_by_is Y a b p Right = never
places_by_is Y a b p Below = ends a b p.i p.j
places_by_is Y a b p Above = ends a b p.j p.i

places_is : (path : List Step) (axis : Axis) (a b : ℕ) → Decides (places path axis a b) (Places path axis a b)
places_is [] axis a b = never
places_is (s ∷ path) axis a b =
    Decides-or (places_by axis a b s.pair s.choice) (places path axis a b) (places_by_is axis a b s.pair s.choice) (places_is path axis a b)

placed_is : (path : List Step) (axis : Axis) (leaves : List ℕ) → Decides (are_placed path axis leaves) (ArePlaced path axis leaves)
placed_is path axis [] = always
placed_is path axis (a ∷ []) = always
placed_is path axis (a ∷ b ∷ more) =
    Decides-and (places path axis a b) (are_placed path axis (b ∷ more)) (places_is path axis a b) (placed_is path axis (b ∷ more))

others_is : (a : ℕ) (xs : List ℕ) → Decides (list_all (λ b. not (eqb a b)) xs) (All (λ b. a ≢ b) xs)
others_is a xs =
    Decides-by_and (λ (b : ℕ). not (eqb a b)) (λ (b : ℕ). a ≢ b) (list_all (λ b. not (eqb a b))) (λ b. Decides-not (eqb a b) (Decides-eqb a b)) refl (λ x ys. refl) xs

differ_is : (xs : List ℕ) → Decides (differ xs) (AllPairs (λ a b. a ≢ b) xs)
differ_is [] = (λ is k l d less within. absurd (omega (arith, within)), λ all. refl)
differ_is (a ∷ more) =
    Decides-like (list_all (λ b. not (eqb a b)) more && differ more) (λ both. AllPairs-cons (λ (x y : ℕ). x ≢ y) a more both.0 both.1)
    (λ pairs. (
      λ k d less. pairs zero (suc k) d (omega arith) (omega (arith, less)),
      λ k l d less within. pairs (suc k) (suc l) d (omega (arith, less)) (omega (arith, within)),
    ))
    (Decides-and (list_all (λ b. not (eqb a b)) more) (differ more) (others_is a more) (differ_is more))

leaves_is : (n : ℕ) (xs : List ℕ) → Decides (list_all (is_leaf_of n) xs) (All (λ i. (1 ≤ i) × (i ≤ n)) xs)
leaves_is n xs =
    Decides-by_and (is_leaf_of n) (λ i. (1 ≤ i) × (i ≤ n)) (list_all (is_leaf_of n)) (λ i. Decides-and (leb 1 i) (leb i n) (Decides-leb 1 i) (Decides-leb i n)) refl (λ x ys. refl) xs

chain_is : (n : ℕ) (path : List Step) (axis : Axis) (leaves : List ℕ) → Decides (is_chain n path axis leaves) (IsChain n path axis leaves)
chain_is n path axis leaves =
    let placed = are_placed path axis leaves in
    let all = list_all (is_leaf_of n) leaves in
    Decides-like (is_chain n path axis leaves)
    (λ all. record { some = all.0; are_leaves = all.1.0; differ = all.1.1.0; placed = all.1.1.1 })
    (λ chain. (chain.some, (chain.are_leaves, (chain.differ, chain.placed))))
    (Decides-and (leb 1 (length leaves)) (all && (differ leaves && placed)) (Decides-leb 1 (length leaves))
    (Decides-and all (differ leaves && placed) (leaves_is n leaves)
    (Decides-and (differ leaves) placed (differ_is leaves) (placed_is path axis leaves))))

cycle_is : (n : ℕ) (path : List Step) (axis : Axis) (leaves : List ℕ) → Decides (is_cycle n path axis leaves) (IsCycle n path axis leaves)
cycle_is n path axis leaves =
    let closed = places path axis (last_of leaves) (first_of leaves) in
    Decides-like (is_cycle n path axis leaves) (λ all. record { chain = all.0; two = all.1.0; closed = all.1.1 })
    (λ cycle. (cycle.chain, (cycle.two, cycle.closed)))
    (Decides-and (is_chain n path axis leaves) (leb 2 (length leaves) && closed) (chain_is n path axis leaves)
    (Decides-and (leb 2 (length leaves)) closed (Decides-leb 2 (length leaves)) (places_is path axis (last_of leaves) (first_of leaves))))

pub claim_is : (n : ℕ) (path : List Step) (claim : Claim) → Decides (claim_passes n path claim) (ClaimHolds n path claim)
unfolding claim_passes
claim_is n path (Walk axis chain) = chain_is n path axis chain
claim_is n path (Cycle axis chain) = cycle_is n path axis chain

pub same_pair_is : (p r : Pair) → Decides (is_same_pair p r) (p ≡ r)
same_pair_is p r =
    Decides-like (is_same_pair p r) (λ both k. record { i = both.0 k; j = both.1 k }) (λ same. (ap (λ (o : Pair). o.i) same, ap (λ (o : Pair). o.j) same)) (ends p.i p.j r.i r.j)

pub stands_is : (path : List Step) (p : Pair) → Decides (stands_on path p) (IsOnPath path p)
stands_is path p = (
  λ is. let any = Any-from_list_any (λ (s : Step). is_same_pair s.pair p) path is in (any.0, any.1, any.2, any.3, (same_pair_is any.1.pair p).0 any.4),
  λ on. list_any-from_Any (λ (s : Step). is_same_pair s.pair p) path (on.0, on.1, on.2, on.3, (same_pair_is on.1.pair p).1 on.4),
)

pub split_is : (n : ℕ) (path : List Step) (p : Pair) → Decides (may_split n path p) (IsPairOf n p × (IsOnPath path p → ⊥))
unfolding may_split
split_is n path p =
    let free = not (stands_on path p) in
    Decides-like (may_split n path p) (λ all. ((all.0, all.1.0, all.1.1.0), all.1.1.1)) (λ both. (both.0.0, (both.0.1, (both.0.2, both.1))))
    (Decides-and (leb 1 p.i) (ltb p.i p.j && (leb p.j n && free)) (Decides-leb 1 p.i)
    (Decides-and (ltb p.i p.j) (leb p.j n && free) (Decides-ltb p.i p.j)
    (Decides-and (leb p.j n) free (Decides-leb p.j n) (Decides-not (stands_on path p) (stands_is path p)))))
