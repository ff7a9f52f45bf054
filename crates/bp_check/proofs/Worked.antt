-- Worked rows of the tree c p 3/c q 4/: documents that check, that fail a condition, and one that `design` writes.
use Rattle.std.proofs.Common.{◌≡◌, inl, inr, ℕ, zero, suc, ◌<◌, ◌≤◌, false, List, [], ◌∷◌, ◌++◌, map, slice_index, unwrap_or, All, AllPairs, ◌≢◌, ◌⊎◌, Option, None, Some, refl, sym, ◌∙◌, ap, subst, arith}
use Rattle.std.proofs.lemmas.Option.{none-some}
use Rattle.std.proofs.lemmas.Bool.{true≢false}
use Rattle.bp_base.specs.declared.path.Choice.TheVariants.{Left}
use Rattle.bp_base.specs.declared.path.Pair.{Pair}
use Rattle.bp_base.specs.declared.path.Step.{Step}
use Rattle.bp_base.specs.declared.point.Axis.TheVariants.{X}
use Rattle.bp_base.specs.declared.point.Point.{Point}
use Rattle.bp_base.specs.declared.point.Floor.{Floor}
use Rattle.bp_base.specs.declared.point.Sheet.TheVariants.{Square}
use Rattle.bp_base.specs.declared.chain.Claim.{Claim}
use Rattle.bp_base.specs.declared.chain.Claim.TheVariants.{Walk}
use Rattle.bp_base.specs.declared.refutation.Refutation.{Refutation, fold-roll-Refutation}
use Rattle.bp_base.specs.declared.refutation.Refutation.TheOpen.{Refutation-F}
use Rattle.bp_base.specs.declared.refutation.Refutation.TheFolds.{fold-Refutation}
use Rattle.bp_base.specs.declared.refutation.Refutation.TheVariants.{Split, Closed, rolls-Split, rolls-Closed}
use Rattle.bp_base.specs.Tree.{IsLeaf}
use Rattle.bp_metric.specs.Choices.{allowed}
use Rattle.bp_metric.specs.Floor.{FloorHolds, rows_for}
use Rattle.bp_metric.proofs.TwoFlaps.{two, at, points, floor, apart, valid, floor_holds, floor_is, opening}
use Rattle.bp_metric.specs.Refutation.{Fits, CanSplit, EachFits, IsOnPath, extended}
use Rattle.bp_metric.specs.Nodes.{Node, Part, nodes_at, nodes_of, SplitOf, ClosedBy, parts_of, counted_part, least_of, weighs}
use Rattle.bp_metric.specs.Chains.{IsChain}
use Rattle.bp_metric.proofs.Refutations.{parts-split, parts-closed, fits-split, fits-closed}
use Rattle.bp_pairs.specs.Flaws.{AreTooNear}
use Rattle.bp_document.specs.declared.document.Document.{Document}
use Rattle.bp_check.specs.declared.verdict.Reason.{Reason}
use Rattle.bp_check.specs.declared.verdict.Reason.TheVariants.{TreeDiffers, Outside, TooNear, BadFloor, BadSplit, BadChain, BoundNotShown, StripSheet}
use Rattle.bp_check.specs.Checks.{Checks, IsAtMost, IsBoundShown}
use Rattle.bp_check.specs.Reasons.{IsFirstReason, HasAt, IsBadSplit, IsBadChain, Fails, rank}
use Rattle.bp_check.specs.Written.{IsWritten}

-- a document with these points, this bound and this proof
abbrev document : List Point → Floor → ℕ → Option Refutation → Document
document points floor bound proof = record {
  tree = two;
  sheet = Square;
  side = 7;
  bound = bound;
  points = points;
  floor = floor;
  proof = proof;
}

-- the floor shows the bound, and there is no proof
without_proof : Checks two (document points floor 7 None)
without_proof = record { tree = refl; valid = valid; floor = floor_holds; fits = tt; bound = inl (omega arith) }

abbrev pair : ℕ → ℕ → Pair
pair i j = record { i = i; j = j }

abbrev chain : Claim
chain = Walk X (1 ∷ 2 ∷ [])

-- the proof: the pair lies left to right, and its chain weighs 7
abbrev split : Refutation
split = Split (pair 1 2) (Closed chain ∷ [])

parts : parts_of split ≡ SplitOf (pair 1 2) 1 ∷ ClosedBy chain ∷ []
parts = parts-split (pair 1 2) (Closed chain ∷ []) ∙ ap (λ (ps : List Part). SplitOf (pair 1 2) 1 ∷ ps ++ []) (parts-closed chain)

split_weighs : weighs two Square split ≡ Some 7
unfolding weighs
split_weighs = ap (λ (ps : List Part). least_of (map (counted_part two Square) ps)) parts ∙ ap (λ (w : ℕ). Some w) (omega (arith, apart))

chain_holds : IsChain 2 (extended [] (pair 1 2) Left) X (1 ∷ 2 ∷ [])
chain_holds = record { some = omega arith; are_leaves = are_leaves; differ = differ; placed = (inl (refl, refl), tt) }
  where
    are_leaves : All {X = ℕ} (λ i. (1 ≤ i) × (i ≤ 2)) (1 ∷ 2 ∷ [])
    are_leaves zero d less = (omega arith, omega arith)
    are_leaves (suc zero) d less = (omega arith, omega arith)
    are_leaves (suc (suc k)) d less = absurd (omega (arith, less))

    differ : AllPairs {X = ℕ} (λ a b. a ≢ b) (1 ∷ 2 ∷ [])
    differ zero zero d less within = absurd (omega (arith, less))
    differ zero (suc zero) d less within = λ same. absurd (omega (arith, same))
    differ zero (suc (suc l)) d less within = absurd (omega (arith, within))
    differ (suc k) l d less within = absurd (omega (arith, less, within))

closed_fits : Fits two Square (Closed chain) (extended [] (pair 1 2) Left)
closed_fits = subst (λ (A : Type 0). A) (sym (fits-closed two Square chain (extended [] (pair 1 2) Left))) chain_holds

can_split : CanSplit two [] (pair 1 2)
can_split = record { pair = (omega arith, omega arith, omega arith); new = λ on. no_step on }
  where
    no_step : IsOnPath [] (pair 1 2) → ⊥
    no_step (k, step, less, at, is) = absurd (omega (arith, less))

each_fits : EachFits (Fits two Square) [] (pair 1 2) (allowed two Square (pair 1 2)) (Closed chain ∷ [])
unfolding allowed
each_fits = (closed_fits, tt)

split_fits : Fits two Square split []
split_fits = subst (λ (A : Type 0). A) (sym (fits-split two Square (pair 1 2) (Closed chain ∷ []) [])) (can_split, each_fits)

-- a floor of one leaf shows nothing, so the proof shows the bound
abbrev low_floor : Floor
low_floor = record { m = 1; leaves = 1 ∷ []; side = 0 }

low_floor_holds : FloorHolds two Square low_floor
unfolding rows_for
low_floor_holds = record {
  apart = omega arith;
  some = omega arith;
  leaf = leaf;
  rising = λ k l less within. absurd (omega (arith, less, within));
  far = λ k l less within. absurd (omega (arith, less, within));
  side = refl;
}
  where
    leaf : (k : ℕ) → k < 1 → IsLeaf two (slice_index low_floor.leaves k)
    leaf zero less = (omega arith, omega arith)
    leaf (suc k) less = absurd (omega (arith, less))

with_proof : Checks two (document points low_floor 7 (Some split))
with_proof = record {
  tree = refl;
  valid = valid;
  floor = low_floor_holds;
  fits = split_fits;
  bound = inr (subst (IsAtMost 7) (sym split_weighs) (omega arith));
}

abbrev leaf_path : List Step
leaf_path = extended [] (pair 1 2) Left

-- the proof has two nodes: the split, and below it the closed branch
whole_nodes : nodes_of two Square split ≡ (record { path = []; part = SplitOf (pair 1 2) 1 }) ∷ (record { path = leaf_path; part = ClosedBy chain }) ∷ []
unfolding nodes_of allowed
whole_nodes =
    let from : Refutation → List Step → List Node = fold-Refutation (List Step → List Node) (nodes_at two Square) in
    let below : from (Closed chain) ≡ nodes_at two Square (Refutation-F.Closed chain) =
    ap from (sym (rolls-Closed chain)) ∙ fold-roll-Refutation (List Step → List Node) (nodes_at two Square) (Refutation-F.Closed chain) in
    let whole : from split ≡ nodes_at two Square (Refutation-F.Split (pair 1 2) (from (Closed chain) ∷ [])) =
    ap from (sym (rolls-Split (pair 1 2) (Closed chain ∷ []))) ∙ fold-roll-Refutation (List Step → List Node) (nodes_at two Square) (Refutation-F.Split (pair 1 2) (Closed chain ∷ [])) in
    ap (λ (f : List Step → List Node). f []) (whole ∙ ap (λ (f : List Step → List Node). nodes_at two Square (Refutation-F.Split (pair 1 2) (f ∷ []))) below)

abbrev first_node : Node
first_node = record { path = []; part = SplitOf (pair 1 2) 1 }

abbrev second_node : Node
second_node = record { path = leaf_path; part = ClosedBy chain }

-- a property of a node that neither has
none_at : (P : List Step → Part → Type 0) → (P first_node.path first_node.part → ⊥) → (P second_node.path second_node.part → ⊥) → (k : ℕ) → HasAt P (first_node ∷ second_node ∷ []) k → ⊥
none_at P first second zero (node, at, bad) = first (subst (λ (n : Node). P n.path n.part) (ap (λ (o : Option Node). unwrap_or o first_node) (sym at)) bad)
none_at P first second (suc zero) (node, at, bad) = second (subst (λ (n : Node). P n.path n.part) (ap (λ (o : Option Node). unwrap_or o first_node) (sym at)) bad)
none_at P first second (suc (suc k)) (node, at, bad) = none-some node at

no_bad_split : (k : ℕ) → HasAt (IsBadSplit two Square) (nodes_of two Square split) k → ⊥
unfolding allowed
no_bad_split k bad = none_at (IsBadSplit two Square) good (λ none. none) k (subst (λ (ns : List Node). HasAt (IsBadSplit two Square) ns k) whole_nodes bad)
  where
    good : IsBadSplit two Square [] (SplitOf (pair 1 2) 1) → ⊥
    good (inl not) = not can_split
    good (inr other) = other refl

no_bad_chain : (k : ℕ) → HasAt (IsBadChain two Square) (nodes_of two Square split) k → ⊥
no_bad_chain k bad = none_at (IsBadChain two Square) (λ none. none) (λ not. not chain_holds) k (subst (λ (ns : List Node). HasAt (IsBadChain two Square) ns k) whole_nodes bad)

-- a bound above what the proof weighs isn't shown, and this is the first reason
above_proof : IsFirstReason two (document points low_floor 8 (Some split)) BoundNotShown
above_proof = record { fails = fails; first = first }
  where
    fails : IsBoundShown two (document points low_floor 8 (Some split)) → ⊥
    fails (inl below) = absurd (omega (arith, below))
    fails (inr shown) = let h : IsAtMost 8 (Some 7) = subst (IsAtMost 8) split_weighs shown in absurd (omega (arith, h))

    first : (other : Reason) → rank other < 6 → Fails two (document points low_floor 8 (Some split)) other → ⊥
    first TreeDiffers less f = f refl
    first (Outside i) less f = f.outside.1 (valid.inside i f.outside.0)
    first (TooNear i j) less f = absurd (omega (arith, f.near.1, valid.far i j f.near.0))
    first BadFloor less f = f low_floor_holds
    first (BadSplit node) less f = no_bad_split node f.0
    first (BadChain node) less f = no_bad_chain node f.0
    first BoundNotShown less f = absurd (omega (arith, less))
    first StripSheet less f = absurd (omega (arith, less))

-- points that are too near and a floor that doesn't hold: the points are the first reason
abbrev near_points : List Point
near_points = at 0 0 ∷ at 0 6 ∷ []

near_before_floor : IsFirstReason two (document near_points (record { m = 7; leaves = 1 ∷ 2 ∷ []; side = 8 }) 9 None) (TooNear 1 2)
near_before_floor = record { fails = record { near = ((omega arith, omega arith, omega arith), omega (arith, apart)); earlier = earlier }; first = first }
  where
    earlier : (k l : ℕ) → AreTooNear two near_points k l → (k < 1) ⊎ ((k ≡ 1) × (l < 2)) → ⊥
    earlier k l near (inl less) = omega (arith, near.0.0, less)
    earlier k l near (inr (is, less)) = omega (arith, near.0.1, is, less)

    first : (other : Reason) → rank other < 2 → Fails two (document near_points (record { m = 7; leaves = 1 ∷ 2 ∷ []; side = 8 }) 9 None) other → ⊥
    first TreeDiffers less f = f refl
    first (Outside zero) less f = absurd (omega (arith, f.outside.0.0))
    first (Outside (suc zero)) less f = f.outside.1 (omega arith, omega arith)
    first (Outside (suc (suc zero))) less f = f.outside.1 (omega arith, omega arith)
    first (Outside (suc (suc (suc i)))) less f = absurd (omega (arith, f.outside.0.1))
    first (TooNear i j) less f = absurd (omega (arith, less))
    first BadFloor less f = absurd (omega (arith, less))
    first (BadSplit node) less f = absurd (omega (arith, less))
    first (BadChain node) less f = absurd (omega (arith, less))
    first BoundNotShown less f = absurd (omega (arith, less))
    first StripSheet less f = absurd (omega (arith, less))

-- `design` writes the opening's points without a proof, since the opening meets the floor
written : IsWritten two 0 false (document points floor 7 None)
written = record {
  checks = without_proof;
  floor = floor_is;
  opening = points;
  is_opening = opening;
  no_worse = omega arith;
  opening_points = λ plain meets. refl;
  steady_points = λ steady. absurd (true≢false (sym steady));
  proof = (refl, refl);
}
