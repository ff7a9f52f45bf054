-- Tests of a list, number by number.
use Rattle.std.proofs.Common.{◌≡◌, ℕ, ◌+◌, ◌-◌, ◌<◌, ◌≤◌, List, length, get_or, drop, Some, sym, ◌∙◌, ap, subst, arith, inl, inr}
use Rattle.std.proofs.lemmas.Bool.{cases_eq}
use Rattle.std.specs.List.{slice_get}
use Rattle.std.proofs.lemmas.Option.{get_or_from_slice_get, slice_get_within}
use Rattle.bp_base.specs.declared.point.Axis.{Axis}
use Rattle.bp_base.specs.declared.path.Step.{Step}
use Rattle.bp_base.specs.Tree.{TreeValue}
use Rattle.bp_metric.specs.Distance.{leaf_dist}
use Rattle.bp_metric.specs.Chains.{Places, ArePlaced, chain_weight}
use Rattle.bp_metric.proofs.Chains.{placed_at, placed_from, weight_more, weight_last}

abbrev pub IsNumberOf : ℕ → ℕ → Type 0
IsNumberOf n i = (1 ≤ i) × (i ≤ n)

-- the first k numbers are leaves
abbrev pub LeavesTo : ℕ → List ℕ → ℕ → Type 0
LeavesTo n xs k = (m : ℕ) → m < k → IsNumberOf n (get_or xs m 0)

-- the first k numbers differ
abbrev pub DifferTo : List ℕ → ℕ → Type 0
DifferTo xs k = (p q : ℕ) → p < q → q < k → get_or xs p 0 ≡ get_or xs q 0 → ⊥

-- each of the first k numbers is placed before the next
abbrev pub PlacedTo : List Step → Axis → List ℕ → ℕ → Type 0
PlacedTo path axis xs k = (m : ℕ) → m + 1 < k → Places path axis (get_or xs m 0) (get_or xs (m + 1) 0)

module _ (path : List Step) (axis : Axis) (xs : List ℕ) where
  pub placed_more : (k a b : ℕ) → 1 ≤ k → slice_get xs (k - 1) ≡ Some a → slice_get xs k ≡ Some b → Places path axis a b → PlacedTo path axis xs k → PlacedTo path axis xs (k + 1)
  placed_more k a b from at_a at_b here before m less = elim (cases_eq (m + 1) k) [
    | inl last ↦
        let one : get_or xs m 0 ≡ a = let e : m ≡ k - 1 = omega arith in ap (λ (p : ℕ). get_or xs p 0) e ∙ get_or_from_slice_get xs (k - 1) a 0 at_a in
        let two : get_or xs (m + 1) 0 ≡ b = ap (λ (p : ℕ). get_or xs p 0) last ∙ get_or_from_slice_get xs k b 0 at_b in
        subst (λ (p : ℕ). Places path axis p (get_or xs (m + 1) 0)) (sym one) (subst (λ (p : ℕ). Places path axis a p) (sym two) here)
    | inr apart ↦ before m (omega arith)
  ]

  pub placed_all : (k : ℕ) → length xs ≤ k → PlacedTo path axis xs k → ArePlaced path axis xs
  placed_all k past before = placed_from path axis xs (λ m less. before m (omega arith))

  pub placed_here : (k a b : ℕ) → 1 ≤ k → slice_get xs (k - 1) ≡ Some a → slice_get xs k ≡ Some b → ArePlaced path axis xs → Places path axis a b
  placed_here k a b from at_a at_b all =
      let within = slice_get_within xs k b at_b in
      let next : k - 1 + 1 ≡ k = omega arith in
      let two : get_or xs (k - 1 + 1) 0 ≡ b = ap (λ (p : ℕ). get_or xs p 0) next ∙ get_or_from_slice_get xs k b 0 at_b in
      subst (λ (p : ℕ). Places path axis p b) (get_or_from_slice_get xs (k - 1) a 0 at_a) (subst (λ (p : ℕ). Places path axis (get_or xs (k - 1) 0) p) two (placed_at path axis xs (k - 1) all (omega arith)))

-- what is summed so far and the weight from place k - 1 on make up the whole weight
pub weight_step : (T : TreeValue) (xs : List ℕ) (k a b d sum whole : ℕ) → 1 ≤ k → slice_get xs (k - 1) ≡ Some a → slice_get xs k ≡ Some b → d ≡ leaf_dist T a b → sum + chain_weight T (drop (k - 1) xs) ≡ whole → sum + d + chain_weight T (drop (k + 1 - 1) xs) ≡ whole
weight_step T xs k a b d sum whole from at_a at_b is so_far =
    let within = slice_get_within xs k b at_b in
    let next : k - 1 + 1 ≡ k = omega arith in
    let same : k + 1 - 1 ≡ k = omega arith in
    let one = get_or_from_slice_get xs (k - 1) a 0 at_a in
    let two : get_or xs (k - 1 + 1) 0 ≡ b = ap (λ (p : ℕ). get_or xs p 0) next ∙ get_or_from_slice_get xs k b 0 at_b in
    let rest : chain_weight T (drop (k - 1 + 1) xs) ≡ chain_weight T (drop (k + 1 - 1) xs) = ap (λ (p : ℕ). chain_weight T (drop p xs)) (next ∙ sym same) in
    let way : leaf_dist T (get_or xs (k - 1) 0) (get_or xs (k - 1 + 1) 0) ≡ leaf_dist T a b = λ i. leaf_dist T (one i) (two i) in
    omega (arith, weight_more T xs (k - 1) (omega arith), rest, way, is, so_far)

pub weight_end : (T : TreeValue) (xs : List ℕ) (k sum whole : ℕ) → length xs ≤ k → sum + chain_weight T (drop (k - 1) xs) ≡ whole → sum ≡ whole
weight_end T xs k sum whole past so_far = omega (arith, weight_last T xs (k - 1) (omega arith), so_far)
