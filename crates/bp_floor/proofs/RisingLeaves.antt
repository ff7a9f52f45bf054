-- Rising lists of leaves, and leaves that are far from those before them.
use Rattle.std.proofs.Common.{◌≡◌, ◌⊎◌, inl, inr, ℕ, zero, suc, ◌+◌, ◌-◌, ◌<◌, ◌≤◌, true, false, List, length, get_or, take, refl, sym, ◌∙◌, ap, subst, arith}
use Rattle.std.specs.Prelude.{nat_le}
use Rattle.std.specs.List.{list_all}
use Rattle.std.proofs.lemmas.Bool.{cases_eq, leb-true, le-leb, true≢false}
use Rattle.std.proofs.lemmas.List.{get_or-take, get_or_default, length-take-le}
use Rattle.std.proofs.lemmas.List.Sums.{AllPass-from_list_all, list_all-from_AllPass}
use Rattle.bp_base.specs.Tree.{TreeValue, IsLeaf, leaf_count}
use Rattle.bp_metric.specs.Distance.{leaf_dist}
use Rattle.bp_floor.specs.Lists.{AreRisingLeaves, AreFar}

-- the first n of the numbers rise, and last is the last of them, or 0
pub record RisesTo (T : TreeValue) (leaves : List ℕ) (n last : ℕ) : Type 0 where
  pub leaf : (k : ℕ) → k < n → IsLeaf T (get_or leaves k 0) × (get_or leaves k 0 ≤ last)
  pub rising : (k l : ℕ) → k < l → l < n → get_or leaves k 0 < get_or leaves l 0
  pub reached : (last ≡ 0) ⊎ ((k : ℕ) × (k < n) × (get_or leaves k 0 ≡ last))

module _ (T : TreeValue) (leaves : List ℕ) where
  pub rises_none : RisesTo T leaves 0 0
  rises_none = record { leaf = λ k less. absurd (omega arith); rising = λ k l kl less. absurd (omega arith); reached = inl refl }

  pub rises_more : (n last next : ℕ) → RisesTo T leaves n last → next ≡ get_or leaves n 0 → last < next → next ≤ leaf_count T → RisesTo T leaves (n + 1) next
  rises_more n last next r is more within = record {
    leaf = λ k less. elim (cases_eq k n) [
      | inl same ↦ let here : get_or leaves k 0 ≡ next = ap (λ (x : ℕ). get_or leaves x 0) same ∙ sym is in ((omega (arith, here), omega (arith, here)), omega (arith, here))
      | inr other ↦ let h = r.leaf k (omega arith) in (h.0, omega (arith, h.1))
    ];
    rising = λ k l kl less. elim (cases_eq l n) [
      | inl same ↦
          let here : get_or leaves l 0 ≡ next = ap (λ (x : ℕ). get_or leaves x 0) same ∙ sym is in
          let h = r.leaf k (omega arith) in
          omega (arith, here, h.1)
      | inr other ↦ r.rising k l kl (omega arith)
    ];
    reached = inr (n, omega arith, sym is);
  }

  pub rises_all : (n last : ℕ) → RisesTo T leaves n last → n ≡ length leaves → AreRisingLeaves T leaves
  rises_all n last r all = record {
    leaf = λ k less. (r.leaf k (omega arith)).0;
    rising = λ k l kl less. r.rising k l kl (omega arith);
  }

  pub stops_low : (n last next : ℕ) → RisesTo T leaves n last → n < length leaves → next ≡ get_or leaves n 0 → next ≤ last → AreRisingLeaves T leaves → ⊥
  stops_low n last next r within is low a = elim r.reached [
    | inl none ↦ let h = a.leaf n within in omega (arith, h.0, is, none, low)
    | inr some ↦ let h = a.rising some.0 n some.1 within in omega (arith, h, is, low, some.2)
  ]

  pub stops_high : (n next : ℕ) → n < length leaves → next ≡ get_or leaves n 0 → leaf_count T < next → AreRisingLeaves T leaves → ⊥
  stops_high n next within is high a = let h = a.leaf n within in omega (arith, h.1, is, high)

  -- the k-th number from 0 on is at least k + 1
  at_least : AreRisingLeaves T leaves → (k : ℕ) → k < length leaves → k + 1 ≤ get_or leaves k 0
  at_least a zero less = let h = a.leaf 0 less in omega (arith, h.0)
  at_least a (suc k) less =
      let before = at_least a k (omega arith) in
      let rise = a.rising k (suc k) (omega arith) less in
      omega (arith, before, rise)

  pub rising_few : AreRisingLeaves T leaves → length leaves ≤ leaf_count T
  rising_few a = elim (cases_eq (length leaves) 0) [
    | inl none ↦ omega arith
    | inr some ↦
        let low = at_least a (length leaves - 1) (omega arith) in
        let high = a.leaf (length leaves - 1) (omega arith) in
        omega (arith, low, high.1)
  ]

-- leaf number n is far from those before it
module _ (T : TreeValue) (m : ℕ) (leaves : List ℕ) where
  abbrev pub FarTo : ℕ → Type 0
  FarTo n = (k l : ℕ) → k < l → l < n → m ≤ leaf_dist T (get_or leaves k 0) (get_or leaves l 0)

  pub far_more : (n next : ℕ) → FarTo n → n < length leaves → next ≡ get_or leaves n 0 → list_all (λ k. nat_le m (leaf_dist T k next)) (take n leaves) ≡ true → FarTo (n + 1)
  far_more n next far within is passes k l kl less = elim (cases_eq l n) [
    | inl same ↦
        let each = AllPass-from_list_all (λ k. nat_le m (leaf_dist T k next)) (take n leaves) passes in
        let long : length (take n leaves) ≡ n = length-take-le n leaves (omega arith) in
        let here : m ≤ leaf_dist T (get_or (take n leaves) k 0) next = leb-true m (leaf_dist T (get_or (take n leaves) k 0) next) (each k 0 (omega (arith, long))) in
        let from : get_or (take n leaves) k 0 ≡ get_or leaves k 0 = get_or-take n leaves k 0 (omega arith) in
        let to : next ≡ get_or leaves l 0 = is ∙ ap (λ (x : ℕ). get_or leaves x 0) (sym same) in
        subst (λ (x : ℕ). m ≤ leaf_dist T (get_or leaves k 0) x) to (subst (λ (x : ℕ). m ≤ leaf_dist T x next) from here)
    | inr other ↦ far k l kl (omega arith)
  ]

  pub far_stops : (n next : ℕ) → n < length leaves → next ≡ get_or leaves n 0 → list_all (λ k. nat_le m (leaf_dist T k next)) (take n leaves) ≡ false → AreFar T m leaves → ⊥
  far_stops n next within is fails far =
      let long : length (take n leaves) ≡ n = length-take-le n leaves (omega arith) in
      let passes = list_all-from_AllPass (λ k. nat_le m (leaf_dist T k next)) (take n leaves) (λ k d less.
      let here : m ≤ leaf_dist T (get_or leaves k 0) (get_or leaves n 0) = far k n (omega (arith, long)) within in
      let from : get_or (take n leaves) k d ≡ get_or leaves k 0 = get_or_default (take n leaves) k d 0 less ∙ get_or-take n leaves k 0 (omega (arith, long)) in
      le-leb m (leaf_dist T (get_or (take n leaves) k d) next) (subst (λ (x : ℕ). m ≤ leaf_dist T (get_or (take n leaves) k d) x) (sym is) (subst (λ (x : ℕ). m ≤ leaf_dist T x (get_or leaves n 0)) (sym from) here))) in
      true≢false (sym passes ∙ fails)
