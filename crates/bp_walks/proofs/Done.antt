-- Leaves whose coordinates are settled, and those that are still open.
use Rattle.std.proofs.Common.{◌≡◌, ◌≢◌, ℕ, ◌+◌, ◌*◌, ◌<◌, ◌≤◌, ◌⊎◌, List, length, get_or, set, sum, replicate, refl, sym, ◌∙◌, ap, subst, arith, inl, inr}
use Rattle.std.proofs.lemmas.List.{length-set, get_or-set_same, get_or-set_other, get_or_past, get_or-replicate}
use Rattle.std.proofs.lemmas.List.Sums.{sum_by-set}
use Rattle.std.proofs.lemmas.Bool.{cases_eq, cases_lt}
use Rattle.bp_base.specs.declared.point.Axis.{Axis}
use Rattle.bp_base.specs.declared.path.Step.{Step}
use Rattle.bp_base.specs.Tree.{TreeValue, IsTree, IsLeaf, leaf_count, leaf_node}
use Rattle.bp_metric.specs.Distance.{leaf_dist, most_distance}
use Rattle.bp_metric.specs.Chains.{Places, HasPairsOf}
use Rattle.bp_metric.proofs.Distances.{dist_small}
use Rattle.bp_metric.proofs.Lows.{placed_leaves}
use Rattle.bp_walks.specs.Lows.{places, most_low, IsLowTable}

abbrev IsMadeUpIn : TreeValue → List Step → Axis → List ℕ → ℕ → ℕ → Type 0
IsMadeUpIn T path axis lows i v =
    (v ≡ 0) ⊎ ((p : ℕ) × Places path axis p i × (get_or lows p 0 + leaf_dist T p i ≡ v))

abbrev pub zeros : List ℕ
zeros = replicate 33 0

abbrev pub ones : List ℕ
ones = replicate 33 1

-- a settled leaf has settled leaves before it, and its coordinate is exact; none is too great for those still open
pub record AreDone (T : TreeValue) (path : List Step) (axis : Axis) (lows marks : List ℕ) : Type 0 where
  pub each : length lows ≡ places
  pub each_mark : length marks ≡ places
  pub small : (i : ℕ) → get_or lows i 0 + most_distance * sum marks ≤ most_low
  pub before : (i : ℕ) → IsLeaf T i → get_or marks i 0 ≡ 0 → (p : ℕ) → Places path axis p i → get_or marks p 0 ≡ 0
  pub meets : (i : ℕ) → IsLeaf T i → get_or marks i 0 ≡ 0 → (p : ℕ) → Places path axis p i → get_or lows p 0 + leaf_dist T p i ≤ get_or lows i 0
  pub made_up : (i : ℕ) → IsLeaf T i → get_or marks i 0 ≡ 0 → IsMadeUpIn T path axis lows i (get_or lows i 0)

module _ (T : TreeValue) (t : IsTree T) (path : List Step) (pairs : HasPairsOf (leaf_count T) path) (axis : Axis) where
  -- all leaves are settled
  pub done_all : (lows marks : List ℕ) → AreDone T path axis lows marks → ((i : ℕ) → 1 ≤ i → i ≤ leaf_count T → get_or marks i 0 ≡ 0) → IsLowTable T path axis lows
  done_all lows marks is all =
      record {
        each = is.each;
        small = λ i. omega (arith, is.small i);
        meets = λ a b placed. let l = placed_leaves (leaf_count T) path axis a b pairs placed in is.meets b (l.2, l.3) (all b l.2 l.3) a placed;
        made_up = λ i leaf. is.made_up i leaf (all i leaf.0 leaf.1);
      }

  -- a leaf with settled leaves alone before it is settled
  pub done_more : (lows marks : List ℕ) (leaf v : ℕ) → AreDone T path axis lows marks → IsLeaf T leaf → 1 ≤ get_or marks leaf 0 → ((p : ℕ) → Places path axis p leaf → get_or marks p 0 ≡ 0) → ((p : ℕ) → Places path axis p leaf → get_or lows p 0 + leaf_dist T p leaf ≤ v) → IsMadeUpIn T path axis lows leaf v → AreDone T path axis (set lows leaf v) (set marks leaf 0) × (sum (set marks leaf 0) < sum marks)
  done_more lows marks leaf v is is_leaf is_open ready meets made =
      let within : leaf < places = omega (arith, is_leaf.1, t.leaves_few) in
      let fewer : sum (set marks leaf 0) + get_or marks leaf 0 ≡ sum marks + 0 = sum_by-set (λ (x : ℕ). x) marks leaf 0 0 (omega (arith, is.each_mark)) in
      let low_here : get_or (set lows leaf v) leaf 0 ≡ v = get_or-set_same lows leaf v 0 (omega (arith, is.each)) in
      let settled : (p : ℕ) → get_or marks p 0 ≡ 0 → get_or (set lows leaf v) p 0 ≡ get_or lows p 0 =
      λ p none. get_or-set_other lows leaf p v 0 (λ same. omega (arith, is_open, none, ap (λ (k : ℕ). get_or marks k 0) same)) in
      let v_small : v + most_distance * sum (set marks leaf 0) ≤ most_low = elim made [
        | inl none ↦ omega (arith, none, fewer, is_open, is.small 0)
        | inr p ↦ omega (arith, p.2, fewer, is_open, is.small p.0, dist_small T t (leaf_node T p.0) (leaf_node T leaf))
      ] in
      let made_new : (i w : ℕ) → ((p : ℕ) → Places path axis p i → get_or marks p 0 ≡ 0) → IsMadeUpIn T path axis lows i w → IsMadeUpIn T path axis (set lows leaf v) i w =
      λ i w before made_w. elim made_w [
        | inl none ↦ inl none
        | inr p ↦ inr (p.0, p.1, omega (arith, p.2, settled p.0 (before p.0 p.1)))
      ] in
      let was : (i : ℕ) → i ≢ leaf → get_or (set marks leaf 0) i 0 ≡ 0 → get_or marks i 0 ≡ 0 =
      λ i apart none. sym (get_or-set_other marks leaf i 0 0 apart) ∙ none in
      let stays : (p : ℕ) → get_or marks p 0 ≡ 0 → get_or (set marks leaf 0) p 0 ≡ 0 =
      λ p none. elim (cases_eq p leaf) [
        | inl same ↦ ap (λ (k : ℕ). get_or (set marks leaf 0) k 0) same ∙ get_or-set_same marks leaf 0 0 (omega (arith, is.each_mark))
        | inr apart ↦ get_or-set_other marks leaf p 0 0 apart ∙ none
      ] in (
        record {
          each = omega (arith, length-set lows leaf v, is.each);
          each_mark = omega (arith, length-set marks leaf 0, is.each_mark);
          small = λ i. elim (cases_eq i leaf) [
            | inl same ↦ omega (arith, ap (λ (k : ℕ). get_or (set lows leaf v) k 0) same, low_here, v_small)
            | inr apart ↦ omega (arith, get_or-set_other lows leaf i v 0 apart, is.small i, fewer, is_open)
          ];
          before = λ i i_leaf none p placed. elim (cases_eq i leaf) [
            | inl same ↦ stays p (ready p (subst (λ (k : ℕ). Places path axis p k) same placed))
            | inr apart ↦ stays p (is.before i i_leaf (was i apart none) p placed)
          ];
          meets = λ i i_leaf none p placed. elim (cases_eq i leaf) [
            | inl same ↦
                let there : Places path axis p leaf = subst (λ (k : ℕ). Places path axis p k) same placed in
                omega (arith, settled p (ready p there), meets p there, low_here, ap (λ (k : ℕ). get_or (set lows leaf v) k 0) same, ap (λ (k : ℕ). leaf_dist T p k) same)
            | inr apart ↦
                let old = was i apart none in
                omega (arith, settled p (is.before i i_leaf old p placed), settled i old, is.meets i i_leaf old p placed)
          ];
          made_up = λ i i_leaf none. elim (cases_eq i leaf) [
            | inl same ↦
                let here : IsMadeUpIn T path axis (set lows leaf v) leaf (get_or (set lows leaf v) leaf 0) =
                subst (IsMadeUpIn T path axis (set lows leaf v) leaf) (sym low_here) (made_new leaf v ready made) in
                subst (λ (k : ℕ). IsMadeUpIn T path axis (set lows leaf v) k (get_or (set lows leaf v) k 0)) (sym same) here
            | inr apart ↦
                let old = was i apart none in
                subst (IsMadeUpIn T path axis (set lows leaf v) i) (sym (settled i old)) (made_new i (get_or lows i 0) (is.before i i_leaf old) (is.made_up i i_leaf old))
          ];
        },
        omega (arith, fewer, is_open),
      )

  done_zero : (i : ℕ) → get_or zeros i 0 ≡ 0
  done_zero i = elim (cases_lt i 33) [
    | inl within ↦ get_or-replicate 33 i 0 0 within
    | inr past ↦ get_or_past zeros i 0 past
  ]

  no_mark : (i : ℕ) → IsLeaf T i → get_or ones i 0 ≡ 0 → ⊥
  no_mark i leaf none = omega (arith, get_or-replicate {A = ℕ} 33 i 1 0 (omega (arith, leaf.1, t.leaves_few)), none)

  -- at first all leaves are open
  pub done_start : AreDone T path axis zeros ones
  done_start =
      record {
        each = refl;
        each_mark = refl;
        small = λ i. omega (arith, done_zero i);
        before = λ i leaf none p placed. absurd (no_mark i leaf none);
        meets = λ i leaf none p placed. absurd (no_mark i leaf none);
        made_up = λ i leaf none. absurd (no_mark i leaf none);
      }
