-- Going over the moved leaves until all their steps are met: the sum of the row's coordinates can't rise forever.
use Rattle.std.proofs.Common.{◌≡◌, ◌≢◌, ℕ, suc, ◌+◌, ◌-◌, ◌*◌, ◌<◌, ◌≤◌, List, [], ◌∷◌, length, get_or, set, sum, sym, ◌∙◌, ap, subst, arith, inl, inr}
use Rattle.std.proofs.lemmas.List.Sums.{sum_by-cons}
use Rattle.bp_base.specs.declared.point.Axis.{Axis}
use Rattle.bp_base.specs.declared.path.Step.{Step}
use Rattle.bp_base.specs.Tree.{TreeValue, IsTree, IsLeaf, leaf_count}
use Rattle.bp_metric.specs.Distance.{leaf_dist}
use Rattle.bp_metric.specs.Chains.{HasPairsOf}
use Rattle.bp_warm.specs.declared.raising.Pulled.TheVariants.{Met, Again}
use Rattle.bp_warm.specs.Raising.{low_in, WorkValue, IsExact, IsWorking, IsRelaxed, IsPulledAll}
use Rattle.bp_walks.specs.Lows.{places}
use Rattle.bp_warm.proofs.Pulling.{moved_small, exact_lows}
use Rattle.bp_warm.proofs.RowRaised.{find, begin}

sum_le : (xs : List ℕ) (m : ℕ) → ((k : ℕ) → k < length xs → get_or xs k 0 ≤ m) → sum xs ≤ m * length xs
sum_le [] m each = omega arith
sum_le (x ∷ xs) m each =
    let ih = sum_le xs m (λ k less. each (suc k) (omega arith)) in
    omega (arith, sum_by-cons (λ (y : ℕ). y) x xs, each 0 (omega arith), ih)

pub record IsSettling (T : TreeValue) (path : List Step) (axis : Axis) (old : List ℕ) (a b : ℕ) (lows : List ℕ) (work : WorkValue) (at : ℕ) : Type 0 where
  pub working : IsWorking T path axis old a b lows work
  pub few : work.count < 33
  pub relaxed : IsRelaxed T path axis lows work.moved at
  pub within : at ≤ work.count

-- what falls while the row is settled
abbrev pub left_over : List ℕ → ℕ → ℕ
left_over lows at = (160000000 - sum lows) * 34 + (33 - at)

module _ (T : TreeValue) (t : IsTree T) (path : List Step) (pairs : HasPairsOf (leaf_count T) path) (axis : Axis) (old : List ℕ) (exact : IsExact T path axis old) (a b : ℕ) where
  pub settling_start : (lows0 : List ℕ) (v d : ℕ) (work0 work : WorkValue) → lows0 ≡ old → length work0.by ≡ places → length work0.moved ≡ places → work ≡ record { by = work0.by; moved = set work0.moved 0 b; count = 1 } → IsLeaf T a → IsLeaf T b → a ≢ b → d ≡ leaf_dist T a b → v ≡ low_in lows0 a + d → low_in old b < low_in old a + leaf_dist T a b → IsSettling T path axis old a b (set lows0 (b - 1) v) work 0
  settling_start lows0 v d work0 work same each_by each_moved work_is leaf_a leaf_b differ d_is v_is more =
      let begun = begin T t path pairs axis old (exact_lows T path axis old exact) a b work0.by work0.moved d exact.each each_by each_moved leaf_a leaf_b differ d_is (omega (arith, more, d_is)) in
      let v_too : v ≡ low_in old a + d = v_is ∙ ap (λ (r : List ℕ). low_in r a + d) same in
      let row_is : set old (b - 1) (low_in old a + d) ≡ set lows0 (b - 1) v = λ i. set (sym same i) (b - 1) (sym v_too i) in
      let there = subst (λ (w : WorkValue). IsWorking T path axis old a b (set lows0 (b - 1) v) w) (sym work_is) (subst (λ (r : List ℕ). IsWorking T path axis old a b r (record { by = work0.by; moved = set work0.moved 0 b; count = 1 })) row_is begun) in
      record {
        working = there;
        few = omega (arith, ap (λ (w : WorkValue). w.count) work_is);
        relaxed = λ k w less. absurd (omega arith);
        within = omega arith;
      }

  module _ (lows : List ℕ) (work : WorkValue) (at : ℕ) (is : IsSettling T path axis old a b lows work at) where
    sum_small : (lows' : List ℕ) (work' : WorkValue) → IsWorking T path axis old a b lows' work' → sum lows' ≤ 160000000
    sum_small lows' work' working =
        let each : (k : ℕ) → k < length lows' → get_or lows' k 0 ≤ 4000000 =
        λ k less.
        let leaf : IsLeaf T (k + 1) = (omega arith, omega (arith, working.each, less)) in
        let e : k + 1 - 1 ≡ k = omega arith in
        let low_k : low_in lows' (k + 1) ≡ get_or lows' k 0 = ap (λ (m : ℕ). get_or lows' m 0) e in
        elim (find work'.moved (k + 1) work'.count) [
          | inl there ↦
              omega (arith, low_k, ap (low_in lows') there.2, moved_small T t path pairs axis old exact a b lows' work' working there.0 there.1)
          | inr none ↦ omega (arith, low_k, working.still (k + 1) leaf none, exact.small (k + 1))
        ] in
        omega (arith, sum_le lows' 4000000 each, working.each, t.leaves_few)

    pub settling_met : (lows' : List ℕ) (work' : WorkValue) → at < work.count → IsPulledAll T path axis old a b at lows lows' work work' Met → work'.count < 33 → IsSettling T path axis old a b lows' work' (at + 1) × (left_over lows' (at + 1) < left_over lows at)
    settling_met lows' work' less p few = (
      record { working = p.0; few = few; relaxed = p.2 is.relaxed; within = omega (arith, p.1.count) },
      omega (arith, p.1.sums, is.few),
    )

    pub settling_again : (lows' : List ℕ) (work' : WorkValue) → IsPulledAll T path axis old a b at lows lows' work work' Again → work'.count < 33 → IsSettling T path axis old a b lows' work' 0 × (left_over lows' 0 < left_over lows at)
    settling_again lows' work' p few = (
      record { working = p.0; few = few; relaxed = λ k w less. absurd (omega arith); within = omega arith },
      omega (arith, p.2, sum_small lows' work' p.0, is.few),
    )
