-- The better of floors, and the best one.
use Rattle.std.proofs.Common.{◌≡◌, ◌⊎◌, inl, inr, ℕ, zero, suc, ◌+◌, ◌-◌, ◌*◌, ◌<◌, ◌≤◌, List, length, refl, sym, ◌∙◌, ap, subst, arith}
use Rattle.std.proofs.lemmas.Bool.{cases_eq}
use Rattle.std.proofs.lemmas.List.{get_or_default}
use Rattle.bp_base.specs.declared.point.Floor.{Floor}
use Rattle.bp_base.specs.declared.point.Sheet.{Sheet}
use Rattle.bp_base.specs.Tree.{TreeValue, IsTree, leaf_count, leaf_node}
use Rattle.bp_metric.specs.Distance.{leaf_dist, most_distance}
use Rattle.bp_metric.specs.Valid.{IsPair}
use Rattle.bp_metric.specs.Floor.{FloorHolds, IsFloor, floor_at, box_side, rows_for, taken}
use Rattle.bp_metric.proofs.Distances.{leaf_dist_positive, dist_small}
use Rattle.bp_floor.specs.Best.{AreApart, IsBetter, IsFound}
use Rattle.bp_floor.specs.Small.{IsSmall}
use Rattle.bp_floor.proofs.BoxRows.{box_side_small}
use Rattle.bp_floor.proofs.Walks.{taken_apart}

pub better_self : (f : Floor) → IsBetter f f
better_self f = inr (refl, omega arith)

pub better_trans : (f g h : Floor) → IsBetter f g → IsBetter g h → IsBetter f h
better_trans f g h p q = grind arith

better_total : (f g : Floor) → IsBetter f g ⊎ IsBetter g f
better_total f g = grind arith

side_least : (f g : Floor) → IsBetter f g → g.side ≤ f.side
side_least f g b = grind arith

m_least : (f g : Floor) → IsBetter f g → g.side ≡ f.side → f.m ≤ g.m
m_least f g b same = grind arith

-- what the leaves of a walk make
apart_holds : (T : TreeValue) (t : IsTree T) (G : Sheet) (m : ℕ) (leaves : List ℕ) → 1 ≤ m → AreApart T m (leaf_count T) leaves → FloorHolds T G (record { m = m; leaves = leaves; side = box_side G m (length leaves) })
apart_holds T t G m leaves positive a = record {
  apart = positive;
  some = a.some (omega (arith, t.leaves_enough));
  leaf = a.leaf;
  rising = a.rising;
  far = a.far;
  side = refl;
}

apart_small : (T : TreeValue) (t : IsTree T) (G : Sheet) (m : ℕ) (leaves : List ℕ) → m ≤ most_distance → AreApart T m (leaf_count T) leaves → IsSmall (record { m = m; leaves = leaves; side = box_side G m (length leaves) })
apart_small T t G m leaves near a = record {
  m = near;
  side = box_side_small G m (length leaves) near (omega (arith, a.few, t.leaves_few));
  few = omega (arith, a.few, t.leaves_few);
  leaves = λ k d less. let h = a.leaf k less in omega (arith, get_or_default leaves k d 0 less, h.1, t.leaves_few);
}

module _ (T : TreeValue) (t : IsTree T) (G : Sheet) where
  -- the floor of a pair is one
  pub found_pair : (i j : ℕ) → IsPair T i j → IsFound T G (floor_at T G (leaf_dist T i j))
  found_pair i j pair =
      let m = leaf_dist T i j in
      record {
        i = i;
        j = j;
        pair = pair;
        is = refl;
        holds = apart_holds T t G m (taken T m) (leaf_dist_positive T t i j pair.0 pair.1 pair.2) (taken_apart T m);
        small = apart_small T t G m (taken T m) (dist_small T t (leaf_node T i) (leaf_node T j)) (taken_apart T m);
      }

  -- the floor of a pair as the code makes it
  pub made_is : (i j m side : ℕ) (leaves : List ℕ) → m ≡ leaf_dist T i j → leaves ≡ taken T m → side ≡ box_side G m (length leaves) → record { m = m; leaves = leaves; side = side } ≡ floor_at T G (leaf_dist T i j)
  made_is i j m side leaves m_is taken_is side_is =
      let lists : leaves ≡ taken T (leaf_dist T i j) = taken_is ∙ ap (taken T) m_is in
      let whole : side ≡ box_side G (leaf_dist T i j) (length (taken T (leaf_dist T i j))) = side_is ∙ ap (λ (ls : List ℕ). box_side G m (length ls)) taken_is ∙ ap (λ (d : ℕ). box_side G d (length (taken T d))) m_is in
      λ v. record { m = m_is v; leaves = lists v; side = whole v }

  pub made_found : (i j : ℕ) (f : Floor) → IsPair T i j → f ≡ floor_at T G (leaf_dist T i j) → IsFound T G f
  made_found i j f pair is = subst (IsFound T G) (sym is) (found_pair i j pair)

  pub floor_from : (f : Floor) → IsFound T G f → ((k l : ℕ) → IsPair T k l → IsBetter f (floor_at T G (leaf_dist T k l))) → IsFloor T G f
  floor_from f found all = record {
    i = found.i;
    j = found.j;
    pair = found.pair;
    is = found.is;
    greatest = λ k l pair. side_least f (floor_at T G (leaf_dist T k l)) (all k l pair);
    least = λ k l pair same. m_least f (floor_at T G (leaf_dist T k l)) (all k l pair) same;
  }

-- what is kept from one leaf, and from one pair, to the next
module _ (T : TreeValue) (G : Sheet) where
  pub all_next : (old new : Floor) (j : ℕ) → ((i k : ℕ) → 1 ≤ i → i < k → k < j → IsBetter old (floor_at T G (leaf_dist T i k))) → IsBetter new old → ((i : ℕ) → 1 ≤ i → i < j → IsBetter new (floor_at T G (leaf_dist T i j))) → (i k : ℕ) → 1 ≤ i → i < k → k < j + 1 → IsBetter new (floor_at T G (leaf_dist T i k))
  all_next old new j before better here i k from less to = elim (cases_eq k j) [
    | inl is ↦ subst (λ (x : ℕ). IsBetter new (floor_at T G (leaf_dist T i x))) (sym is) (here i from (omega arith))
    | inr other ↦ better_trans new old (floor_at T G (leaf_dist T i k)) better (before i k from less (omega arith))
  ]

  pub column_next : (old new made : Floor) (j i : ℕ) → ((k : ℕ) → 1 ≤ k → k < i → IsBetter old (floor_at T G (leaf_dist T k j))) → IsBetter new old → made ≡ floor_at T G (leaf_dist T i j) → IsBetter new made → (k : ℕ) → 1 ≤ k → k < i + 1 → IsBetter new (floor_at T G (leaf_dist T k j))
  column_next old new made j i before better is beats k from to = elim (cases_eq k i) [
    | inl same ↦
        let here : IsBetter new (floor_at T G (leaf_dist T i j)) = subst (IsBetter new) is beats in
        subst (λ (x : ℕ). IsBetter new (floor_at T G (leaf_dist T x j))) (sym same) here
    | inr other ↦ better_trans new old (floor_at T G (leaf_dist T k j)) better (before k from (omega arith))
  ]

pub found_one : (T : TreeValue) (G : Sheet) (f g h : Floor) → IsFound T G g → IsFound T G h → (f ≡ g) ⊎ (f ≡ h) → IsFound T G f
found_one T G f g h p q (inl is) = subst (IsFound T G) (sym is) p
found_one T G f g h p q (inr is) = subst (IsFound T G) (sym is) q

-- Each tree has a best floor.
module _ (T : TreeValue) (t : IsTree T) (G : Sheet) where
  pick : (f g : Floor) → IsFound T G f → IsFound T G g → (h : Floor) × IsFound T G h × IsBetter h f × IsBetter h g
  pick f g p q = elim (better_total f g) [
    | inl first ↦ (f, p, better_self f, first)
    | inr second ↦ (g, q, second, better_self g)
  ]

  best_column : (f : Floor) (j i : ℕ) → IsFound T G f → i < j → j ≤ leaf_count T → (h : Floor) × IsFound T G h × IsBetter h f × ((k : ℕ) → 1 ≤ k → k < i + 1 → IsBetter h (floor_at T G (leaf_dist T k j)))
  best_column f j zero p less within = (f, p, better_self f, λ k from to. absurd (omega arith))
  best_column f j (suc i) p less within =
      let before = best_column f j i p (omega arith) within in
      let next = floor_at T G (leaf_dist T (suc i) j) in
      let b = pick before.0 next before.1 (found_pair T t G (suc i) j (omega arith, less, within)) in
      (b.0, b.1, better_trans b.0 before.0 f b.2 before.2, column_next T G before.0 b.0 next j (suc i) (λ k from to. before.3 k from (omega arith)) b.2 refl b.3)

  best_to : (n : ℕ) → n ≤ leaf_count T → (h : Floor) × IsFound T G h × ((i k : ℕ) → 1 ≤ i → i < k → k < n + 1 → IsBetter h (floor_at T G (leaf_dist T i k)))
  best_to zero within =
      (floor_at T G (leaf_dist T 1 2), found_pair T t G 1 2 (omega arith, omega arith, omega (arith, t.leaves_enough)), λ i k from less to. absurd (omega arith))
  best_to (suc n) within =
      let before = best_to n (omega arith) in
      let b = best_column before.0 (suc n) n before.1 (omega arith) within in
      (b.0, b.1, all_next T G before.0 b.0 (suc n) (λ i k from less to. before.2 i k from less (omega arith)) b.2 (λ i from to. b.3 i from (omega arith)))

  pub floor_exists : (f : Floor) × IsFloor T G f
  floor_exists =
      let b = best_to (leaf_count T) (omega arith) in
      (b.0, floor_from T t G b.0 b.1 (λ k l pair. b.2 k l pair.0 pair.1 (omega (arith, pair.2))))

pub floor_unique : (T : TreeValue) (G : Sheet) (f g : Floor) → IsFloor T G f → IsFloor T G g → f ≡ g
floor_unique T G f g p q =
    let m_f : f.m ≡ leaf_dist T p.i p.j = ap (λ (x : Floor). x.m) p.is in
    let m_g : g.m ≡ leaf_dist T q.i q.j = ap (λ (x : Floor). x.m) q.is in
    let side_f : f.side ≡ (floor_at T G (leaf_dist T p.i p.j)).side = ap (λ (x : Floor). x.side) p.is in
    let side_g : g.side ≡ (floor_at T G (leaf_dist T q.i q.j)).side = ap (λ (x : Floor). x.side) q.is in
    let fg = p.greatest q.i q.j q.pair in
    let gf = q.greatest p.i p.j p.pair in
    let mf = p.least q.i q.j q.pair (omega (arith, side_f, side_g, fg, gf)) in
    let mg = q.least p.i p.j p.pair (omega (arith, side_f, side_g, fg, gf)) in
    let same : leaf_dist T p.i p.j ≡ leaf_dist T q.i q.j = omega (arith, m_f, m_g, mf, mg) in
    p.is ∙ ap (λ (m : ℕ). floor_at T G m) same ∙ sym q.is

-- the floor that the code makes of a pair
pub made_floor : (T : TreeValue) (t : IsTree T) (G sheet : Sheet) (i j m rows less len : ℕ) (leaves vec : List ℕ) → IsPair T i j → sheet ≡ G → m ≡ leaf_dist T i j → leaves ≡ vec → vec ≡ taken T m → rows ≡ rows_for sheet m len → less ≡ rows - 1 → len ≡ length vec → (record { m = m; leaves = leaves; side = m * less } ≡ floor_at T G (leaf_dist T i j)) × IsFound T G (record { m = m; leaves = leaves; side = m * less })
made_floor T t G sheet i j m rows less len leaves vec pair sheet_is m_is leaves_is vec_is rows_is less_is len_is =
    let long : len ≡ length leaves = omega (arith, len_is, ap length leaves_is) in
    let same : rows ≡ rows_for G m (length leaves) = rows_is ∙ ap (λ (x : Sheet). rows_for x m len) sheet_is ∙ ap (λ (x : ℕ). rows_for G m x) long in
    let side_is : m * less ≡ box_side G m (length leaves) = ap (λ (x : ℕ). m * x) (less_is ∙ ap (λ (x : ℕ). x - 1) same) in
    let is = made_is T t G i j m (m * less) leaves m_is (leaves_is ∙ vec_is) side_is in
    (is, made_found T t G i j (record { m = m; leaves = leaves; side = m * less }) pair is)
