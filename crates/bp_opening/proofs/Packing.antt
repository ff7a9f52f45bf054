-- A packing with one more point.
use Rattle.std.proofs.Common.{◌≡◌, ℕ, zero, suc, ◌+◌, ◌-◌, ◌*◌, ◌<◌, ◌≤◌, max, List, [], ◌∷◌, ◌++◌, length, get_or, refl, sym, subst, arith, inl, inr}
use Rattle.std.proofs.lemmas.Bool.{cases_eq}
use Rattle.std.proofs.lemmas.List.{get_or_append_left, get_or_at, length_push, get_or_default}
use Rattle.std.specs.List.{All}
use Rattle.bp_base.specs.declared.point.Point.{Point}
use Rattle.bp_base.specs.declared.point.Sheet.{Sheet}
use Rattle.bp_base.specs.declared.point.Sheet.TheVariants.{Square, Strip}
use Rattle.bp_base.specs.Limits.{most_leaves}
use Rattle.bp_base.specs.Tree.{TreeValue, leaf_count}
use Rattle.bp_base.specs.Point.{origin, point_at, gap}
use Rattle.bp_metric.specs.Distance.{leaf_dist, most_distance, most_side}
use Rattle.bp_metric.specs.Metric.{IsSheet}
use Rattle.bp_metric.specs.Opening.{IsWithin, IsFree, IsFirst, IsOpening, reach_on, side_of}
use Rattle.bp_metric.specs.Valid.{Valid, Lies}
use Rattle.bp_opening.specs.Small.{IsNearby, IsSmall}
use Rattle.bp_opening.specs.Sums.{next_leaf, AreNear}

side_push : (G : Sheet) (P : List Point) (p : Point) → side_of G (P ++ p ∷ []) ≡ max (reach_on G p) (side_of G P)
side_push G [] p = refl
side_push G (q ∷ P) p = omega (arith, side_push G P p)

-- no point needs more than all of them
reach_in : (G : Sheet) (P : List Point) (k : ℕ) → k < length P → reach_on G (get_or P k origin) ≤ side_of G P
reach_in G [] k less = absurd (omega arith)
reach_in G (p ∷ P) zero less = omega arith
reach_in G (p ∷ P) (suc k) less = omega (arith, reach_in G P k (omega arith))

reach_at : (G : Sheet) (P : List Point) (i : ℕ) → 1 ≤ i → i ≤ length P → reach_on G (point_at P i) ≤ side_of G P
reach_at G P i from to = reach_in G P (i - 1) (omega arith)

side_at_most : (G : Sheet) (P : List Point) (m : ℕ) → ((k : ℕ) → k < length P → reach_on G (get_or P k origin) ≤ m) → side_of G P ≤ m
side_at_most G [] m each = omega arith
side_at_most G (p ∷ P) m each = omega (arith, each 0 (omega arith), side_at_most G P m (λ k less. each (suc k) (omega arith)))

nearby_reach : (G : Sheet) (p : Point) → IsNearby p → reach_on G p ≤ most_side
nearby_reach Square p near = omega (arith, near.0, near.1)
nearby_reach (Strip width) p near = near.1

-- a point on the sheet that needs little is near
nearby : (G : Sheet) → IsSheet G → (p : Point) (n : ℕ) → n < most_leaves → IsWithin G p → reach_on G p ≤ most_distance * n → IsNearby p
nearby Square sheet p n few within reach = (omega (arith, reach), omega (arith, reach))
nearby (Strip width) sheet p n few within reach = (omega (arith, within, sheet), omega (arith, reach))

near_none : (G : Sheet) → AreNear G []
near_none G = record { few = omega arith; near = λ j from to. absurd (omega arith); small = λ j from to. absurd (omega arith) }

module _ (T : TreeValue) (G : Sheet) (P : List Point) (p : Point) where
  abbrev Q : List Point
  Q = P ++ p ∷ []

  kept : (j : ℕ) → 1 ≤ j → j ≤ length P → point_at P j ≡ point_at Q j
  kept j from to = sym (get_or_append_left P (p ∷ []) origin (j - 1) (omega arith))

  added : point_at Q (next_leaf P) ≡ p
  added = get_or_at P p [] origin (length P + 1 - 1) (omega arith)

  free_on : (k : ℕ) (q : Point) → k ≤ next_leaf P → IsFree T P k q → IsFree T Q k q
  free_on k q le free = λ j from to. subst (λ r. leaf_dist T j k ≤ gap r q) (kept j from (omega arith)) (free j from to)

  free_back : (k : ℕ) (q : Point) → k ≤ next_leaf P → IsFree T Q k q → IsFree T P k q
  free_back k q le free = λ j from to. subst (λ r. leaf_dist T j k ≤ gap r q) (sym (kept j from (omega arith))) (free j from to)

  first_on : (k : ℕ) (q : Point) → k ≤ next_leaf P → IsFirst T G P k q → IsFirst T G Q k q
  first_on k q le first = record { within = first.within; free = free_on k q le first.free; least = λ r before within free. first.least r before within (free_back k r le free) }

  first_push : ((k : ℕ) → 1 ≤ k → k ≤ length P → IsFirst T G P k (point_at P k)) → IsFirst T G P (next_leaf P) p → (k : ℕ) → 1 ≤ k → k ≤ length P + 1 → IsFirst T G Q k (point_at Q k)
  first_push before here k from to = elim (cases_eq k (next_leaf P)) [
    | inl last ↦ subst (λ i. IsFirst T G Q i (point_at Q i)) (sym last) (subst (IsFirst T G Q (next_leaf P)) (sym added) (first_on (next_leaf P) p (omega arith) here))
    | inr other ↦ subst (IsFirst T G Q k) (kept k from (omega arith)) (first_on k (point_at P k) (omega arith) (before k from (omega arith)))
  ]

  -- a fact of the points, each with its number
  each_push : (F : ℕ → Point → Type 0) → ((j : ℕ) → 1 ≤ j → j ≤ length P → F j (point_at P j)) → F (next_leaf P) p → (j : ℕ) → 1 ≤ j → j ≤ length Q → F j (point_at Q j)
  each_push F before here j from to = elim (cases_eq j (next_leaf P)) [
    | inl last ↦ subst (λ i. F i (point_at Q i)) (sym last) (subst (F (next_leaf P)) (sym added) here)
    | inr other ↦ subst (F j) (kept j from (omega (arith, length_push P p))) (before j from (omega (arith, length_push P p)))
  ]

  near_push : AreNear G P → length P < most_leaves → IsSheet G → IsWithin G p → reach_on G p ≤ most_distance * length P → AreNear G Q
  near_push near few sheet within here = record {
    few = omega (arith, length_push P p);
    near = each_push (λ j q. reach_on G q ≤ most_distance * (j - 1)) near.near (omega (arith, here));
    small = each_push (λ j q. IsNearby q) near.small (nearby G sheet p (length P) few within here);
  }

all_nearby : (G : Sheet) (P : List Point) → AreNear G P → All IsNearby P
all_nearby G P near = λ k d less.
    let place : k + 1 - 1 ≡ k = omega arith in
    let here : IsNearby (get_or P k origin) = subst (λ (j : ℕ). IsNearby (get_or P j origin)) place (near.small (k + 1) (omega arith) (omega arith)) in
    subst IsNearby (get_or_default P k origin d less) here

side_small : (G : Sheet) (P : List Point) → AreNear G P → side_of G P ≤ most_side
side_small G P near = side_at_most G P most_side (λ k less. nearby_reach G (get_or P k origin) (all_nearby G P near k origin less))

-- the first points of an opening, and the side that they need
pub record IsFront (T : TreeValue) (G : Sheet) (P : List Point) (s : ℕ) : Type 0 where
  pub near : AreNear G P
  pub first : (k : ℕ) → 1 ≤ k → k ≤ length P → IsFirst T G P k (point_at P k)
  pub side : s ≡ side_of G P

pub front_none : (T : TreeValue) (G : Sheet) (P : List Point) → P ≡ [] → IsFront T G P 0
front_none T G P none = subst (λ (R : List Point). IsFront T G R 0) (sym none) (record { near = near_none G; first = λ k from to. absurd (omega arith); side = refl })

pub front_push : (T : TreeValue) (G : Sheet) (P R : List Point) (p : Point) (side more : ℕ) → IsFront T G P side → length P < most_leaves → IsSheet G → IsFirst T G P (next_leaf P) p → reach_on G p ≤ most_distance * length P → R ≡ P ++ p ∷ [] → more ≡ max (reach_on G p) side → IsFront T G R more
front_push T G P R p side more front few sheet first reach items is =
    subst (λ (X : List Point). IsFront T G X more) (sym items) (record {
      near = near_push T G P p front.near few sheet first.within reach;
      first = λ k from to. first_push T G P p front.first first k from (omega (arith, length_push P p));
      side = omega (arith, is, front.side, side_push G P p);
    })

pub front_whole : (T : TreeValue) (G : Sheet) (P : List Point) (side : ℕ) → IsFront T G P side → length P ≡ leaf_count T → IsOpening T G P
front_whole T G P side front each = record { each = each; first = λ k leaf. front.first k leaf.0 (omega (arith, leaf.1, each)) }

pub front_small : (T : TreeValue) (G : Sheet) (P : List Point) (side : ℕ) → IsFront T G P side → IsSmall (record { side = side; points = P })
front_small T G P side front = record { side = omega (arith, front.side, side_small G P front.near); points = all_nearby G P front.near }

lies : (G : Sheet) (s : ℕ) (p : Point) → IsWithin G p → reach_on G p ≤ s → Lies G 1 s p
lies Square s p within reach = (omega (arith, reach), omega (arith, reach))
lies (Strip width) s p within reach = (omega (arith, within), reach)

-- the opening is a valid placement
pub opening_valid : (T : TreeValue) (G : Sheet) (P : List Point) → IsOpening T G P → Valid T G 1 (side_of G P) P
opening_valid T G P is = record {
  each = is.each;
  inside = λ i leaf. lies G (side_of G P) (point_at P i) (is.first i leaf).within (reach_at G P i leaf.0 (omega (arith, leaf.1, is.each)));
  far = λ i j pair.
      let free = (is.first j (omega (arith, pair.0, pair.1), pair.2)).free i pair.0 pair.1 in
      omega (arith, free);
}

pub front_valid : (T : TreeValue) (G : Sheet) (P : List Point) (side : ℕ) → IsFront T G P side → length P ≡ leaf_count T → Valid T G 1 side P
front_valid T G P side front each = subst (λ (s : ℕ). Valid T G 1 s P) (sym front.side) (opening_valid T G P (front_whole T G P side front each))
