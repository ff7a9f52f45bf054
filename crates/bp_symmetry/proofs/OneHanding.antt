-- Points are handed out among late twins in one way only.
use Rattle.std.proofs.Common.{◌≡◌, ◌⊎◌, ℕ, zero, suc, ◌+◌, ◌-◌, ◌<◌, ◌≤◌, ◌==◌, ◌&&◌, Bool, true, List, [], ◌∷◌, length, get_or, map, filter, refl, sym, ◌∙◌, ap, subst, arith, inl, inr}
use Rattle.std.specs.List.{range_with_len, Contains}
use Rattle.std.proofs.lemmas.Bool.{cases_eq, cases_lt, cases_Bool, and_parts, and_from, eqb-true, eq-eqb}
use Rattle.std.proofs.lemmas.List.{get_or-map, ext_get_or}
use Rattle.bp_base.specs.declared.point.Point.{Point}
use Rattle.bp_base.specs.declared.point.Sheet.{Sheet}
use Rattle.bp_base.specs.Bags.{AreSame}
use Rattle.bp_base.specs.Tree.{TreeValue, IsTree, IsLeaf, leaf_count}
use Rattle.bp_base.specs.Point.{origin, point_at}
use Rattle.bp_base.proofs.Bags.{same-length, same_cut_one, same_sym, same_trans, moved}
use Rattle.bp_metric.specs.Choices.{are_late_twins}
use Rattle.bp_metric.specs.Valid.{Valid}
use Rattle.bp_symmetry.specs.Twins.{IsAfter, IsHandedOut, pair_of, late_class, points_of}
use Rattle.bp_symmetry.proofs.LateTwins.{late_parts, late_from, late_self, late_sym, late_trans}
use Rattle.bp_symmetry.proofs.Orders.{after_neither}
use Rattle.bp_symmetry.proofs.HandOut.{can_hand_out}

abbrev same_point : Point → Point → Bool
same_point p r = (p.x == r.x) && (p.y == r.y)

point_itself : (p : Point) → same_point p p ≡ true
point_itself p = and_from (p.x == p.x) (p.y == p.y) (eq-eqb p.x p.x refl) (eq-eqb p.y p.y refl)

point_sound : (p r : Point) → same_point p r ≡ true → p ≡ r
point_sound p r is =
    let parts = and_parts (p.x == r.x) (p.y == r.y) is in
    let x = eqb-true p.x r.x parts.0 in
    let y = eqb-true p.y r.y parts.1 in λ k. record { x = x k; y = y k }

-- Sorted lists of points.

-- no point stands after a later one
abbrev AreSorted : List Point → Type 0
AreSorted [] = Unit {0}
AreSorted (p ∷ ps) = ((r : Point) → Contains ps r → IsAfter p r → ⊥) × AreSorted ps

contains_cases : {X : Type 0} (y : X) (ys : List X) (x : X) (k : ℕ) → k < length (y ∷ ys) → get_or (y ∷ ys) k x ≡ x → (y ≡ x) ⊎ Contains ys x
contains_cases y ys x zero less is = inl is
contains_cases y ys x (suc k) less is = inr (k, omega arith, is)

-- a point that stands in a sorted list doesn't stand before its first
first_least : (p : Point) (ps : List Point) (r : Point) → AreSorted (p ∷ ps) → Contains (p ∷ ps) r → (p ≡ r) ⊎ (IsAfter p r → ⊥)
first_least p ps r sorted has = elim (contains_cases p ps r has.0 has.1 has.2) [ inl is ↦ inl is | inr later ↦ inr (sorted.0 r later) ]

one_sorted : (ps rs : List Point) → AreSorted ps → AreSorted rs → AreSame ps rs → ps ≡ rs
one_sorted [] [] a b same = refl
one_sorted [] (r ∷ rs) a b same = absurd (omega (arith, same-length [] (r ∷ rs) same))
one_sorted (p ∷ ps) [] a b same = absurd (omega (arith, same-length (p ∷ ps) [] same))
one_sorted (p ∷ ps) (r ∷ rs) a b same =
    let there = moved same_point point_itself point_sound (p ∷ ps) (r ∷ rs) p same (0, omega arith, refl) in
    let back = moved same_point point_itself point_sound (r ∷ rs) (p ∷ ps) r (same_sym (p ∷ ps) (r ∷ rs) same) (0, omega arith, refl) in
    let first : p ≡ r = elim (first_least r rs p b there) [
      | inl is ↦ sym is
      | inr r_not_after ↦ elim (first_least p ps r a back) [ inl is ↦ is | inr p_not_after ↦ after_neither p r p_not_after r_not_after ]
    ] in
    let rest = one_sorted ps rs a.1 b.1 (same_cut_one p ps rs (subst (λ (t : Point). AreSame (p ∷ ps) (t ∷ rs)) (sym first) same)) in λ k. first k ∷ rest k

-- Ranges that are filtered.
module _ (c : ℕ → Bool) where
  -- what stands in such a range comes from a number that passes
  comes_from : {X : Type 0} (f : ℕ → X) (s n : ℕ) (x : X) → Contains (map f (filter c (range_with_len s n))) x → (k : ℕ) × (s ≤ k) × (k < s + n) × (c k ≡ true) × (f k ≡ x)
  comes_from f s zero x has = absurd (omega (arith, has.1))
  comes_from f s (suc n) x has =
      let rest = range_with_len (s + 1) n in
      let later : Contains (map f (filter c rest)) x → (k : ℕ) × (s ≤ k) × (k < s + suc n) × (c k ≡ true) × (f k ≡ x) = λ h. let r = comes_from f (s + 1) n x h in (r.0, omega (arith, r.1), omega (arith, r.2), r.3, r.4) in
      elim (cases_Bool (c s)) [
        | inr isnt ↦ let gone : filter c (range_with_len s (suc n)) ≡ filter c rest = rw isnt in later (subst (λ (l : List ℕ). Contains (map f l) x) gone has)
        | inl is ↦
            let kept : filter c (range_with_len s (suc n)) ≡ s ∷ filter c rest = rw is in
            let here = subst (λ (l : List ℕ). Contains (map f l) x) kept has in
            elim (contains_cases (f s) (map f (filter c rest)) x here.0 here.1 here.2) [
              | inl same ↦ (s, omega arith, omega arith, is, same)
              | inr h ↦ later h
            ]
      ]

  stands_in : (s n i : ℕ) → s ≤ i → i < s + n → c i ≡ true → Contains (filter c (range_with_len s n)) i
  stands_in s zero i from to is = absurd (omega arith)
  stands_in s (suc n) i from to is =
      let rest = range_with_len (s + 1) n in
      elim (cases_eq s i) [
        | inl same ↦
            let passes : c s ≡ true = ap c same ∙ is in
            let kept : filter c (range_with_len s (suc n)) ≡ s ∷ filter c rest = rw passes in
            subst (λ (l : List ℕ). Contains l i) (sym kept) (0, omega arith, same)
        | inr other ↦
            let there = stands_in (s + 1) n i (omega (arith, from, other)) (omega (arith, to)) is in
            elim (cases_Bool (c s)) [
              | inl passes ↦ let kept : filter c (range_with_len s (suc n)) ≡ s ∷ filter c rest = rw passes in subst (λ (l : List ℕ). Contains l i) (sym kept) (suc there.0, omega (arith, there.1), there.2)
              | inr fails ↦ let gone : filter c (range_with_len s (suc n)) ≡ filter c rest = rw fails in subst (λ (l : List ℕ). Contains l i) (sym gone) there
            ]
      ]

same_at : (f g : ℕ → Point) (ls : List ℕ) (i : ℕ) → map f ls ≡ map g ls → Contains ls i → f i ≡ g i
same_at f g ls i same has =
    let a : get_or (map f ls) has.0 (f i) ≡ f i = get_or-map f ls has.0 i (f i) has.1 ∙ ap f has.2 in
    let b : get_or (map g ls) has.0 (f i) ≡ g i = get_or-map g ls has.0 i (f i) has.1 ∙ ap g has.2 in
    sym a ∙ ap (λ (l : List Point). get_or l has.0 (f i)) same ∙ b

module _ (T : TreeValue) (P : List Point) where
  class_sorted : (Q : List Point) → IsHandedOut T P Q → (m s n : ℕ) → 1 ≤ s → s + n ≤ leaf_count T + 1 → AreSorted (points_of Q (filter (λ k. are_late_twins T (pair_of m k)) (range_with_len s n)))
  class_sorted Q h m s zero from to = tt
  class_sorted Q h m s (suc n) from to =
      let c : ℕ → Bool = λ k. are_late_twins T (pair_of m k) in
      let rest = range_with_len (s + 1) n in
      let below = class_sorted Q h m (s + 1) n (omega arith) (omega arith) in
      elim (cases_Bool (c s)) [
        | inr isnt ↦ let gone : filter c (range_with_len s (suc n)) ≡ filter c rest = rw isnt in subst (λ (l : List ℕ). AreSorted (points_of Q l)) (sym gone) below
        | inl is ↦
            let kept : filter c (range_with_len s (suc n)) ≡ s ∷ filter c rest = rw is in
            let first : (r : Point) → Contains (points_of Q (filter c rest)) r → IsAfter (point_at Q s) r → ⊥ = λ r has after.
            let k = comes_from c (point_at Q) (s + 1) n r has in
            let late = late_trans T s m k.0 (late_sym T m s (late_parts T m s is)) (late_parts T m k.0 k.3) in
            h.sorted (pair_of s k.0) (from, omega (arith, k.1), omega (arith, k.2, to)) (late_from T s k.0 late) (subst (IsAfter (point_at Q s)) (sym k.4) after) in
            subst (λ (l : List ℕ). AreSorted (points_of Q l)) (sym kept) (first, below)
      ]

  one_point : (Q R : List Point) → IsHandedOut T P Q → IsHandedOut T P R → (i : ℕ) → IsLeaf T i → point_at Q i ≡ point_at R i
  one_point Q R q r i leaf = elim (cases_lt i 4) [
    | inl less ↦ q.early i leaf less ∙ sym (r.early i leaf less)
    | inr late ↦
        let qs = points_of Q (late_class T i) in
        let rs = points_of R (late_class T i) in
        let both : AreSame qs rs = same_trans qs (points_of P (late_class T i)) rs (same_sym (points_of P (late_class T i)) qs (q.same i leaf)) (r.same i leaf) in
        let lists : qs ≡ rs = one_sorted qs rs (class_sorted Q q i 1 (leaf_count T) (omega arith) (omega arith)) (class_sorted R r i 1 (leaf_count T) (omega arith) (omega arith)) both in
        let among : Contains (late_class T i) i = stands_in (λ k. are_late_twins T (pair_of i k)) 1 (leaf_count T) i leaf.0 (omega (arith, leaf.1)) (late_from T i i (late_self T i late)) in
        same_at (point_at Q) (point_at R) (late_class T i) i lists among
  ]

  pub one_handing : (Q R : List Point) → length P ≡ leaf_count T → IsHandedOut T P Q → IsHandedOut T P R → Q ≡ R
  one_handing Q R each q r =
      ext_get_or origin Q R (q.each ∙ sym r.each) (λ i less.
      let place : i + 1 - 1 ≡ i = omega arith in
      let here = one_point Q R q r (i + 1) (omega arith, omega (arith, less, q.each, each)) in
      subst (λ (k : ℕ). get_or Q k origin ≡ get_or R k origin) place here)

-- A permutation of late twins' points keeps a placement valid, whichever one it is that sorts them.
pub valid_handed : (T : TreeValue) → IsTree T → (G : Sheet) (q s : ℕ) (P Q : List Point) → Valid T G q s P → IsHandedOut T P Q → Valid T G q s Q
valid_handed T t G q s P Q v handed =
    let made = can_hand_out T t P v.each in
    subst (Valid T G q s) (one_handing T P made.points Q v.each made.handed handed) (made.keeps G q s v)
