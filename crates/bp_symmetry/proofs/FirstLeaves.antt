-- After the moves of the whole sheet an allowed choice holds for the pairs (1,2) and, on a square, (1,3).
use Rattle.std.proofs.Common.{◌≡◌, ◌⊎◌, ℕ, ◌+◌, ◌*◌, ◌≤◌, true, false, not, ◌&&◌, List, length, ap, arith, inl, inr}
use Rattle.std.specs.Int.{abs_diff}
use Rattle.std.specs.Prelude.{nat_le, nat_lt}
use Rattle.std.proofs.lemmas.Bool.{cond_both, and_parts, and_cases, not-true, not-false, leb-true, leb-false, ltb-true, ltb-false}
use Rattle.bp_base.specs.declared.path.Choice.TheVariants.{Left, Right, Below}
use Rattle.bp_base.specs.declared.point.Point.{Point}
use Rattle.bp_base.specs.declared.point.Sheet.{Sheet}
use Rattle.bp_base.specs.declared.point.Sheet.TheVariants.{Square, Strip}
use Rattle.bp_base.specs.Tree.{TreeValue, IsTree, IsLeaf, leaf_count}
use Rattle.bp_base.specs.Point.{point_at}
use Rattle.bp_metric.specs.Choices.{Holds}
use Rattle.bp_metric.specs.Distance.{leaf_dist}
use Rattle.bp_metric.specs.Valid.{IsPair, Valid}
use Rattle.bp_symmetry.specs.Moves.{exchanged_point, mirrored_x_point, mirrored_y_point, exchanged, mirrored_x, mirrored_y, are_near_on_x, is_third_below, laid, faced_x, faced_y, raised, turned}
use Rattle.bp_symmetry.specs.Twins.{pair_of}
use Rattle.bp_symmetry.proofs.Turns.{at_map, valid_laid, valid_faced_x}

module _ (T : TreeValue) (t : IsTree T) (q s : ℕ) where
  leaf_1 : IsLeaf T 1
  leaf_1 = (omega arith, omega (arith, t.leaves_enough))

  leaf_2 : IsLeaf T 2
  leaf_2 = (omega arith, t.leaves_enough)

  first_pair : IsPair T 1 2
  first_pair = (omega arith, omega arith, t.leaves_enough)

  abbrev FarOnX : List Point → Type 0
  FarOnX P = q * leaf_dist T 1 2 ≤ abs_diff (point_at P 1).x (point_at P 2).x

  abbrev FarOnY : List Point → Type 0
  FarOnY P = q * leaf_dist T 1 2 ≤ abs_diff (point_at P 1).y (point_at P 2).y

  -- leaves that are near on x are far on y
  near_far : (G : Sheet) (P : List Point) → Valid T G q s P → are_near_on_x T q P ≡ true → FarOnY P
  near_far G P v near =
      let less = ltb-true (abs_diff (point_at P 1).x (point_at P 2).x) (q * leaf_dist T 1 2) near in
      omega (arith, less, v.far 1 2 first_pair)

  not_near : (P : List Point) → are_near_on_x T q P ≡ false → FarOnX P
  not_near P far = ltb-false (abs_diff (point_at P 1).x (point_at P 2).x) (q * leaf_dist T 1 2) far

  laid_far : (P : List Point) → Valid T Square q s P → FarOnX (laid T q P)
  laid_far P v = cond_both (are_near_on_x T q P) (exchanged P) P FarOnX
      (λ near.
      let a = ap (λ (p : Point). p.x) (at_map T q s exchanged_point P 1 v.each leaf_1) in
      let b = ap (λ (p : Point). p.x) (at_map T q s exchanged_point P 2 v.each leaf_2) in
      omega (arith, a, b, near_far Square P v near))
      (λ far. not_near P far)

  faced_left : (w : ℕ) (P : List Point) → length P ≡ leaf_count T → (point_at P 1).x ≤ w → (point_at P 2).x ≤ w → FarOnX P → Holds T q (faced_x w P) (pair_of 1 2) Left
  faced_left w P each first second far = cond_both (nat_lt (point_at P 2).x (point_at P 1).x) (mirrored_x w P) P (λ R. Holds T q R (pair_of 1 2) Left)
      (λ right.
      let a = ap (λ (p : Point). p.x) (at_map T q s (mirrored_x_point w) P 1 each leaf_1) in
      let b = ap (λ (p : Point). p.x) (at_map T q s (mirrored_x_point w) P 2 each leaf_2) in
      let less = ltb-true (point_at P 2).x (point_at P 1).x right in
      omega (arith, a, b, less, far, first, second))
      (λ left. let le = ltb-false (point_at P 2).x (point_at P 1).x left in omega (arith, le, far))

  faced_below : (P : List Point) → length P ≡ leaf_count T → (point_at P 1).y ≤ s → (point_at P 2).y ≤ s → FarOnY P → Holds T q (faced_y s P) (pair_of 1 2) Below
  faced_below P each first second far = cond_both (nat_lt (point_at P 2).y (point_at P 1).y) (mirrored_y s P) P (λ R. Holds T q R (pair_of 1 2) Below)
      (λ above.
      let a = ap (λ (p : Point). p.y) (at_map T q s (mirrored_y_point s) P 1 each leaf_1) in
      let b = ap (λ (p : Point). p.y) (at_map T q s (mirrored_y_point s) P 2 each leaf_2) in
      let less = ltb-true (point_at P 2).y (point_at P 1).y above in
      omega (arith, a, b, less, far, first, second))
      (λ below. let le = ltb-false (point_at P 2).y (point_at P 1).y below in omega (arith, le, far))

  -- turning top and bottom changes no x
  raised_left : (P : List Point) → length P ≡ leaf_count T → Holds T q P (pair_of 1 2) Left → Holds T q (raised T q s P) (pair_of 1 2) Left
  raised_left P each left = cond_both (is_third_below T q P) (mirrored_y s P) P (λ R. Holds T q R (pair_of 1 2) Left)
      (λ _.
      let a = ap (λ (p : Point). p.x) (at_map T q s (mirrored_y_point s) P 1 each leaf_1) in
      let b = ap (λ (p : Point). p.x) (at_map T q s (mirrored_y_point s) P 2 each leaf_2) in
      omega (arith, a, b, left))
      (λ _. left)

  -- what the pair (1,3) allows on a square
  abbrev pub HasThird : List Point → Type 0
  HasThird P = Holds T q P (pair_of 1 3) Left ⊎ (Holds T q P (pair_of 1 3) Right ⊎ Holds T q P (pair_of 1 3) Below)

  abbrev d : ℕ
  d = q * leaf_dist T 1 3

  raised_third : (P : List Point) → Valid T Square q s P → 3 ≤ leaf_count T → HasThird (raised T q s P)
  raised_third P v three =
      let p1 = point_at P 1 in
      let p3 = point_at P 3 in
      let leaf_3 : IsLeaf T 3 = (omega arith, three) in
      let left = nat_le (p1.x + d) p3.x in
      let right = nat_le (p3.x + d) p1.x in
      let below = nat_le (p1.y + d) p3.y in
      cond_both (is_third_below T q P) (mirrored_y s P) P HasThird
      (λ all.
      let outer = and_parts (nat_le 3 (leaf_count T) && not left && not right) (not below) all in
      let middle = and_parts (nat_le 3 (leaf_count T) && not left) (not right) outer.0 in
      let inner = and_parts (nat_le 3 (leaf_count T)) (not left) middle.0 in
      let not_left = leb-false (p1.x + d) p3.x (not-true left inner.1) in
      let not_right = leb-false (p3.x + d) p1.x (not-true right middle.1) in
      let not_below = leb-false (p1.y + d) p3.y (not-true below outer.1) in
      let a = ap (λ (p : Point). p.y) (at_map T q s (mirrored_y_point s) P 1 v.each leaf_1) in
      let b = ap (λ (p : Point). p.y) (at_map T q s (mirrored_y_point s) P 3 v.each leaf_3) in
      inr (inr (omega (arith, a, b, not_left, not_right, not_below, v.far 1 3 (omega arith, omega arith, three), (v.inside 1 leaf_1).1, (v.inside 3 leaf_3).1))))
      (λ some. elim (and_cases (nat_le 3 (leaf_count T) && not left && not right) (not below) some) [
        | inr is ↦ inr (inr (leb-true (p1.y + d) p3.y (not-false below is)))
        | inl outer ↦ elim (and_cases (nat_le 3 (leaf_count T) && not left) (not right) outer) [
          | inr is ↦ inr (inl (leb-true (p3.x + d) p1.x (not-false right is)))
          | inl inner ↦ elim (and_cases (nat_le 3 (leaf_count T)) (not left) inner) [
            | inr is ↦ inl (leb-true (p1.x + d) p3.x (not-false left is))
            | inl none ↦ absurd (let less = leb-false 3 (leaf_count T) none in omega (arith, less, three))
          ]
        ]
      ])

  -- what the pair (1,2) allows
  abbrev pub HasFirst : Sheet → List Point → Type 0
  HasFirst Square P = Holds T q P (pair_of 1 2) Left
  HasFirst (Strip width) P = Holds T q P (pair_of 1 2) Left ⊎ Holds T q P (pair_of 1 2) Below

  pub turned_first : (G : Sheet) (P : List Point) → Valid T G q s P → HasFirst G (turned T G q s P)
  unfolding turned
  turned_first Square P v =
      let v1 = valid_laid T q s P v in
      let v2 = valid_faced_x T q s Square (laid T q P) v1 in
      raised_left (faced_x s (laid T q P)) v2.each (faced_left s (laid T q P) v1.each (v1.inside 1 leaf_1).0 (v1.inside 2 leaf_2).0 (laid_far P v))
  turned_first (Strip width) P v = cond_both (are_near_on_x T q P) (faced_y s P) (faced_x (q * width) P) (HasFirst (Strip width))
      (λ near. inr (faced_below P v.each (v.inside 1 leaf_1).1 (v.inside 2 leaf_2).1 (near_far (Strip width) P v near)))
      (λ far. inl (faced_left (q * width) P v.each (v.inside 1 leaf_1).0 (v.inside 2 leaf_2).0 (not_near P far)))

  pub turned_third : (P : List Point) → Valid T Square q s P → 3 ≤ leaf_count T → HasThird (turned T Square q s P)
  unfolding turned
  turned_third P v three = raised_third (faced_x s (laid T q P)) (valid_faced_x T q s Square (laid T q P) (valid_laid T q s P v)) three
