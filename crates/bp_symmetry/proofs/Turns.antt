-- The moves of the whole sheet keep a placement valid, and put the first leaves where an allowed choice holds for them.
use Rattle.std.proofs.Common.{◌≡◌, ℕ, ◌-◌, ◌*◌, ◌≤◌, max, List, length, map, sym, ◌∙◌, ap, subst, arith}
use Rattle.std.specs.Int.{abs_diff}
use Rattle.std.proofs.lemmas.Bool.{cond_both}
use Rattle.std.proofs.lemmas.List.{length-map, get_or-map}
use Rattle.bp_base.specs.declared.point.Point.{Point}
use Rattle.bp_base.specs.declared.point.Sheet.{Sheet}
use Rattle.bp_base.specs.declared.point.Sheet.TheVariants.{Square, Strip}
use Rattle.bp_base.specs.Tree.{TreeValue, IsLeaf, leaf_count}
use Rattle.bp_base.specs.Point.{origin, point_at, gap}
use Rattle.bp_metric.specs.Distance.{leaf_dist}
use Rattle.bp_metric.specs.Valid.{Lies, Valid}
use Rattle.bp_symmetry.specs.Moves.{exchanged_point, mirrored_x_point, mirrored_y_point, exchanged, mirrored_x, mirrored_y, are_near_on_x, is_third_below, laid, faced_x, faced_y, raised, turned}

abs_mirrored : (w a b : ℕ) → a ≤ w → b ≤ w → abs_diff (w - a) (w - b) ≡ abs_diff a b
abs_mirrored w a b a_in b_in = omega arith

gap_exchanged : (p r : Point) → gap (exchanged_point p) (exchanged_point r) ≡ gap p r
gap_exchanged p r = omega arith

gap_mirrored_x : (w : ℕ) (p r : Point) → p.x ≤ w → r.x ≤ w → gap (mirrored_x_point w p) (mirrored_x_point w r) ≡ gap p r
gap_mirrored_x w p r p_in r_in = ap (λ (t : ℕ). max t (abs_diff p.y r.y)) (abs_mirrored w p.x r.x p_in r_in)

gap_mirrored_y : (s : ℕ) (p r : Point) → p.y ≤ s → r.y ≤ s → gap (mirrored_y_point s p) (mirrored_y_point s r) ≡ gap p r
gap_mirrored_y s p r p_in r_in = ap (λ (t : ℕ). max (abs_diff p.x r.x) t) (abs_mirrored s p.y r.y p_in r_in)

module _ (T : TreeValue) (q s : ℕ) where
  pub at_map : (f : Point → Point) (P : List Point) (i : ℕ) → length P ≡ leaf_count T → IsLeaf T i → point_at (map f P) i ≡ f (point_at P i)
  at_map f P i each leaf = get_or-map f P (i - 1) origin origin (omega (arith, leaf.0, leaf.1, each))

  -- a function of points that keeps them on the sheet and keeps their distances
  valid_mapped : (G : Sheet) (f : Point → Point) (P : List Point) → Valid T G q s P → ((i : ℕ) → IsLeaf T i → Lies G q s (f (point_at P i))) → ((i j : ℕ) → IsLeaf T i → IsLeaf T j → gap (f (point_at P i)) (f (point_at P j)) ≡ gap (point_at P i) (point_at P j)) → Valid T G q s (map f P)
  valid_mapped G f P v lies same = record {
    each = length-map P f ∙ v.each;
    inside = λ i leaf. subst (Lies G q s) (sym (at_map f P i v.each leaf)) (lies i leaf);
    far = λ i j pair.
        let i_leaf : IsLeaf T i = (pair.0, omega (arith, pair.1, pair.2)) in
        let j_leaf : IsLeaf T j = (omega (arith, pair.0, pair.1), pair.2) in
        let a = at_map f P i v.each i_leaf in
        let b = at_map f P j v.each j_leaf in
        let both : gap (point_at (map f P) i) (point_at (map f P) j) ≡ gap (f (point_at P i)) (f (point_at P j)) = λ k. gap (a k) (b k) in
        subst (λ (g : ℕ). q * leaf_dist T i j ≤ g) (sym (both ∙ same i j i_leaf j_leaf)) (v.far i j pair);
  }

  pub valid_exchanged : (P : List Point) → Valid T Square q s P → Valid T Square q s (exchanged P)
  valid_exchanged P v = valid_mapped Square exchanged_point P v (λ i leaf. ((v.inside i leaf).1, (v.inside i leaf).0)) (λ i j _ _. gap_exchanged (point_at P i) (point_at P j))

  -- the width of a square is its side
  abbrev pub width_of : Sheet → ℕ
  width_of Square = s
  width_of (Strip width) = q * width

  pub x_within : (G : Sheet) (p : Point) → Lies G q s p → p.x ≤ width_of G
  x_within Square p lies = lies.0
  x_within (Strip width) p lies = lies.0

  pub y_within : (G : Sheet) (p : Point) → Lies G q s p → p.y ≤ s
  y_within Square p lies = lies.1
  y_within (Strip width) p lies = lies.1

  lies_from : (G : Sheet) (p : Point) → p.x ≤ width_of G → p.y ≤ s → Lies G q s p
  lies_from Square p x y = (x, y)
  lies_from (Strip width) p x y = (x, y)

  pub valid_mirrored_x : (G : Sheet) (P : List Point) → Valid T G q s P → Valid T G q s (mirrored_x (width_of G) P)
  valid_mirrored_x G P v =
      let x_in : (i : ℕ) → IsLeaf T i → (point_at P i).x ≤ width_of G = λ i leaf. x_within G (point_at P i) (v.inside i leaf) in
      valid_mapped G (mirrored_x_point (width_of G)) P v
      (λ i leaf. lies_from G (mirrored_x_point (width_of G) (point_at P i)) (omega arith) (y_within G (point_at P i) (v.inside i leaf)))
      (λ i j i_leaf j_leaf. gap_mirrored_x (width_of G) (point_at P i) (point_at P j) (x_in i i_leaf) (x_in j j_leaf))

  pub valid_mirrored_y : (G : Sheet) (P : List Point) → Valid T G q s P → Valid T G q s (mirrored_y s P)
  valid_mirrored_y G P v =
      let y_in : (i : ℕ) → IsLeaf T i → (point_at P i).y ≤ s = λ i leaf. y_within G (point_at P i) (v.inside i leaf) in
      valid_mapped G (mirrored_y_point s) P v
      (λ i leaf. lies_from G (mirrored_y_point s (point_at P i)) (x_within G (point_at P i) (v.inside i leaf)) (omega arith))
      (λ i j i_leaf j_leaf. gap_mirrored_y s (point_at P i) (point_at P j) (y_in i i_leaf) (y_in j j_leaf))

  pub valid_laid : (P : List Point) → Valid T Square q s P → Valid T Square q s (laid T q P)
  valid_laid P v = cond_both (are_near_on_x T q P) (exchanged P) P (Valid T Square q s) (λ _. valid_exchanged P v) (λ _. v)

  pub valid_faced_x : (G : Sheet) (P : List Point) → Valid T G q s P → Valid T G q s (faced_x (width_of G) P)
  valid_faced_x G P v = cond_both _ (mirrored_x (width_of G) P) P (Valid T G q s) (λ _. valid_mirrored_x G P v) (λ _. v)

  pub valid_faced_y : (G : Sheet) (P : List Point) → Valid T G q s P → Valid T G q s (faced_y s P)
  valid_faced_y G P v = cond_both _ (mirrored_y s P) P (Valid T G q s) (λ _. valid_mirrored_y G P v) (λ _. v)

  pub valid_raised : (P : List Point) → Valid T Square q s P → Valid T Square q s (raised T q s P)
  valid_raised P v = cond_both (is_third_below T q P) (mirrored_y s P) P (Valid T Square q s) (λ _. valid_mirrored_y Square P v) (λ _. v)

  -- the moves of the whole sheet keep a placement valid
  pub valid_turned : (G : Sheet) (P : List Point) → Valid T G q s P → Valid T G q s (turned T G q s P)
  unfolding turned
  valid_turned Square P v = valid_raised (faced_x s (laid T q P)) (valid_faced_x Square (laid T q P) (valid_laid P v))
  valid_turned (Strip width) P v = cond_both (are_near_on_x T q P) (faced_y s P) (faced_x (q * width) P) (Valid T (Strip width) q s) (λ _. valid_faced_y (Strip width) P v) (λ _. valid_faced_x (Strip width) P v)
