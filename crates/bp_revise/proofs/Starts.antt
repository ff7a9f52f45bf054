-- A revision starts at one placement, and the side of points is that of those before and the next.
use Rattle.std.proofs.Common.{◌≡◌, ◌⊎◌, inl, inr, ℕ, ◌+◌, ◌<◌, ◌≤◌, max, List, [], ◌∷◌, ◌++◌, length, get_or, take, refl, sym, ap, ◌∙◌, subst, arith}
use Rattle.std.proofs.lemmas.List.{take_more}
use Rattle.bp_base.specs.declared.point.Placement.{Placement}
use Rattle.bp_base.specs.declared.point.Point.{Point}
use Rattle.bp_base.specs.declared.point.Sheet.{Sheet}
use Rattle.bp_base.specs.Tree.{TreeValue}
use Rattle.bp_metric.specs.Opening.{IsOpening, reach_on, side_of}
use Rattle.bp_metric.specs.Valid.{Valid}
use Rattle.bp_revise.specs.Start.{IsStart, WillDo}

side_push : (G : Sheet) (P : List Point) (p : Point) → side_of G (P ++ p ∷ []) ≡ max (reach_on G p) (side_of G P)
side_push G [] p = omega arith
side_push G (r ∷ P) p = omega (arith, side_push G P p)

pub side_more : (G : Sheet) (P : List Point) (k : ℕ) (d : Point) (side reach more : ℕ) → k < length P → side ≡ side_of G (take k P) → reach ≡ reach_on G (get_or P k d) → more ≡ max reach side → more ≡ side_of G (take (k + 1) P)
side_more G P k d side reach more less before reached most =
    omega (arith, most, before, reached, side_push G (take k P) (get_or P k d), ap (side_of G) (take_more P k d less))

module _ (T : TreeValue) (G : Sheet) (old : List Point) (openings : (P Q : List Point) → IsOpening T G P → IsOpening T G Q → P ≡ Q) where
  same_points : (p q : Placement) (a : IsStart T G old p) (b : IsStart T G old q) → p.points ≡ q.points
  same_points p q a b =
      go a.taken b.taken
    where
      same : a.opening ≡ b.opening
      same = openings a.opening b.opening a.is_opening b.is_opening

      there : WillDo T G old (side_of G a.opening) → WillDo T G old (side_of G b.opening)
      there = subst (λ (P : List Point). WillDo T G old (side_of G P)) same

      back : WillDo T G old (side_of G b.opening) → WillDo T G old (side_of G a.opening)
      back = subst (λ (P : List Point). WillDo T G old (side_of G P)) (sym same)

      go : (WillDo T G old (side_of G a.opening) × (p.points ≡ old)) ⊎ ((WillDo T G old (side_of G a.opening) → ⊥) × (p.points ≡ a.opening)) → (WillDo T G old (side_of G b.opening) × (q.points ≡ old)) ⊎ ((WillDo T G old (side_of G b.opening) → ⊥) × (q.points ≡ b.opening)) → p.points ≡ q.points
      go (inl x) (inl y) = x.1 ∙ sym y.1
      go (inl x) (inr y) = absurd (y.0 (there x.0))
      go (inr x) (inl y) = absurd (x.0 (back y.0))
      go (inr x) (inr y) = x.1 ∙ same ∙ sym y.1

  pub one_start_there : (p q : Placement) → IsStart T G old p → IsStart T G old q → p ≡ q
  one_start_there p q a b =
      let points = same_points p q a b in
      let side : p.side ≡ q.side = a.side ∙ ap (side_of G) points ∙ sym b.side in
      λ i. record { side = side i; points = points i }

-- The start is the old points where these will do, and else the opening.
module _ (T : TreeValue) (G : Sheet) (old : List Point) (opening : Placement) (is : IsOpening T G opening.points) (is_side : opening.side ≡ side_of G opening.points) where
  pub takes_old : (points : List Point) (side : ℕ) → points ≡ old → side ≡ side_of G old → WillDo T G points opening.side → IsStart T G old (record { side = side; points = old }) × Valid T G 1 side old × (side ≤ opening.side)
  takes_old points side same needs will =
      let here : WillDo T G old opening.side = subst (λ (P : List Point). WillDo T G P opening.side) same will in (
        record {
          opening = opening.points;
          is_opening = is;
          taken = inl (subst (WillDo T G old) is_side here, refl);
          side = needs;
        },
        subst (λ (s : ℕ). Valid T G 1 s old) (sym needs) here.0,
        omega (arith, needs, here.1),
      )

  pub takes_opening : (points : List Point) → points ≡ old → (WillDo T G points opening.side → ⊥) → IsStart T G old opening
  takes_opening points same not = record {
    opening = opening.points;
    is_opening = is;
    taken = inr (λ will. not (subst (λ (P : List Point). WillDo T G P opening.side) (sym same) (subst (WillDo T G old) (sym is_side) will)), refl);
    side = is_side;
  }
