-- There is one list of outlines.
use Rattle.std.proofs.Common.{◌≡◌, ℕ, ◌+◌, ◌-◌, ◌<◌, ◌≤◌, List, [], ◌∷◌, length, map, get_or, refl, sym, ap, ◌∙◌, arith}
use Rattle.std.proofs.lemmas.List.{get_or_default, same_lists}
use Rattle.bp_base.specs.declared.point.Point.{Point}
use Rattle.bp_contour.specs.declared.loops.Loop.{Loop}
use Rattle.bp_regions.specs.Cells.{Reach}
use Rattle.bp_regions.specs.Contours.{AreContours}
use Rattle.bp_regions.specs.Regions.{RegionsValue}
use Rattle.bp_picture.specs.declared.outline.Outline.{Outline}
use Rattle.bp_picture.specs.Outlines.{AreOutlines, outline_at}

abbrev points_of : Loop → List Point
points_of l = l.points

abbrev loop_of : List Point → Loop
loop_of points = record { points = points }

abbrev outline_of : List Loop → Outline
outline_of loops = record { loops = loops }

same_loops : (ks ls : List Loop) → map points_of ks ≡ map points_of ls → ks ≡ ls
same_loops [] [] same = refl
same_loops [] (l ∷ ls) same = absurd (cc)
same_loops (k ∷ ks) [] same = absurd (cc)
same_loops (k ∷ ks) (l ∷ ls) same =
    let head : k.points ≡ l.points = cc in
    let rest : map points_of ks ≡ map points_of ls = cc in
    let first : k ≡ l = ap loop_of head in
    ap (λ (m : Loop). m ∷ ks) first ∙ ap (λ (ms : List Loop). l ∷ ms) (same_loops ks ls rest)

at_edge : (outlines : List Outline) (i : ℕ) → get_or outlines i (outline_of []) ≡ outline_at outlines (i + 1)
at_edge outlines i =
    let here : i ≡ i + 1 - 1 = omega arith in
    ap (λ (k : ℕ). get_or outlines k (outline_of [])) here

module _ (R : RegionsValue) (one : (e : ℕ) (A B : List (List Point)) → AreContours (Reach R.tree R.side R.points e) A → AreContours (Reach R.tree R.side R.points e) B → A ≡ B) where
  same_outline : (e : ℕ) (o q : Outline) → AreContours (Reach R.tree R.side R.points e) (map points_of o.loops) → AreContours (Reach R.tree R.side R.points e) (map points_of q.loops) → o ≡ q
  same_outline e o q a b = ap outline_of (same_loops o.loops q.loops (one e (map points_of o.loops) (map points_of q.loops) a b))

  pub one_outlines : (K M : List Outline) → AreOutlines R K → AreOutlines R M → K ≡ M
  one_outlines K M k m =
      same_lists K M (omega (arith, k.each, m.each)) (λ i d i_in.
      let edge = i + 1 in
      let within : (1 ≤ edge) × (edge < length R.tree.parents) = (omega arith, omega (arith, k.each, i_in)) in
      get_or_default K i d (outline_of []) i_in ∙ at_edge K i
      ∙ same_outline edge (outline_at K edge) (outline_at M edge) (k.so edge within) (m.so edge within)
      ∙ sym (at_edge M i) ∙ get_or_default M i (outline_of []) d (omega (arith, k.each, m.each, i_in)))
