-- Drawn unit segments, by the lines of the axis across them.
use Rattle.std.proofs.Common.{◌≡◌, ◌≢◌, ◌⊎◌, ◌↔◌, ℕ, ◌+◌, ◌-◌, ◌*◌, ◌/◌, ◌%◌, ◌<◌, ◌≤◌, Bool, not, List, Option, None, Some, IsTrue, length, get_or, eqb, eq-eqb, refl, sym, ◌∙◌, ap, subst, arith, inl, inr}
use Rattle.std.specs.Option.{option_eq, unwrap_or}
use Rattle.std.proofs.lemmas.Bool.{cases_eq, false≢true, ne_eqb}
use Rattle.std.proofs.lemmas.List.{get_or_default}
use Rattle.std.proofs.lemmas.Nat.{div-mul-add, mod-mul-add, mul-add-lt}
use Rattle.bp_base.specs.declared.point.Axis.TheVariants.{X, Y}
use Rattle.bp_regions.specs.Cells.{Owner}
use Rattle.bp_regions.specs.Cuts.{AreTogether, AreCutsOf}
use Rattle.bp_regions.specs.Regions.{RegionsValue, AreRegions}
use Rattle.bp_regions.proofs.Disjoint.{one_owner}
use Rattle.bp_fold.specs.Meshes.{IsMesh, IsOwner}
use Rattle.bp_fold.specs.Segments.{IsDrawn}
use Rattle.bp_fold.proofs.Across.{Drawn, at_side, at_zero, between, first_line, inner_line, is_line, last_line, moved}
use Rattle.bp_fold.proofs.Lines.{OnLine, later, up_to}

module _ (R : RegionsValue) where
  pub level_from : (x y : ℕ) → IsDrawn R X x y → (x < R.side) × Drawn R.side (λ z o. Owner R.tree R.side R.points x z o) y
  unfolding IsDrawn
  level_from x y (inl (within, inl e)) = (within, at_zero e)
  level_from x y (inl (within, inr e)) = (within, at_side e)
  level_from x y (inr h) = (h.1.0, between (record { above = h.0; below = h.1.1; one = h.2.one; other = h.2.other; first = h.2.first; second = h.2.second; differ = h.2.differ }))

  pub level_to : (x y : ℕ) → x < R.side → Drawn R.side (λ z o. Owner R.tree R.side R.points x z o) y → IsDrawn R X x y
  unfolding IsDrawn
  level_to x y within (at_zero e) = inl (within, inl e)
  level_to x y within (at_side e) = inl (within, inr e)
  level_to x y within (between p) = inr (p.above, (within, p.below), record { one = p.one; other = p.other; first = p.first; second = p.second; differ = p.differ })

  pub upright_from : (x y : ℕ) → IsDrawn R Y x y → (y < R.side) × Drawn R.side (λ z o. Owner R.tree R.side R.points z y o) x
  unfolding IsDrawn
  upright_from x y (inl (within, inl e)) = (within, at_zero e)
  upright_from x y (inl (within, inr e)) = (within, at_side e)
  upright_from x y (inr h) = (h.1.1, between (record { above = h.0; below = h.1.0; one = h.2.one; other = h.2.other; first = h.2.first; second = h.2.second; differ = h.2.differ }))

  pub upright_to : (x y : ℕ) → y < R.side → Drawn R.side (λ z o. Owner R.tree R.side R.points z y o) x → IsDrawn R Y x y
  unfolding IsDrawn
  upright_to x y within (at_zero e) = inl (within, inl e)
  upright_to x y within (at_side e) = inl (within, inr e)
  upright_to x y within (between p) = inr (p.above, (p.below, within), record { one = p.one; other = p.other; first = p.first; second = p.second; differ = p.differ })

  module _ (xs ys : List ℕ) (regions : AreRegions R) (columns : AreCutsOf R X xs) (rows : AreCutsOf R Y ys) where
    up_to_column : (i : ℕ) → i + 1 < length xs → get_or xs i 0 < R.side
    up_to_column i within = omega (arith, columns.last, later R.side xs columns.rising columns.first columns.last i (length xs - 1) (omega (arith, within)) (omega (arith, within)))

    up_to_row : (j : ℕ) → j + 1 < length ys → get_or ys j 0 < R.side
    up_to_row j within = omega (arith, rows.last, later R.side ys rows.rising rows.first rows.last j (length ys - 1) (omega (arith, within)) (omega (arith, within)))

    -- the first segment of a piece is drawn on an outer line, and on another one exactly where the cells beside it have different owners
    pub outer_level : (i j : ℕ) → i + 1 < length xs → (j ≡ 0) ⊎ (j + 1 ≡ length ys) → IsDrawn R X (get_or xs i 0) (get_or ys j 0)
    outer_level i j within (inl is) =
        let x = get_or xs i 0 in
        level_to x (get_or ys j 0) (up_to_column i within) (first_line R.side ys rows.rising rows.first rows.last (λ z o. Owner R.tree R.side R.points x z o) (λ y w t o. ((rows.alike x y w t).owner o).0) j is)
    outer_level i j within (inr is) =
        let x = get_or xs i 0 in
        level_to x (get_or ys j 0) (up_to_column i within) (last_line R.side ys rows.rising rows.first rows.last (λ z o. Owner R.tree R.side R.points x z o) (λ y w t o. ((rows.alike x y w t).owner o).0) j is)

    pub inner_level : (i j : ℕ) (a b : Option ℕ) → i + 1 < length xs → 1 ≤ j → j + 1 < length ys → IsOwner R (get_or xs i 0) (get_or ys (j - 1) 0) a → IsOwner R (get_or xs i 0) (get_or ys j 0) b → (IsDrawn R X (get_or xs i 0) (get_or ys j 0) ↔ (a ≢ b))
    inner_level i j a b within some below low high =
        let x = get_or xs i 0 in
        let both = inner_line R.side ys rows.rising rows.first rows.last (λ z o. Owner R.tree R.side R.points x z o) (λ y w t o. ((rows.alike x y w t).owner o).0) j a b some below low.owner low.only high.owner high.only in (
          λ drawn. both.0 (level_from x (get_or ys j 0) drawn).1,
          λ differ. level_to x (get_or ys j 0) (up_to_column i within) (both.1 differ),
        )

    pub outer_upright : (i j : ℕ) → j + 1 < length ys → (i ≡ 0) ⊎ (i + 1 ≡ length xs) → IsDrawn R Y (get_or xs i 0) (get_or ys j 0)
    outer_upright i j within (inl is) =
        let y = get_or ys j 0 in
        upright_to (get_or xs i 0) y (up_to_row j within) (first_line R.side xs columns.rising columns.first columns.last (λ z o. Owner R.tree R.side R.points z y o) (λ x v t o. ((columns.alike x v y t).owner o).0) i is)
    outer_upright i j within (inr is) =
        let y = get_or ys j 0 in
        upright_to (get_or xs i 0) y (up_to_row j within) (last_line R.side xs columns.rising columns.first columns.last (λ z o. Owner R.tree R.side R.points z y o) (λ x v t o. ((columns.alike x v y t).owner o).0) i is)

    pub inner_upright : (i j : ℕ) (a b : Option ℕ) → j + 1 < length ys → 1 ≤ i → i + 1 < length xs → IsOwner R (get_or xs (i - 1) 0) (get_or ys j 0) a → IsOwner R (get_or xs i 0) (get_or ys j 0) b → (IsDrawn R Y (get_or xs i 0) (get_or ys j 0) ↔ (a ≢ b))
    inner_upright i j a b within some below low high =
        let y = get_or ys j 0 in
        let both = inner_line R.side xs columns.rising columns.first columns.last (λ z o. Owner R.tree R.side R.points z y o) (λ x v t o. ((columns.alike x v y t).owner o).0) i a b some below low.owner low.only high.owner high.only in (
          λ drawn. both.0 (upright_from (get_or xs i 0) y drawn).1,
          λ differ. upright_to (get_or xs i 0) y (up_to_row j within) (both.1 differ),
        )

    -- segments of a piece are drawn alike
    pub level_alike : (x v y : ℕ) → AreTogether xs x v → IsDrawn R X x y → IsDrawn R X v y
    level_alike x v y t drawn =
        let from = level_from x y drawn in
        level_to v y (omega (arith, t.b_to, up_to R.side xs columns.rising columns.first columns.last (t.at + 1) t.within)) (moved R.side (λ z o. Owner R.tree R.side R.points x z o) (λ z o. Owner R.tree R.side R.points v z o) y (λ z o _. ((columns.alike x v z t).owner o).0) from.1)

    pub upright_alike : (x y w : ℕ) → AreTogether ys y w → IsDrawn R Y x y → IsDrawn R Y x w
    upright_alike x y w t drawn =
        let from = upright_from x y drawn in
        upright_to x w (omega (arith, t.b_to, up_to R.side ys rows.rising rows.first rows.last (t.at + 1) t.within)) (moved R.side (λ z o. Owner R.tree R.side R.points z y o) (λ z o. Owner R.tree R.side R.points z w o) x (λ z o _. ((rows.alike z y w t).owner o).0) from.1)

    -- what is drawn lies on lines
    pub level_on_line : (x y : ℕ) → IsDrawn R X x y → OnLine ys y
    level_on_line x y drawn =
        let from = level_from x y drawn in
        is_line R.side ys rows.rising rows.first rows.last (λ z o. Owner R.tree R.side R.points x z o) (λ z w t o. ((rows.alike x z w t).owner o).0) (λ z o p. one_owner R.tree regions.tree R.side R.points regions.placed.valid x z o p) y (omega (arith, from.0)) from.1

    pub upright_on_line : (x y : ℕ) → IsDrawn R Y x y → OnLine xs x
    upright_on_line x y drawn =
        let from = upright_from x y drawn in
        is_line R.side xs columns.rising columns.first columns.last (λ z o. Owner R.tree R.side R.points z y o) (λ z v t o. ((columns.alike z v y t).owner o).0) (λ z o p. one_owner R.tree regions.tree R.side R.points regions.placed.valid z y o p) x (omega (arith, from.0)) from.1

-- owners that were compared
pub none_some : (n : ℕ) → None ≡ Some n → ⊥
none_some n same = cc

pub some_same : (m n : ℕ) → Some m ≡ Some n → m ≡ n
some_same m n same = ap (λ (o : Option ℕ). unwrap_or o 0) same

compared : (a b : Option ℕ) → (IsTrue (not (option_eq eqb a b)) ↔ (a ≢ b))
compared None None = (λ t. absurd (false≢true t), λ differ. absurd (differ refl))
compared None (Some n) = (λ _. none_some n, λ _. refl)
compared (Some m) None = (λ _. λ same. none_some m (sym same), λ _. refl)
compared (Some m) (Some n) = elim (cases_eq m n) [
  | inl same ↦ rw (eq-eqb m n same) (λ t. absurd (false≢true t), λ differ. absurd (differ (ap (λ (k : ℕ). Some k) same)))
  | inr apart ↦ rw (ne_eqb m n apart) (λ _. λ same. apart (some_same m n same), λ _. refl)
]

module _ (R : RegionsValue) (xs ys : List ℕ) (owners : List (Option ℕ)) (mesh : IsMesh R xs ys owners) where
  pub level_answer : (i j : ℕ) (a b : Option ℕ) (r : Bool) → r ≡ not (option_eq eqb a b) → i + 1 < length xs → j < length ys → ((j ≡ 0) ⊎ (j + 1 ≡ length ys) → ⊥) → IsOwner R (get_or xs i 0) (get_or ys (j - 1) 0) a → IsOwner R (get_or xs i 0) (get_or ys j 0) b → (IsTrue r ↔ IsDrawn R X (get_or xs i 0) (get_or ys j 0))
  level_answer i j a b r is within inside inner low high =
      let both = inner_level R xs ys mesh.regions mesh.columns mesh.rows i j a b within (omega (arith, λ (e : j ≡ 0). inner (inl e))) (omega (arith, inside, λ (e : j + 1 ≡ length ys). inner (inr e))) low high in
      rw is (λ t. both.1 ((compared a b).0 t), λ drawn. (compared a b).1 (both.0 drawn))

  pub upright_answer : (i j : ℕ) (a b : Option ℕ) (r : Bool) → r ≡ not (option_eq eqb a b) → j + 1 < length ys → i < length xs → ((i ≡ 0) ⊎ (i + 1 ≡ length xs) → ⊥) → IsOwner R (get_or xs (i - 1) 0) (get_or ys j 0) a → IsOwner R (get_or xs i 0) (get_or ys j 0) b → (IsTrue r ↔ IsDrawn R Y (get_or xs i 0) (get_or ys j 0))
  upright_answer i j a b r is within inside inner low high =
      let both = inner_upright R xs ys mesh.regions mesh.columns mesh.rows i j a b within (omega (arith, λ (e : i ≡ 0). inner (inl e))) (omega (arith, inside, λ (e : i + 1 ≡ length xs). inner (inr e))) low high in
      rw is (λ t. both.1 ((compared a b).0 t), λ drawn. (compared a b).1 (both.0 drawn))

  -- the owner that is kept for a cell
  pub kept_owner : (i j : ℕ) (o d : Option ℕ) → i + 1 < length xs → j + 1 < length ys → o ≡ get_or owners (j * (length xs - 1) + i) d → IsOwner R (get_or xs i 0) (get_or ys j 0) o
  kept_owner i j o d in_x in_y is =
      let n = length xs - 1 in
      let inside : i < n = omega (arith, in_x) in
      let less : j * n + i < length owners = omega (arith, mul-add-lt j n i (length ys - 1) (omega (arith, in_y)) inside, mesh.owned.count) in
      let at_x : (j * n + i) % n ≡ i = mod-mul-add j n i inside in
      let at_y : (j * n + i) / n ≡ j = div-mul-add j n i inside in
      let here : get_or owners (j * n + i) None ≡ o = get_or_default owners (j * n + i) None d less ∙ sym is in
      subst (λ (p : Option ℕ). IsOwner R (get_or xs i 0) (get_or ys j 0) p) here
      (subst (λ (k : ℕ). IsOwner R (get_or xs i 0) (get_or ys k 0) (get_or owners (j * n + i) None)) at_y
      (subst (λ (k : ℕ). IsOwner R (get_or xs k 0) (get_or ys ((j * n + i) / n) 0) (get_or owners (j * n + i) None)) at_x (mesh.owned.each (j * n + i) less)))
