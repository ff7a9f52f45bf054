-- Vertices among the crossings, one after another.
use Rattle.std.proofs.Common.{◌≡◌, ℕ, ◌+◌, ◌<◌, ◌≤◌, List, [], ◌∷◌, ◌++◌, length, refl, sym, ◌∙◌, ap, subst, arith, inl, inr}
use Rattle.std.proofs.lemmas.Bool.{cases_eq}
use Rattle.bp_regions.specs.Regions.{RegionsValue}
use Rattle.bp_fold.specs.declared.mesh.Corner.{Corner}
use Rattle.bp_fold.specs.Meshes.{crossing}
use Rattle.bp_fold.specs.Numbering.{AreCornersBefore, IsCornerOf}
use Rattle.bp_fold.specs.Vertices.{IsVertex}
use Rattle.bp_fold.proofs.Listing.{lists_none, lists_push, lists_skip}

same_corner : (c d : Corner) → d.row ≡ c.row → d.column ≡ c.column → d ≡ c
same_corner c d row column = ap (λ (k : ℕ). let e : Corner = record { column = k; row = d.row } in e) column ∙ ap (λ (k : ℕ). let e : Corner = record { column = c.column; row = k } in e) row

module _ (R : RegionsValue) (xs ys : List ℕ) where
  pub none_yet : AreCornersBefore R xs ys 0 0 []
  none_yet = lists_none (λ (c : Corner). c.row) (λ (c : Corner). c.column) (IsCornerOf R xs ys)

  pub corner_added : (row column : ℕ) (old new : List Corner) → column < length xs → row < length ys → new ≡ old ++ record { column = column; row = row } ∷ [] → IsVertex R (crossing xs ys column row) → AreCornersBefore R xs ys row column old → AreCornersBefore R xs ys row (column + 1) new
  corner_added row column old new in_x in_y is vertex h =
      let c : Corner = record { column = column; row = row } in
      rw is (lists_push (λ (c : Corner). c.row) (λ (c : Corner). c.column) (IsCornerOf R xs ys) row column old c refl refl (in_x, in_y, vertex) (same_corner c) h)

  pub corner_skipped : (row column : ℕ) (old : List Corner) → (IsVertex R (crossing xs ys column row) → ⊥) → AreCornersBefore R xs ys row column old → AreCornersBefore R xs ys row (column + 1) old
  corner_skipped row column old none h = lists_skip (λ (c : Corner). c.row) (λ (c : Corner). c.column) (IsCornerOf R xs ys) row column row (column + 1) old
      (λ c before. elim before [ inl l ↦ inl l | inr l ↦ inr (l.0, omega (arith, l.1)) ])
      (λ c is before. elim before [
        | inl l ↦ inl l
        | inr l ↦ elim (cases_eq c.column column) [
          | inl same ↦ absurd (none (rw (sym same, sym l.0) is.2))
          | inr apart ↦ inr (l.0, omega (arith, l.1, apart))
        ]
      ])
      h

  pub row_done : (row : ℕ) (old : List Corner) (column : ℕ) → length xs ≤ column → AreCornersBefore R xs ys row column old → AreCornersBefore R xs ys (row + 1) 0 old
  row_done row old column done h = lists_skip (λ (c : Corner). c.row) (λ (c : Corner). c.column) (IsCornerOf R xs ys) row column (row + 1) 0 old
      (λ c before. elim before [ inl l ↦ inl (omega (arith, l)) | inr l ↦ inl (omega (arith, l.0)) ])
      (λ c is before. elim before [
        | inl l ↦ elim (cases_eq c.row row) [
          | inl same ↦ inr (same, omega (arith, is.0, done))
          | inr apart ↦ inl (omega (arith, l, apart))
        ]
        | inr l ↦ absurd (omega (arith, l.1))
      ])
      h

  pub all_rows : (level count : ℕ) (old : List Corner) → level ≡ count → AreCornersBefore R xs ys level 0 old → AreCornersBefore R xs ys count 0 old
  all_rows level count old same h = subst (λ (k : ℕ). AreCornersBefore R xs ys k 0 old) same h
