-- The bits of a table, and how it is filled.
use Rattle.std.proofs.Common.{◌≡◌, ℕ, ◌+◌, ◌-◌, ◌*◌, ◌<◌, ◌≤◌, ◌↔◌, Bool, false, List, [], ◌∷◌, ◌++◌, length, get_or, IsTrue, refl, sym, ◌∙◌, ap, subst, arith, ltb, inl, inr, length-append}
use Rattle.std.proofs.lemmas.Bool.{cases_Bool, cases_eq, false≢true, lt-ltb, ltb-true, ltb-false}
use Rattle.std.proofs.lemmas.List.{get_or_append_left, get_or_push, get_or_read}
use Rattle.std.proofs.lemmas.List.Kept.{AllPairs-from_increasing}
use Rattle.bp_base.specs.declared.point.Axis.{Axis}
use Rattle.bp_regions.specs.Cells.{Reach}
use Rattle.bp_regions.specs.Regions.{RegionsValue}
use Rattle.bp_regions.specs.Cuts.{AreCutsOf}
use Rattle.bp_contour.specs.Table.{AddsRow, AreRows, Holds, IsTable, TableValue, bit}

-- Single bits.

pub bit_in : (C : TableValue) (x y : ℕ) → x < C.width → y < C.height → bit C x y ≡ get_or C.bits (y * C.width + x) false
unfolding bit
bit_in C x y column row = rw (lt-ltb x C.width column, lt-ltb y C.height row) refl

pub bit_out : (C : TableValue) (x y : ℕ) → (x < C.width → y < C.height → ⊥) → bit C x y ≡ false
unfolding bit
bit_out C x y out = elim (cases_Bool (ltb x C.width)) [
  | inl column ↦ elim (cases_Bool (ltb y C.height)) [
    | inl row ↦ absurd (out (ltb-true x C.width column) (ltb-true y C.height row))
    | inr row ↦ rw (column, row) refl
  ]
  | inr column ↦ rw column refl
]

pub held_within : (C : TableValue) (x y : ℕ) → Holds C x y → (x < C.width) × (y < C.height)
unfolding bit
held_within C x y h = elim (cases_Bool (ltb x C.width)) [
  | inl column ↦ elim (cases_Bool (ltb y C.height)) [
    | inl row ↦ (ltb-true x C.width column, ltb-true y C.height row)
    | inr row ↦ absurd (false≢true (sym (bit_out C x y (λ a b. omega (arith, b, ltb-false y C.height row))) ∙ h))
  ]
  | inr column ↦
      absurd (false≢true (sym (bit_out C x y (λ a b. omega (arith, a, ltb-false x C.width column))) ∙ h))
]

pub row_below : (a b n : ℕ) → a < b → a * n + n ≤ b * n
row_below a b n less = grind arith

pub in_table : (w h x y : ℕ) → x < w → y < h → y * w + x < w * h
in_table w h x y column row = omega (arith, row_below y h w row, column)

same_truth : (a b : Bool) → a ≡ b → (IsTrue a ↔ IsTrue b)
same_truth a b e = (λ h. sym e ∙ h, λ h. e ∙ h)

pub read_bit : (C : TableValue) (w h : ℕ) (bits : List Bool) (x y : ℕ) (b : Bool) → record { width = w; height = h; bits = bits } ≡ C → length bits ≡ w * h → x < w → y < h → b ≡ get_or bits (y * w + x) b → (IsTrue b ↔ Holds C x y)
read_bit C w h bits x y b view each column row is =
    let at : b ≡ get_or bits (y * w + x) false = get_or_read bits (y * w + x) b (omega (arith, each, in_table w h x y column row)) is false in
    subst (λ (D : TableValue). IsTrue b ↔ Holds D x y) view (same_truth b (bit (record { width = w; height = h; bits = bits }) x y) (at ∙ sym (bit_in (record { width = w; height = h; bits = bits }) x y column row)))

pub read_none : (C : TableValue) (w h : ℕ) (bits : List Bool) (x y : ℕ) → record { width = w; height = h; bits = bits } ≡ C → (x < w → y < h → ⊥) → (IsTrue false ↔ Holds C x y)
read_none C w h bits x y view out =
    subst (λ (D : TableValue). IsTrue false ↔ Holds D x y) view (same_truth false (bit (record { width = w; height = h; bits = bits }) x y) (sym (bit_out (record { width = w; height = h; bits = bits }) x y out)))

-- Cuts.

pub cuts_rise : (R : RegionsValue) (axis : Axis) (cuts : List ℕ) → AreCutsOf R axis cuts → (i j : ℕ) → i < j → j < length cuts → get_or cuts i 0 < get_or cuts j 0
cuts_rise R axis cuts h i j less within = AllPairs-from_increasing cuts h.rising i j 0 less within

pub cut_small : (R : RegionsValue) (axis : Axis) (cuts : List ℕ) → AreCutsOf R axis cuts → (k : ℕ) → k < length cuts - 1 → get_or cuts k 0 < R.side
cut_small R axis cuts h k less =
    omega (arith, h.last, cuts_rise R axis cuts h k (length cuts - 1) less (omega (arith, less)))

-- Rows.

module _ (R : RegionsValue) (e : ℕ) (columns : List ℕ) where
  pub row_none : (y : ℕ) (bits : List Bool) → AddsRow R e columns y 0 bits bits
  row_none y bits = record {
    longer = omega arith;
    kept = λ k less. refl;
    added = λ k less. absurd (omega (arith, less));
  }

  pub row_more : (y n : ℕ) (before now after : List Bool) (b : Bool) → AddsRow R e columns y n before now → (IsTrue b ↔ Reach R.tree R.side R.points e (get_or columns n 0) y) → after ≡ now ++ b ∷ [] → AddsRow R e columns y (n + 1) before after
  row_more y n before now after b h is added =
      let old : (k : ℕ) → k < length now → get_or after k false ≡ get_or now k false = λ k less. ap (λ (l : List Bool). get_or l k false) added ∙ get_or_append_left now (b ∷ []) false k less in
      record {
        longer = omega (arith, ap length added, length-append now (b ∷ []), h.longer);
        kept = λ k less. old k (omega (arith, h.longer, less)) ∙ h.kept k less;
        added = λ k less. elim (cases_eq k n) [
          | inl same ↦
              let here : get_or after (length before + k) false ≡ b = ap (λ (l : List Bool). get_or l (length before + k) false) added ∙ get_or_push now b false (length before + k) (omega (arith, h.longer, same)) in
              subst (λ (c : Bool). IsTrue c ↔ Reach R.tree R.side R.points e (get_or columns k 0) y) (sym here) (subst (λ (m : ℕ). IsTrue b ↔ Reach R.tree R.side R.points e (get_or columns m 0) y) (sym same) is)
          | inr apart ↦
              let short : k < n = omega (arith, less, apart) in
              subst (λ (c : Bool). IsTrue c ↔ Reach R.tree R.side R.points e (get_or columns k 0) y) (sym (old (length before + k) (omega (arith, h.longer, short)))) (h.added k short)
        ];
      }

  pub rows_none : (rows : List ℕ) → AreRows R e columns rows 0 []
  rows_none rows = record { long = omega arith; exact = λ a b column row. absurd (omega (arith, row)) }

  pub rows_more : (rows : List ℕ) (n y : ℕ) (before after : List Bool) → AreRows R e columns rows n before → y ≡ get_or rows n 0 → AddsRow R e columns y (length columns - 1) before after → AreRows R e columns rows (n + 1) after
  rows_more rows n y before after h is adds = record {
    long = omega (arith, h.long, adds.longer);
    exact = λ a b column row. elim (cases_eq b n) [
      | inl same ↦
          let place : b * (length columns - 1) + a ≡ length before + a = omega (arith, h.long, ap (λ (m : ℕ). m * (length columns - 1)) same) in
          let cut : y ≡ get_or rows b 0 = is ∙ ap (λ (m : ℕ). get_or rows m 0) (sym same) in
          subst (λ (m : ℕ). IsTrue (get_or after m false) ↔ Reach R.tree R.side R.points e (get_or columns a 0) (get_or rows b 0)) (sym place) (subst (λ (m : ℕ). IsTrue (get_or after (length before + a) false) ↔ Reach R.tree R.side R.points e (get_or columns a 0) m) cut (adds.added a column))
      | inr apart ↦
          let short : b < n = omega (arith, row, apart) in
          let old = adds.kept (b * (length columns - 1) + a) (omega (arith, h.long, row_below b n (length columns - 1) short, column)) in
          subst (λ (c : Bool). IsTrue c ↔ Reach R.tree R.side R.points e (get_or columns a 0) (get_or rows b 0)) (sym old) (h.exact a b column short)
    ];
  }

  pub table_done : (rows : List ℕ) (w h : ℕ) (bits : List Bool) (C : TableValue) → w ≡ length columns - 1 → h ≡ length rows - 1 → AreRows R e columns rows h bits → record { width = w; height = h; bits = bits } ≡ C → IsTable R e columns rows C
  table_done rows w h bits C width height are view = subst (IsTable R e columns rows) view (record {
    width = width;
    height = height;
    exact = λ a b column row.
        let D : TableValue = record { width = w; height = h; bits = bits } in
        let e1 : get_or bits (b * w + a) false ≡ get_or bits (b * (length columns - 1) + a) false = ap (λ (m : ℕ). get_or bits (b * m + a) false) width in
        subst (λ (c : Bool). IsTrue c ↔ Reach R.tree R.side R.points e (get_or columns a 0) (get_or rows b 0)) (sym (bit_in D a b column row ∙ e1)) (are.exact a b (omega (arith, column, width)) row);
  })
