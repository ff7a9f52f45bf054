-- Areas of labels, column by column and row by row.
use Rattle.std.proofs.Common.{◌≡◌, ℕ, ◌+◌, ◌-◌, ◌*◌, ◌^◌, ◌<◌, ◌≤◌, List, length, replicate, get_or, set, refl, sym, ◌∙◌, ap, subst, arith, inl, inr}
use Rattle.std.proofs.Math.Nat.{mul-le-mul_left, mul_comm}
use Rattle.std.proofs.lemmas.Bool.{cases_eq}
use Rattle.std.proofs.lemmas.List.{get_or-replicate, get_or-set_same, get_or-set_other, length-replicate, length-set}
use Rattle.bp_base.specs.Limits.{most_number}
use Rattle.bp_contour.specs.Table.{TableValue}
use Rattle.bp_contour.proofs.Scaled.{AreSteps}
use Rattle.bp_pieces.specs.declared.kind.Kind.{Kind}
use Rattle.bp_pieces.specs.Labels.{Among, label_at}
use Rattle.bp_pieces.specs.Parts.{AreAdded, AreAreas, AreLines, IsAdded, IsGrid, IsInRow, IsLabelled, side_of}
use Rattle.bp_pieces.specs.Pieces.{Counts}
use Rattle.bp_pieces.specs.Pieces.Counts.{start}
use Rattle.bp_pieces.specs.Pieces.CountsRows.{none}
use Rattle.bp_pieces.proofs.Counting.{counts_as, counts_in, counts_most, counts_out, counts_same, rows_as, rows_more, rows_most}
use Rattle.bp_pieces.proofs.Labelled.{among_within}
use Rattle.bp_pieces.proofs.Scaled.{lies_once}

pub steps_of : (cuts : List ℕ) (n side : ℕ) → AreLines cuts n side → AreSteps (λ k. get_or cuts k 0) n side
steps_of cuts n side h = record { first = h.first; last = h.last; rise = h.rise }

module _ (C : TableValue) (columns rows : List ℕ) (grid : IsGrid C columns rows) where
  pub columns_rise : (a : ℕ) → a < C.width → (a + 1 < length columns) × (get_or columns a 0 < get_or columns (a + 1) 0)
  columns_rise a less =
      (omega (arith, grid.across.long, less), grid.across.rise a (a + 1) (omega arith) (omega (arith, less)))

  pub rows_rise : (b : ℕ) → b < C.height → (b + 1 < length rows) × (get_or rows b 0 < get_or rows (b + 1) 0)
  rows_rise b less =
      (omega (arith, grid.along.long, less), grid.along.rise b (b + 1) (omega arith) (omega (arith, less)))

-- no cut lies past the end
pub to_end : (cuts : List ℕ) (n side : ℕ) → AreSteps (λ k. get_or cuts k 0) n side → (k : ℕ) → k ≤ n → get_or cuts k 0 ≤ side
to_end cuts n side h k within = elim (cases_eq k n) [
  | inl same ↦ omega (arith, ap (λ (i : ℕ). get_or cuts i 0) same, h.last)
  | inr apart ↦ omega (arith, h.rise k n (omega (arith, within, apart)) (omega arith), h.last)
]

times_more : (k m d : ℕ) → k * (m + d) ≡ k * m + k * d
times_more k m d = grind arith

pub columns_of : (C : TableValue) (columns rows : List ℕ) → IsGrid C columns rows → AreSteps (λ k. get_or columns k 0) C.width (side_of C columns)
columns_of C columns rows grid = steps_of columns C.width (side_of C columns) grid.across

pub rows_of : (C : TableValue) (columns rows : List ℕ) → IsGrid C columns rows → AreSteps (λ k. get_or rows k 0) C.height (side_of C columns)
rows_of C columns rows grid = steps_of rows C.height (side_of C columns) grid.along

-- no area exceeds the square's
area_small : (S y height old m d : ℕ) → old ≤ y * S → m + d ≤ S → y + height ≤ S → S ≤ most_number → old + height * m + height * d < 2 ^ 64
area_small S y height old m d low across along small =
    let wide = mul-le-mul_left height across in
    let high = mul-le-mul_left S along in
    let most = mul-le-mul_left S small in
    omega (arith, low, times_more height m d, wide, times_more S y height, mul_comm y S, mul_comm height S, high, most, small)

module _ (C : TableValue) (kind : Kind) (columns rows labels : List ℕ) (grid : IsGrid C columns rows) where
  xs : AreSteps (λ k. get_or columns k 0) C.width (side_of C columns)
  xs = columns_of C columns rows grid

  ys : AreSteps (λ k. get_or rows k 0) C.height (side_of C columns)
  ys = rows_of C columns rows grid

  pub none_added : (b height : ℕ) (areas : List ℕ) → AreAdded C kind columns labels b height 0 areas areas
  none_added b height areas = record {
    long = refl;
    each = λ label less. record {
      count = 0;
      counts = subst (λ (k : ℕ). Counts (IsInRow C kind columns labels label b) k 0) (sym grid.across.first) start;
      is = omega arith;
    };
  }

  in_column : (label b a x : ℕ) → (i : IsInRow C kind columns labels label b x) → a < C.width → get_or columns a 0 ≤ x → x < get_or columns (a + 1) 0 → i.a ≡ a
  in_column label b a x i a_in from to =
      lies_once (λ k. get_or columns k 0) C.width (side_of C columns) xs i.a a x (record { within = (among_within C kind i.a b i.among).0; from = i.from; to = i.to }) (record { within = a_in; from = from; to = to })

  module _ (b height a : ℕ) (before now : List ℕ) (a_in : a < C.width) (h : AreAdded C kind columns labels b height a before now) where
    wide : get_or columns a 0 + (get_or columns (a + 1) 0 - get_or columns a 0) ≡ get_or columns (a + 1) 0
    wide = omega (arith, xs.rise a (a + 1) (omega arith) (omega (arith, a_in)))

    -- a column whose cell has another label, or none
    passed : (label old new : ℕ) → IsAdded C kind columns labels b height a label old new → (Among C kind a b → label_at C.width labels a b ≡ label → ⊥) → IsAdded C kind columns labels b height (a + 1) label old new
    passed label old new added other =
        let In = IsInRow C kind columns labels label b in
        let from = get_or columns a 0 in
        let d = get_or columns (a + 1) 0 - from in
        let out : (x : ℕ) → from ≤ x → x < from + d → In x → ⊥ = λ x low high i.
        let e : i.a ≡ a = in_column label b a x i a_in low (omega (arith, wide, high)) in
        other (subst (λ (k : ℕ). Among C kind k b) e i.among) (subst (λ (k : ℕ). label_at C.width labels k b ≡ label) e i.is) in
        record {
          count = added.count;
          counts = counts_as In (from + d) added.count (get_or columns (a + 1) 0) added.count wide refl (counts_out In from added.count d added.counts out);
          is = added.is;
        }

    pub column_passed : (Among C kind a b → ⊥) → AreAdded C kind columns labels b height (a + 1) before now
    column_passed out = record {
      long = h.long;
      each = λ label less. passed label (get_or before label 0) (get_or now label 0) (h.each label less) (λ among is. out among);
    }

    -- the column of a cell that has the label
    taken : (label old new : ℕ) → Among C kind a b → label_at C.width labels a b ≡ label → IsAdded C kind columns labels b height a label old new → IsAdded C kind columns labels b height (a + 1) label old (new + height * (get_or columns (a + 1) 0 - get_or columns a 0))
    taken label old new among is added =
        let In = IsInRow C kind columns labels label b in
        let from = get_or columns a 0 in
        let d = get_or columns (a + 1) 0 - from in
        let all : (x : ℕ) → from ≤ x → x < from + d → In x = λ x low high. record { a = a; from = low; to = omega (arith, wide, high); among = among; is = is } in
        record {
          count = added.count + d;
          counts = counts_as In (from + d) (added.count + d) (get_or columns (a + 1) 0) (added.count + d) wide refl (counts_in In from added.count d added.counts all);
          is = omega (arith, added.is, times_more height added.count d);
        }

    pub column_taken : (own : ℕ) (after : List ℕ) → Among C kind a b → own ≡ label_at C.width labels a b → own < length now → after ≡ set now own (get_or now own 0 + height * (get_or columns (a + 1) 0 - get_or columns a 0)) → AreAdded C kind columns labels b height (a + 1) before after
    column_taken own after among own_is own_in is =
        let more = get_or now own 0 + height * (get_or columns (a + 1) 0 - get_or columns a 0) in
        let once : AreAdded C kind columns labels b height (a + 1) before (set now own more) = record {
          long = length-set now own more ∙ h.long;
          each = λ label less. elim (cases_eq label own) [
            | inl same ↦
                let at : get_or (set now own more) label 0 ≡ more = ap (λ (k : ℕ). get_or (set now own more) k 0) same ∙ get_or-set_same now own more 0 own_in in
                let here : more ≡ get_or now label 0 + height * (get_or columns (a + 1) 0 - get_or columns a 0) = ap (λ (k : ℕ). get_or now k 0 + height * (get_or columns (a + 1) 0 - get_or columns a 0)) (sym same) in
                subst (IsAdded C kind columns labels b height (a + 1) label (get_or before label 0)) (sym (at ∙ here)) (taken label (get_or before label 0) (get_or now label 0) among (sym own_is ∙ sym same) (h.each label less))
            | inr apart ↦
                subst (IsAdded C kind columns labels b height (a + 1) label (get_or before label 0)) (sym (get_or-set_other now own label more 0 apart)) (passed label (get_or before label 0) (get_or now label 0) (h.each label less) (λ at label_is. apart (sym label_is ∙ sym own_is)))
          ];
        } in
        subst (AreAdded C kind columns labels b height (a + 1) before) (sym is) once

  pub row_measured : (b : ℕ) (before after : List ℕ) → b < C.height → AreAreas C kind columns rows labels b before → AreAdded C kind columns labels b (get_or rows (b + 1) 0 - get_or rows b 0) C.width before after → AreAreas C kind columns rows labels (b + 1) after
  row_measured b before after b_in h added =
      let S = side_of C columns in
      let height = get_or rows (b + 1) 0 - get_or rows b 0 in
      let high : get_or rows b 0 + height ≡ get_or rows (b + 1) 0 = omega (arith, ys.rise b (b + 1) (omega arith) (omega (arith, b_in))) in
      record {
        long = added.long ∙ h.long;
        exact = λ label less.
            let less' : label < length before = omega (arith, less, added.long) in
            let one = added.each label less' in
            let In = IsLabelled C kind columns rows labels label in
            let each : (v : ℕ) → get_or rows b 0 ≤ v → v < get_or rows b 0 + height → Counts (λ x. In x v) S one.count = λ v from to.
            let to' : v < get_or rows (b + 1) 0 = omega (arith, to, high) in
            counts_same (IsInRow C kind columns labels label b) (λ x. In x v) S one.count (λ x x_in. (
              λ i. record { b = b; from = from; to = to'; in_row = i },
              λ l.
                  let e : l.b ≡ b = lies_once (λ k. get_or rows k 0) C.height S ys l.b b v (record { within = (among_within C kind l.in_row.a l.b l.in_row.among).1; from = l.from; to = l.to }) (record { within = b_in; from = from; to = to' }) in
                  subst (λ (k : ℕ). IsInRow C kind columns labels label k x) e l.in_row,
            )) one.counts in
            rows_as In S (get_or rows b 0 + height) (get_or before label 0 + height * one.count) (get_or rows (b + 1) 0) (get_or after label 0) high (sym one.is) (rows_more In S (get_or rows b 0) (get_or before label 0) one.count height (h.exact label less') each);
      }

  pub none_measured : (areas : List ℕ) → length areas ≡ C.width * C.height → ((k : ℕ) → k < length areas → get_or areas k 0 ≡ 0) → AreAreas C kind columns rows labels 0 areas
  none_measured areas long zeros = record {
    long = long;
    exact = λ label less. rows_as (IsLabelled C kind columns rows labels label) (side_of C columns) 0 0 (get_or rows 0 0) (get_or areas label 0) (sym grid.along.first) (sym (zeros label less)) none;
  }

  pub area_fits : (b a label d : ℕ) (before now : List ℕ) → b < C.height → a < C.width → AreAreas C kind columns rows labels b before → AreAdded C kind columns labels b (get_or rows (b + 1) 0 - get_or rows b 0) a before now → label < length now → d ≡ get_or columns (a + 1) 0 - get_or columns a 0 → get_or now label 0 + (get_or rows (b + 1) 0 - get_or rows b 0) * d < 2 ^ 64
  area_fits b a label d before now b_in a_in h added less d_is =
      let S = side_of C columns in
      let height = get_or rows (b + 1) 0 - get_or rows b 0 in
      let less' : label < length before = omega (arith, less, added.long) in
      let one = added.each label less' in
      let few = counts_most (IsInRow C kind columns labels label b) (get_or columns a 0) one.count one.counts in
      let low = rows_most (IsLabelled C kind columns rows labels label) S (get_or rows b 0) (get_or before label 0) (h.exact label less') in
      let across : one.count + d ≤ S = omega (arith, few, d_is, xs.rise a (a + 1) (omega arith) (omega (arith, a_in)), to_end columns C.width S xs (a + 1) (omega (arith, a_in))) in
      let along : get_or rows b 0 + height ≤ S = omega (arith, ys.rise b (b + 1) (omega arith) (omega (arith, b_in)), to_end rows C.height S ys (b + 1) (omega (arith, b_in))) in
      omega (arith, one.is, area_small S (get_or rows b 0) height (get_or before label 0) one.count d low across along grid.small)

  pub zeros_measured : (areas : List ℕ) (n : ℕ) → areas ≡ replicate n 0 → n ≡ C.width * C.height → AreAreas C kind columns rows labels 0 areas
  zeros_measured areas n is long =
      let each : length areas ≡ n = ap length is ∙ length-replicate n 0 in
      none_measured areas (each ∙ long) (λ k less. ap (λ (l : List ℕ). get_or l k 0) is ∙ get_or-replicate n k 0 0 (omega (arith, less, each)))

  pub all_measured : (b : ℕ) (areas : List ℕ) → b ≡ C.height → AreAreas C kind columns rows labels b areas → AreAreas C kind columns rows labels C.height areas
  all_measured b areas is h = subst (λ (k : ℕ). AreAreas C kind columns rows labels k areas) is h
