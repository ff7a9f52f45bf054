-- The parts of an edge's table are the edge's report.
use Rattle.std.proofs.Common.{◌≡◌, ◌⊎◌, ℕ, ◌+◌, ◌-◌, ◌<◌, ◌↔◌, List, length, get_or, refl, sym, ◌∙◌, ap, subst, arith, inl, inr}
use Rattle.std.specs.List.{sum_by}
use Rattle.std.proofs.lemmas.Bool.{cases_eq}
use Rattle.bp_base.specs.declared.point.Axis.TheVariants.{X, Y}
use Rattle.bp_base.specs.declared.point.Piece.{Piece}
use Rattle.bp_base.specs.Tree.{IsEdge}
use Rattle.bp_contour.specs.Table.{IsTable, TableValue}
use Rattle.bp_contour.proofs.Exact.{same_cells}
use Rattle.bp_contour.proofs.Scaled.{AreSteps, Lies, lies_at}
use Rattle.bp_contour.proofs.Tables.{cuts_rise}
use Rattle.bp_regions.specs.Cells.{Reach}
use Rattle.bp_regions.specs.Cuts.{AreCutsOf}
use Rattle.bp_regions.specs.Regions.{AreRegions, RegionsValue}
use Rattle.bp_pieces.specs.declared.kind.Kind.TheVariants.{Outside, Reached}
use Rattle.bp_pieces.specs.Labels.{Among, Near}
use Rattle.bp_pieces.specs.Parts.{ArePartsOf, IsGrid, IsOpen, side_of}
use Rattle.bp_pieces.specs.Pieces.{AreParts, HasCells, IsEnclosed, IsInner, IsJoined, IsOutside, IsReport, Meet, Touch, part_at}
use Rattle.bp_pieces.proofs.Counting.{rows_same, rows_total}
use Rattle.bp_pieces.proofs.Joined.{joined_back, joined_on, last_in}
use Rattle.bp_pieces.proofs.Measured.{columns_of, rows_of, to_end}
use Rattle.bp_pieces.proofs.Told.{down, parts_are, up}

-- The areas of all parts add up to the number of cells of the set.
pub areas_add_up : (In : ℕ → ℕ → Type 0) (Close : ℕ → ℕ → ℕ → ℕ → Type 0) → ((x y u v : ℕ) → Close x y u v → Close u v x y) → (S : ℕ) (parts : List Piece) → AreParts In Close (λ x y. Unit {0}) S parts → HasCells In S (sum_by (λ (p : Piece). p.area) parts)
areas_add_up In Close back S parts are =
    let J : ℕ → ℕ → ℕ → Type 0 = λ k x y. IsJoined In Close (part_at parts k).at.x (part_at parts k).at.y x y in
    let apart : (i j x y : ℕ) → i < j → j < length parts → J i x y → J j x y → ⊥ = λ i j x y less within one other.
    let p = (part_at parts i).at in
    let q = (part_at parts j).at in
    (are.sound j within).least p.x p.y (joined_on In Close q.x q.y x y p.x p.y other (joined_back In Close back p.x p.y x y one)) (are.rising i j less within) in
    rows_same (λ x y. (k : ℕ) × (k < length parts) × J k x y) In S S (sum_by (λ (p : Piece). p.area) parts) (λ x y x_in y_in. (
      λ (k, less, j). last_in In Close (part_at parts k).at.x (part_at parts k).at.y x y j,
      λ i. are.complete x y i tt,
    )) (rows_total S J parts (λ k less. (are.sound k less).area) apart)

-- The border of the table is the border of the square.
module _ (C : TableValue) (columns rows : List ℕ) (grid : IsGrid C columns rows) where
  abbrev AtBorder : ℕ → ℕ → Type 0
  AtBorder a b = (a ≡ 0) ⊎ (b ≡ 0) ⊎ (a + 1 ≡ C.width) ⊎ (b + 1 ≡ C.height)

  xs : AreSteps (λ k. get_or columns k 0) C.width (side_of C columns)
  xs = columns_of C columns rows grid

  ys : AreSteps (λ k. get_or rows k 0) C.height (side_of C columns)
  ys = rows_of C columns rows grid

  within_line : (cuts : List ℕ) (n side k x : ℕ) → AreSteps (λ k. get_or cuts k 0) n side → Lies (λ k. get_or cuts k 0) n k x → (k ≡ 0 → ⊥) → (k + 1 ≡ n → ⊥) → (0 < x) × (x + 1 < side)
  within_line cuts n side k x h at low high =
      let k_in = at.within in (
        omega (arith, h.first, at.from, h.rise 0 k (omega (arith, low)) (omega (arith, k_in))),
        omega (arith, h.last, at.to, h.rise (k + 1) n (omega (arith, k_in, high)) (omega arith)),
      )

  pub inner_cell : (a b x y : ℕ) → Lies (λ k. get_or columns k 0) C.width a x → Lies (λ k. get_or rows k 0) C.height b y → (AtBorder a b → ⊥) → IsInner (side_of C columns) x y
  inner_cell a b x y la lb off =
      let (p, q) = within_line columns C.width (side_of C columns) a x xs la (λ e. off (inl e)) (λ e. off (inr (inr (inl e)))) in
      let (r, s) = within_line rows C.height (side_of C columns) b y ys lb (λ e. off (inr (inl e))) (λ e. off (inr (inr (inr e)))) in
      (p, q, r, s)

  -- a unit cell of the table's cell that lies at the border
  pub record HasBorder (a b : ℕ) : Type 0 where
    pub x : ℕ
    pub y : ℕ
    pub at_x : Lies (λ k. get_or columns k 0) C.width a x
    pub at_y : Lies (λ k. get_or rows k 0) C.height b y
    pub outer : IsInner (side_of C columns) x y → ⊥

  last_of : (cuts : List ℕ) (n side k : ℕ) → AreSteps (λ k. get_or cuts k 0) n side → k < n → Lies (λ k. get_or cuts k 0) n k (get_or cuts (k + 1) 0 - 1)
  last_of cuts n side k h within =
      let less : get_or cuts k 0 < get_or cuts (k + 1) 0 = h.rise k (k + 1) (omega arith) (omega (arith, within)) in
      record { within = within; from = omega (arith, less); to = omega (arith, less) }

  pub border_cell : (a b : ℕ) → a < C.width → b < C.height → AtBorder a b → HasBorder a b
  border_cell a b a_in b_in at =
      let S = side_of C columns in
      let la = lies_at (λ k. get_or columns k 0) C.width S xs a a_in in
      let lb = lies_at (λ k. get_or rows k 0) C.height S ys b b_in in
      let ra = last_of columns C.width S a xs a_in in
      let rb = last_of rows C.height S b ys b_in in
      elim at [
        | inl e ↦
            record {
              x = get_or columns a 0;
              y = get_or rows b 0;
              at_x = la;
              at_y = lb;
              outer = λ i. omega (arith, i.0, ap (λ (k : ℕ). get_or columns k 0) e, xs.first);
            }
        | inr (inl e) ↦
            record {
              x = get_or columns a 0;
              y = get_or rows b 0;
              at_x = la;
              at_y = lb;
              outer = λ i. omega (arith, i.2, ap (λ (k : ℕ). get_or rows k 0) e, ys.first);
            }
        | inr (inr (inl e)) ↦
            record {
              x = get_or columns (a + 1) 0 - 1;
              y = get_or rows b 0;
              at_x = ra;
              at_y = lb;
              outer = λ i. omega (arith, i.1, ap (λ (k : ℕ). get_or columns k 0) e, xs.last, xs.rise a (a + 1) (omega arith) (omega (arith, a_in)));
            }
        | inr (inr (inr e)) ↦
            record {
              x = get_or columns a 0;
              y = get_or rows (b + 1) 0 - 1;
              at_x = la;
              at_y = rb;
              outer = λ i. omega (arith, i.3, ap (λ (k : ℕ). get_or rows k 0) e, ys.last, ys.rise b (b + 1) (omega arith) (omega (arith, b_in)));
            }
      ]

  pub known_border : (a b : ℕ) → AtBorder a b ⊎ (AtBorder a b → ⊥)
  known_border a b = elim (cases_eq a 0) [
    | inl e ↦ inl (inl e)
    | inr p ↦ elim (cases_eq b 0) [
      | inl e ↦ inl (inr (inl e))
      | inr q ↦ elim (cases_eq (a + 1) C.width) [
        | inl e ↦ inl (inr (inr (inl e)))
        | inr r ↦ elim (cases_eq (b + 1) C.height) [
          | inl e ↦ inl (inr (inr (inr e)))
          | inr s ↦ inr (λ at. elim at [ inl e ↦ p e | inr (inl e) ↦ q e | inr (inr (inl e)) ↦ r e | inr (inr (inr e)) ↦ s e ])
        ]
      ]
    ]
  ]

pub grid_of : (R : RegionsValue) (e : ℕ) (columns rows : List ℕ) → AreRegions R → AreCutsOf R X columns → AreCutsOf R Y rows → (C : TableValue) → IsTable R e columns rows C → IsGrid C columns rows
grid_of R e columns rows regions xs ys C table =
    let wide : get_or columns C.width 0 ≡ R.side = ap (λ (k : ℕ). get_or columns k 0) table.width ∙ xs.last in
    let high : get_or rows C.height 0 ≡ R.side = ap (λ (k : ℕ). get_or rows k 0) table.height ∙ ys.last in
    record {
      across = record {
        long = table.width;
        first = xs.first;
        last = refl;
        rise = λ i j less within. cuts_rise R X columns xs i j less (omega (arith, less, within, table.width));
      };
      along = record {
        long = table.height;
        first = ys.first;
        last = high ∙ sym wide;
        rise = λ i j less within. cuts_rise R Y rows ys i j less (omega (arith, less, within, table.height));
      };
      small = omega (arith, wide, regions.placed.small);
    }

module _ (R : RegionsValue) (e : ℕ) (edge : IsEdge R.tree e) (regions : AreRegions R) (columns rows : List ℕ) (xs : AreCutsOf R X columns) (ys : AreCutsOf R Y rows) (C : TableValue) (table : IsTable R e columns rows C) where
  grid : IsGrid C columns rows
  grid = grid_of R e columns rows regions xs ys C table

  side_is : side_of C columns ≡ R.side
  side_is = ap (λ (k : ℕ). get_or columns k 0) table.width ∙ xs.last

  abbrev In : ℕ → ℕ → Type 0
  In = Reach R.tree R.side R.points e

  In_in : (x y : ℕ) → In x y → (x < side_of C columns) × (y < side_of C columns)
  In_in x y i = (omega (arith, i.cell.0, side_is), omega (arith, i.cell.1, side_is))

  abbrev Out : ℕ → ℕ → Type 0
  Out = IsOutside In (side_of C columns)

  same_in : (a b x y : ℕ) → Lies (λ k. get_or columns k 0) C.width a x → Lies (λ k. get_or rows k 0) C.height b y → (In x y ↔ Among C Reached a b)
  same_in = same_cells R e edge columns rows xs ys C table

  same_out : (a b x y : ℕ) → Lies (λ k. get_or columns k 0) C.width a x → Lies (λ k. get_or rows k 0) C.height b y → (Out x y ↔ Among C Outside a b)
  same_out a b x y la lb =
      let S = side_of C columns in
      let both = same_in a b x y la lb in
      let x_in : x < S = omega (arith, la.to, to_end columns C.width S (columns_of C columns rows grid) (a + 1) (omega (arith, la.within))) in
      let y_in : y < S = omega (arith, lb.to, to_end rows C.height S (rows_of C columns rows grid) (b + 1) (omega (arith, lb.within))) in
      (λ o. (la.within, lb.within, λ h. o.1 (both.1 h)), λ o. ((x_in, y_in), λ i. o.2 (both.0 i)))

  pieces_are : (parts : List Piece) → ArePartsOf C Reached columns rows parts → AreParts In Touch (λ x y. Unit {0}) (side_of C columns) parts
  pieces_are parts p =
      parts_are In C Reached columns rows grid same_in In_in p.labels p.labelled p.areas p.measured (λ x y. Unit {0}) (λ a b x y la lb w c d j opened. opened) (λ a b x y la lb none. tt) p.wanted p.chosen parts p.listed

  enclosed_closed : (a b x y : ℕ) → Lies (λ k. get_or columns k 0) C.width a x → Lies (λ k. get_or rows k 0) C.height b y → IsEnclosed In (side_of C columns) x y → (c d : ℕ) → IsJoined (Among C Outside) (Near Outside) a b c d → IsOpen C Outside c d → ⊥
  enclosed_closed a b x y la lb inner c d j opened =
      let at = border_cell C columns rows grid c d opened.0.0 opened.0.1 opened.1 in
      at.outer (inner at.x at.y (down Out C Outside columns rows grid same_out (λ u v o. o.0) a b c d x y at.x at.y j la lb at.at_x at.at_y))

  closed_enclosed : (a b x y : ℕ) → Lies (λ k. get_or columns k 0) C.width a x → Lies (λ k. get_or rows k 0) C.height b y → ((c d : ℕ) → IsJoined (Among C Outside) (Near Outside) a b c d → IsOpen C Outside c d → ⊥) → IsEnclosed In (side_of C columns) x y
  closed_enclosed a b x y la lb none u v j =
      let l = up Out C Outside columns rows grid same_out (λ u v o. o.0) a b x y u v la lb j in
      elim (known_border C columns rows grid l.c l.d) [
        | inl at ↦ absurd (none l.c l.d l.joined (last_in (Among C Outside) (Near Outside) a b l.c l.d l.joined, at))
        | inr off ↦ inner_cell C columns rows grid l.c l.d u v l.at_u l.at_v off
      ]

  holes_are : (parts : List Piece) → ArePartsOf C Outside columns rows parts → AreParts Out Meet (IsEnclosed In (side_of C columns)) (side_of C columns) parts
  holes_are parts p =
      parts_are Out C Outside columns rows grid same_out (λ u v o. o.0) p.labels p.labelled p.areas p.measured (IsEnclosed In (side_of C columns)) enclosed_closed closed_enclosed p.wanted p.chosen parts p.listed

  pub report_is : (pieces holes : List Piece) → ArePartsOf C Reached columns rows pieces → ArePartsOf C Outside columns rows holes → IsReport (Reach R.tree R.side R.points e) R.side (record { pieces = pieces; holes = holes })
  report_is pieces holes p q =
      subst (λ (S : ℕ). IsReport In S (record { pieces = pieces; holes = holes })) side_is (record { pieces = pieces_are pieces p; holes = holes_are holes q })
