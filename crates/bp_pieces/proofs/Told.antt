-- The parts of a table are those of the set of unit cells that it tells of.
use Rattle.std.proofs.Common.{◌≡◌, ℕ, ◌+◌, ◌*◌, ◌<◌, ◌≤◌, ◌↔◌, Bool, List, get_or, refl, sym, ◌∙◌, ap, subst, arith, inl, inr}
use Rattle.std.proofs.lemmas.Bool.{cases_order}
use Rattle.bp_base.specs.declared.point.Piece.{Piece}
use Rattle.bp_contour.specs.Table.{TableValue}
use Rattle.bp_contour.proofs.Scaled.{AreSteps, Lies, lies_at, lies_somewhere}
use Rattle.bp_contour.proofs.Tables.{in_table, row_below}
use Rattle.bp_regions.specs.Contours.{ComesBefore}
use Rattle.bp_pieces.specs.declared.kind.Kind.{Kind}
use Rattle.bp_pieces.specs.Labels.{Among, AreLabels, Near, label_at}
use Rattle.bp_pieces.specs.Parts.{AreAreas, AreListed, AreWanted, IsFirst, IsGrid, IsLabelled, IsOpen, part_for, side_of}
use Rattle.bp_pieces.specs.Pieces.{AreParts, IsJoined, IsPart, part_at}
use Rattle.bp_pieces.specs.Pieces.IsJoined.{alone, onward}
use Rattle.bp_pieces.proofs.Counting.{rows_as, rows_same}
use Rattle.bp_pieces.proofs.Crossing.{from_table}
use Rattle.bp_pieces.proofs.Joined.{joined_back, joined_on, last_in}
use Rattle.bp_pieces.proofs.Labelled.{among_within, near_back, same_place}
use Rattle.bp_pieces.proofs.Measured.{columns_of, rows_of}
use Rattle.bp_pieces.proofs.Parted.{open_among}
use Rattle.bp_pieces.proofs.Scaled.{low_or_same, to_table}

-- Cells with one label are those that chains join.
module _ (C : TableValue) (kind : Kind) (labels : List ℕ) (are : AreLabels (Among C kind) (Near kind) C.width C.height labels) where
  pub one_label : (a b c d : ℕ) → IsJoined (Among C kind) (Near kind) a b c d → label_at C.width labels a b ≡ label_at C.width labels c d
  one_label a b _ _ (alone i) = refl
  one_label a b _ _ (onward {u} {v} j s t n i) =
      let there = last_in (Among C kind) (Near kind) a b u v j in
      omega (arith, one_label a b u v j, are.lowest u v there s t i n, are.lowest s t i u v there (near_back kind u v s t n))

  pub joined_same : (a b c d : ℕ) → Among C kind a b → Among C kind c d → label_at C.width labels a b ≡ label_at C.width labels c d → IsJoined (Among C kind) (Near kind) a b c d
  joined_same a b c d i j e =
      let Held = Among C kind in
      let p = are.has.place a b i in
      let q = are.has.place c d j in
      let p_in = among_within C kind p.u p.v (last_in Held (Near kind) a b p.u p.v p.joined) in
      let q_in = among_within C kind q.u q.v (last_in Held (Near kind) c d q.u q.v q.joined) in
      let (f, g) = same_place C.width q.u q.v p.u p.v q_in.0 p_in.0 (q.is ∙ sym e ∙ sym p.is) in
      let turned = joined_back Held (Near kind) (near_back kind) c d q.u q.v q.joined in
      let moved : IsJoined Held (Near kind) p.u p.v c d = subst (λ (k : ℕ). IsJoined Held (Near kind) k p.v c d) f (subst (λ (k : ℕ). IsJoined Held (Near kind) q.u k c d) g turned) in
      joined_on Held (Near kind) a b p.u p.v c d p.joined moved

module _ (In : ℕ → ℕ → Type 0) (C : TableValue) (kind : Kind) (columns rows : List ℕ) (grid : IsGrid C columns rows) (same : (a b x y : ℕ) → Lies (λ k. get_or columns k 0) C.width a x → Lies (λ k. get_or rows k 0) C.height b y → (In x y ↔ Among C kind a b)) (In_in : (x y : ℕ) → In x y → (x < side_of C columns) × (y < side_of C columns)) where
  xs : AreSteps (λ k. get_or columns k 0) C.width (side_of C columns)
  xs = columns_of C columns rows grid

  ys : AreSteps (λ k. get_or rows k 0) C.height (side_of C columns)
  ys = rows_of C columns rows grid

  at_column : (a b : ℕ) → Among C kind a b → Lies (λ k. get_or columns k 0) C.width a (get_or columns a 0)
  at_column a b i = lies_at (λ k. get_or columns k 0) C.width (side_of C columns) xs a (among_within C kind a b i).0

  at_row : (a b : ℕ) → Among C kind a b → Lies (λ k. get_or rows k 0) C.height b (get_or rows b 0)
  at_row a b i = lies_at (λ k. get_or rows k 0) C.height (side_of C columns) ys b (among_within C kind a b i).1

  pub down : (a b c d x y u v : ℕ) → IsJoined (Among C kind) (Near kind) a b c d → Lies (λ k. get_or columns k 0) C.width a x → Lies (λ k. get_or rows k 0) C.height b y → Lies (λ k. get_or columns k 0) C.width c u → Lies (λ k. get_or rows k 0) C.height d v → IsJoined In (Near kind) x y u v
  down =
      from_table In (Among C kind) kind (λ k. get_or columns k 0) (λ k. get_or rows k 0) C.width C.height (side_of C columns) xs ys same In_in (among_within C kind)

  -- where a chain from a cell of the table leads
  pub record Leads (a b u v : ℕ) : Type 0 where
    pub c : ℕ
    pub d : ℕ
    pub at_u : Lies (λ k. get_or columns k 0) C.width c u
    pub at_v : Lies (λ k. get_or rows k 0) C.height d v
    pub joined : IsJoined (Among C kind) (Near kind) a b c d

  pub up : (a b x y u v : ℕ) → Lies (λ k. get_or columns k 0) C.width a x → Lies (λ k. get_or rows k 0) C.height b y → IsJoined In (Near kind) x y u v → Leads a b u v
  up a b x y u v la lb j =
      let (u_in, v_in) = In_in u v (last_in In (Near kind) x y u v j) in
      let (c, lc) = lies_somewhere (λ k. get_or columns k 0) C.width (side_of C columns) xs u u_in in
      let (d, ld) = lies_somewhere (λ k. get_or rows k 0) C.height (side_of C columns) ys v v_in in
      record {
        c = c;
        d = d;
        at_u = lc;
        at_v = ld;
        joined = to_table In (Among C kind) kind (λ k. get_or columns k 0) (λ k. get_or rows k 0) C.width C.height (side_of C columns) xs ys same In_in x y u v a b c d j la lb lc ld;
      }

  module _ (labels : List ℕ) (are : AreLabels (Among C kind) (Near kind) C.width C.height labels) where
    labelled_of : (a b x y u v : ℕ) → Lies (λ k. get_or columns k 0) C.width a x → Lies (λ k. get_or rows k 0) C.height b y → IsJoined In (Near kind) x y u v → IsLabelled C kind columns rows labels (label_at C.width labels a b) u v
    labelled_of a b x y u v la lb j =
        let l = up a b x y u v la lb j in
        record {
          b = l.d;
          from = l.at_v.from;
          to = l.at_v.to;
          in_row = record {
            a = l.c;
            from = l.at_u.from;
            to = l.at_u.to;
            among = last_in (Among C kind) (Near kind) a b l.c l.d l.joined;
            is = sym (one_label C kind labels are a b l.c l.d l.joined);
          };
        }

    joined_of : (a b x y u v : ℕ) → Among C kind a b → Lies (λ k. get_or columns k 0) C.width a x → Lies (λ k. get_or rows k 0) C.height b y → IsLabelled C kind columns rows labels (label_at C.width labels a b) u v → IsJoined In (Near kind) x y u v
    joined_of a b x y u v i la lb l =
        let r = l.in_row in
        let (c_in, d_in) = among_within C kind r.a l.b r.among in
        down a b r.a l.b x y u v (joined_same C kind labels are a b r.a l.b i r.among (sym r.is)) la lb (record { within = c_in; from = r.from; to = r.to }) (record { within = d_in; from = l.from; to = l.to })

    -- no cell of the part comes before the first
    none_before : (a b u v : ℕ) → Among C kind a b → label_at C.width labels a b ≡ b * C.width + a → IsJoined In (Near kind) (get_or columns a 0) (get_or rows b 0) u v → ComesBefore (record { x = u; y = v }) (record { x = get_or columns a 0; y = get_or rows b 0 }) → ⊥
    none_before a b u v i own j before =
        let l = up a b (get_or columns a 0) (get_or rows b 0) u v (at_column a b i) (at_row a b i) j in
        let place = are.has.place l.c l.d (last_in (Among C kind) (Near kind) a b l.c l.d l.joined) in
        let less : b * C.width + a ≤ l.d * C.width + l.c = omega (arith, own, one_label C kind labels are a b l.c l.d l.joined, place.before) in
        let (a_in, b_in) = among_within C kind a b i in
        elim (cases_order l.d b) [
          | inr (inl lower) ↦ absurd (omega (arith, row_below l.d b C.width lower, l.at_u.within, less))
          | inr (inr higher) ↦
              let over = ys.rise b l.d higher (omega (arith, l.at_v.within)) in
              elim before [ inl low ↦ omega (arith, low, over, l.at_v.from) | inr (level, left) ↦ omega (arith, level, over, l.at_v.from) ]
          | inl row ↦
              let row_is : l.d * C.width ≡ b * C.width = ap (λ (k : ℕ). k * C.width) row in
              let level_is : get_or rows l.d 0 ≡ get_or rows b 0 = ap (λ (k : ℕ). get_or rows k 0) row in
              let over = low_or_same (λ k. get_or columns k 0) C.width (side_of C columns) xs a l.c (omega (arith, less, row_is)) (omega (arith, l.at_u.within)) in
              elim before [ inl low ↦ omega (arith, low, level_is, l.at_v.from) | inr (level, left) ↦ omega (arith, left, over, l.at_u.from) ]
        ]

    module _ (areas : List ℕ) (measured : AreAreas C kind columns rows labels C.height areas) where
      first_part : (a b : ℕ) → Among C kind a b → label_at C.width labels a b ≡ b * C.width + a → IsPart In (Near kind) (side_of C columns) (part_for C columns rows areas a b)
      first_part a b i own =
          let S = side_of C columns in
          let (a_in, b_in) = among_within C kind a b i in
          let la = at_column a b i in
          let lb = at_row a b i in
          let x = get_or columns a 0 in
          let y = get_or rows b 0 in
          let counted = measured.exact (b * C.width + a) (omega (arith, measured.long, in_table C.width C.height a b a_in b_in)) in
          let In' = IsLabelled C kind columns rows labels (b * C.width + a) in
          let all = rows_as In' S (get_or rows C.height 0) (get_or areas (b * C.width + a) 0) S (get_or areas (b * C.width + a) 0) grid.along.last refl counted in
          record {
            some = (same a b x y la lb).1 i;
            least = λ u v j before. none_before a b u v i own j before;
            area = rows_same In' (IsJoined In (Near kind) x y) S S (get_or areas (b * C.width + a) 0) (λ u v u_in v_in. (
              λ l. joined_of a b x y u v i la lb (subst (λ (k : ℕ). IsLabelled C kind columns rows labels k u v) (sym own) l),
              λ j. subst (λ (k : ℕ). IsLabelled C kind columns rows labels k u v) own (labelled_of a b x y u v la lb j),
            )) all;
          }

      module _ (Wanted : ℕ → ℕ → Type 0) (wanted_closed : (a b x y : ℕ) → Lies (λ k. get_or columns k 0) C.width a x → Lies (λ k. get_or rows k 0) C.height b y → Wanted x y → (c d : ℕ) → IsJoined (Among C kind) (Near kind) a b c d → IsOpen C kind c d → ⊥) (closed_wanted : (a b x y : ℕ) → Lies (λ k. get_or columns k 0) C.width a x → Lies (λ k. get_or rows k 0) C.height b y → ((c d : ℕ) → IsJoined (Among C kind) (Near kind) a b c d → IsOpen C kind c d → ⊥) → Wanted x y) (wanted : List Bool) (chosen : AreWanted C kind labels (C.width * C.height) wanted) where
        first_wanted : (a b : ℕ) → IsFirst C kind labels wanted a b → Wanted (get_or columns a 0) (get_or rows b 0)
        first_wanted a b first =
            let (a_in, b_in) = among_within C kind a b first.among in
            let none = (chosen.exact (b * C.width + a) (in_table C.width C.height a b a_in b_in)).0 first.is_wanted in
            closed_wanted a b (get_or columns a 0) (get_or rows b 0) (at_column a b first.among) (at_row a b first.among) (λ c d j opened.
            let (c_in, d_in) = among_within C kind c d (open_among C kind c d opened) in
            none c d opened (in_table C.width C.height c d c_in d_in) (sym (one_label C kind labels are a b c d j) ∙ first.own))

        -- the first cell of a wanted part
        record Begun (a b : ℕ) : Type 0 where
          pub s : ℕ
          pub t : ℕ
          pub first : IsFirst C kind labels wanted s t
          pub joined : IsJoined (Among C kind) (Near kind) s t a b

        begun : (a b x y : ℕ) → Among C kind a b → Lies (λ k. get_or columns k 0) C.width a x → Lies (λ k. get_or rows k 0) C.height b y → Wanted x y → Begun a b
        begun a b x y i la lb w =
            let p = are.has.place a b i in
            let there = last_in (Among C kind) (Near kind) a b p.u p.v p.joined in
            let (s_in, t_in) = among_within C kind p.u p.v there in
            let one : label_at C.width labels a b ≡ label_at C.width labels p.u p.v = one_label C kind labels are a b p.u p.v p.joined in
            let is_wanted = (chosen.exact (p.v * C.width + p.u) (in_table C.width C.height p.u p.v s_in t_in)).1 (λ c d opened less own.
            wanted_closed a b x y la lb w c d (joined_same C kind labels are a b c d i (open_among C kind c d opened) (sym p.is ∙ sym own)) opened) in
            record {
              s = p.u;
              t = p.v;
              first = record { among = there; own = sym one ∙ sym p.is; is_wanted = is_wanted };
              joined = joined_back (Among C kind) (Near kind) (near_back kind) a b p.u p.v p.joined;
            }

        found_at : (parts : List Piece) (k s t x y : ℕ) → part_at parts k ≡ part_for C columns rows areas s t → IsJoined In (Near kind) (get_or columns s 0) (get_or rows t 0) x y → IsJoined In (Near kind) (part_at parts k).at.x (part_at parts k).at.y x y
        found_at parts k s t x y e j = subst (λ (p : Piece). IsJoined In (Near kind) p.at.x p.at.y x y) (sym e) j

        pub parts_are : (parts : List Piece) → AreListed C kind columns rows labels areas wanted (C.width * C.height) parts → AreParts In (Near kind) Wanted (side_of C columns) parts
        parts_are parts listed = record {
          sound = λ k less.
              let l = listed.sound k less in
              subst (IsPart In (Near kind) (side_of C columns)) (sym l.is) (first_part l.a l.b l.first.among l.first.own);
          wanted = λ k less.
              let l = listed.sound k less in
              subst (λ (p : Piece). Wanted p.at.x p.at.y) (sym l.is) (first_wanted l.a l.b l.first);
          complete = λ x y i w.
              let (x_in, y_in) = In_in x y i in
              let (a, la) = lies_somewhere (λ k. get_or columns k 0) C.width (side_of C columns) xs x x_in in
              let (b, lb) = lies_somewhere (λ k. get_or rows k 0) C.height (side_of C columns) ys y y_in in
              let f = begun a b x y ((same a b x y la lb).0 i) la lb w in
              let (s_in, t_in) = among_within C kind f.s f.t f.first.among in
              let (k, less, e) = listed.complete f.s f.t f.first (in_table C.width C.height f.s f.t s_in t_in) in
              let j = down f.s f.t a b (get_or columns f.s 0) (get_or rows f.t 0) x y f.joined (at_column f.s f.t f.first.among) (at_row f.s f.t f.first.among) la lb in
              (k, less, found_at parts k f.s f.t x y e j);
          rising = listed.rising;
        }
