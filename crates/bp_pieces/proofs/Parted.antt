-- Which labels are wanted, and the list of wanted parts, cell by cell.
use Rattle.std.proofs.Common.{◌≡◌, ◌⊎◌, ℕ, ◌+◌, ◌*◌, ◌<◌, ◌≤◌, Bool, true, false, List, [], ◌∷◌, ◌++◌, length, replicate, get_or, set, refl, sym, ◌∙◌, ap, subst, arith, inl, inr, length-append}
use Rattle.std.proofs.Math.Nat.{mul_comm}
use Rattle.std.proofs.lemmas.Bool.{cases_eq, cases_order, false≢true}
use Rattle.std.proofs.lemmas.List.{get_or-replicate, get_or-set_same, get_or-set_other, get_or_append_left, get_or_push, length-replicate, length-set}
use Rattle.bp_base.specs.declared.point.Piece.{Piece}
use Rattle.bp_base.specs.Point.{origin}
use Rattle.bp_contour.specs.Table.{TableValue}
use Rattle.bp_contour.proofs.Tables.{row_below}
use Rattle.bp_regions.specs.Contours.{ComesBefore}
use Rattle.bp_pieces.specs.declared.kind.Kind.{Kind}
use Rattle.bp_pieces.specs.declared.kind.Kind.TheVariants.{Outside, Reached}
use Rattle.bp_pieces.specs.Labels.{Among, label_at}
use Rattle.bp_pieces.specs.Parts.{AreListed, AreWanted, IsFirst, IsGrid, IsListed, IsOpen, part_for}
use Rattle.bp_pieces.specs.Pieces.{part_at}
use Rattle.bp_pieces.proofs.Labelled.{among_within, same_place}
use Rattle.bp_pieces.proofs.Measured.{columns_of, rows_of}

pub open_among : (C : TableValue) (kind : Kind) (a b : ℕ) → IsOpen C kind a b → Among C kind a b
open_among C Reached a b opened = absurd opened
open_among C Outside a b opened = opened.0

row_times : (y w : ℕ) → (y + 1) * w ≡ y * w + w
row_times y w = grind arith

-- no cell stands before the first
pub no_row : (w : ℕ) → 0 ≡ 0 * w
no_row w = grind arith

module _ (C : TableValue) (kind : Kind) (labels : List ℕ) where
  -- before the first cell
  pub all_wanted : (wanted : List Bool) → length wanted ≡ C.width * C.height → ((k : ℕ) → k < length wanted → get_or wanted k false ≡ true) → AreWanted C kind labels 0 wanted
  all_wanted wanted long all = record {
    long = long;
    exact = λ label less. (λ is a b opened before own. omega (arith, before), λ none. all label (omega (arith, long, less)));
  }

  -- past a row nothing changes but the way to say it
  pub wanted_as : (n m : ℕ) (wanted : List Bool) → n ≡ m → AreWanted C kind labels n wanted → AreWanted C kind labels m wanted
  wanted_as n m wanted e h = subst (λ (k : ℕ). AreWanted C kind labels k wanted) e h

  pub trues_wanted : (wanted : List Bool) (n : ℕ) → wanted ≡ replicate n true → n ≡ C.width * C.height → AreWanted C kind labels (0 * C.width) wanted
  trues_wanted wanted n is long =
      let each : length wanted ≡ n = ap length is ∙ length-replicate n true in
      wanted_as 0 (0 * C.width) wanted (no_row C.width) (all_wanted wanted (each ∙ long) (λ k less. ap (λ (l : List Bool). get_or l k false) is ∙ get_or-replicate n k true false (omega (arith, less, each))))

  pub wanted_ended : (y : ℕ) (wanted : List Bool) → y ≡ C.height → AreWanted C kind labels (y * C.width) wanted → AreWanted C kind labels (C.width * C.height) wanted
  wanted_ended y wanted is h =
      wanted_as (y * C.width) (C.width * C.height) wanted (ap (λ (k : ℕ). k * C.width) is ∙ mul_comm C.height C.width) h

  -- a row begins where the one before it ends
  pub row_begun : (y : ℕ) (wanted : List Bool) → AreWanted C kind labels (y * C.width) wanted → AreWanted C kind labels (y * C.width + 0) wanted
  row_begun y wanted h = wanted_as (y * C.width) (y * C.width + 0) wanted (omega arith) h

  pub row_ended : (x y : ℕ) (wanted : List Bool) → x ≡ C.width → AreWanted C kind labels (y * C.width + x) wanted → AreWanted C kind labels ((y + 1) * C.width) wanted
  row_ended x y wanted is h = wanted_as (y * C.width + x) ((y + 1) * C.width) wanted (omega (arith, is, row_times y C.width)) h

  module _ (x y : ℕ) (x_in : x < C.width) (wanted : List Bool) (h : AreWanted C kind labels (y * C.width + x) wanted) where
    -- an open cell up to this one is this one or stands before it
    none_more : (label : ℕ) → ((a b : ℕ) → IsOpen C kind a b → b * C.width + a < y * C.width + x → label_at C.width labels a b ≡ label → ⊥) → (IsOpen C kind x y → label_at C.width labels x y ≡ label → ⊥) → (a b : ℕ) → IsOpen C kind a b → b * C.width + a < y * C.width + (x + 1) → label_at C.width labels a b ≡ label → ⊥
    none_more label before here a b opened less is = elim (cases_eq (b * C.width + a) (y * C.width + x)) [
      | inr apart ↦ before a b opened (omega (arith, less, apart)) is
      | inl same ↦
          let (e, f) = same_place C.width a b x y (among_within C kind a b (open_among C kind a b opened)).0 x_in same in
          here (subst (λ (k : ℕ). IsOpen C kind k y) e (subst (IsOpen C kind a) f opened)) (subst (λ (k : ℕ). label_at C.width labels k y ≡ label) e (subst (λ (k : ℕ). label_at C.width labels a k ≡ label) f is))
    ]

    pub closed_kept : (IsOpen C kind x y → ⊥) → AreWanted C kind labels (y * C.width + (x + 1)) wanted
    closed_kept closed = record {
      long = h.long;
      exact = λ label less. (
        λ is. none_more label ((h.exact label less).0 is) (λ opened e. closed opened),
        λ none. (h.exact label less).1 (λ a b opened before. none a b opened (omega (arith, before))),
      );
    }

    pub open_barred : (own : ℕ) (after : List Bool) → IsOpen C kind x y → own ≡ label_at C.width labels x y → own < length wanted → after ≡ set wanted own false → AreWanted C kind labels (y * C.width + (x + 1)) after
    open_barred own after opened own_is own_in is =
        let once : AreWanted C kind labels (y * C.width + (x + 1)) (set wanted own false) = record {
          long = length-set wanted own false ∙ h.long;
          exact = λ label less. elim (cases_eq label own) [
            | inl same ↦
                let at : get_or (set wanted own false) label false ≡ false = ap (λ (k : ℕ). get_or (set wanted own false) k false) same ∙ get_or-set_same wanted own false false own_in in (
                  λ t. absurd (false≢true (sym at ∙ t)),
                  λ none. absurd (none x y opened (omega arith) (sym own_is ∙ sym same)),
                )
            | inr apart ↦
                let at : get_or (set wanted own false) label false ≡ get_or wanted label false = get_or-set_other wanted own label false false apart in (
                  λ t. none_more label ((h.exact label less).0 (sym at ∙ t)) (λ o label_is. apart (sym label_is ∙ sym own_is)),
                  λ none. at ∙ (h.exact label less).1 (λ a b o before. none a b o (omega (arith, before))),
                )
          ];
        } in
        subst (AreWanted C kind labels (y * C.width + (x + 1))) (sym is) once

module _ (C : TableValue) (kind : Kind) (columns rows labels areas : List ℕ) (wanted : List Bool) where
  pub none_listed : AreListed C kind columns rows labels areas wanted 0 []
  none_listed = record {
    sound = λ k less. absurd (omega (arith, less));
    complete = λ a b first less. absurd (omega (arith, less));
    rising = λ i j less within. absurd (omega (arith, within));
  }

  pub none_listed_yet : (parts : List Piece) → parts ≡ [] → AreListed C kind columns rows labels areas wanted (0 * C.width) parts
  none_listed_yet parts is =
      subst (λ (n : ℕ). AreListed C kind columns rows labels areas wanted n parts) (no_row C.width) (subst (AreListed C kind columns rows labels areas wanted 0) (sym is) none_listed)

  pub all_listed : (y : ℕ) (parts : List Piece) → y ≡ C.height → AreListed C kind columns rows labels areas wanted (y * C.width) parts → AreListed C kind columns rows labels areas wanted (C.width * C.height) parts
  all_listed y parts is h =
      let e : y * C.width ≡ C.width * C.height = ap (λ (k : ℕ). k * C.width) is ∙ mul_comm C.height C.width in
      subst (λ (n : ℕ). AreListed C kind columns rows labels areas wanted n parts) e h

  pub listed_begun : (y : ℕ) (parts : List Piece) → AreListed C kind columns rows labels areas wanted (y * C.width) parts → AreListed C kind columns rows labels areas wanted (y * C.width + 0) parts
  listed_begun y parts h =
      let e : y * C.width ≡ y * C.width + 0 = omega arith in
      subst (λ (n : ℕ). AreListed C kind columns rows labels areas wanted n parts) e h

  pub listed_ended : (x y : ℕ) (parts : List Piece) → x ≡ C.width → AreListed C kind columns rows labels areas wanted (y * C.width + x) parts → AreListed C kind columns rows labels areas wanted ((y + 1) * C.width) parts
  listed_ended x y parts is h =
      let e : y * C.width + x ≡ (y + 1) * C.width = omega (arith, is, row_times y C.width) in
      subst (λ (n : ℕ). AreListed C kind columns rows labels areas wanted n parts) e h

  later : (n m : ℕ) (p : Piece) → n ≤ m → IsListed C kind columns rows labels areas wanted n p → IsListed C kind columns rows labels areas wanted m p
  later n m p order l = record {
    a = l.a;
    b = l.b;
    first = l.first;
    below = omega (arith, l.below, order);
    is = l.is;
  }

  module _ (grid : IsGrid C columns rows) (x y : ℕ) (x_in : x < C.width) (y_in : y < C.height) (parts : List Piece) (h : AreListed C kind columns rows labels areas wanted (y * C.width + x) parts) where
    here_or_before : (a b : ℕ) → IsFirst C kind labels wanted a b → b * C.width + a < y * C.width + (x + 1) → ((a ≡ x) × (b ≡ y)) ⊎ (b * C.width + a < y * C.width + x)
    here_or_before a b first less = elim (cases_eq (b * C.width + a) (y * C.width + x)) [
      | inr apart ↦ inr (omega (arith, less, apart))
      | inl same ↦ inl (same_place C.width a b x y (among_within C kind a b first.among).0 x_in same)
    ]

    pub not_listed : (IsFirst C kind labels wanted x y → ⊥) → AreListed C kind columns rows labels areas wanted (y * C.width + (x + 1)) parts
    not_listed other = record {
      sound = λ k less. later (y * C.width + x) (y * C.width + (x + 1)) (part_at parts k) (omega arith) (h.sound k less);
      complete = λ a b first less. elim (here_or_before a b first less) [
        | inl (e, f) ↦
            absurd (other (subst (λ (k : ℕ). IsFirst C kind labels wanted k y) e (subst (IsFirst C kind labels wanted a) f first)))
        | inr before ↦ h.complete a b first before
      ];
      rising = h.rising;
    }

    -- a cell at a lesser place comes before
    rises : (a b : ℕ) → a < C.width → b < C.height → b * C.width + a < y * C.width + x → ComesBefore (record { x = get_or columns a 0; y = get_or rows b 0 }) (record { x = get_or columns x 0; y = get_or rows y 0 })
    rises a b a_in b_in less = elim (cases_order b y) [
      | inl level ↦
          let row : b * C.width ≡ y * C.width = ap (λ (k : ℕ). k * C.width) level in
          inr (ap (λ (k : ℕ). get_or rows k 0) level, (columns_of C columns rows grid).rise a x (omega (arith, less, row)) (omega (arith, x_in)))
      | inr (inl lower) ↦ inl ((rows_of C columns rows grid).rise b y lower (omega (arith, y_in)))
      | inr (inr higher) ↦ absurd (omega (arith, less, row_below y b C.width higher, x_in))
    ]

    pub is_listed : (after : List Piece) → IsFirst C kind labels wanted x y → after ≡ parts ++ part_for C columns rows areas x y ∷ [] → AreListed C kind columns rows labels areas wanted (y * C.width + (x + 1)) after
    is_listed after first is =
        let p = part_for C columns rows areas x y in
        let d : Piece = record { at = origin; area = 0 } in
        let more = parts ++ p ∷ [] in
        let long : length more ≡ length parts + 1 = length-append parts (p ∷ []) in
        let old : (k : ℕ) → k < length parts → part_at more k ≡ part_at parts k = λ k less. get_or_append_left parts (p ∷ []) d k less in
        let new : part_at more (length parts) ≡ p = get_or_push parts p d (length parts) refl in
        let once : AreListed C kind columns rows labels areas wanted (y * C.width + (x + 1)) more = record {
          sound = λ k less. elim (cases_eq k (length parts)) [
            | inl same ↦
                subst (IsListed C kind columns rows labels areas wanted (y * C.width + (x + 1))) (sym (ap (part_at more) same ∙ new)) (record { a = x; b = y; first = first; below = omega arith; is = refl })
            | inr apart ↦
                let less' : k < length parts = omega (arith, less, long, apart) in
                subst (IsListed C kind columns rows labels areas wanted (y * C.width + (x + 1))) (sym (old k less')) (later (y * C.width + x) (y * C.width + (x + 1)) (part_at parts k) (omega arith) (h.sound k less'))
          ];
          complete = λ a b chosen less. elim (here_or_before a b chosen less) [
            | inl (e, f) ↦ (
              length parts,
              omega (arith, long),
              new ∙ ap (λ (k : ℕ). part_for C columns rows areas k y) (sym e) ∙ ap (λ (k : ℕ). part_for C columns rows areas a k) (sym f),
            )
            | inr before ↦
                let (k, less', at) = h.complete a b chosen before in
                (k, omega (arith, less', long), old k less' ∙ at)
          ];
          rising = λ i j less within. elim (cases_eq j (length parts)) [
            | inl same ↦
                let i_in : i < length parts = omega (arith, less, same) in
                let l = h.sound i i_in in
                let (a_in, b_in) = among_within C kind l.a l.b l.first.among in
                let order : ComesBefore (part_for C columns rows areas l.a l.b).at p.at = rises l.a l.b a_in b_in l.below in
                subst (λ (q : Piece). ComesBefore (part_at more i).at q.at) (sym (ap (part_at more) same ∙ new)) (subst (λ (q : Piece). ComesBefore q.at p.at) (sym (old i i_in ∙ l.is)) order)
            | inr apart ↦
                let j_in : j < length parts = omega (arith, within, long, apart) in
                subst (λ (q : Piece). ComesBefore (part_at more i).at q.at) (sym (old j j_in)) (subst (λ (q : Piece). ComesBefore q.at (part_at parts j).at) (sym (old i (omega (arith, less, j_in)))) (h.rising i j less j_in))
          ];
        } in
        subst (AreListed C kind columns rows labels areas wanted (y * C.width + (x + 1))) (sym is) once
