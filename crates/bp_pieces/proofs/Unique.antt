-- There is only one report.
use Rattle.std.proofs.Common.{◌≡◌, ℕ, zero, suc, ◌<◌, ◌≤◌, List, length, sym, ◌∙◌, ap, subst, arith, inl, inr}
use Rattle.std.proofs.lemmas.Bool.{cases_lt, cases_order}
use Rattle.std.proofs.lemmas.List.{get_or_default, same_lists}
use Rattle.bp_base.specs.declared.point.Piece.{Piece}
use Rattle.bp_base.specs.declared.point.Point.{Point}
use Rattle.bp_base.specs.declared.point.Report.{Report}
use Rattle.bp_base.specs.Point.{origin}
use Rattle.bp_regions.specs.Contours.{ComesBefore}
use Rattle.bp_pieces.specs.Pieces.{AreParts, HasCells, IsEnclosed, IsJoined, IsOutside, IsPart, IsReport, Meet, Touch, part_at}
use Rattle.bp_pieces.proofs.Counted.{one_area}
use Rattle.bp_pieces.proofs.Joined.{joined_back, meet_back, touch_back}

never_itself : (p : Point) → ComesBefore p p → ⊥
never_itself p (inl a) = omega (arith, a)
never_itself p (inr a) = omega (arith, a.1)

never_back : (p q : Point) → ComesBefore p q → ComesBefore q p → ⊥
never_back p q (inl a) (inl b) = omega (arith, a, b)
never_back p q (inl a) (inr b) = omega (arith, a, b.0)
never_back p q (inr a) (inl b) = omega (arith, a.0, b)
never_back p q (inr a) (inr b) = omega (arith, a.1, b.1)

pub neither_before : (p q : Point) → (ComesBefore p q → ⊥) → (ComesBefore q p → ⊥) → p ≡ q
neither_before p q none back = elim (cases_order p.y q.y) [
  | inr (inl lower) ↦ absurd (none (inl lower))
  | inr (inr higher) ↦ absurd (back (inl higher))
  | inl level ↦ elim (cases_order p.x q.x) [
    | inr (inl left) ↦ absurd (none (inr (level, left)))
    | inr (inr right) ↦ absurd (back (inr (sym level, right)))
    | inl same ↦ λ i. record { x = same i; y = level i }
  ]
]

module _ (In : ℕ → ℕ → Type 0) (Near : ℕ → ℕ → ℕ → ℕ → Type 0) (back : (x y u v : ℕ) → Near x y u v → Near u v x y) (S : ℕ) where
  same_part : (p q : Piece) → IsPart In Near S p → IsPart In Near S q → IsJoined In Near p.at.x p.at.y q.at.x q.at.y → p ≡ q
  same_part p q p_part q_part joined =
      let at : p.at ≡ q.at = neither_before p.at q.at (q_part.least p.at.x p.at.y (joined_back In Near back p.at.x p.at.y q.at.x q.at.y joined)) (p_part.least q.at.x q.at.y joined) in
      let moved : HasCells (IsJoined In Near q.at.x q.at.y) S p.area = subst (λ (a : Point). HasCells (IsJoined In Near a.x a.y) S p.area) at p_part.area in
      let area : p.area ≡ q.area = one_area (IsJoined In Near q.at.x q.at.y) S S p.area q.area moved q_part.area in
      λ i. record { at = at i; area = area i }

  stands_in : (Wanted : ℕ → ℕ → Type 0) (K L : List Piece) → AreParts In Near Wanted S K → AreParts In Near Wanted S L → (i : ℕ) → i < length K → (j : ℕ) × (j < length L) × (part_at K i ≡ part_at L j)
  stands_in Wanted K L k l i within =
      let p = part_at K i in
      let (j, short, joined) = l.complete p.at.x p.at.y (k.sound i within).some (k.wanted i within) in
      (j, short, sym (same_part (part_at L j) p (l.sound j short) (k.sound i within) joined))

-- Lists that rise and have the same elements are the same.
AreRising : List Piece → Type 0
AreRising K = (i j : ℕ) → i < j → j < length K → ComesBefore (part_at K i).at (part_at K j).at

module _ (K L : List Piece) (K_rise : (i j : ℕ) → i < j → j < length K → ComesBefore (part_at K i).at (part_at K j).at) (L_rise : (i j : ℕ) → i < j → j < length L → ComesBefore (part_at L i).at (part_at L j).at) (there : (i : ℕ) → i < length K → (j : ℕ) × (j < length L) × (part_at K i ≡ part_at L j)) (back : (j : ℕ) → j < length L → (i : ℕ) × (i < length K) × (part_at L j ≡ part_at K i)) where
  K_apart : (i j : ℕ) → i < j → j < length K → part_at K i ≡ part_at K j → ⊥
  K_apart i j less within e =
      never_itself (part_at K j).at (subst (λ (p : Piece). ComesBefore p.at (part_at K j).at) e (K_rise i j less within))

  L_apart : (i j : ℕ) → i < j → j < length L → part_at L i ≡ part_at L j → ⊥
  L_apart i j less within e =
      never_itself (part_at L j).at (subst (λ (p : Piece). ComesBefore p.at (part_at L j).at) e (L_rise i j less within))

  -- the same at place i where it is so before
  same_next : (i : ℕ) → i < length K → ((m : ℕ) → m < i → (m < length L) × (part_at K m ≡ part_at L m)) → (i < length L) × (part_at K i ≡ part_at L i)
  same_next i i_in before = let (j, j_in, e) = there i i_in in elim (cases_order i j) [
    | inl same ↦ (omega (arith, same, j_in), e ∙ ap (part_at L) (sym same))
    | inr (inr more) ↦ absurd (K_apart j i more i_in ((before j more).1 ∙ sym e))
    | inr (inl less) ↦
        let i_short : i < length L = omega (arith, less, j_in) in
        let (m, m_in, f) = back i i_short in
        elim (cases_order m i) [
          | inr (inl early) ↦ absurd (L_apart m i early i_short (sym (before m early).1 ∙ sym f))
          | inl same ↦ absurd (L_apart i j less j_in (f ∙ ap (part_at K) same ∙ e))
          | inr (inr late) ↦
              let ahead : ComesBefore (part_at L j).at (part_at L i).at = subst (λ (p : Piece). ComesBefore p.at (part_at L i).at) e (subst (λ (p : Piece). ComesBefore (part_at K i).at p.at) (sym f) (K_rise i m late m_in)) in
              absurd (never_back (part_at L i).at (part_at L j).at (L_rise i j less j_in) ahead)
        ]
  ]

  same_upto : (n i : ℕ) → i < n → i < length K → (i < length L) × (part_at K i ≡ part_at L i)
  same_upto zero i less i_in = absurd (omega (arith, less))
  same_upto (suc n) i less i_in =
      same_next i i_in (λ m early. same_upto n m (omega (arith, less, early)) (omega (arith, early, i_in)))

  pub same_here : (i : ℕ) → i < length K → (i < length L) × (part_at K i ≡ part_at L i)
  same_here i i_in = same_upto (length K) i i_in i_in

no_longer : (K L : List Piece) → ((i : ℕ) → i < length K → (i < length L) × (part_at K i ≡ part_at L i)) → length K ≤ length L
no_longer K L same = elim (cases_lt (length L) (length K)) [
  | inr more ↦ more
  | inl less ↦ omega (arith, less, (same (length L) less).0)
]

pub one_list : (In : ℕ → ℕ → Type 0) (Near : ℕ → ℕ → ℕ → ℕ → Type 0) → ((x y u v : ℕ) → Near x y u v → Near u v x y) → (Wanted : ℕ → ℕ → Type 0) (S : ℕ) (K L : List Piece) → AreParts In Near Wanted S K → AreParts In Near Wanted S L → K ≡ L
one_list In Near turn Wanted S K L k l =
    let there = stands_in In Near turn S Wanted K L k l in
    let back = stands_in In Near turn S Wanted L K l k in
    let K_same = same_here K L k.rising l.rising there back in
    let L_same = same_here L K l.rising k.rising back there in
    same_lists K L (omega (arith, no_longer K L K_same, no_longer L K L_same)) (λ i d i_in. get_or_default K i d (record { at = origin; area = 0 }) i_in ∙ (K_same i i_in).1 ∙ get_or_default L i (record { at = origin; area = 0 }) d (K_same i i_in).0)

pub one_report : (In : ℕ → ℕ → Type 0) (S : ℕ) (r q : Report) → IsReport In S r → IsReport In S q → r ≡ q
one_report In S r q a b =
    let pieces = one_list In Touch touch_back (λ x y. Unit {0}) S r.pieces q.pieces a.pieces b.pieces in
    let holes = one_list (IsOutside In S) Meet meet_back (IsEnclosed In S) S r.holes q.holes a.holes b.holes in
    λ i. record { pieces = pieces i; holes = holes i }
