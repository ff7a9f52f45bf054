-- Reports of two worked sets: two cells that share a point alone are two pieces, and no way out leads through such a point; a ring
-- of eight cells is one piece with one hole.
use Rattle.std.proofs.Common.{◌≡◌, ℕ, zero, suc, ◌<◌, List, [], ◌∷◌, refl, sym, subst, arith, inl, inr}
use Rattle.std.proofs.lemmas.Bool.{cases_eq}
use Rattle.bp_base.specs.declared.point.Piece.{Piece}
use Rattle.bp_regions.specs.Contours.{ComesBefore}
use Rattle.bp_pieces.specs.Pieces.{Counts, IsEnclosed, IsJoined, IsOutside, IsPart, IsReport, Meet, Touch, part_at}
use Rattle.bp_pieces.specs.Pieces.Counts.{start, within, without}
use Rattle.bp_pieces.specs.Pieces.CountsRows.{none, row}
use Rattle.bp_pieces.specs.Pieces.IsJoined.{alone, onward}
use Rattle.bp_pieces.proofs.Joined.{last_in}

abbrev piece : ℕ → ℕ → ℕ → Piece
piece x y area = record { at = record { x = x; y = y }; area = area }

-- The cells (0,0) and (1,1) of a square of side 2.
abbrev diagonal : ℕ → ℕ → Type 0
diagonal x y = (x ≡ y) × (x < 2)

none_touch : (x y u v : ℕ) → diagonal x y → diagonal u v → Touch x y u v → ⊥
none_touch x y u v a b (inl (e, inl n)) = omega (arith, a.0, b.0, e, n)
none_touch x y u v a b (inl (e, inr n)) = omega (arith, a.0, b.0, e, n)
none_touch x y u v a b (inr (e, inl n)) = omega (arith, a.0, b.0, e, n)
none_touch x y u v a b (inr (e, inr n)) = omega (arith, a.0, b.0, e, n)

single : (x y u v : ℕ) → IsJoined diagonal Touch x y u v → (x ≡ u) × (y ≡ v)
single x y _ _ (alone i) = (refl, refl)
single x y _ _ (onward {u} {v} j s t n i) =
    absurd (none_touch u v s t (last_in diagonal Touch x y u v j) i n)

lower : IsPart diagonal Touch 2 (piece 0 0 1)
lower = record {
  some = (refl, omega arith);
  least = λ x y j before. elim before [ inl low ↦ omega (arith, low) | inr (level, left) ↦ omega (arith, left) ];
  area = row (row none 1 (without (within start (alone (refl, omega arith))) (λ j. omega (arith, (single 0 0 1 0 j).0)))) 0 (without (without start (λ j. omega (arith, (single 0 0 0 1 j).1))) (λ j. omega (arith, (single 0 0 1 1 j).0)));
}

upper : IsPart diagonal Touch 2 (piece 1 1 1)
upper = record {
  some = (refl, omega arith);
  least = λ x y j before. elim before [
    | inl low ↦ omega (arith, low, (single 1 1 x y j).1)
    | inr (level, left) ↦ omega (arith, left, (single 1 1 x y j).0)
  ];
  area = row (row none 0 (without (without start (λ j. omega (arith, (single 1 1 0 0 j).0))) (λ j. omega (arith, (single 1 1 1 0 j).1)))) 1 (within (without start (λ j. omega (arith, (single 1 1 0 1 j).0))) (alone (refl, omega arith)));
}

abbrev two : List Piece
two = piece 0 0 1 ∷ piece 1 1 1 ∷ []

two_sound : (k : ℕ) → k < 2 → IsPart diagonal Touch 2 (part_at two k)
two_sound zero less = lower
two_sound (suc zero) less = upper
two_sound (suc (suc k)) less = absurd (omega (arith, less))

two_complete : (x y : ℕ) → diagonal x y → (k : ℕ) × (k < 2) × IsJoined diagonal Touch (part_at two k).at.x (part_at two k).at.y x y
two_complete zero zero i = (0, omega arith, alone i)
two_complete (suc zero) (suc zero) i = (1, omega arith, alone i)
two_complete zero (suc y) i = absurd (omega (arith, i.0))
two_complete (suc x) zero i = absurd (omega (arith, i.0))
two_complete (suc zero) (suc (suc y)) i = absurd (omega (arith, i.0))
two_complete (suc (suc x)) (suc y) i = absurd (omega (arith, i.1))

two_rising : (i j : ℕ) → i < j → j < 2 → ComesBefore (part_at two i).at (part_at two j).at
two_rising zero (suc zero) less inside = inl (omega arith)
two_rising i zero less inside = absurd (omega (arith, less))
two_rising (suc i) (suc zero) less inside = absurd (omega (arith, less))
two_rising i (suc (suc j)) less inside = absurd (omega (arith, inside))

diagonal_report : IsReport diagonal 2 (record { pieces = two; holes = [] })
diagonal_report = record {
  pieces = record { sound = two_sound; wanted = λ k less. tt; complete = λ x y i w. two_complete x y i; rising = two_rising };
  holes = record {
    sound = λ k less. absurd (omega (arith, less));
    wanted = λ k less. absurd (omega (arith, less));
    complete = λ x y i w. absurd (omega (arith, (w x y (alone i)).0, (w x y (alone i)).1));
    rising = λ i j less inside. absurd (omega (arith, inside));
  };
}

-- The cells of a square of side 3 without its middle.
abbrev ring : ℕ → ℕ → Type 0
ring x y = (x < 3) × (y < 3) × ((x ≡ 1) × (y ≡ 1) → ⊥)

at_00 : IsJoined ring Touch 0 0 0 0
at_00 = alone (omega arith, omega arith, λ e. omega (arith, e.0))

at_10 : IsJoined ring Touch 0 0 1 0
at_10 = onward at_00 1 0 (inr (refl, inl refl)) (omega arith, omega arith, λ e. omega (arith, e.1))

at_20 : IsJoined ring Touch 0 0 2 0
at_20 = onward at_10 2 0 (inr (refl, inl refl)) (omega arith, omega arith, λ e. omega (arith, e.0))

at_21 : IsJoined ring Touch 0 0 2 1
at_21 = onward at_20 2 1 (inl (refl, inl refl)) (omega arith, omega arith, λ e. omega (arith, e.0))

at_22 : IsJoined ring Touch 0 0 2 2
at_22 = onward at_21 2 2 (inl (refl, inl refl)) (omega arith, omega arith, λ e. omega (arith, e.0))

at_12 : IsJoined ring Touch 0 0 1 2
at_12 = onward at_22 1 2 (inr (refl, inr refl)) (omega arith, omega arith, λ e. omega (arith, e.1))

at_02 : IsJoined ring Touch 0 0 0 2
at_02 = onward at_12 0 2 (inr (refl, inr refl)) (omega arith, omega arith, λ e. omega (arith, e.0))

at_01 : IsJoined ring Touch 0 0 0 1
at_01 = onward at_02 0 1 (inl (refl, inr refl)) (omega arith, omega arith, λ e. omega (arith, e.0))

not_11 : IsJoined ring Touch 0 0 1 1 → ⊥
not_11 j = (last_in ring Touch 0 0 1 1 j).2 (refl, refl)

all_joined : (x y : ℕ) → ring x y → IsJoined ring Touch 0 0 x y
all_joined zero zero i = at_00
all_joined (suc zero) zero i = at_10
all_joined (suc (suc zero)) zero i = at_20
all_joined zero (suc zero) i = at_01
all_joined (suc zero) (suc zero) i = absurd (i.2 (refl, refl))
all_joined (suc (suc zero)) (suc zero) i = at_21
all_joined zero (suc (suc zero)) i = at_02
all_joined (suc zero) (suc (suc zero)) i = at_12
all_joined (suc (suc zero)) (suc (suc zero)) i = at_22
all_joined (suc (suc (suc x))) y i = absurd (omega (arith, i.0))
all_joined x (suc (suc (suc y))) i = absurd (omega (arith, i.1))

whole : IsPart ring Touch 3 (piece 0 0 8)
whole = record {
  some = (omega arith, omega arith, λ e. omega (arith, e.0));
  least = λ x y j before. elim before [ inl low ↦ omega (arith, low) | inr (level, left) ↦ omega (arith, left) ];
  area = row (row (row none 3 (within (within (within start at_00) at_10) at_20)) 2 (within (without (within start at_01) not_11) at_21)) 3 (within (within (within start at_02) at_12) at_22);
}

middle_only : (x y : ℕ) → IsOutside ring 3 x y → (x ≡ 1) × (y ≡ 1)
middle_only x y o = elim (cases_eq x 1) [
  | inr apart ↦ absurd (o.1 (o.0.0, o.0.1, λ e. apart e.0))
  | inl e ↦ elim (cases_eq y 1) [
    | inr apart ↦ absurd (o.1 (o.0.0, o.0.1, λ d. apart d.1))
    | inl d ↦ (e, d)
  ]
]

stays : (x y : ℕ) → IsJoined (IsOutside ring 3) Meet 1 1 x y → (x ≡ 1) × (y ≡ 1)
stays x y j = middle_only x y (last_in (IsOutside ring 3) Meet 1 1 x y j)

is_middle : IsOutside ring 3 1 1
is_middle = ((omega arith, omega arith), λ r. r.2 (refl, refl))

no_cell : (y : ℕ) → (y ≡ 1 → ⊥) → Counts (λ x. IsJoined (IsOutside ring 3) Meet 1 1 x y) 3 0
no_cell y off =
    without (without (without start (λ j. off (stays 0 y j).1)) (λ j. off (stays 1 y j).1)) (λ j. off (stays 2 y j).1)

middle : IsPart (IsOutside ring 3) Meet 3 (piece 1 1 1)
middle = record {
  some = is_middle;
  least = λ x y j before. elim before [
    | inl low ↦ omega (arith, low, (stays x y j).1)
    | inr (level, left) ↦ omega (arith, left, (stays x y j).0)
  ];
  area = row (row (row none 0 (no_cell 0 (λ e. omega (arith, e)))) 1 (without (within (without start (λ j. omega (arith, (stays 0 1 j).0))) (alone is_middle)) (λ j. omega (arith, (stays 2 1 j).0)))) 0 (no_cell 2 (λ e. omega (arith, e)));
}

-- what holds of the first of one place holds of all
one_of : (P : ℕ → Type 0) → P 0 → (k : ℕ) → k < 1 → P k
one_of P first zero less = first
one_of P first (suc k) less = absurd (omega (arith, less))

to_middle : (x y : ℕ) → (x ≡ 1) × (y ≡ 1) → IsJoined (IsOutside ring 3) Meet 1 1 x y
to_middle x y (e, d) =
    subst (λ (k : ℕ). IsJoined (IsOutside ring 3) Meet 1 1 k y) (sym e) (subst (λ (k : ℕ). IsJoined (IsOutside ring 3) Meet 1 1 1 k) (sym d) (alone is_middle))

ring_report : IsReport ring 3 (record { pieces = piece 0 0 8 ∷ []; holes = piece 1 1 1 ∷ [] })
ring_report = record {
  pieces = record {
    sound = λ k less. one_of (λ k. IsPart ring Touch 3 (part_at (piece 0 0 8 ∷ []) k)) whole k less;
    wanted = λ k less. tt;
    complete = λ x y i w. (0, omega arith, all_joined x y i);
    rising = λ i j less inside. absurd (omega (arith, less, inside));
  };
  holes = record {
    sound = λ k less. one_of (λ k. IsPart (IsOutside ring 3) Meet 3 (part_at (piece 1 1 1 ∷ []) k)) middle k less;
    wanted = λ k less. one_of (λ k. IsEnclosed ring 3 (part_at (piece 1 1 1 ∷ []) k).at.x (part_at (piece 1 1 1 ∷ []) k).at.y) (λ u v j. (omega (arith, (stays u v j).0), omega (arith, (stays u v j).0), omega (arith, (stays u v j).1), omega (arith, (stays u v j).1))) k less;
    complete = λ x y i w. (0, omega arith, to_middle x y (middle_only x y i));
    rising = λ i j less inside. absurd (omega (arith, less, inside));
  };
}
