-- A line across an axis at a coordinate: it is drawn at the border, and where the owners on its two sides differ.
-- Q says who owns the unit cell at a coordinate, in one column or row of unit cells.
use Rattle.std.proofs.Common.{◌≡◌, ◌≢◌, ◌↔◌, ℕ, ◌+◌, ◌-◌, ◌<◌, ◌≤◌, List, Option, length, get_or, sym, ◌∙◌, ap, arith, inl, inr}
use Rattle.std.specs.List.Sorted.{IsStrictlyIncreasing}
use Rattle.bp_regions.specs.Cuts.{AreTogether}
use Rattle.bp_fold.proofs.Lines.{OnLine, end_together, later, lies, not_none, start_together}

pub record Parts (S : ℕ) (Q : ℕ → Option ℕ → Type 0) (y : ℕ) : Type 0 where
  pub above : 1 ≤ y
  pub below : y < S
  pub one : Option ℕ
  pub other : Option ℕ
  pub first : Q (y - 1) one
  pub second : Q y other
  pub differ : one ≢ other

pub data Drawn (S : ℕ) (Q : ℕ → Option ℕ → Type 0) (y : ℕ) : Type 0 where
  at_zero : y ≡ 0 → Drawn S Q y
  at_side : y ≡ S → Drawn S Q y
  between : Parts S Q y → Drawn S Q y

pub moved : (S : ℕ) (Q W : ℕ → Option ℕ → Type 0) (y : ℕ) → ((z : ℕ) (o : Option ℕ) → z < S → Q z o → W z o) → Drawn S Q y → Drawn S W y
moved S Q W y to (at_zero e) = at_zero e
moved S Q W y to (at_side e) = at_side e
moved S Q W y to (between p) =
    between (record { above = p.above; below = p.below; one = p.one; other = p.other; first = to (y - 1) p.one (omega (arith, p.below)) p.first; second = to y p.other p.below p.second; differ = p.differ })

module _ (S : ℕ) (cuts : List ℕ) (rising : IsStrictlyIncreasing cuts) (first : get_or cuts 0 0 ≡ 0) (last : get_or cuts (length cuts - 1) 0 ≡ S)
    (Q : ℕ → Option ℕ → Type 0) (alike : (y w : ℕ) → AreTogether cuts y w → (o : Option ℕ) → Q y o → Q w o) where
  line : ℕ → ℕ
  line j = get_or cuts j 0

  pub first_line : (j : ℕ) → j ≡ 0 → Drawn S Q (get_or cuts j 0)
  first_line j is = at_zero (ap (λ (m : ℕ). get_or cuts m 0) is ∙ first)

  pub last_line : (j : ℕ) → j + 1 ≡ length cuts → Drawn S Q (get_or cuts j 0)
  last_line j is = at_side (let e : j ≡ length cuts - 1 = omega (arith, is) in ap (λ (m : ℕ). get_or cuts m 0) e ∙ last)

  -- a line inside is drawn exactly where the owners before and after it differ
  apart : (j : ℕ) (a b : Option ℕ) → 1 ≤ j → j + 1 < length cuts → ((o : Option ℕ) → Q (get_or cuts (j - 1) 0) o → o ≡ a) → ((o : Option ℕ) → Q (get_or cuts j 0) o → o ≡ b) → Drawn S Q (get_or cuts j 0) → a ≢ b
  apart j a b some within low_only high_only (at_zero e) = λ same. omega (arith, e, first, later S cuts rising first last 0 j (omega (arith, some)) (omega (arith, within)))
  apart j a b some within low_only high_only (at_side e) = λ same. omega (arith, e, last, later S cuts rising first last j (length cuts - 1) (omega (arith, within)) (omega (arith, within)))
  apart j a b some within low_only high_only (between p) = λ same.
      p.differ (low_only p.one (alike (get_or cuts j 0 - 1) (get_or cuts (j - 1) 0) (end_together S cuts rising first last j some (omega (arith, within))) p.one p.first) ∙ same ∙ sym (high_only p.other p.second))

  pub inner_line : (j : ℕ) (a b : Option ℕ) → 1 ≤ j → j + 1 < length cuts → Q (get_or cuts (j - 1) 0) a → ((o : Option ℕ) → Q (get_or cuts (j - 1) 0) o → o ≡ a) → Q (get_or cuts j 0) b → ((o : Option ℕ) → Q (get_or cuts j 0) o → o ≡ b) → (Drawn S Q (get_or cuts j 0) ↔ (a ≢ b))
  inner_line j a b some within low low_only high high_only =
      let above_zero = later S cuts rising first last 0 j (omega (arith, some)) (omega (arith, within)) in
      let below_side = later S cuts rising first last j (length cuts - 1) (omega (arith, within)) (omega (arith, within)) in (
        apart j a b some within low_only high_only,
        λ differ. between (record {
          above = omega (arith, above_zero);
          below = omega (arith, below_side, last);
          one = a;
          other = b;
          first = alike (get_or cuts (j - 1) 0) (get_or cuts j 0 - 1) (start_together S cuts rising first last j some (omega (arith, within))) a low;
          second = high;
          differ = differ;
        }),
      )

  -- what is drawn is a line
  pub is_line : ((y : ℕ) (o p : Option ℕ) → Q y o → Q y p → o ≡ p) → (y : ℕ) → 0 < S → Drawn S Q y → OnLine cuts y
  is_line unique y some (at_zero e) = record { at = 0; within = omega (arith, not_none cuts S last some); here = first ∙ sym e }
  is_line unique y some (at_side e) = record { at = length cuts - 1; within = omega (arith, not_none cuts S last some); here = last ∙ sym e }
  is_line unique y some (between p) = elim (lies S cuts rising first last y some (omega (arith, p.below))) [
    | inl on ↦ on
    | inr (s, inside) ↦
        let t : AreTogether cuts (y - 1) y = record { at = s.at; within = s.within; a_from = omega (arith, inside); a_to = omega (arith, s.to); b_from = s.from; b_to = s.to } in
        absurd (p.differ (unique y p.one p.other (alike (y - 1) y t p.one p.first) p.second))
  ]
