-- Lines that are too long for any form have the same fault.
use Rattle.std.proofs.Common.{◌≡◌, ℕ, suc, ◌+◌, ◌*◌, ◌≤◌, true, false, Bool, List, [], ◌∷◌, ◌++◌, length, All, Option, None, Some, decimal, refl, sym, ◌∙◌, ap, arith, length-append}
use Rattle.std.specs.Prelude.{codes}
use Rattle.std.specs.List.{flat_map}
use Rattle.std.proofs.lemmas.Fmt.{length-decimal-le}
use Rattle.bp_base.specs.declared.path.Pair.{Pair}
use Rattle.bp_base.specs.Limits.{most_number}
use Rattle.bp_document.specs.declared.fault.DocKind.{DocKind}
use Rattle.bp_document.specs.declared.fault.DocKind.TheVariants.{TooLong, Trailing, Cut, BadForm, BadTree, BadPoint, BadDepth}
use Rattle.bp_document.specs.Lines.{line, word}
use Rattle.bp_document.specs.Nodes.{IsPairOfNumbers}
use Rattle.bp_document.specs.Places.{Place as DocPlace}
use Rattle.bp_document.proofs.LongLines.{same_kind as same_document_kind}
use Rattle.bp_document.proofs.Spelling.{end_spelled, field_spelled, form_short, sheet_spelled, tidy_code}
use Rattle.bp_certificate.specs.Lines.{corner_line, count_line, pair_words, swap_line}
use Rattle.bp_certificate.specs.Ranges.{most_line_bytes}
use Rattle.bp_certificate.specs.Words.{IsCornerForm, IsCountForm, IsSwapForm}
use Rattle.bp_certificate.specs.Places.{Place, AtVersion, AtSheet, AtMirror, InBody, AtCount, AtCorner, AtSwapCount, AtSwap, AtLemma, AtEnd, Behind}
use Rattle.bp_certificate.specs.Faults.{HasForm, HasKind, HasOwnKind}
use Rattle.bp_certificate.specs.Scanning.{HasSameFault, IsTooLongForAll}
use Rattle.bp_certificate.proofs.FirstKinds.{IsOwnPlace, of_own, to_own}
use Rattle.bp_certificate.proofs.OpeningSteps.{mirror_text}

short_number : (n : ℕ) → n ≤ most_number → length (decimal n) ≤ 9
short_number n small = length-decimal-le 9 n (omega arith) (omega arith) (omega arith)

line_length : (k : List ℕ) (ws : List (List ℕ)) → length (line k ws) ≡ length k + length (flat_map word ws) + 1
unfolding line
line_length k ws = length-append (k ++ flat_map word ws) (10 ∷ []) ∙ ap (λ (n : ℕ). n + 1) (length-append k (flat_map word ws))

pairs_length : (ps : List Pair) → All IsPairOfNumbers ps → length (flat_map word (flat_map pair_words ps)) ≤ 20 * length ps
pairs_length [] small = omega arith
pairs_length (p ∷ ps) small =
    let here = small 0 p (omega arith) in
    let rest = pairs_length ps (λ k d less. small (suc k) d (omega (arith, less))) in
    omega (arith, rest, short_number p.i here.0, short_number p.j here.1, length-append (decimal p.i) (32 ∷ (decimal p.j ++ flat_map word (flat_map pair_words ps))), length-append (decimal p.j) (flat_map word (flat_map pair_words ps)))

none_text : codes "lemmas none" ++ 10 ∷ [] ≡ count_line None
unfolding line
none_text = refl

no_corner_text : codes "corner none" ++ 10 ∷ [] ≡ corner_line None
unfolding line
no_corner_text = refl

module _ (bytes : List ℕ) where
  with_end : length (bytes ++ 10 ∷ []) ≡ length bytes + 1
  with_end = length-append bytes (10 ∷ [])

  short_count : (count : Option ℕ) → IsCountForm bytes count → length bytes ≤ 400
  short_count None is = omega (arith, with_end, ap length (is.text ∙ sym none_text))
  short_count (Some n) is = (field_spelled bytes (codes "lemmas") n (tidy_code (codes "lemmas") refl refl (omega arith)) (record { text = is.text; small = omega (arith, is.range.1) })).short

  short_corner : (corner : Option Pair) → IsCornerForm bytes corner → length bytes ≤ 400
  short_corner None is = omega (arith, with_end, ap length (is.text ∙ sym no_corner_text))
  short_corner (Some p) is =
      omega (
        arith,
        with_end,
        ap length is.text,
        line_length (codes "corner") (pair_words p),
        length-append (decimal p.i) (32 ∷ (decimal p.j ++ [])),
        length-append (decimal p.j) [],
        short_number p.i is.small.0,
        short_number p.j is.small.1,
      )

  short_swap : (swap : List Pair) → IsSwapForm bytes swap → length bytes ≤ 400
  unfolding swap_line
  short_swap swap is = omega (arith, with_end, ap length is.text, line_length (codes "swap") (flat_map pair_words swap), pairs_length swap is.small.small, is.small.few)

  form_length : (place : Place) → HasForm place bytes → length bytes ≤ most_line_bytes
  form_length AtVersion form = omega (arith, (field_spelled bytes (codes "boxpleat") 3 (tidy_code (codes "boxpleat") refl refl (omega arith)) (record { text = form; small = omega arith })).short)
  form_length AtSheet form = omega (arith, (sheet_spelled bytes form.0 form.1).short)
  form_length AtMirror form = omega (arith, with_end, ap length (form ∙ sym mirror_text))
  form_length (InBody place) form = omega (arith, (form_short place bytes form).1)
  form_length AtCount form = omega (arith, short_count form.0 form.1)
  form_length AtCorner form = omega (arith, short_corner form.0 form.1)
  form_length AtSwapCount form = omega (arith, (field_spelled bytes (codes "swaps") form.0 (tidy_code (codes "swaps") refl refl (omega arith)) (record { text = form.2; small = omega (arith, form.1) })).short)
  form_length AtSwap form = omega (arith, short_swap form.0 form.1)
  form_length AtLemma form = omega (arith, with_end, ap length form.1.text, form.1.small.short)
  form_length AtEnd form = omega (arith, (end_spelled bytes form).short)
  form_length Behind form = absurd form

pub too_long : (bytes : List ℕ) → IsTooLongForAll bytes
too_long bytes long place form = omega (arith, long, form_length bytes place form)

-- the same fault of two forms that neither line has
same_own : (F G : Type 0) → (G → ⊥) → (kind : DocKind) (ended : Bool) → HasOwnKind F kind ended → HasOwnKind G kind ended
same_own F G none TooLong ended h = h
same_own F G none Trailing ended h = h
same_own F G none Cut true h = h
same_own F G none Cut false h = h
same_own F G none BadForm ended h = none
same_own F G none BadTree ended h = h
same_own F G none BadPoint ended h = h
same_own F G none BadDepth ended h = h

module _ (bytes other : List ℕ) (none : (place : Place) → HasForm place bytes → ⊥) (none' : (place : Place) → HasForm place other → ⊥) (ended : Bool) (kind : DocKind) where
  own_kind : (place : Place) → IsOwnPlace place → HasKind place bytes ended kind → HasKind place other ended kind
  own_kind place own h =
      of_own other ended kind place own (same_own (HasForm place bytes) (HasForm place other) (none' place) kind ended (to_own bytes ended kind place own h))

  same_kind : (place : Place) → HasKind place bytes ended kind → HasKind place other ended kind
  same_kind AtVersion h = own_kind AtVersion tt h
  same_kind AtSheet h = own_kind AtSheet tt h
  same_kind AtMirror h = own_kind AtMirror tt h
  same_kind (InBody place) h = same_document_kind bytes other (λ (p : DocPlace) form. none (InBody p) form) (λ (p : DocPlace) form. none' (InBody p) form) place ended kind h
  same_kind AtCount h = own_kind AtCount tt h
  same_kind AtCorner h = own_kind AtCorner tt h
  same_kind AtSwapCount h = own_kind AtSwapCount tt h
  same_kind AtSwap h = own_kind AtSwap tt h
  same_kind AtLemma h = own_kind AtLemma tt h
  same_kind AtEnd h = own_kind AtEnd tt h
  same_kind Behind h = h

pub same_fault : (bytes other : List ℕ) → HasSameFault bytes other
same_fault bytes other long long' place ended kind first =
    record {
      has = same_kind bytes other (too_long bytes long) (too_long other long') ended kind place first.has;
      first = λ k less h. first.first k less (same_kind other bytes (too_long other long') (too_long bytes long) ended k place h);
    }
