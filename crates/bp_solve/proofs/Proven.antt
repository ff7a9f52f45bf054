-- Certificates that are proved, and answers.
use Rattle.std.proofs.Common.{◌≡◌, ℕ, ◌+◌, ◌-◌, ◌<◌, ◌≤◌, List, length, get_or, All, Option, None, Some, MatchOption, refl, sym, ap, ◌∙◌, subst, arith}
use Rattle.std.proofs.lemmas.List.{get_or_default}
use Rattle.bp_base.specs.declared.point.Floor.{Floor}
use Rattle.bp_base.specs.declared.point.Placement.{Placement}
use Rattle.bp_base.specs.declared.point.Point.{Point}
use Rattle.bp_base.specs.declared.point.Sheet.{Sheet}
use Rattle.bp_base.specs.declared.point.Sheet.TheVariants.{Square, Strip}
use Rattle.bp_base.specs.Limits.{most_document_bytes, most_number}
use Rattle.bp_base.specs.Point.{origin}
use Rattle.bp_base.specs.Tree.{TreeValue, IsTree}
use Rattle.bp_metric.specs.Distance.{most_side}
use Rattle.bp_metric.specs.Floor.{IsFloor}
use Rattle.bp_metric.specs.Metric.{IsSheet, MetricValue}
use Rattle.bp_metric.specs.Opening.{IsOpening, IsOpeningSide, side_of}
use Rattle.bp_metric.specs.Valid.{Lies, NoneBelow, Valid}
use Rattle.bp_opening.specs.Small as opening
use Rattle.bp_base.specs.Point.{IsSmallPoint}
use Rattle.bp_certificate.specs.declared.certificate.Certificate.{Certificate}
use Rattle.bp_certificate.specs.declared.certificate.Lemmas.{Lemmas}
use Rattle.bp_certificate.specs.Ranges.{AreLemmas, IsCertificate}
use Rattle.bp_certificate.specs.Text.{certificate_text}
use Rattle.bp_verify.specs.Certifies.{Certifies, ProvesFrom}
use Rattle.bp_solve.specs.declared.solved.Ending.{Ending}
use Rattle.bp_solve.specs.declared.solved.Ending.TheVariants.{Met, Spent, TooLong, Refused}
use Rattle.bp_solve.specs.declared.solved.Solved.{Solved}
use Rattle.bp_solve.specs.Solved.{EndsBy, IsBoundBy, IsProved, IsReadable, IsSolved}
use Rattle.bp_solve.specs.Steps.{IsBest, IsEndWith, IsEndWithout, IsFloorOf, IsPlain, with_bound}

-- the opening is the best placement so far
pub opening_best : (T : TreeValue) (G : Sheet) (p : Placement) → ((P Q : List Point) → IsOpening T G P → IsOpening T G Q → P ≡ Q) → IsOpening T G p.points → p.side ≡ side_of G p.points → Valid T G 1 p.side p.points → opening.IsSmall p → IsBest T G p
opening_best T G p one is side valid small = record {
  valid = valid;
  small = small.side;
  no_worse = λ u o. omega (arith, side, o.is_side, ap (side_of G) (one p.points o.opening is o.is_opening));
}

-- and so is the better of it and another
pub better_best : (T : TreeValue) (G : Sheet) (p first : Placement) → IsBest T G first → Valid T G 1 p.side p.points → p.side ≤ first.side → IsBest T G p
better_best T G p first best valid less = record {
  valid = valid;
  small = omega (arith, best.small, less);
  no_worse = λ u o. omega (arith, best.no_worse u o, less);
}

lies_small : (G : Sheet) (s : ℕ) (p : Point) → IsSheet G → s ≤ most_side → Lies G 1 s p → IsSmallPoint p
lies_small Square s p sheet small lies = (omega (arith, lies.0, small), omega (arith, lies.1, small))
lies_small (Strip width) s p sheet small lies = (omega (arith, lies.0, sheet), omega (arith, lies.1, small))

small_points : (T : TreeValue) (G : Sheet) (s : ℕ) (P : List Point) → IsSheet G → s ≤ most_side → Valid T G 1 s P → All IsSmallPoint P
small_points T G s P sheet small valid = λ k d less.
    let at : k + 1 - 1 ≡ k = omega arith in
    let lies : Lies G 1 s (get_or P k origin) = subst (λ (n : ℕ). Lies G 1 s (get_or P n origin)) at (valid.inside (k + 1) (omega arith, omega (arith, less, valid.each))) in
    subst IsSmallPoint (get_or_default P k origin d less) (lies_small G s (get_or P k origin) sheet small lies)

module _ (T : TreeValue) (G : Sheet) (tree : IsTree T) (sheet : IsSheet G) (p : Placement) (f : Floor) (best : IsBest T G p) (floor : IsFloorOf T G f) where
  plain_is : IsPlain T G (record { tree = T; sheet = G; side = p.side; bound = f.side; points = p.points; floor = f; lemmas = None })
  plain_is = record {
    tree = refl;
    sheet = refl;
    ranges = record {
      tree = tree;
      sheet = sheet;
      side = omega (arith, best.small);
      bound = omega (arith, floor.small.side);
      each = best.valid.each;
      points = small_points T G p.side p.points sheet best.small best.valid;
      floor = record {
        m = omega (arith, floor.small.m);
        side = omega (arith, floor.small.side);
        leaves = record { some = floor.holds.some; short = floor.small.few; small = λ k d less. omega (arith, floor.small.leaves k d less) };
      };
      lemmas = tt;
    };
    certifies = record { tree = refl; valid = best.valid; floor = floor.holds; bound = omega arith };
    floor = floor.floor;
    bound = refl;
    lemmas = refl;
    no_worse = best.no_worse;
  }

  pub is_plain : (U : TreeValue) (H : Sheet) → U ≡ T → H ≡ G → IsPlain T G (record { tree = U; sheet = H; side = p.side; bound = f.side; points = p.points; floor = f; lemmas = None })
  is_plain U H same on =
      subst (λ (C : Certificate). IsPlain T G C) (λ i. record { tree = sym same i; sheet = sym on i; side = p.side; bound = f.side; points = p.points; floor = f; lemmas = None }) plain_is

-- the ranges of a certificate, by those of it without its lemmas
pub with_ranges : (C : Certificate) → IsCertificate (with_bound C C.bound None) → AreLemmas C.lemmas → IsCertificate C
with_ranges C is lemmas = record { tree = is.tree; sheet = is.sheet; side = is.side; bound = is.bound; each = is.each; points = is.points; floor = is.floor; lemmas = lemmas }

-- what is known of the text of a certificate within its ranges
pub readable_by : (C : Certificate) → IsCertificate C → (o : Option (List ℕ)) → MatchOption o (length (certificate_text C) ≤ most_document_bytes → ⊥) (λ bytes. (bytes ≡ certificate_text C) × (length bytes ≤ most_document_bytes)) → MatchOption o (IsReadable C → ⊥) (λ bytes. (bytes ≡ certificate_text C) × IsReadable C)
readable_by C is None long = λ readable. long readable.short
readable_by C is (Some bytes) h = (h.0, record { ranges = is; short = subst (λ (b : List ℕ). length b ≤ most_document_bytes) h.0 h.1 })

by_less : (floor bound : ℕ) (ls : Option Lemmas) → IsBoundBy floor bound ls → floor ≤ bound
by_less floor bound None is = omega (arith, is)
by_less floor bound (Some L) is = omega (arith, is)

by_floor : (floor bound side : ℕ) (ls : Option Lemmas) → IsBoundBy floor bound ls → bound ≤ side → side ≡ floor → (ls ≡ None) × (bound ≡ side)
by_floor floor bound side None is less same = (refl, is ∙ sym same)
by_floor floor bound side (Some L) is less same = absurd (omega (arith, is, less, same))

-- endings without lemmas, and with them
pub ends_without : (T : TreeValue) (B : ℕ) (C : Certificate) (n side floor : ℕ) (e : Ending) → C.side ≡ side → C.bound ≡ floor → C.lemmas ≡ None → IsEndWithout side floor B n e → EndsBy T B C n e
ends_without T B C n side floor Met same least none is = omega (arith, same, least, is)
ends_without T B C n side floor Spent same least none is = (omega (arith, same, least, is.0), is.1)
ends_without T B C n side floor TooLong same least none is = absurd is
ends_without T B C n side floor Refused same least none is = (omega (arith, same, least, is), none)

ends_with : (T : TreeValue) (B : ℕ) (C : Certificate) (n bound : ℕ) (e : Ending) → C.bound ≡ bound → IsEndWith C.side bound B n e → EndsBy T B C n e
ends_with T B C n bound Met same is = same ∙ is
ends_with T B C n bound Spent same is = (omega (arith, same, is.0), is.1)
ends_with T B C n bound TooLong same is = absurd is
ends_with T B C n bound Refused same is = absurd is

-- what is known of right certificates
module _ (M : MetricValue) (valid : (C : Certificate) → Certifies M.tree C → Valid M.tree C.sheet 1 C.side C.points) (none : (C : Certificate) → C.sheet ≡ M.sheet → Certifies M.tree C → NoneBelow M.tree C.sheet C.bound) (bound : (C : Certificate) → C.sheet ≡ M.sheet → Certifies M.tree C → C.bound ≤ C.side) where
  abbrev T : TreeValue
  T = M.tree

  abbrev G : Sheet
  G = M.sheet

  module _ (s : Solved) (tree : s.certificate.tree ≡ T) (on : s.certificate.sheet ≡ G) (readable : IsReadable s.certificate) (right : Certifies T s.certificate) (floor : IsFloor T G s.certificate.floor) (by : IsBoundBy s.certificate.floor.side s.certificate.bound s.certificate.lemmas) where
    abbrev C : Certificate
    C = s.certificate

    below : NoneBelow T G C.bound
    below = subst (λ (H : Sheet). NoneBelow T H C.bound) on (none C on right)

    is_proved : IsProved T G C
    is_proved = record {
      tree = tree;
      sheet = on;
      readable = readable;
      certifies = right;
      floor = floor;
      no_more = bound C on right;
      no_less = by_less C.floor.side C.bound C.lemmas by;
      none_below = below;
      smallest = λ same. record {
        points = C.points;
        valid = subst (λ (H : Sheet). Valid T H 1 C.side C.points) on (valid C right);
        none_below = subst (NoneBelow T G) same below;
      };
    }

    pub is_solved : s.text ≡ certificate_text C → ((u : ℕ) → IsOpeningSide T G u → C.side ≤ u) → (B : ℕ) → EndsBy T B C s.conflicts s.ending → IsSolved T G B s
    is_solved text no_worse B ending = record {
      proved = is_proved;
      written = record {
        text = text;
        bound = by;
        at_floor = by_floor C.floor.side C.bound C.side C.lemmas by (bound C on right);
        no_worse = no_worse;
        ending = ending;
      };
    }

  pub told_solved : (s : Solved) → IsPlain T G s.certificate → IsReadable s.certificate → s.text ≡ certificate_text s.certificate → (B : ℕ) → EndsBy T B s.certificate s.conflicts s.ending → IsSolved T G B s
  told_solved s is readable text =
      is_solved s is.tree is.sheet readable is.certifies is.floor
      (subst (IsBoundBy s.certificate.floor.side s.certificate.bound) (sym is.lemmas) is.bound) text is.no_worse

  -- a certificate that shows no more than the floor has no greater bound than side
  pub plain_less : (C : Certificate) → IsPlain T G C → C.bound ≤ C.side
  plain_less C is = bound C is.sheet is.certifies

  -- a plain certificate with lemmas that prove a greater bound
  module _ (C : Certificate) (is : IsPlain T G C) (L : Lemmas) (b : ℕ) (more : C.bound < b) (proves : ProvesFrom T G b L L.corner) where
    abbrev D : Certificate
    D = with_bound C b (Some L)

    pub right : Certifies T D
    right = record {
      tree = is.certifies.tree;
      valid = is.certifies.valid;
      floor = is.certifies.floor;
      bound = subst (λ (H : Sheet). ProvesFrom T H b L L.corner) (sym is.sheet) proves;
    }

    pub shown_less : b ≤ C.side
    shown_less = bound D is.sheet right

    -- certificates that are made of these
    module _ (E : Certificate) (is_shown : E ≡ D) (small : b ≤ most_number) where
      pub shown_side : b ≤ E.side
      shown_side = subst (λ (F : Certificate). b ≤ F.side) (sym is_shown) shown_less

      pub same_side : E.side ≡ C.side
      same_side = ap (λ (F : Certificate). F.side) is_shown

      pub shown_ranges : IsCertificate (with_bound E E.bound None)
      shown_ranges =
          subst (λ (F : Certificate). IsCertificate (with_bound F F.bound None)) (sym is_shown)
          (record { tree = is.ranges.tree; sheet = is.ranges.sheet; side = is.ranges.side; bound = small; each = is.ranges.each; points = is.ranges.points; floor = is.ranges.floor; lemmas = tt })

      pub shown_solved : (s : Solved) → s.certificate ≡ E → IsReadable E → s.text ≡ certificate_text E → (B : ℕ) → IsEndWith E.side b B s.conflicts s.ending → IsSolved T G B s
      shown_solved s made readable text B ending =
          let same = made ∙ is_shown in
          is_solved s (ap (λ (F : Certificate). F.tree) same ∙ is.tree) (ap (λ (F : Certificate). F.sheet) same ∙ is.sheet)
          (subst IsReadable (sym made) readable) (subst (Certifies T) (sym same) right)
          (subst (λ (F : Certificate). IsFloor T G F.floor) (sym same) is.floor)
          (subst (λ (F : Certificate). IsBoundBy F.floor.side F.bound F.lemmas) (sym same) (omega (arith, more, is.bound)))
          (text ∙ ap certificate_text (sym made)) (subst (λ (F : Certificate). (u : ℕ) → IsOpeningSide T G u → F.side ≤ u) (sym same) is.no_worse) B
          (subst (λ (F : Certificate). EndsBy T B F s.conflicts s.ending) (sym made) (ends_with T B E s.conflicts b s.ending (ap (λ (F : Certificate). F.bound) is_shown) ending))

      -- without the lemmas again
      module _ (P : Certificate) (bare : P ≡ with_bound E E.floor.side None) where
        abbrev bare_is : Certificate
        bare_is = with_bound C C.floor.side None

        same_bare : P ≡ bare_is
        same_bare = bare ∙ ap (λ (F : Certificate). with_bound F F.floor.side None) is_shown

        pub plain_again : IsPlain T G P
        plain_again = subst (IsPlain T G) (sym same_bare) (record {
          tree = is.tree;
          sheet = is.sheet;
          ranges = record { tree = is.ranges.tree; sheet = is.ranges.sheet; side = is.ranges.side; bound = is.ranges.floor.side; each = is.ranges.each; points = is.ranges.points; floor = is.ranges.floor; lemmas = tt };
          certifies = record { tree = is.certifies.tree; valid = is.certifies.valid; floor = is.certifies.floor; bound = omega arith };
          floor = is.floor;
          bound = refl;
          lemmas = refl;
          no_worse = is.no_worse;
        })

        pub too_long : (IsReadable E → ⊥) → (B n : ℕ) → EndsBy T B P n TooLong
        too_long long B n =
            subst (λ (F : Certificate). EndsBy T B F n TooLong) (sym same_bare)
            (omega (arith, more, shown_less, is.bound), refl, (D, refl, right, omega (arith, more, is.bound), λ readable. long (subst IsReadable (sym is_shown) readable)))
