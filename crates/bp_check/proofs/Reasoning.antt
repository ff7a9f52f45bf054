-- Reasons: when each is the first, that there is only one, and none against a document that checks.
use Rattle.std.proofs.Common.{◌≡◌, ◌⊎◌, ◌↔◌, ◌||◌, inl, inr, ℕ, ◌<◌, ◌≤◌, Bool, true, false, cond, not, eqb, leb, List, Option, None, Some, Result, Ok, Err, IfOk, refl, sym, ap, ◌∙◌, subst, arith}
use Rattle.std.specs.Cmp.Lexicographic.{pointwise}
use Rattle.std.proofs.lemmas.Bool.{true≢false, leb-true, le-leb, cases_order}
use Rattle.std.proofs.lemmas.Bool.Decides.{Decides-eqb}
use Rattle.std.proofs.lemmas.Slice.Eq.{slice_eq-Decides}
use Rattle.bp_base.specs.declared.point.Point.{Point}
use Rattle.bp_base.specs.declared.point.Floor.{Floor}
use Rattle.bp_base.specs.declared.point.Sheet.{Sheet}
use Rattle.bp_base.specs.declared.refutation.Refutation.{Refutation}
use Rattle.bp_base.specs.Tree.{TreeValue}
use Rattle.bp_metric.specs.Floor.{FloorHolds}
use Rattle.bp_metric.specs.Nodes.{nodes_of}
use Rattle.bp_metric.specs.Valid.{Valid}
use Rattle.bp_pairs.specs.declared.valid.Flaw.{Flaw}
use Rattle.bp_pairs.specs.declared.valid.Flaw.TheVariants as flaw
use Rattle.bp_pairs.specs.Flaws.{IsFlaw, IsFirstOutside, AreFirstNear}
use Rattle.bp_document.specs.declared.document.Document.{Document}
use Rattle.bp_check.specs.declared.found.Found.{Found}
use Rattle.bp_check.specs.declared.found.Found.TheVariants.{Sound, WrongChain, WrongSplit}
use Rattle.bp_check.specs.declared.verdict.Reason.{Reason}
use Rattle.bp_check.specs.declared.verdict.Reason.TheVariants.{TreeDiffers, Outside, TooNear, BadFloor, BadSplit, BadChain, BoundNotShown, StripSheet}
use Rattle.bp_check.specs.declared.verdict.Verdict.{Verdict}
use Rattle.bp_check.specs.declared.verdict.Verdict.TheVariants.{Yes, No}
use Rattle.bp_check.specs.Checks.{Checks, IsAtMost, ProofFits, ProofShows}
use Rattle.bp_check.specs.Reasons.{IsLeast, HasBadSplit, HasBadChain, Fails, rank, IsFirstReason}
use Rattle.bp_check.specs.Found.{found_of}
use Rattle.bp_check.specs.Verdicts.{HasParts, IsSoundSoFar, weight_of, IsFoundOf, IsVerdictOf, reason_of, is_shown, verdict_of}
use Rattle.bp_check.proofs.Judging.{fits_split, fits_chain, found_is}
use Rattle.bp_check.proofs.Kept.{cases_bool}

module _ (T : TreeValue) (D : Document) where
  -- no reason fails a document that checks
  pub none_fails : Checks T D → (r : Reason) → Fails T D r → ⊥
  none_fails checks TreeDiffers fails = fails checks.tree
  none_fails checks (Outside i) fails = fails.outside.1 (checks.valid.inside i fails.outside.0)
  none_fails checks (TooNear i j) fails = omega (arith, fails.near.1, checks.valid.far i j fails.near.0)
  none_fails checks BadFloor fails = fails checks.floor
  none_fails checks (BadSplit k) fails = fits_split T D.sheet D.proof k checks.fits fails.0
  none_fails checks (BadChain k) fails = fits_chain T D.sheet D.proof k checks.fits fails.0
  none_fails checks BoundNotShown fails = fails checks.bound
  none_fails checks StripSheet fails = fails

  one_least : (P : ℕ → Type 0) (k l : ℕ) → IsLeast P k → IsLeast P l → k ≡ l
  one_least P k l (k_is, k_least) (l_is, l_least) = elim (cases_order k l) [
    | inl same ↦ same
    | inr (inl less) ↦ absurd (l_least k less k_is)
    | inr (inr more) ↦ absurd (k_least l more l_is)
  ]

  one_outside : (i k : ℕ) → IsFirstOutside T D.sheet D.side D.points i → IsFirstOutside T D.sheet D.side D.points k → i ≡ k
  one_outside i k first other = elim (cases_order i k) [
    | inl same ↦ same
    | inr (inl less) ↦ absurd (other.earlier i less first.outside)
    | inr (inr more) ↦ absurd (first.earlier k more other.outside)
  ]

  one_near : (i j k l : ℕ) → AreFirstNear T D.points i j → AreFirstNear T D.points k l → (i ≡ k) × (j ≡ l)
  one_near i j k l first other = elim (cases_order i k) [
    | inr (inl less) ↦ absurd (other.earlier i j first.near (inl less))
    | inr (inr more) ↦ absurd (first.earlier k l other.near (inl more))
    | inl same ↦ elim (cases_order j l) [
      | inl also ↦ (same, also)
      | inr (inl less) ↦ absurd (other.earlier i j first.near (inr (same, less)))
      | inr (inr more) ↦ absurd (first.earlier k l other.near (inr (sym same, more)))
    ]
  ]

  one_of_rank : (r s : Reason) → rank r ≡ rank s → Fails T D r → Fails T D s → r ≡ s
  one_of_rank TreeDiffers TreeDiffers same first other = refl
  one_of_rank (Outside i) (Outside k) same first other = ap (λ (n : ℕ). Outside n) (one_outside i k first other)
  one_of_rank (TooNear i j) (TooNear k l) same first other = let both = one_near i j k l first other in λ n. TooNear (both.0 n) (both.1 n)
  one_of_rank BadFloor BadFloor same first other = refl
  one_of_rank (BadSplit k) (BadSplit l) same first other = ap (λ (n : ℕ). BadSplit n) (one_least (HasBadSplit T D.sheet D.proof) k l first other)
  one_of_rank (BadChain k) (BadChain l) same first other = ap (λ (n : ℕ). BadChain n) (one_least (HasBadChain T D.sheet D.proof) k l first other)
  one_of_rank BoundNotShown BoundNotShown same first other = refl
  one_of_rank StripSheet StripSheet same first other = refl
  one_of_rank r s same first other = absurd (omega (arith, same))

  pub one_first : (r s : Reason) → IsFirstReason T D r → IsFirstReason T D s → r ≡ s
  one_first r s first other = elim (cases_order (rank r) (rank s)) [
    | inl same ↦ one_of_rank r s same first.fails other.fails
    | inr (inl less) ↦ absurd (other.first r less first.fails)
    | inr (inr more) ↦ absurd (first.first s more other.fails)
  ]

  pub yes_is : (v : Verdict) → IsVerdictOf T D v → ((v ≡ Yes) ↔ Checks T D)
  yes_is Yes checks = (λ is. checks, λ also. refl)
  yes_is (No r) first = (λ is. absurd (cc), λ checks. absurd (none_fails checks r first.fails))

  pub no_is : (v : Verdict) → IsVerdictOf T D v → (r : Reason) → ((v ≡ No r) ↔ IsFirstReason T D r)
  no_is Yes checks r = (λ is. absurd (cc), λ first. absurd (none_fails checks r first.fails))
  no_is (No s) first r = (
    λ is. let same : s ≡ r = cc in subst (IsFirstReason T D) same first,
    λ other. ap (λ (q : Reason). No q) (one_first s r first other),
  )

  pub no_strip : (v : Verdict) → IsVerdictOf T D v → v ≡ No StripSheet → ⊥
  no_strip v is strip = ((no_is v is StripSheet).0 strip).fails

  pub differs_first : (D.tree ≡ T → ⊥) → IsFirstReason T D TreeDiffers
  differs_first other = record { fails = other; first = λ r less fails. omega (arith, less) }

  pub flaw_first : D.tree ≡ T → (f : Flaw) → IsFlaw T D.sheet D.side D.points f → IsFirstReason T D (reason_of f)
  flaw_first same (flaw.Outside i) is = record { fails = is; first = first }
    where
      first : (r : Reason) → rank r < 1 → Fails T D r → ⊥
      first TreeDiffers less fails = fails same
      first (Outside k) less fails = omega (arith, less)
      first (TooNear k l) less fails = omega (arith, less)
      first BadFloor less fails = omega (arith, less)
      first (BadSplit k) less fails = omega (arith, less)
      first (BadChain k) less fails = omega (arith, less)
      first BoundNotShown less fails = omega (arith, less)
      first StripSheet less fails = omega (arith, less)
  flaw_first same (flaw.Near i j) (inside, near) = record { fails = near; first = first }
    where
      first : (r : Reason) → rank r < 2 → Fails T D r → ⊥
      first TreeDiffers less fails = fails same
      first (Outside k) less fails = fails.outside.1 (inside k fails.outside.0)
      first (TooNear k l) less fails = omega (arith, less)
      first BadFloor less fails = omega (arith, less)
      first (BadSplit k) less fails = omega (arith, less)
      first (BadChain k) less fails = omega (arith, less)
      first BoundNotShown less fails = omega (arith, less)
      first StripSheet less fails = omega (arith, less)

  -- the reasons before those of the proof
  module _ (same : D.tree ≡ T) (valid : Valid T D.sheet 1 D.side D.points) where
    points_pass : (r : Reason) → rank r < 3 → Fails T D r → ⊥
    points_pass TreeDiffers less fails = fails same
    points_pass (Outside i) less fails = fails.outside.1 (valid.inside i fails.outside.0)
    points_pass (TooNear i j) less fails = omega (arith, fails.near.1, valid.far i j fails.near.0)
    points_pass BadFloor less fails = omega (arith, less)
    points_pass (BadSplit k) less fails = omega (arith, less)
    points_pass (BadChain k) less fails = omega (arith, less)
    points_pass BoundNotShown less fails = omega (arith, less)
    points_pass StripSheet less fails = omega (arith, less)

    pub floor_first : (FloorHolds T D.sheet D.floor → ⊥) → IsFirstReason T D BadFloor
    floor_first not = record { fails = not; first = points_pass }

    module _ (floor : FloorHolds T D.sheet D.floor) where
      floor_passes : (r : Reason) → rank r < 4 → Fails T D r → ⊥
      floor_passes BadFloor less fails = fails floor
      floor_passes TreeDiffers less fails = fails same
      floor_passes (Outside i) less fails = points_pass (Outside i) (omega arith) fails
      floor_passes (TooNear i j) less fails = points_pass (TooNear i j) (omega arith) fails
      floor_passes (BadSplit k) less fails = omega (arith, less)
      floor_passes (BadChain k) less fails = omega (arith, less)
      floor_passes BoundNotShown less fails = omega (arith, less)
      floor_passes StripSheet less fails = omega (arith, less)

      split_passes : ((k : ℕ) → HasBadSplit T D.sheet D.proof k → ⊥) → (r : Reason) → rank r < 5 → Fails T D r → ⊥
      split_passes none TreeDiffers less fails = fails same
      split_passes none (Outside i) less fails = floor_passes (Outside i) (omega arith) fails
      split_passes none (TooNear i j) less fails = floor_passes (TooNear i j) (omega arith) fails
      split_passes none BadFloor less fails = fails floor
      split_passes none (BadSplit k) less fails = none k fails.0
      split_passes none (BadChain k) less fails = omega (arith, less)
      split_passes none BoundNotShown less fails = omega (arith, less)
      split_passes none StripSheet less fails = omega (arith, less)

      proof_passes : ProofFits T D.sheet D.proof → (r : Reason) → rank r < 6 → Fails T D r → ⊥
      proof_passes fits TreeDiffers less fails = fails same
      proof_passes fits (Outside i) less fails = floor_passes (Outside i) (omega arith) fails
      proof_passes fits (TooNear i j) less fails = floor_passes (TooNear i j) (omega arith) fails
      proof_passes fits BadFloor less fails = fails floor
      proof_passes fits (BadSplit k) less fails = fits_split T D.sheet D.proof k fits fails.0
      proof_passes fits (BadChain k) less fails = fits_chain T D.sheet D.proof k fits fails.0
      proof_passes fits BoundNotShown less fails = omega (arith, less)
      proof_passes fits StripSheet less fails = omega (arith, less)

      either : (a b : Bool) → (a || b) ≡ true → (a ≡ true) ⊎ (b ≡ true)
      either true b is = inl refl
      either false b is = inr is

      -- the test of the bound decides whether it is shown
      shown_is : (proof : Option Refutation) (w : Option ℕ) → w ≡ weight_of T D.sheet proof → is_shown D.bound D.floor.side w ≡ true → (D.bound ≤ D.floor.side) ⊎ ProofShows T D.sheet D.bound proof
      shown_is None None same_w is = inl (leb-true D.bound D.floor.side is)
      shown_is None (Some w) same_w is = absurd (cc)
      shown_is (Some r) None same_w is = inl (leb-true D.bound D.floor.side is)
      shown_is (Some r) (Some w) same_w is = elim (either (leb D.bound D.floor.side) (leb D.bound w) is) [
        | inl low ↦ inl (leb-true D.bound D.floor.side low)
        | inr high ↦ inr (subst (IsAtMost D.bound) same_w (leb-true D.bound w high))
      ]

      or_true : (a : Bool) → (a || true) ≡ true
      or_true true = refl
      or_true false = refl

      is_shown_low : (w : Option ℕ) → D.bound ≤ D.floor.side → is_shown D.bound D.floor.side w ≡ true
      is_shown_low None less = le-leb D.bound D.floor.side less
      is_shown_low (Some w) less = ap (λ (b : Bool). b || leb D.bound w) (le-leb D.bound D.floor.side less)

      is_shown_high : (w : Option ℕ) → IsAtMost D.bound w → is_shown D.bound D.floor.side w ≡ true
      is_shown_high None less = absurd less
      is_shown_high (Some w) less = ap (λ (b : Bool). leb D.bound D.floor.side || b) (le-leb D.bound w less) ∙ or_true (leb D.bound D.floor.side)

      shown_test : (proof : Option Refutation) (w : Option ℕ) → w ≡ weight_of T D.sheet proof → (D.bound ≤ D.floor.side) ⊎ ProofShows T D.sheet D.bound proof → is_shown D.bound D.floor.side w ≡ true
      shown_test proof w same_w (inl less) = is_shown_low w less
      shown_test None w same_w (inr shows) = absurd shows
      shown_test (Some r) w same_w (inr shows) = is_shown_high w (subst (IsAtMost D.bound) (sym same_w) shows)

      pub verdict_is : (f : Found) → IsFoundOf T D.sheet D.proof f → IsVerdictOf T D (verdict_of D.bound D.floor.side f)
      verdict_is (WrongSplit k) least = record { fails = least; first = floor_passes }
      verdict_is (WrongChain k) (none, least) = record { fails = least; first = split_passes none }
      verdict_is (Sound w) (fits, is) = elim (cases_bool (is_shown D.bound D.floor.side w)) [
        | inl shown ↦ subst (λ (b : Bool). IsVerdictOf T D (cond b Yes (No BoundNotShown))) (sym shown)
            (record { tree = same; valid = valid; floor = floor; fits = fits; bound = shown_is D.proof w is shown })
        | inr not ↦ subst (λ (b : Bool). IsVerdictOf T D (cond b Yes (No BoundNotShown))) (sym not)
            (record { fails = λ shown. true≢false (sym (shown_test D.proof w is shown) ∙ not); first = proof_passes fits })
      ]

pub if_ok : {X E : Type 0} {P Q : X → Type 0} (r : Result X E) → ((x : X) → P x → Q x) → IfOk r P → IfOk r Q
if_ok (Ok x) f is = f x is
if_ok (Err e) f is = is

-- as the code has them: the parts of a document
module _ (T : TreeValue) (D : Document) (tree : TreeValue) (G : Sheet) (s : ℕ) (P : List Point) (floor : Floor) (parts : HasParts D tree G s P floor) where
  pub differs_before : (tree ≡ T → ⊥) → IsFirstReason T D TreeDiffers
  differs_before other = differs_first T D (λ is. other (sym parts.tree_is ∙ is))

  module _ (same : tree ≡ T) where
    pub flaw_before : (f : Flaw) (r : Reason) → r ≡ reason_of f → IsFlaw T G s P f → IsFirstReason T D r
    flaw_before f r is flawed =
        let there : IsFlaw T D.sheet D.side D.points f = subst (λ (Q : List Point). IsFlaw T D.sheet D.side Q f) (sym parts.points_are) (subst (λ (H : Sheet). IsFlaw T H D.side P f) (sym parts.sheet_is) (subst (λ (n : ℕ). IsFlaw T G n P f) (sym parts.side_is) flawed)) in
        subst (IsFirstReason T D) (sym is) (flaw_first T D (parts.tree_is ∙ same) f there)

    valid_here : Valid T G 1 s P → Valid T D.sheet 1 D.side D.points
    valid_here valid =
        subst (λ (Q : List Point). Valid T D.sheet 1 D.side Q) (sym parts.points_are) (subst (λ (H : Sheet). Valid T H 1 D.side P) (sym parts.sheet_is) (subst (λ (n : ℕ). Valid T G 1 n P) (sym parts.side_is) valid))

    pub floor_before : Valid T G 1 s P → (FloorHolds T G floor → ⊥) → IsFirstReason T D BadFloor
    floor_before valid not =
        floor_first T D (parts.tree_is ∙ same) (valid_here valid) (λ holds. not (subst (λ (f : Floor). FloorHolds T G f) parts.floor_is (subst (λ (H : Sheet). FloorHolds T H D.floor) parts.sheet_is holds)))

    pub none_before : Valid T G 1 s P → FloorHolds T G floor → IsSoundSoFar T D
    none_before valid holds = record {
      tree = parts.tree_is ∙ same;
      valid = valid_here valid;
      floor = subst (λ (H : Sheet). FloorHolds T H D.floor) (sym parts.sheet_is) (subst (λ (f : Floor). FloorHolds T G f) (sym parts.floor_is) holds);
    }

-- the verdict of a document without an earlier reason
pub found_verdict : (T : TreeValue) (G : Sheet) (D : Document) (f : Found) (v : Verdict) → D.sheet ≡ G → IsSoundSoFar T D → IsFoundOf T G D.proof f → v ≡ verdict_of D.bound D.floor.side f → IsVerdictOf T D v
found_verdict T G D f v sheet sound found is =
    let here = subst (λ (H : Sheet). IsFoundOf T H D.proof f) (sym sheet) found in
    subst (IsVerdictOf T D) (sym is) (verdict_is T D sound.tree sound.valid sound.floor f here)

pub found_some : (T : TreeValue) (G : Sheet) (proof : Option Refutation) (r : Refutation) (f : Found) → proof ≡ Some r → f ≡ found_of T G 0 (nodes_of T G r) → IsFoundOf T G proof f
found_some T G proof r f is found =
    subst (λ (p : Option Refutation). IsFoundOf T G p f) (sym is) (subst (IsFoundOf T G (Some r)) (sym found) (found_is T G (Some r)))

pub same_tree : (S T : TreeValue) → S.parents ≡ T.parents → S.lengths ≡ T.lengths → S.names ≡ T.names → S ≡ T
same_tree S T parents lengths names = λ i. record { parents = parents i; lengths = lengths i; names = names i }

-- what `!=` on slices of numbers says where it is false
pub same_unless : (xs ys : List ℕ) (r : Bool) → r ≡ not (pointwise eqb xs ys) → r ≡ false → xs ≡ ys
same_unless xs ys r is fails =
    let equal : pointwise eqb xs ys ≡ true = not_false (pointwise eqb xs ys) (sym is ∙ fails) in
    (slice_eq-Decides Decides-eqb xs ys (pointwise eqb xs ys) refl).0 equal
  where
    not_false : (b : Bool) → not b ≡ false → b ≡ true
    not_false true is = refl
    not_false false is = absurd (true≢false is)
