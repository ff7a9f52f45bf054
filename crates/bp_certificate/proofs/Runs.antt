-- A text without fault, line by line: each line leads from what the lines before it told to one thing more.
use Rattle.std.proofs.Common.{◌≡◌, ℕ, ◌+◌, ◌<◌, ◌≤◌, ◌⊎◌, inl, inr, true, List, [], ◌∷◌, ◌++◌, length, Bool, Option, None, Some, refl, sym, ◌∙◌, ap, subst, arith}
use Rattle.std.specs.Prelude.{codes, nat_lt, if◌then◌else◌}
use Rattle.std.specs.List.{flat_map}
use Rattle.std.proofs.lemmas.Bool.{lt-ltb, le-ltb}
use Rattle.std.proofs.lemmas.Grind.{flat_map-append}
use Rattle.std.proofs.lemmas.List.{append-nil}
use Rattle.bp_base.specs.declared.path.Pair.{Pair}
use Rattle.bp_base.specs.declared.point.Sheet.{Sheet}
use Rattle.bp_document.specs.declared.fault.DocKind.{DocKind}
use Rattle.bp_document.specs.declared.fault.DocKind.TheVariants.{TooLong, Trailing, Cut, BadForm, BadTree, BadPoint, BadDepth}
use Rattle.bp_document.specs.declared.head.Head.{Head}
use Rattle.bp_document.specs.Forms.{IsLine, IsSheetLine, version_line, end_line}
use Rattle.bp_document.proofs.OneForm.{field_one, sheet_one}
use Rattle.bp_document.proofs.Runs as doc
use Rattle.bp_document.proofs.Spelling.{IsTidy, NoEnd, end_spelled, field_spelled, sheet_spelled, tidy_code}
use Rattle.bp_certificate.specs.declared.certificate.CertificateHead.{CertificateHead}
use Rattle.bp_certificate.specs.declared.certificate.Lemma.{Lemma}
use Rattle.bp_certificate.specs.Lines.{mirror_line, swaps_line}
use Rattle.bp_certificate.specs.Ranges.{most_swaps}
use Rattle.bp_certificate.specs.Words.{IsCornerForm, IsCountForm, IsLemmaForm, IsSwapForm}
use Rattle.bp_certificate.specs.Places.{Place, AtVersion, AtSheet, AtMirror, InBody, AtCount, AtCorner, AtSwapCount, AtSwap, AtLemma, AtEnd, Behind, count_of, head_of}
use Rattle.bp_certificate.specs.Faults.{HasForm, HasKind, HasOwnKind}
use Rattle.bp_certificate.proofs.FirstKinds.{IsOwnPlace, to_own}
use Rattle.bp_certificate.proofs.OneForms.{corner_one, count_one, lemma_one, swap_one, corner_has_no_end, count_has_no_end, lemma_has_no_end, mirror_has_no_end, swap_has_no_end}

-- What the lines so far told; in the body what those of a document did.
pub data State : Type 0 where
  SVersion : State
  SSheet : State
  SMirror : Sheet → State
  SBody : doc.State → State
  SCount : Head → State
  SCorner : Head → ℕ → State
  SSwapCount : Head → ℕ → Option Pair → State
  SSwaps : Head → ℕ → Option Pair → ℕ → List (List Pair) → State
  SLemmas : CertificateHead → List Lemma → State
  SBehind : CertificateHead → List Lemma → State

-- behind the floor comes the number of lemmas
abbrev pub behind : doc.State → State
behind (doc.SProof H) = SCount H
behind s = SBody s

-- behind the number of lemmas
abbrev pub counted : Head → Option ℕ → State
counted D None = SLemmas (head_of D None) []
counted D (Some count) = SCorner D count

-- the next swap, or the lemmas behind the last one
abbrev pub swaps_or : Head → ℕ → Option Pair → ℕ → List (List Pair) → Bool → State
swaps_or D count corner total swaps more =
    if more then SSwaps D count corner total swaps else SLemmas (head_of D (Some (record { count = count; corner = corner; swaps = swaps }))) []

abbrev pub at_swaps : Head → ℕ → Option Pair → ℕ → List (List Pair) → State
at_swaps D count corner total swaps = swaps_or D count corner total swaps (nat_lt (length swaps) total)

abbrev pub lemma_place : Bool → Place
lemma_place more = if more then AtLemma else AtEnd

abbrev pub place_at : State → Place
place_at SVersion = AtVersion
place_at SSheet = AtSheet
place_at (SMirror G) = AtMirror
place_at (SBody s) = InBody (doc.place_at s)
place_at (SCount D) = AtCount
place_at (SCorner D count) = AtCorner
place_at (SSwapCount D count corner) = AtSwapCount
place_at (SSwaps D count corner total swaps) = AtSwap
place_at (SLemmas H ls) = lemma_place (nat_lt (length ls) (count_of H.plan))
place_at (SBehind H ls) = Behind

-- the line has no fault, and leads from one state to the next
abbrev pub Goes : State → List ℕ → State → Type 0
Goes SVersion b S = IsLine b (version_line 3) × (S ≡ SSheet)
Goes SSheet b S = (G : Sheet) × IsSheetLine b G × (S ≡ SMirror G)
Goes (SMirror G) b S = IsLine b mirror_line × (S ≡ SBody (doc.SEdges G))
Goes (SBody s) b S = (t : doc.State) × doc.Goes s b t × (S ≡ behind t)
Goes (SCount D) b S = (count : Option ℕ) × IsCountForm b count × (S ≡ counted D count)
Goes (SCorner D count) b S = (corner : Option Pair) × IsCornerForm b corner × (S ≡ SSwapCount D count corner)
Goes (SSwapCount D count corner) b S = (total : ℕ) × (total ≤ most_swaps) × IsLine b (swaps_line total) × (S ≡ at_swaps D count corner total [])
Goes (SSwaps D count corner total swaps) b S = (swap : List Pair) × IsSwapForm b swap × (S ≡ at_swaps D count corner total (swaps ++ swap ∷ []))
Goes (SLemmas H ls) b S =
    ((length ls < count_of H.plan) × (l : Lemma) × IsLemmaForm b l × (S ≡ SLemmas H (ls ++ l ∷ [])))
    ⊎ ((count_of H.plan ≤ length ls) × IsLine b end_line × (S ≡ SBehind H ls))
Goes (SBehind H ls) b S = ⊥

key_swaps : IsTidy 9 (codes "swaps")
key_swaps = tidy_code (codes "swaps") refl refl (omega arith)

key_version : IsTidy 9 (codes "boxpleat")
key_version = tidy_code (codes "boxpleat") refl refl (omega arith)

-- a line leads to one state
pub one_next : (b : List ℕ) (S U R : State) → Goes R b S → Goes R b U → S ≡ U
one_next b S U SVersion x y = x.1 ∙ sym y.1
one_next b S U SSheet x y = x.2 ∙ ap SMirror (sheet_one b x.0 y.0 x.1 y.1) ∙ sym y.2
one_next b S U (SMirror G) x y = x.1 ∙ sym y.1
one_next b S U (SBody s) x y = x.2 ∙ ap behind (doc.one_next b x.0 y.0 s x.1 y.1) ∙ sym y.2
one_next b S U (SCount D) x y = x.2 ∙ ap (counted D) (count_one b x.0 y.0 x.1 y.1) ∙ sym y.2
one_next b S U (SCorner D count) x y = x.2 ∙ ap (SSwapCount D count) (corner_one b x.0 y.0 x.1 y.1) ∙ sym y.2
one_next b S U (SSwapCount D count corner) x y =
    x.3 ∙ ap (λ (n : ℕ). at_swaps D count corner n []) (field_one b (codes "swaps") key_swaps x.0 y.0 (record { text = x.2; small = omega (arith, x.1) }) (record { text = y.2; small = omega (arith, y.1) })) ∙ sym y.3
one_next b S U (SSwaps D count corner total swaps) x y =
    x.2 ∙ ap (λ (swap : List Pair). at_swaps D count corner total (swaps ++ swap ∷ [])) (swap_one b x.0 y.0 x.1 y.1) ∙ sym y.2
one_next b S U (SLemmas H ls) (inl x) (inl y) = x.3 ∙ ap (λ (l : Lemma). SLemmas H (ls ++ l ∷ [])) (lemma_one b x.1 y.1 x.2 y.2) ∙ sym y.3
one_next b S U (SLemmas H ls) (inl x) (inr y) = absurd (omega (arith, x.0, y.0))
one_next b S U (SLemmas H ls) (inr x) (inl y) = absurd (omega (arith, x.0, y.0))
one_next b S U (SLemmas H ls) (inr x) (inr y) = x.2 ∙ sym y.2
one_next b S U (SBehind H ls) x y = absurd x

-- a line of its form has no fault
abbrev pub IsFineAt : List ℕ → Place → Type 0
IsFineAt b place = HasForm place b × ((kind : DocKind) → HasKind place b true kind → ⊥)

none_of_form : (Form : Type 0) → Form → (kind : DocKind) → HasOwnKind Form kind true → ⊥
none_of_form Form form TooLong h = h
none_of_form Form form Trailing h = h
none_of_form Form form Cut h = h
none_of_form Form form BadForm h = h form
none_of_form Form form BadTree h = h
none_of_form Form form BadPoint h = h
none_of_form Form form BadDepth h = h

own_fine : (b : List ℕ) (place : Place) → IsOwnPlace place → HasForm place b → IsFineAt b place
own_fine b place own form = (form, λ kind h. none_of_form (HasForm place b) form kind (to_own b true kind place own h))

lemmas_fine : (b : List ℕ) (S : State) (H : CertificateHead) (ls : List Lemma) → Goes (SLemmas H ls) b S → IsFineAt b (place_at (SLemmas H ls))
lemmas_fine b S H ls (inl x) = subst (IsFineAt b) (sym (ap lemma_place (lt-ltb (length ls) (count_of H.plan) x.0))) (own_fine b AtLemma tt (x.1, x.2))
lemmas_fine b S H ls (inr x) = subst (IsFineAt b) (sym (ap lemma_place (le-ltb (length ls) (count_of H.plan) x.0))) (own_fine b AtEnd tt x.1)

-- a line that leads on has its form, and no fault
pub fine : (b : List ℕ) (S R : State) → Goes R b S → IsFineAt b (place_at R)
fine b S SVersion x = own_fine b AtVersion tt x.0
fine b S SSheet x = own_fine b AtSheet tt (x.0, x.1)
fine b S (SMirror G) x = own_fine b AtMirror tt x.0
fine b S (SBody s) x = let here = doc.fine b x.0 s x.1 in (here.0, here.1)
fine b S (SCount D) x = own_fine b AtCount tt (x.0, x.1)
fine b S (SCorner D count) x = own_fine b AtCorner tt (x.0, x.1)
fine b S (SSwapCount D count corner) x = own_fine b AtSwapCount tt (x.0, x.1, x.2)
fine b S (SSwaps D count corner total swaps) x = own_fine b AtSwap tt (x.0, x.1)
fine b S (SLemmas H ls) x = lemmas_fine b S H ls x
fine b S (SBehind H ls) x = absurd x

lemmas_free : (b : List ℕ) (S : State) (H : CertificateHead) (ls : List Lemma) → Goes (SLemmas H ls) b S → NoEnd b
lemmas_free b S H ls (inl x) = lemma_has_no_end b x.1 x.2
lemmas_free b S H ls (inr x) = (end_spelled b x.1).free

-- it holds no LF
pub goes_free : (b : List ℕ) (S R : State) → Goes R b S → NoEnd b
goes_free b S SVersion x = (field_spelled b (codes "boxpleat") 3 key_version (record { text = x.0; small = omega arith })).free
goes_free b S SSheet x = (sheet_spelled b x.0 x.1).free
goes_free b S (SMirror G) x = mirror_has_no_end b x.0
goes_free b S (SBody s) x = (doc.goes_short b x.0 s x.1).0
goes_free b S (SCount D) x = count_has_no_end b x.0 x.1
goes_free b S (SCorner D count) x = corner_has_no_end b x.0 x.1
goes_free b S (SSwapCount D count corner) x = (field_spelled b (codes "swaps") x.0 key_swaps (record { text = x.2; small = omega (arith, x.1) })).free
goes_free b S (SSwaps D count corner total swaps) x = swap_has_no_end b x.0 x.1
goes_free b S (SLemmas H ls) x = lemmas_free b S H ls x
goes_free b S (SBehind H ls) x = absurd x

abbrev pub Run : State → List (List ℕ) → State → Type 0
Run S [] U = S ≡ U
Run S (b ∷ bs) U = (M : State) × Goes S b M × Run M bs U

-- the lines of the text lead to this state
pub record Reaches (text : List ℕ) (S : State) : Type 0 where
  pub lines : List (List ℕ)
  pub run : Run SVersion lines S
  pub is : text ≡ doc.unlines lines

pub run_then : (bs cs : List (List ℕ)) (S M U : State) → Run S bs M → Run M cs U → Run S (bs ++ cs) U
run_then [] cs S M U same run = subst (λ (X : State). Run X cs U) (sym same) run
run_then (b ∷ bs) cs S M U first run = (first.0, first.1, run_then bs cs first.0 M U first.2 run)

-- more lines
pub reach_then : (text : List ℕ) (S U : State) (cs : List (List ℕ)) → Reaches text S → Run S cs U → Reaches (text ++ doc.unlines cs) U
reach_then text S U cs reaches run =
    record {
      lines = reaches.lines ++ cs;
      run = run_then reaches.lines cs SVersion S U reaches.run run;
      is = ap (λ (t : List ℕ). t ++ doc.unlines cs) reaches.is ∙ sym (flat_map-append (λ (c : List ℕ). c ++ 10 ∷ []) reaches.lines cs);
    }

pub moved : (t u : List ℕ) (S U : State) → t ≡ u → S ≡ U → Reaches t S → Reaches u U
moved t u S U same is reaches = subst (λ (v : List ℕ). Reaches v U) same (subst (Reaches t) is reaches)

-- one line more
pub reach_more : (text : List ℕ) (S : State) (b : List ℕ) (U : State) (l : List ℕ) → Reaches text S → Goes S b U → b ++ 10 ∷ [] ≡ l → Reaches (text ++ l) U
reach_more text S b U l reaches goes here =
    moved (text ++ doc.unlines (b ∷ [])) (text ++ l) U U (ap (λ (t : List ℕ). text ++ t) (append-nil (b ++ 10 ∷ []) ∙ here)) refl (reach_then text S U (b ∷ []) reaches (U, goes, refl))
