-- What the lines fed so far have told, in the words of `LeadsTo`.
use Rattle.std.specs.Prelude.{◌≡◌, ◌⊎◌, ℕ, ◌+◌, ◌-◌, ◌<◌, ◌≤◌, List, [], ◌∷◌, ◌++◌, length, Option, None, Some, Result, Ok, Err, Bool, true, false}
use Rattle.bp_base.specs.declared.path.Pair.{Pair}
use Rattle.bp_base.specs.declared.point.Sheet.{Sheet as AnySheet}
use Rattle.bp_metric.specs.Metric.{IsSheet}
use Rattle.bp_tree.specs.declared.edge.Edge.{Edge}
use Rattle.bp_document.specs.declared.fault.DocKind.{DocKind}
use Rattle.bp_document.specs.declared.head.Head.{Head}
use Rattle.bp_document.specs.declared.stage.Stage.{Stage as DocStage}
use Rattle.bp_document.specs.declared.stage.Stage.TheVariants.{Edges as DocEdges, Edge as DocEdge, Side as DocSide, Bound as DocBound, Points as DocPoints, Proof as DocProof}
use Rattle.bp_document.specs.Lines.{sheet_line}
use Rattle.bp_document.specs.Forms.{version_line, end_line}
use Rattle.bp_document.specs.Stages.{IsFresh, IsWhole as IsWholeDocument, IsWithin as IsWithinDocument, Stands as StandsInDocument, place_of as doc_place_of, head_of as doc_head_of}
use Rattle.bp_certificate.specs.declared.certificate.CertificateHead.{CertificateHead}
use Rattle.bp_certificate.specs.declared.certificate.Lemma.{Lemma}
use Rattle.bp_certificate.specs.declared.stage.Halt.{Halt}
use Rattle.bp_certificate.specs.declared.stage.Halt.TheVariants.{Fault, NoMemory}
use Rattle.bp_certificate.specs.declared.stage.Stage.{Stage}
use Rattle.bp_certificate.specs.declared.stage.Stage.TheVariants.{Version, Sheet, Mirror, Body, Count, Corner, SwapCount, Swaps, Lemmas, End, Behind as BehindStage, Broken}
use Rattle.bp_certificate.specs.declared.stage.Step.{Step}
use Rattle.bp_certificate.specs.Text.{opening_text}
use Rattle.bp_certificate.specs.Ranges.{IsCornerLine, IsLemmaCount, most_swaps}
use Rattle.bp_certificate.specs.Words.{IsLemmaForm}
use Rattle.bp_certificate.specs.Places.{Place, AtVersion, AtSheet, AtMirror, InBody, AtCount, AtCorner, AtSwapCount, AtSwap, AtLemma, AtEnd, Behind, IsDesign, LeadsToLemmas, LeadsToSwaps, count_of, counted_part, cornered_part, design_part, document_opening, head_of}
use Rattle.bp_certificate.specs.Faults.{HasForm, IsFirstKind}

-- a document's stage of a line from the number of edges to the floor
abbrev pub IsBodyStage : DocStage → Type 0
IsBodyStage (DocEdges G m) = Unit {0}
IsBodyStage (DocEdge G count left m) = Unit {0}
IsBodyStage (DocSide p) = Unit {0}
IsBodyStage (DocBound p) = Unit {0}
IsBodyStage (DocPoints p) = Unit {0}
IsBodyStage s = ⊥

-- Behind the start of a document what was fed behind that of a certificate stands at this stage.
abbrev pub StandsInBody : List ℕ → List Edge → DocStage → Type 0
StandsInBody text es s =
    (G : AnySheet) × (part : List ℕ) × IsSheet G × (text ≡ opening_text G ++ part) × StandsInDocument (document_opening G ++ part) es [] s

-- the lemmas so far, and how many are left
pub record StandsAtLemmas (text : List ℕ) (ls : List Lemma) (H : CertificateHead) (left : ℕ) : Type 0 where
  pub leads : LeadsToLemmas text H ls
  pub rest : length ls + left ≡ count_of H.plan

-- The text has no fault, and this is what its lines told; these are its edges as long as they are read, and its lemmas.
abbrev pub Stands : List ℕ → List Edge → List Lemma → Stage → Type 0
Stands text es ls (Version m) = (text ≡ []) × (ls ≡ []) × IsFresh m
Stands text es ls (Sheet m) = (text ≡ version_line 3) × (ls ≡ []) × IsFresh m
Stands text es ls (Mirror G m) = (text ≡ version_line 3 ++ sheet_line G) × (ls ≡ []) × IsSheet G × IsFresh m
Stands text es ls (Body s) = IsBodyStage s × (ls ≡ []) × StandsInBody text es s
Stands text es ls (Count D) = (text ≡ design_part D) × (ls ≡ []) × IsDesign D
Stands text es ls (Corner D count) = (text ≡ counted_part D (Some count)) × (ls ≡ []) × IsDesign D × IsLemmaCount count
Stands text es ls (SwapCount D count corner) =
    (text ≡ cornered_part D count corner) × (ls ≡ []) × IsDesign D × IsLemmaCount count × IsCornerLine corner
Stands text es ls (Swaps D count corner total swaps) = LeadsToSwaps text D count corner total swaps × (ls ≡ []) × (length swaps < total)
Stands text es ls (Lemmas H left) = StandsAtLemmas text ls H left × (1 ≤ left)
Stands text es ls (End H) = StandsAtLemmas text ls H 0
Stands text es ls (BehindStage H) = (before : List ℕ) × (text ≡ before ++ end_line) × StandsAtLemmas before ls H 0
Stands text es ls Broken = ⊥

-- no line had a fault
abbrev pub IsWhole : Stage → Type 0
IsWhole Broken = ⊥
IsWhole s = Unit {0}

-- the head, from the line before the lemmas on
abbrev pub told_head : Stage → Option CertificateHead
told_head (Lemmas H left) = Some H
told_head (End H) = Some H
told_head (BehindStage H) = Some H
told_head s = None

abbrev pub place_of : Stage → List Edge → Place
place_of (Version m) es = AtVersion
place_of (Sheet m) es = AtSheet
place_of (Mirror G m) es = AtMirror
place_of (Body s) es = InBody (doc_place_of s es)
place_of (Count D) es = AtCount
place_of (Corner D count) es = AtCorner
place_of (SwapCount D count corner) es = AtSwapCount
place_of (Swaps D count corner total swaps) es = AtSwap
place_of (Lemmas H left) es = AtLemma
place_of (End H) es = AtEnd
place_of (BehindStage H) es = Behind
place_of Broken es = Behind

-- at most so many lines lead to this stage
abbrev pub IsWithin : Stage → ℕ → Type 0
IsWithin (Version m) lines = lines ≤ 0
IsWithin (Sheet m) lines = lines ≤ 1
IsWithin (Mirror G m) lines = lines ≤ 2
IsWithin (Body s) lines = (before : ℕ) × (lines ≡ before + 1) × IsWithinDocument s before × IsWholeDocument s
IsWithin (Count D) lines = lines ≤ 1000000
IsWithin (Corner D count) lines = lines + count ≤ 3000001
IsWithin (SwapCount D count corner) lines = lines + count ≤ 3000002
IsWithin (Swaps D count corner total swaps) lines = (lines + count ≤ 3000003 + length swaps) × (length swaps < total) × (total ≤ most_swaps)
IsWithin (Lemmas H left) lines = lines + left ≤ 3001000
IsWithin (End H) lines = lines ≤ 3001001
IsWithin (BehindStage H) lines = lines ≤ 3001002
IsWithin Broken lines = Unit {0}

-- the lemma that a line gives, behind the others
abbrev pub with_lemma : List Lemma → Option Lemma → List Lemma
with_lemma ls None = ls
with_lemma ls (Some l) = ls ++ l ∷ []

-- A lemma is given exactly where the line is a lemma's.
abbrev pub GivesLemma : Place → List ℕ → Option Lemma → Type 0
GivesLemma AtLemma bytes (Some l) = IsLemmaForm bytes l
GivesLemma AtLemma bytes None = ⊥
GivesLemma place bytes (Some l) = ⊥
GivesLemma place bytes None = Unit {0}

-- What follows a line of the body: behind the floor it is the number of lemmas.
abbrev pub IsNext : DocStage → Stage → Type 0
IsNext (DocProof p m side) s = s ≡ Count (doc_head_of p m side)
IsNext d s = s ≡ Body d

-- What follows some swaps of so many: the next one, or the lemmas.
abbrev pub IsAtSwaps : Head → ℕ → Option Pair → ℕ → List (List Pair) → Stage → Type 0
IsAtSwaps D count corner total swaps s =
    ((length swaps < total) × (s ≡ Swaps D count corner total swaps))
    ⊎ ((total ≤ length swaps) × (s ≡ Lemmas (head_of D (Some (record { count = count; corner = corner; swaps = swaps }))) count))

-- What follows a lemma where so many were left.
abbrev pub IsBehindLemma : CertificateHead → ℕ → Stage → Type 0
IsBehindLemma H left s = ((1 < left) × (s ≡ Lemmas H (left - 1))) ⊎ ((left ≤ 1) × (s ≡ End H))

-- the line has this first fault
abbrev pub Falls : Stage → List ℕ → Bool → DocKind → Type 0
Falls s bytes ended kind = (text : List ℕ) (es : List Edge) (ls : List Lemma) → Stands text es ls s → IsFirstKind (place_of s es) bytes ended kind

-- the first fault of any line without its LF
abbrev pub Cuts : Stage → DocKind → Type 0
Cuts s kind = (bytes : List ℕ) → Falls s bytes false kind

-- What a line that has its LF does at a stage: it leads on to the next and maybe gives a lemma, and a head that was told stays.
pub record StepsOn (s : Stage) (bytes : List ℕ) (step : Step) : Type 0 where
  pub whole : IsWhole step.stage
  pub head : (H : CertificateHead) → told_head s ≡ Some H → told_head step.stage ≡ Some H
  pub within : (lines : ℕ) → IsWithin s lines → IsWithin step.stage (lines + 1)
  pub on : (text : List ℕ) (es : List Edge) (ls : List Lemma) → Stands text es ls s → (next : List Edge) × HasForm (place_of s es) bytes × GivesLemma (place_of s es) bytes step.lemma × Stands (text ++ (bytes ++ 10 ∷ [])) next (with_lemma ls step.lemma) step.stage

-- The same, or the line has this first fault. Memory may lack.
abbrev pub Steps : Stage → List ℕ → Result Step Halt → Type 0
Steps s bytes (Ok step) = StepsOn s bytes step
Steps s bytes (Err (Fault kind)) = Falls s bytes true kind
Steps s bytes (Err NoMemory) = Unit {0}

-- the same for a line that has its LF or not
abbrev pub StepsOrCuts : Stage → List ℕ → Bool → Result Step Halt → Type 0
StepsOrCuts s bytes ended (Ok step) = (ended ≡ true) × StepsOn s bytes step
StepsOrCuts s bytes ended (Err (Fault kind)) = Falls s bytes ended kind
StepsOrCuts s bytes ended (Err NoMemory) = Unit {0}
