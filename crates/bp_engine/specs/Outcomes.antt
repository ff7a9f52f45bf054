-- What inner calls ask for and give: what `design` is asked, an answer before it is written, and the verdict on a document or certificate.
use Rattle.std.specs.Prelude.{◌≡◌, ◌⊎◌, ℕ, ◌<◌, ◌≤◌, ◌^◌, List, Bool, true}
use Rattle.std.specs.declared.option.Option.{Option}
use Rattle.std.specs.declared.option.Option.TheVariants.{None, Some}
use Rattle.bp_base.specs.declared.point.Sheet.TheVariants.{Square}
use Rattle.bp_base.specs.Causes.{Appends, AppendsFront}
use Rattle.bp_base.specs.Limits.{most_budget, most_hands}
use Rattle.bp_base.specs.Tree.{TreeValue}
use Rattle.bp_metric.specs.Metric.{IsSheet}
use Rattle.bp_document.specs.declared.document.Document.{Document}
use Rattle.bp_check.specs.declared.fault.CheckFault.{CheckFault}
use Rattle.bp_check.specs.declared.fault.CheckFault.TheVariants as fault
use Rattle.bp_check.specs.declared.verdict.Verdict.{Verdict}
use Rattle.bp_check.specs.declared.verdict.Verdict.TheVariants as verdict
use Rattle.bp_certificate.specs.declared.certificate.Certificate.{Certificate}
use Rattle.bp_verify.specs.declared.fault.VerifyFault.{VerifyFault}
use Rattle.bp_verify.specs.declared.fault.VerifyFault.TheVariants as verify_fault
use Rattle.bp_verify.specs.declared.verdict.Verdict.{Verdict as Verification}
use Rattle.bp_verify.specs.declared.verdict.Verdict.TheVariants as verification
use Rattle.bp_words.specs.declared.words.Words.{Words}
use Rattle.bp_words.specs.declared.words.Words.TheVariants.{Design, Made, Trial, Revise, Solve}
use Rattle.bp_words.specs.Words.{AreApart, most_solve_budget}
use Rattle.bp_engine.specs.declared.design.Asked.{Asked}
use Rattle.bp_engine.specs.declared.status.Status.{Status}
use Rattle.bp_engine.specs.declared.status.Status.TheVariants.{Done, DocRefused, GaveUp, ReadFault, WriteFault, NoMemory, No, NoCertificate, ShapeDiffers}
use Rattle.bp_engine.specs.Checking.{yes_text}
use Rattle.bp_engine.specs.Designs.{Sinks, WritesAll, WritesFront}
use Rattle.bp_engine.specs.Documents.{no_text}
use Rattle.bp_engine.specs.Reading.{ReadsDoc, ReadsNoDoc}
use Rattle.bp_engine.specs.Revising.{DiffersInShape, ReadsOtherShape}
use Rattle.bp_engine.specs.Run.{sheet_of}
use Rattle.bp_engine.specs.Verifying.{IsVerified, ReadsCertificate, uncertified_text}

-- a seed, where there is one, is below 2^32
abbrev pub IsSeed : Option ℕ → Type 0
IsSeed None = Unit {0}
IsSeed (Some seed) = seed < 2 ^ 32

-- a strip's width is within its limits, and a drawing is asked for of a square alone
pub record HasSheet (A : Asked) : Type 0 where
  pub sheet : IsSheet A.sheet
  pub square : A.draws ≡ true → A.sheet ≡ Square

-- the same, and a budget of `design`, a number of hands and a seed within their limits
pub record IsAsked (A : Asked) : Type 0 where
  pub placed : HasSheet A
  pub budget : A.budget ≤ most_budget
  pub some : 1 ≤ A.budget
  pub hands : (1 ≤ A.hands) × (A.hands ≤ most_hands)
  pub seed : IsSeed A.replay

-- the same of words
abbrev pub HasRanges : Words → Type 0
HasRanges (Design workers budget replay fold strip steady) = IsSheet (sheet_of strip) × (budget ≤ most_budget) × AreApart fold strip × (1 ≤ budget) × ((1 ≤ workers) × (workers ≤ most_hands)) × IsSeed replay
HasRanges (Made leaves seed) = (2 ≤ leaves) × (leaves ≤ 16) × (seed < 2 ^ 32)
HasRanges (Trial leaves seed) = (2 ≤ leaves) × (leaves ≤ 16) × (seed < 2 ^ 32)
HasRanges (Revise place budget) = budget ≤ most_budget
HasRanges (Solve budget strip fold mirror) = IsSheet (sheet_of strip) × (budget ≤ most_solve_budget) × AreApart fold strip
HasRanges w = Unit {0}

-- which status a document's side and bound give
abbrev pub Ends : Document → Status → Type 0
Ends D Done = D.side ≤ D.bound
Ends D (GaveUp side bound) = (D.bound < D.side) × (side ≡ D.side) × (bound ≡ D.bound)
Ends D status = ⊥

-- what was written of this text and D: what the sinks held before and after
abbrev pub WritesOutcome : Bool → List ℕ → Document → Sinks → Sinks → Status → Type 0
WritesOutcome draws text D held now status =
    (Ends D status × WritesAll draws text D held now)
    ⊎ (((status ≡ WriteFault) × ((meant : Status) × Ends D meant × WritesFront draws text D held now))
    ⊎ ((status ≡ NoMemory) × (now ≡ held)))

-- the statuses that answer a document, and come behind their text
abbrev pub IsFinal : Status → Type 0
IsFinal Done = Unit {0}
IsFinal (GaveUp side bound) = Unit {0}
IsFinal (No reason) = Unit {0}
IsFinal (NoCertificate reason) = Unit {0}
IsFinal status = ⊥

-- the text was written and its status came, or a front of it and a fault of writing
abbrev pub WritesText : Status → List ℕ → Option (List ℕ) → Option (List ℕ) → Status → Type 0
WritesText status text held now result =
    ((result ≡ status) × Appends held now text) ⊎ ((result ≡ WriteFault) × AppendsFront held now text)

-- this answers a document that was read to the end of the source
abbrev pub AnswersDoc : (Document → Status → List ℕ → Type 0) → Option (List ℕ) → Option (List ℕ) → Status → List ℕ → Type 0
AnswersDoc Answers left after status text = (D : Document) × ReadsDoc left after D × Answers D status text

-- why there is no revision: of a document, and of what is left of the source
abbrev pub HasNoRevision : TreeValue → Document → Status → Type 0
HasNoRevision T old status = (status ≡ NoMemory) ⊎ (DiffersInShape T old × (status ≡ ShapeDiffers))

abbrev pub ReadsNoRevision : TreeValue → Option (List ℕ) → Option (List ℕ) → Status → Type 0
ReadsNoRevision T left after status = ReadsNoDoc left after status ⊎ (ReadsOtherShape T left after × (status ≡ ShapeDiffers))

-- the answer to a verdict on a document of this side and bound
abbrev pub IsAnswerTo : ℕ → ℕ → Verdict → Status → List ℕ → Type 0
IsAnswerTo side bound verdict.Yes status text = (status ≡ Done) × (text ≡ yes_text side bound)
IsAnswerTo side bound (verdict.No reason) status text = (status ≡ No reason) × (text ≡ no_text reason)

-- the status of a check that has no verdict
abbrev pub status_of : CheckFault → Status
status_of (fault.Doc f) = DocRefused f
status_of fault.Read = ReadFault
status_of fault.NoMemory = NoMemory

-- this answers a certificate that was read to the end of the source
abbrev pub AnswersCertificate : TreeValue → Option (List ℕ) → Option (List ℕ) → Status → List ℕ → Type 0
AnswersCertificate T left after status text = (C : Certificate) × ReadsCertificate left after C × IsVerified T C status text

-- the answer to a verdict on a certificate of this side and bound
abbrev pub IsVerifiedBy : ℕ → ℕ → Verification → Status → List ℕ → Type 0
IsVerifiedBy side bound verification.Yes status text = (status ≡ Done) × (text ≡ yes_text side bound)
IsVerifiedBy side bound (verification.No reason) status text = (status ≡ NoCertificate reason) × (text ≡ uncertified_text reason)

-- the status where a certificate has no verdict
abbrev pub status_of_fault : VerifyFault → Status
status_of_fault (verify_fault.Doc f) = DocRefused f
status_of_fault verify_fault.Read = ReadFault
status_of_fault verify_fault.NoMemory = NoMemory
