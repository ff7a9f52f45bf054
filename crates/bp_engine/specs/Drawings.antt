-- What `contours`, `pieces` and `picture` read and write: of a document or of a certificate, which its first line tells.
use Rattle.std.specs.Prelude.{◌≡◌, ◌⊎◌, ℕ, List, [], ◌++◌, take, drop, codes}
use Rattle.std.specs.declared.option.Option.{Option}
use Rattle.std.specs.declared.option.Option.TheVariants.{Some}
use Rattle.bp_base.specs.declared.point.Sheet.TheVariants.{Square}
use Rattle.bp_base.specs.Reading.{Told}
use Rattle.bp_document.specs.declared.document.Document.{Document}
use Rattle.bp_document.specs.declared.fault.DocFault.{DocFault}
use Rattle.bp_document.specs.Faults.{IsTextOf}
use Rattle.bp_check.specs.declared.verdict.Reason.TheVariants.{StripSheet}
use Rattle.bp_check.specs.Streams.{IsRefused as IsRefusedDoc, most_read as most_doc_read}
use Rattle.bp_certificate.specs.declared.certificate.Certificate.{Certificate}
use Rattle.bp_certificate.specs.Faults.{IsTextOf as IsCertificateText}
use Rattle.bp_verify.specs.Certifies.{Certifies}
use Rattle.bp_verify.specs.Reasons.{IsFirstReason}
use Rattle.bp_verify.specs.Streams.{IsRefused as IsRefusedCertificate}
use Rattle.bp_engine.specs.declared.drawing.Drawing.{Drawing}
use Rattle.bp_engine.specs.declared.status.Status.{Status}
use Rattle.bp_engine.specs.declared.status.Status.TheVariants.{Done, DocRefused, ReadFault, NoMemory, No, NoCertificate}
use Rattle.bp_engine.specs.Documents.{IsDrawing, IsDrawn, Writes, no_text}
use Rattle.bp_engine.specs.Reading.{ReadsDoc}
use Rattle.bp_engine.specs.Verifying.{ReadsCertificate, uncertified_text}

-- the first line of the bytes is a certificate's
abbrev pub OpensCertificate : List ℕ → Type 0
OpensCertificate bytes = (rest : List ℕ) × (bytes ≡ codes "boxpleat 3\n" ++ rest)

-- The bytes are neither a document nor a certificate, and this is their first fault as what their first line says that they are.
abbrev pub IsRefusedAsOpened : List ℕ → DocFault → Type 0
IsRefusedAsOpened bytes fault =
    (OpensCertificate bytes × IsRefusedCertificate bytes fault) ⊎ ((OpensCertificate bytes → ⊥) × IsRefusedDoc bytes fault)

-- Why nothing to draw came of a source. What is refused is judged by its bytes, read to the end or to one byte past the limit.
abbrev pub ReadsNothing : Option (List ℕ) → Option (List ℕ) → Status → Type 0
ReadsNothing left after (DocRefused fault) = Told left (λ b. IsRefusedAsOpened (take most_doc_read b) fault × (after ≡ Some (drop most_doc_read b)))
ReadsNothing left after ReadFault = Unit {0}
ReadsNothing left after NoMemory = Unit {0}
ReadsNothing left after status = ⊥

-- A square's certificate that is right of its own tree is answered by its drawing, and each other by the reason
abbrev pub IsCertificateDrawn : Drawing → Certificate → Status → List ℕ → Type 0
IsCertificateDrawn drawing C Done text = (C.sheet ≡ Square) × Certifies C.tree C × IsDrawing drawing C.tree C.side C.bound C.points text
IsCertificateDrawn drawing C (No reason) text = (C.sheet ≡ Square → ⊥) × (reason ≡ StripSheet) × (text ≡ no_text reason)
IsCertificateDrawn drawing C (NoCertificate reason) text = (C.sheet ≡ Square) × IsFirstReason C.tree C reason × (text ≡ uncertified_text reason)
IsCertificateDrawn drawing C status text = ⊥

-- What such a command has read and written: what was left of the source before and after, what the sink held before and after. Either nothing
-- to draw came, or a document or a certificate was answered.
abbrev pub Draws : Drawing → Option (List ℕ) → Option (List ℕ) → Option (List ℕ) → Option (List ℕ) → Status → Type 0
Draws drawing left after held now status =
    (ReadsNothing left after status × (now ≡ held))
    ⊎ (((D : Document) × ReadsDoc left after D × Writes (IsDrawn drawing D) held now status)
    ⊎ ((C : Certificate) × ReadsCertificate left after C × Writes (IsCertificateDrawn drawing C) held now status))

-- Of inner calls: this answers what was read to the end of the source,
abbrev pub AnswersDrawn : Drawing → Option (List ℕ) → Option (List ℕ) → Status → List ℕ → Type 0
AnswersDrawn drawing left after status text =
    ((D : Document) × ReadsDoc left after D × IsDrawn drawing D status text)
    ⊎ ((C : Certificate) × ReadsCertificate left after C × IsCertificateDrawn drawing C status text)

-- or these bytes,
abbrev pub AnswersDocBytes : Drawing → List ℕ → Status → List ℕ → Type 0
AnswersDocBytes drawing bytes status text = (D : Document) × IsTextOf bytes D × IsDrawn drawing D status text

abbrev pub AnswersCertificateBytes : Drawing → List ℕ → Status → List ℕ → Type 0
AnswersCertificateBytes drawing bytes status text = (C : Certificate) × IsCertificateText bytes C × IsCertificateDrawn drawing C status text

abbrev pub AnswersBytes : Drawing → List ℕ → Status → List ℕ → Type 0
AnswersBytes drawing bytes status text = AnswersDocBytes drawing bytes status text ⊎ AnswersCertificateBytes drawing bytes status text

-- or nothing is answered to these bytes, by what they are refused as.
abbrev pub Refuses : (List ℕ → DocFault → Type 0) → List ℕ → Status → Type 0
Refuses IsFault bytes (DocRefused fault) = IsFault bytes fault
Refuses IsFault bytes NoMemory = Unit {0}
Refuses IsFault bytes status = ⊥
