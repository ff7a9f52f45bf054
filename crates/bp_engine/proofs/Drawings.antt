-- What is drawn of a document or a certificate, and the text that answers it.
use Rattle.std.proofs.Common.{◌≡◌, ◌≤◌, ◌⊎◌, inl, inr, ℕ, List, [], ◌++◌, get_or, take, drop, codes, Result, Ok, Err, IfOk, IfErr, refl, sym, ap, ◌∙◌, subst, arith}
use Rattle.std.specs.Fmt.{digits}
use Rattle.std.specs.declared.option.Option.{Option}
use Rattle.std.specs.declared.option.Option.TheVariants.{None, Some}
use Rattle.std.proofs.lemmas.List.{take_all}
use Rattle.bp_base.specs.declared.point.Sheet.{Sheet}
use Rattle.bp_base.specs.declared.point.Sheet.TheVariants.{Square, Strip}
use Rattle.bp_base.specs.Limits.{most_number}
use Rattle.bp_metric.specs.Valid.{Valid}
use Rattle.bp_base.specs.Reading.{IsReadTo}
use Rattle.bp_document.specs.declared.document.Document.{Document}
use Rattle.bp_document.specs.declared.fault.DocFault.{DocFault}
use Rattle.bp_document.specs.Faults.{IsDocFault, IsTextOf}
use Rattle.bp_document.specs.Lines.{line}
use Rattle.bp_document.specs.Text.{first_text, doc_text}
use Rattle.bp_check.specs.declared.verdict.Reason.TheVariants.{StripSheet}
use Rattle.bp_check.specs.Streams.{IsRefused as IsRefusedDoc, most_read as most_doc_read}
use Rattle.bp_certificate.specs.declared.certificate.Certificate.{Certificate}
use Rattle.bp_certificate.specs.Faults.{IsTextOf as IsCertificateText}
use Rattle.bp_certificate.specs.Places.{certificate_of}
use Rattle.bp_certificate.specs.Text.{certificate_text, opening_text}
use Rattle.bp_engine.specs.declared.drawing.Drawing.{Drawing}
use Rattle.bp_engine.specs.declared.status.Status.{Status}
use Rattle.bp_engine.specs.declared.status.Status.TheVariants.{Done, DocRefused, ReadFault, WriteFault, NoMemory, No as RefusedBy, NoCertificate}
use Rattle.bp_engine.specs.Documents.{IsDrawing, IsDrawn, Writes, no_text}
use Rattle.bp_engine.specs.Drawings.{AnswersBytes, AnswersCertificateBytes, AnswersDocBytes, AnswersDrawn, Draws, IsCertificateDrawn, IsRefusedAsOpened, OpensCertificate, ReadsNothing, Refuses}
use Rattle.bp_verify.specs.declared.fault.VerifyFault.{VerifyFault}
use Rattle.bp_verify.specs.declared.fault.VerifyFault.TheVariants as fault
use Rattle.bp_verify.specs.declared.own.Own.{Own}
use Rattle.bp_verify.specs.declared.verdict.Reason.{Reason}
use Rattle.bp_verify.specs.declared.verdict.Verdict.{Verdict}
use Rattle.bp_verify.specs.declared.verdict.Verdict.TheVariants.{Yes, No}
use Rattle.bp_verify.specs.Certifies.{Certifies}
use Rattle.bp_verify.specs.Own.{IsOwn, VerifiesOwn}
use Rattle.bp_verify.specs.Verdicts.{IsVerdictOf}
use Rattle.bp_verify.specs.Streams.{IsRefused as IsRefusedCertificate}
use Rattle.bp_engine.specs.Outcomes.{WritesText, status_of_fault}
use Rattle.bp_engine.specs.Reading.{ReadsDoc}
use Rattle.bp_engine.specs.Run.{IsDoneOrNo, IsDoneOrUncertified, IsDrawnToEnd}
use Rattle.bp_engine.specs.Verifying.{ReadsCertificate, uncertified_text}
use Rattle.bp_engine.proofs.Answered.{writes}
use Rattle.bp_engine.proofs.BytesRead.{reads_certificate, reads_doc, refuses_both}

-- what was answered was written, or why there was nothing to answer
module _ {V : Type 0} (status_of : V → Status) (words : V → List ℕ) (drawing : Drawing) (left after held now : Option (List ℕ)) (result : Status) where
  pub drawn_handled : (answered : Result V Status) → IfOk answered (λ v. AnswersDrawn drawing left after (status_of v) (words v)) → IfErr answered (λ s. ReadsNothing left after s) → IfOk answered (λ v. WritesText (status_of v) (words v) held now result) → IfErr answered (λ s. (result ≡ s) × (now ≡ held)) → Draws drawing left after held now result
  drawn_handled (Ok v) (inl a) none w same = inr (inl (a.0, a.1, writes (IsDrawn drawing a.0) held now (status_of v) result (words v) a.2 w))
  drawn_handled (Ok v) (inr a) none w same = inr (inr (a.0, a.1, writes (IsCertificateDrawn drawing a.0) held now (status_of v) result (words v) a.2 w))
  drawn_handled (Err s) a none w same = inl (subst (λ (r : Status). ReadsNothing left after r) (sym same.0) none, same.1)

-- what answers the bytes of a source answers the source
pub answered_source : (drawing : Drawing) (left after : Option (List ℕ)) (bytes : List ℕ) (status : Status) (text : List ℕ) → IsReadTo most_doc_read left after bytes → AnswersBytes drawing bytes status text → AnswersDrawn drawing left after status text
answered_source drawing left after bytes status text read (inl a) = inl (a.0, reads_doc left after bytes a.0 read a.1, a.2)
answered_source drawing left after bytes status text read (inr a) = inr (a.0, reads_certificate left after bytes a.0 read a.1, a.2)

module _ {V : Type 0} (status_of : V → Status) (words : V → List ℕ) (drawing : Drawing) (left after : Option (List ℕ)) (bytes : List ℕ) (read : IsReadTo most_doc_read left after bytes) where
  pub all_answered : (r : Result V Status) → IfOk r (λ v. AnswersBytes drawing bytes (status_of v) (words v)) → IfOk r (λ v. AnswersDrawn drawing left after (status_of v) (words v))
  all_answered (Ok v) a = answered_source drawing left after bytes (status_of v) (words v) read a
  all_answered (Err s) a = tt

  pub all_refused : (r : Result V Status) → IfErr r (λ s. Refuses IsRefusedAsOpened bytes s) → IfErr r (λ s. ReadsNothing left after s)
  all_refused (Ok v) none = tt
  all_refused (Err s) none = refuses_both left after bytes s read none

-- bytes are never a fault of reading
not_read : (IsFault : List ℕ → DocFault → Type 0) (bytes : List ℕ) (status : Status) → Refuses IsFault bytes status → status ≡ ReadFault → ⊥
not_read IsFault bytes status none is = let h = subst (Refuses IsFault bytes) is none in h

pub never_read : {V : Type 0} (bytes : List ℕ) (P : Type 0) (r : Result V Status) → IfErr r (λ s. Refuses IsRefusedAsOpened bytes s) → IfErr r (λ s. s ≡ ReadFault → P)
never_read bytes P (Ok v) none = tt
never_read bytes P (Err s) none = λ is. absurd (not_read IsRefusedAsOpened bytes s none is)

-- what is answered and refused by the first line
as_certificate : (bytes : List ℕ) (status : Status) → OpensCertificate bytes → Refuses IsRefusedCertificate bytes status → Refuses IsRefusedAsOpened bytes status
as_certificate bytes (DocRefused fault) opens none = inl (opens, none)
as_certificate bytes NoMemory opens none = tt
as_certificate bytes status opens none = absurd none

as_document : (bytes : List ℕ) (status : Status) → (OpensCertificate bytes → ⊥) → Refuses IsRefusedDoc bytes status → Refuses IsRefusedAsOpened bytes status
as_document bytes (DocRefused fault) other none = inr (other, none)
as_document bytes NoMemory other none = tt
as_document bytes status other none = absurd none

module _ {V : Type 0} (status_of : V → Status) (words : V → List ℕ) (drawing : Drawing) (bytes : List ℕ) where
  pub certificate_answered : (r : Result V Status) → IfOk r (λ v. AnswersCertificateBytes drawing bytes (status_of v) (words v)) → IfOk r (λ v. AnswersBytes drawing bytes (status_of v) (words v))
  certificate_answered (Ok v) a = inr a
  certificate_answered (Err s) a = tt

  pub document_answered : (r : Result V Status) → IfOk r (λ v. AnswersDocBytes drawing bytes (status_of v) (words v)) → IfOk r (λ v. AnswersBytes drawing bytes (status_of v) (words v))
  document_answered (Ok v) a = inl a
  document_answered (Err s) a = tt

pub certificate_none : {V : Type 0} (bytes : List ℕ) (r : Result V Status) → OpensCertificate bytes → IfErr r (λ s. Refuses IsRefusedCertificate bytes s) → IfErr r (λ s. Refuses IsRefusedAsOpened bytes s)
certificate_none bytes (Ok v) opens none = tt
certificate_none bytes (Err s) opens none = as_certificate bytes s opens none

pub document_none : {V : Type 0} (bytes : List ℕ) (r : Result V Status) → (OpensCertificate bytes → ⊥) → IfErr r (λ s. Refuses IsRefusedDoc bytes s) → IfErr r (λ s. Refuses IsRefusedAsOpened bytes s)
document_none bytes (Ok v) other none = tt
document_none bytes (Err s) other none = as_document bytes s other none

-- where a text is refused, the status says so
pub document_status : (bytes : List ℕ) (f : DocFault) → IsDocFault bytes f → ((D : Document) → IsTextOf bytes D → ⊥) → Refuses IsRefusedDoc bytes (DocRefused f)
document_status bytes f fault none = record { fault = fault; none = none }

pub certificate_status : (bytes : List ℕ) (f : VerifyFault) (status : Status) → status ≡ status_of_fault f → VerifiesOwn bytes (Err f) → Refuses IsRefusedCertificate bytes status
certificate_status bytes (fault.Doc f) status same h = subst (λ (s : Status). Refuses IsRefusedCertificate bytes s) (sym same) h
certificate_status bytes fault.Read status same h = absurd h
certificate_status bytes fault.NoMemory status same h = subst (λ (s : Status). Refuses IsRefusedCertificate bytes s) (sym same) tt

-- what a certificate is right or wrong of, where it is judged against its own tree
module _ (bytes : List ℕ) (o : Own) (is : IsOwn bytes o) where
  abbrev own : Certificate
  own = certificate_of o.head is.lemmas

  right : o.verdict ≡ Yes → Certifies o.head.tree own
  right answered = subst (λ (w : Verdict). IsVerdictOf o.head.tree own w) answered is.verdict

  pub own_small : o.head.side ≤ most_number
  own_small = is.text.certificate.side

  pub own_valid : o.verdict ≡ Yes → o.head.sheet ≡ Square → Valid o.head.tree Square 1 o.head.side o.head.points
  own_valid answered square = subst (λ (G : Sheet). Valid o.head.tree G 1 o.head.side o.head.points) square (right answered).valid

  pub own_right : (drawing : Drawing) (text : List ℕ) → o.verdict ≡ Yes → o.head.sheet ≡ Square → IsDrawing drawing o.head.tree o.head.side o.head.bound o.head.points text → IsCertificateDrawn drawing own Done text
  own_right drawing text answered square drawn = (square, right answered, drawn)

  pub own_wrong : (drawing : Drawing) (reason : Reason) (text : List ℕ) → o.verdict ≡ No reason → o.head.sheet ≡ Square → text ≡ uncertified_text reason → IsCertificateDrawn drawing own (NoCertificate reason) text
  own_wrong drawing reason text answered square told = (square, subst (λ (w : Verdict). IsVerdictOf o.head.tree own w) answered is.verdict, told)

not_square : (G : Sheet) (width : ℕ) → G ≡ Strip width → G ≡ Square → ⊥
not_square G width strip square = let both : Strip width ≡ Square = sym strip ∙ square in absurd (cc)

strip_told : (drawing : Drawing) (C : Certificate) (status : Status) (text : List ℕ) → (C.sheet ≡ Square → ⊥) → status ≡ RefusedBy StripSheet → text ≡ no_text StripSheet → IsCertificateDrawn drawing C status text
strip_told drawing C status text other is told = subst (λ (s : Status). IsCertificateDrawn drawing C s text) (sym is) (other, refl, told)

pub own_strip : {V E : Type 0} (status_of : V → Status) (words : V → List ℕ) (drawing : Drawing) (o : Own) (width : ℕ) (r : Result V E) → o.head.sheet ≡ Strip width → IfOk r (λ v. (status_of v ≡ RefusedBy StripSheet) × (words v ≡ no_text StripSheet)) → IfOk r (λ v. (bytes : List ℕ) (is : IsOwn bytes o) → IsCertificateDrawn drawing (certificate_of o.head is.lemmas) (status_of v) (words v))
own_strip status_of words drawing o width (Ok v) strip told = λ bytes is. strip_told drawing (certificate_of o.head is.lemmas) (status_of v) (words v) (not_square o.head.sheet width strip) told.0 told.1
own_strip status_of words drawing o width (Err e) strip told = tt

-- A certificate's text begins with its first line, and no document's does.

abbrev at : ℕ → List ℕ → ℕ
at k bytes = get_or bytes k 0

certificate_begins : (C : Certificate) → OpensCertificate (certificate_text C)
unfolding certificate_text opening_text line digits
certificate_begins C = (drop 11 (certificate_text C), refl)

pub certificate_opens : (b : List ℕ) (C : Certificate) → IsCertificateText b C → OpensCertificate b
certificate_opens b C text = subst OpensCertificate (sym text.text) (certificate_begins C)

first_number : (D : Document) → at 9 (first_text D) ≡ 49
unfolding first_text line digits
first_number D = refl

second_number : (D : Document) → at 9 (doc_text D) ≡ 50
unfolding doc_text line digits
second_number D = refl

pub document_opens_none : (b : List ℕ) (D : Document) → IsTextOf b D → OpensCertificate b → ⊥
document_opens_none b D text opens =
    let third : at 9 b ≡ 51 = ap (at 9) opens.1 in
    elim text.text [
      | inl first ↦ let other : at 9 b ≡ 49 = ap (at 9) first.0 ∙ first_number D in omega (arith, third, other)
      | inr second ↦ let other : at 9 b ≡ 50 = ap (at 9) second ∙ second_number D in omega (arith, third, other)
    ]

-- Where nothing failed, a document or a certificate is answered.
module _ (drawing : Drawing) (left after held now : Option (List ℕ)) (b : List ℕ) (some : left ≡ Some b) where
  -- what was read of bytes that are told
  no_fault : (fault : DocFault) → ReadsNothing left after (DocRefused fault) → IsRefusedAsOpened (take most_doc_read b) fault
  no_fault fault told =
      let h : IsRefusedAsOpened (take most_doc_read b) fault × (after ≡ Some (drop most_doc_read b)) = subst (λ (l : Option (List ℕ)). ReadsNothing l after (DocRefused fault)) some told in
      h.0

  read_doc : (D : Document) → ReadsDoc left after D → IsTextOf b D
  read_doc D reads =
      let h : IsTextOf b D × (after ≡ Some []) = subst (λ (l : Option (List ℕ)). ReadsDoc l after D) some reads in
      h.0

  read_certificate : (C : Certificate) → ReadsCertificate left after C → IsCertificateText b C
  read_certificate C reads =
      let h : IsCertificateText b C × (after ≡ Some []) = subst (λ (l : Option (List ℕ)). ReadsCertificate l after C) some reads in
      h.0

  doc_refused : (D : Document) (fault : DocFault) → IsTextOf b D → ReadsNothing left after (DocRefused fault) → ⊥
  doc_refused D fault text told =
      let whole : take most_doc_read b ≡ b = take_all most_doc_read b (omega (arith, text.short)) in
      elim (no_fault fault told) [
        | inl opened ↦ document_opens_none b D text (subst OpensCertificate whole opened.0)
        | inr other ↦ other.1.none D (subst (λ (c : List ℕ). IsTextOf c D) (sym whole) text)
      ]

  certificate_refused : (C : Certificate) (fault : DocFault) → IsCertificateText b C → ReadsNothing left after (DocRefused fault) → ⊥
  certificate_refused C fault text told =
      let whole : take most_doc_read b ≡ b = take_all most_doc_read b (omega (arith, text.short)) in
      elim (no_fault fault told) [
        | inl opened ↦ opened.1.none C (subst (λ (c : List ℕ). IsCertificateText c C) (sym whole) text)
        | inr other ↦ other.0 (subst OpensCertificate (sym whole) (certificate_opens b C text))
      ]

  nothing_comes : (status : Status) → ((fault : DocFault) → ReadsNothing left after (DocRefused fault) → ⊥) → ReadsNothing left after status → (status ≡ ReadFault → ⊥) → status ≡ NoMemory
  nothing_comes (DocRefused fault) never r read = absurd (never fault r)
  nothing_comes ReadFault never r read = absurd (read refl)
  nothing_comes NoMemory never r read = refl
  nothing_comes status never r read = absurd r

  drawn_ends : (D : Document) (status : Status) (text : List ℕ) → IsDrawn drawing D status text → IsDoneOrNo status
  drawn_ends D Done text d = inl (inl refl)
  drawn_ends D (RefusedBy reason) text d = inr (reason, refl)
  drawn_ends D status text d = absurd d

  certificate_ends : (C : Certificate) (status : Status) (text : List ℕ) → IsCertificateDrawn drawing C status text → IsDoneOrNo status ⊎ IsDoneOrUncertified status
  certificate_ends C Done text d = inl (inl (inl refl))
  certificate_ends C (RefusedBy reason) text d = inl (inr (reason, refl))
  certificate_ends C (NoCertificate reason) text d = inr (inr (reason, refl))
  certificate_ends C status text d = absurd d

  writes_end : (P : Status → Type 0) (B : Status → List ℕ → Type 0) (status : Status) → ((s : Status) (text : List ℕ) → B s text → P s) → P NoMemory → (status ≡ WriteFault → ⊥) → Writes B held now status → P status
  writes_end P B status answer memory write (inl w) = answer status w.0 w.1
  writes_end P B status answer memory write (inr (inl w)) = absurd (write w.0)
  writes_end P B status answer memory write (inr (inr w)) = subst P (sym w.0) memory

  pub document_completes : (D : Document) (status : Status) → IsTextOf b D → Draws drawing left after held now status → (status ≡ ReadFault → ⊥) → (status ≡ WriteFault → ⊥) → IsDoneOrNo status
  document_completes D status text (inl none) read write = subst IsDoneOrNo (sym (nothing_comes status (λ f. doc_refused D f text) none.0 read)) (inl (inr refl))
  document_completes D status text (inr (inl (E, reads, w))) read write = writes_end IsDoneOrNo (IsDrawn drawing E) status (drawn_ends E) (inl (inr refl)) write w
  document_completes D status text (inr (inr (C, reads, w))) read write = absurd (document_opens_none b D text (certificate_opens b C (read_certificate C reads)))

  abbrev Ends : Status → Type 0
  Ends s = IsDoneOrNo s ⊎ IsDoneOrUncertified s

  pub certificate_completes : (C : Certificate) (status : Status) → IsCertificateText b C → Draws drawing left after held now status → (status ≡ ReadFault → ⊥) → (status ≡ WriteFault → ⊥) → IsDoneOrNo status ⊎ IsDoneOrUncertified status
  certificate_completes C status text (inl none) read write = subst Ends (sym (nothing_comes status (λ f. certificate_refused C f text) none.0 read)) (inl (inl (inr refl)))
  certificate_completes C status text (inr (inl (D, reads, w))) read write = absurd (document_opens_none b D (read_doc D reads) (certificate_opens b C text))
  certificate_completes C status text (inr (inr (E, reads, w))) read write = writes_end Ends (IsCertificateDrawn drawing E) status (certificate_ends E) (inl (inl (inr refl))) write w

pub drawing_completes : (drawing : Drawing) (left after held now : Option (List ℕ)) (status : Status) → Draws drawing left after held now status → (status ≡ ReadFault → ⊥) → (status ≡ WriteFault → ⊥) → IsDrawnToEnd left status
drawing_completes drawing left after held now status draws read write = (
  (λ b D some text. document_completes drawing left after held now b some D status text draws read write),
  (λ b C some text. certificate_completes drawing left after held now b some C status text draws read write),
)
