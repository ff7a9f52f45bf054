-- A certificate's text that is gone through whole, and what is found of it against its own tree.
use Rattle.std.proofs.Common.{◌≡◌, ◌↔◌, ℕ, ◌≤◌, inl, inr, true, false, Bool, List, [], ◌∷◌, ◌++◌, length, take, drop, Option, None, Some, MatchOption, Result, Ok, Err, refl, sym, ◌∙◌, ap, subst, arith, append_assoc}
use Rattle.std.proofs.lemmas.Bool.{cases_lt, false≢true, true≢false}
use Rattle.std.proofs.lemmas.List.{take-append-drop, take_all}
use Rattle.bp_base.specs.declared.point.Line.{Line}
use Rattle.bp_base.specs.Limits.{most_document_bytes}
use Rattle.bp_base.specs.Tree.{TreeValue}
use Rattle.bp_text.specs.Lines.{IsLineAt}
use Rattle.bp_document.specs.declared.fault.DocFault.{DocFault}
use Rattle.bp_document.specs.declared.fault.ReadDoc.{ReadDoc}
use Rattle.bp_document.specs.declared.fault.ReadDoc.TheVariants as read
use Rattle.bp_document.specs.Faults.{HasLine}
use Rattle.bp_document.proofs.ReadBytes.{piece, piece_free, piece_some, next_text}
use Rattle.bp_certificate.specs.declared.certificate.Certificate.{Certificate}
use Rattle.bp_certificate.specs.declared.certificate.CertificateHead.{CertificateHead}
use Rattle.bp_certificate.specs.declared.certificate.Lemma.{Lemma}
use Rattle.bp_certificate.specs.Faults.{HasOneAnswer, IsCertificateFault, IsTextOf}
use Rattle.bp_certificate.specs.Places.{certificate_of}
use Rattle.bp_certificate.specs.Ranges.{IsCertificate}
use Rattle.bp_certificate.specs.Text.{certificate_text}
use Rattle.bp_certificate.specs.Scanning.{FeedsLine, FinishesText, HasFed, IsCertificateFed, Progress}
use Rattle.bp_certificate.specs.Stages.{told_head, with_lemma}
use Rattle.bp_verify.specs.declared.fault.Verified.{Verified}
use Rattle.bp_verify.specs.declared.fault.VerifyFault.{VerifyFault}
use Rattle.bp_verify.specs.declared.fault.VerifyFault.TheVariants.{Doc, Read, NoMemory}
use Rattle.bp_verify.specs.declared.own.Own.{Own}
use Rattle.bp_verify.specs.declared.verdict.Reason.{Reason}
use Rattle.bp_verify.specs.declared.verdict.Verdict.{Verdict}
use Rattle.bp_verify.specs.declared.verdict.Verdict.TheVariants.{Yes, No}
use Rattle.bp_verify.specs.Certifies.{Certifies}
use Rattle.bp_verify.specs.Reasons.{IsFirstReason}
use Rattle.bp_verify.specs.Verdicts.{IsVerdictOf}
use Rattle.bp_verify.specs.Streams.{VerifiesText}
use Rattle.bp_verify.specs.Intake.{AnswersText}
use Rattle.bp_verify.specs.Own.{IsOwn, ReadsHead, ScansAll, VerifiesOwn}
use Rattle.bp_verify.proofs.Ending.{cut_fault, fault_at}
use Rattle.bp_verify.proofs.Heads.{one_head}
use Rattle.bp_verify.proofs.Intakes.{text_to}

-- The line at a place of the bytes.
module _ (bytes : List ℕ) (at : ℕ) (l : Line) (is : IsLineAt bytes at l) where
  has_line : (e : Bool) → l.ended ≡ e → HasLine bytes (take at bytes) (piece bytes at l is) e
  has_line true ended = (
    drop l.next bytes,
    sym (take-append-drop l.next bytes) ∙ ap (λ (t : List ℕ). t ++ drop l.next bytes) (sym (next_text bytes at l is ended) ∙ sym (append_assoc (take at bytes) (piece bytes at l is) (10 ∷ [])))
        ∙ append_assoc (take at bytes ++ piece bytes at l is) (10 ∷ []) (drop l.next bytes),
  )
  has_line false ended =
      let whole : length bytes ≤ l.to = elim (cases_lt l.to (length bytes)) [
        | inl less ↦ absurd (false≢true (sym ended ∙ is.ended.1 less))
        | inr end ↦ end
      ] in
      sym (text_to bytes at l is ∙ take_all l.to bytes whole)

  scan_fault : (P P' : Progress) (ls : List Lemma) (f : DocFault) → length bytes ≤ most_document_bytes → HasFed P (take at bytes) ls → FeedsLine P (piece bytes at l is) l.ended P' (Err (read.Fault f)) → IsCertificateFault bytes f
  scan_fault P P' ls f short fed fault =
      fault_at bytes (take at bytes) (piece bytes at l is) l.ended f short (has_line l.ended refl) (piece_free bytes at l is) (fault (take at bytes) ls fed)
      (λ behind none unended. false≢true (sym unended ∙ piece_some bytes at l is none))

  pub scan_stop : (P P' : Progress) (ls : List Lemma) (e : ReadDoc) → length bytes ≤ most_document_bytes → HasFed P (take at bytes) ls → FeedsLine P (piece bytes at l is) l.ended P' (Err e) → ScansAll bytes P' (Err e)
  scan_stop P P' ls (read.Fault f) short fed fault = scan_fault P P' ls f short fed fault
  scan_stop P P' ls read.NoMemory short fed fault = tt

  pub scan_next : (P P' : Progress) (ls : List Lemma) (lemma : Option Lemma) → HasFed P (take at bytes) ls → FeedsLine P (piece bytes at l is) l.ended P' (Ok lemma) → (more : List Lemma) × HasFed P' (take l.next bytes) more
  scan_next P P' ls lemma fed on = (with_lemma ls lemma, subst (λ (t : List ℕ). HasFed P' t (with_lemma ls lemma)) (next_text bytes at l is on.0) (on.3 (take at bytes) ls fed))

-- The end of the bytes.
module _ (bytes : List ℕ) (at : ℕ) (end : at ≡ length bytes) (P : Progress) (fed : (ls : List Lemma) × HasFed P (take at bytes) ls) where
  all_fed : HasFed P bytes fed.0
  all_fed = subst (λ (t : List ℕ). HasFed P t fed.0) (take_all at bytes (omega (arith, end))) fed.1

  pub scan_whole : FinishesText P (Ok tt) → ScansAll bytes P (Ok tt)
  scan_whole ends = (fed.0, ends bytes fed.0 all_fed)

  pub scan_cut : (f : DocFault) → length bytes ≤ most_document_bytes → FinishesText P (Err f) → ScansAll bytes P (Err (read.Fault f))
  scan_cut f short ends = cut_fault bytes f short ends.0 (ends.1 bytes fed.0 all_fed)

-- the certificate of the head that was told
pub head_text : (bytes : List ℕ) (ls : List Lemma) (o : Option CertificateHead) (H : CertificateHead) → length bytes ≤ most_document_bytes → IsCertificateFed bytes ls o → o ≡ Some H → IsTextOf bytes (certificate_of H ls)
head_text bytes ls o H short fed told =
    let same : fed.told ≡ H = one_head o fed.told H fed.head told in
    record {
      short = short;
      certificate = subst (λ (K : CertificateHead). IsCertificate (certificate_of K ls)) same fed.certificate;
      text = fed.is ∙ ap (λ (K : CertificateHead). certificate_text (certificate_of K ls)) same;
    }

-- what a scanner gives of its head is what it was told
pub head_given : (o told : Option CertificateHead) → MatchOption o (told ≡ None) (λ h. told ≡ Some h) → o ≡ told
head_given None told is = sym is
head_given (Some h) told is = sym is

-- a whole text has told its head
pub head_told : (bytes : List ℕ) (ls : List Lemma) (o : Option CertificateHead) → IsCertificateFed bytes ls o → o ≡ None → ⊥
head_told bytes ls o fed none = let both : None ≡ Some fed.told = sym none ∙ fed.head in absurd (cc)

verdict_is : (T : TreeValue) (C : Certificate) (w : Verdict) → ((w ≡ Yes) ↔ Certifies T C) → ((r : Reason) → ((w ≡ No r) ↔ IsFirstReason T C r)) → IsVerdictOf T C w
verdict_is T C Yes right wrong = right.0 refl
verdict_is T C (No r) right wrong = (wrong r).0 refl

pub own_is : (bytes : List ℕ) (H : CertificateHead) (ls : List Lemma) (v : Verified) → HasOneAnswer bytes → IsTextOf bytes (certificate_of H ls) → VerifiesText H.tree bytes v → IsOwn bytes (record { head = H; verdict = v.verdict })
own_is bytes H ls v one text is =
    let same : is.certificate ≡ certificate_of H ls = one.certificate is.certificate (certificate_of H ls) is.text text in
    record {
      lemmas = ls;
      text = text;
      verdict = subst (λ (C : Certificate). IsVerdictOf H.tree C v.verdict) same (verdict_is H.tree is.certificate v.verdict is.yes is.no);
    }

-- where there is no answer
pub head_stop : (bytes : List ℕ) (e : VerifyFault) → ReadsHead bytes (Err e) → VerifiesOwn bytes (Err e)
head_stop bytes (Doc f) is = is
head_stop bytes Read is = is
head_stop bytes NoMemory is = is

pub text_stop : (T : TreeValue) (bytes : List ℕ) (e : VerifyFault) → AnswersText T bytes (Err e) → VerifiesOwn bytes (Err e)
text_stop T bytes (Doc f) is = is
text_stop T bytes Read is = is
text_stop T bytes NoMemory is = is
