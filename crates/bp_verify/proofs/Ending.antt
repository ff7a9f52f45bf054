-- What an intake answers at the end of the input.
use Rattle.std.proofs.Common.{◌≡◌, ◌≢◌, ℕ, ◌<◌, ◌≤◌, inl, inr, true, false, Bool, List, [], ◌++◌, ◌==◌, length, All, None, Some, Ok, Err, refl, sym, ◌∙◌, ap, subst, arith}
use Rattle.std.proofs.lemmas.Bool.{true≢false}
use Rattle.std.proofs.lemmas.Bool.Decides.{Decides-eqb}
use Rattle.std.proofs.lemmas.List.{append-nil, nil_from_length}
use Rattle.bp_base.specs.Limits.{most_document_bytes}
use Rattle.bp_base.specs.Tree.{TreeValue}
use Rattle.bp_document.specs.declared.fault.DocKind.{DocKind}
use Rattle.bp_document.specs.declared.fault.DocKind.TheVariants.{Cut, TooLong}
use Rattle.bp_document.specs.declared.fault.DocFault.{DocFault}
use Rattle.bp_document.specs.declared.fault.ReadDoc.{ReadDoc}
use Rattle.bp_document.specs.declared.fault.ReadDoc.TheVariants as read
use Rattle.bp_document.specs.Faults.{HasLine, order}
use Rattle.bp_certificate.specs.declared.certificate.CertificateHead.{CertificateHead}
use Rattle.bp_certificate.specs.declared.certificate.Lemma.{Lemma}
use Rattle.bp_certificate.specs.Faults.{HasOneAnswer, IsCertificateFault, IsFirstKind}
use Rattle.bp_certificate.specs.Places.{Place, Behind, certificate_of}
use Rattle.bp_certificate.specs.Ranges.{IsCertificate}
use Rattle.bp_certificate.specs.Text.{certificate_text}
use Rattle.bp_certificate.specs.Scanning.{FeedsLine, FinishesText, HasSameFault, IsFaultBehind, Progress}
use Rattle.bp_certificate.specs.Stages.{told_head}
use Rattle.bp_verify.specs.declared.fault.Verified.{Verified}
use Rattle.bp_verify.specs.declared.fault.VerifyFault.TheVariants.{Doc}
use Rattle.bp_verify.specs.declared.intake.Intake.{Intake}
use Rattle.bp_verify.specs.declared.judge.Judge.{Judge}
use Rattle.bp_verify.specs.Intake.{AnswersText, EndsIntake, HasLineFault, HasTakenIn, IsScanned, IsWhole, TakenInTo}
use Rattle.bp_verify.specs.Judged.{HasJudged}
use Rattle.bp_verify.specs.Streams.{IsRefused, VerifiesText}
use Rattle.bp_verify.specs.Verdicts.{IsVerdictOf}
use Rattle.bp_verify.proofs.Heads.{one_head}
use Rattle.bp_verify.proofs.Intakes.{held_fault, held_none, held_some, taken_in_whole}
use Rattle.bp_verify.proofs.Reasoning.{no_is, yes_is}

module _ (bytes text line : List ℕ) (ended : Bool) (f : DocFault) (short : length bytes ≤ most_document_bytes) (has : HasLine bytes text line ended) (free : All (λ b. b ≢ 10) line) (fault : IsFaultBehind text line ended f) where
  pub fault_at : (fault.place ≡ Behind → line ≡ [] → ended ≡ false → ⊥) → IsCertificateFault bytes f
  fault_at wanted = inr (record {
    short = short;
    text = text;
    line = line;
    ended = ended;
    place = fault.place;
    leads = fault.leads;
    stands = has;
    free = free;
    number = fault.number;
    kind = fault.kind;
    wanted = λ w. wanted w.0 w.1 w.2;
  })

no_cut_behind : (place : Place) (kind : DocKind) → kind ≡ Cut → IsFirstKind place [] false kind → place ≡ Behind → ⊥
no_cut_behind place kind cut first behind =
    let there : IsFirstKind Behind [] false kind = subst (λ (p : Place). IsFirstKind p [] false kind) behind first in
    omega (arith, ap order (sym cut ∙ there.has))

pub cut_fault : (bytes : List ℕ) (f : DocFault) → length bytes ≤ most_document_bytes → f.kind ≡ Cut → IsFaultBehind bytes [] false f → IsCertificateFault bytes f
cut_fault bytes f short cut fault =
    fault_at bytes bytes [] false f short (sym (append-nil bytes)) (λ k d less. absurd (omega (arith, less))) fault
    (λ behind empty ended. no_cut_behind fault.place f.kind cut fault.kind behind)

pub refuse : (bytes : List ℕ) (f : DocFault) → HasOneAnswer bytes → IsCertificateFault bytes f → IsRefused bytes f
refuse bytes f one fault = record { fault = fault; none = λ C text. one.either C f text fault }

pub too_long : (T : TreeValue) (bytes : List ℕ) → HasOneAnswer bytes → most_document_bytes < length bytes → AnswersText T bytes (Err (Doc (record { line = 0; kind = TooLong })))
too_long T bytes one long = refuse bytes (record { line = 0; kind = TooLong }) one (inl (long, refl))

pub fault_in : (T : TreeValue) (p : Intake) (bytes : List ℕ) (f : DocFault) → HasOneAnswer bytes → length bytes ≤ most_document_bytes → p.fault ≡ Some f → HasTakenIn T p bytes → AnswersText T bytes (Err (Doc f))
fault_in T p bytes f one short is passed =
    let there : HasLineFault bytes f = subst (TakenInTo T p bytes) is passed in
    refuse bytes f one (fault_at bytes there.text there.line true f short there.stands there.free there.fault (λ behind none ended. true≢false ended))

-- the end behind whole lines
module _ (p : Intake) (whole : p.fault ≡ None) (empty : p.held ≡ []) where
  lines_whole : (T : TreeValue) (bytes : List ℕ) → HasTakenIn T p bytes → (ls : List Lemma) × IsScanned T p bytes ls ls
  lines_whole T bytes passed =
      let so_far = taken_in_whole T p bytes whole passed in
      let none : so_far.1 ≡ [] = held_none p.held so_far.1 so_far.4 empty in
      let text : so_far.0 ≡ bytes = sym (so_far.3 ∙ ap (λ (t : List ℕ). so_far.0 ++ t) none ∙ append-nil so_far.0) in
      (so_far.2, subst (λ (t : List ℕ). IsScanned T p t so_far.2 so_far.2) text so_far.6)

  pub finishes : FinishesText p.scanner (Ok tt) → EndsIntake p p (Ok tt)
  finishes ends T bytes passed =
      let lines = lines_whole T bytes passed in
      record { lemmas = lines.0; scanned = lines.1; certificate = ends bytes lines.0 lines.1.fed }

  pub cut_here : (f : DocFault) → FinishesText p.scanner (Err f) → EndsIntake p p (Err (read.Fault f))
  cut_here f ends T bytes passed short =
      let lines = lines_whole T bytes passed in
      cut_fault bytes f short ends.0 (ends.1 bytes lines.0 lines.1.fed)

-- the line that has no LF
pub unended : (p q : Intake) (P : Progress) (f : DocFault) → p.fault ≡ None → (p.held ≡ [] → ⊥) → ((line : List ℕ) → HasSameFault p.held line) → FeedsLine p.scanner p.held false P (Err (read.Fault f)) → EndsIntake p q (Err (read.Fault f))
unended p q P f whole some law fed T bytes passed short =
    let so_far = taken_in_whole T p bytes whole passed in
    let text = so_far.0 in
    let line = so_far.1 in
    fault_at bytes text line false f short so_far.3 so_far.5 (held_fault p.held line so_far.4 (law line) text false f (fed text so_far.2 so_far.6.fed))
    (λ behind none ended. held_some p.held line so_far.4 some none)

-- the fault of the end, as the code has it
pub ended_wrong : (p q : Intake) (P : Progress) (e : ReadDoc) → p.fault ≡ None → (p.held ≡ [] → ⊥) → ((line : List ℕ) → HasSameFault p.held line) → FeedsLine p.scanner p.held false P (Err e) → EndsIntake p q (Err e)
ended_wrong p q P (read.Fault f) whole some law fed = unended p q P f whole some law fed
ended_wrong p q P read.NoMemory whole some law fed = tt

pub fault_at_end : (T : TreeValue) (p q : Intake) (bytes : List ℕ) (f : DocFault) → HasOneAnswer bytes → length bytes ≤ most_document_bytes → EndsIntake p q (Err (read.Fault f)) → HasTakenIn T p bytes → AnswersText T bytes (Err (Doc f))
fault_at_end T p q bytes f one short ends passed = refuse bytes f one (ends T bytes passed short)

-- the line that is held, as the code has it
pub empty_line : (line held : List ℕ) → line ≡ held → true ≡ (length line == 0) → held ≡ []
empty_line line held same empty = sym same ∙ nil_from_length line ((Decides-eqb (length line) 0).0 (sym empty))

pub some_line : (line held : List ℕ) → line ≡ held → false ≡ (length line == 0) → held ≡ [] → ⊥
some_line line held same some none = true≢false (sym ((Decides-eqb (length line) 0).1 (ap length (same ∙ none))) ∙ sym some)

-- the answer, as the code has it: by this head and this judge
pub answered : (T : TreeValue) (p : Intake) (bytes : List ℕ) (H : CertificateHead) (j : Judge) (v : Verified) → IsWhole T p bytes → length bytes ≤ most_document_bytes → told_head p.scanner.stage ≡ Some H
    → ((text : List ℕ) (all ls : List Lemma) → IsScanned T p text all ls → HasJudged T H ls j)
    → ((ls : List Lemma) → HasJudged T H ls j → IsVerdictOf T (certificate_of H ls) v.verdict)
    → v.side ≡ H.side
    → v.bound ≡ H.bound
    → VerifiesText T bytes v
answered T p bytes H j v whole short told judged verdict side bound =
    let ls = whole.lemmas in
    let fed = whole.certificate in
    let same : fed.told ≡ H = one_head (told_head p.scanner.stage) fed.told H fed.head told in
    let is : IsVerdictOf T (certificate_of H ls) v.verdict = verdict ls (judged bytes ls ls whole.scanned) in
    record {
      certificate = certificate_of H whole.lemmas;
      text = record {
        short = short;
        certificate = subst (λ (K : CertificateHead). IsCertificate (certificate_of K whole.lemmas)) same fed.certificate;
        text = fed.is ∙ ap (λ (K : CertificateHead). certificate_text (certificate_of K whole.lemmas)) same;
      };
      side = side;
      bound = bound;
      yes = yes_is T (certificate_of H whole.lemmas) v.verdict is;
      no = no_is T (certificate_of H whole.lemmas) v.verdict is;
    }
