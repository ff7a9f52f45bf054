-- What verifying in one pass has told, and the text that answers it.
use Rattle.std.proofs.Common.{◌≡◌, ◌↔◌, ◌⊎◌, inl, inr, ℕ, List, [], take, drop, Result, Ok, Err, IfOk, IfErr, sym, ap, ◌∙◌, subst, refl, arith}
use Rattle.std.specs.declared.option.Option.{Option}
use Rattle.std.specs.declared.option.Option.TheVariants.{None, Some}
use Rattle.std.proofs.lemmas.List.{take_all}
use Rattle.bp_base.specs.Tree.{TreeValue}
use Rattle.bp_tree.specs.declared.fault.TreeFault.{TreeFault}
use Rattle.bp_tree.specs.Text.{TreeOf}
use Rattle.bp_document.specs.declared.fault.DocFault.{DocFault}
use Rattle.bp_base.specs.Reading.{Told}
use Rattle.bp_check.specs.Streams.{most_read}
use Rattle.bp_certificate.specs.declared.certificate.Certificate.{Certificate}
use Rattle.bp_certificate.specs.Faults.{IsTextOf}
use Rattle.bp_verify.specs.declared.fault.Verified.{Verified}
use Rattle.bp_verify.specs.declared.fault.VerifyFault.{VerifyFault}
use Rattle.bp_verify.specs.declared.fault.VerifyFault.TheVariants as fault
use Rattle.bp_verify.specs.declared.verdict.Reason.{Reason}
use Rattle.bp_verify.specs.declared.verdict.Verdict.{Verdict}
use Rattle.bp_verify.specs.declared.verdict.Verdict.TheVariants as verdict
use Rattle.bp_verify.specs.Certifies.{Certifies}
use Rattle.bp_verify.specs.Reasons.{IsFirstReason}
use Rattle.bp_verify.specs.Streams.{IsRefused, Verifies}
use Rattle.bp_engine.specs.declared.status.Status.{Status}
use Rattle.bp_engine.specs.declared.status.Status.TheVariants.{Done, TreeRefused, DocRefused, ReadFault, WriteFault, NoMemory, NoCertificate, Usage, NotBuilt, GaveUp, No}
use Rattle.bp_engine.specs.Checking.{yes_text}
use Rattle.bp_engine.specs.Outcomes.{AnswersCertificate, IsFinal, IsVerifiedBy, WritesText, status_of_fault}
use Rattle.bp_engine.specs.Reading.{ReadsNoTree}
use Rattle.bp_engine.specs.Run.{IsDoneOrUncertified, IsRefusal, IsSilent}
use Rattle.bp_engine.specs.Texts.{MayWrite}
use Rattle.bp_engine.specs.Verifying.{IsVerified, ReadsCertificate, ReadsNoCertificate, VerifiesAgainst, VerifiesBoth}
use Rattle.bp_engine.proofs.Answered.{writes}
use Rattle.bp_engine.proofs.Completed.{no_tree_fault}

is_verified : (T : TreeValue) (C : Certificate) (side bound : ℕ) (v : Verdict) (status : Status) (text : List ℕ) → side ≡ C.side → bound ≡ C.bound → ((v ≡ verdict.Yes) ↔ Certifies T C) → ((reason : Reason) → ((v ≡ verdict.No reason) ↔ IsFirstReason T C reason)) → IsVerifiedBy side bound v status text → IsVerified T C status text
is_verified T C side bound verdict.Yes status text same_side same_bound is_yes is_no a =
    subst (λ (s : Status). IsVerified T C s text) (sym a.0)
    (is_yes.0 refl, a.1 ∙ ap (λ (n : ℕ). yes_text n bound) same_side ∙ ap (λ (n : ℕ). yes_text C.side n) same_bound)
is_verified T C side bound (verdict.No reason) status text same_side same_bound is_yes is_no a =
    subst (λ (s : Status). IsVerified T C s text) (sym a.0) ((is_no reason).0 refl, a.1)

reads_text : (left after : Option (List ℕ)) (bytes : List ℕ) (C : Certificate) → IsTextOf bytes C → Told left (λ b. (b ≡ bytes) × (after ≡ Some [])) → ReadsCertificate left after C
reads_text None after bytes C text told = tt
reads_text (Some b) after bytes C text told = (subst (λ (c : List ℕ). IsTextOf c C) (sym told.0) text, told.1)

pub answered : (T : TreeValue) (left after : Option (List ℕ)) (v : Verified) (status : Status) (text : List ℕ) → Verifies T left after (Ok v) → IsVerifiedBy v.side v.bound v.verdict status text → AnswersCertificate T left after status text
answered T left after v status text h a =
    let c = h.1 in
    (c.certificate, reads_text left after h.0 c.certificate c.text h.2, is_verified T c.certificate v.side v.bound v.verdict status text c.side c.bound c.yes c.no a)

pub answer_final : (side bound : ℕ) (v : Verdict) (status : Status) (text : List ℕ) → IsVerifiedBy side bound v status text → IsFinal status
answer_final side bound verdict.Yes status text a = subst IsFinal (sym a.0) tt
answer_final side bound (verdict.No reason) status text a = subst IsFinal (sym a.0) tt

pub no_certificate : (T : TreeValue) (left after : Option (List ℕ)) (v : VerifyFault) (status : Status) → status ≡ status_of_fault v → Verifies T left after (Err v) → ReadsNoCertificate left after status
no_certificate T left after (fault.Doc f) status same h = subst (λ (s : Status). ReadsNoCertificate left after s) (sym same) h
no_certificate T left after fault.Read status same h = subst (λ (s : Status). ReadsNoCertificate left after s) (sym same) tt
no_certificate T left after fault.NoMemory status same h = subst (λ (s : Status). ReadsNoCertificate left after s) (sym same) tt

pub failed : (v : VerifyFault) (status : Status) → status ≡ status_of_fault v → status ≡ ReadFault → v ≡ fault.Read
failed (fault.Doc f) status same is = absurd (cc)
failed fault.Read status same is = refl
failed fault.NoMemory status same is = absurd (cc)

-- what answers a certificate was written, or why none came
pub handled : {V : Type 0} (status_of : V → Status) (words : V → List ℕ) (T : TreeValue) (left after held now : Option (List ℕ)) (result : Status) (answered : Result V Status) → IfOk answered (λ v. AnswersCertificate T left after (status_of v) (words v)) → IfErr answered (λ s. ReadsNoCertificate left after s)
    → IfOk answered (λ v. WritesText (status_of v) (words v) held now result) → IfErr answered (λ s. (result ≡ s) × (now ≡ held)) → VerifiesAgainst T left after held now result
handled status_of words T left after held now result (Ok v) a none w same = inr (a.0, a.1, writes (IsVerified T a.0) held now (status_of v) result (words v) a.2 w)
handled status_of words T left after held now result (Err s) a none w same = inl (subst (λ (r : Status). ReadsNoCertificate left after r) (sym same.0) none, same.1)

-- Where no certificate came, the status is no silent one, nothing is written, and no tree is refused.
module _ (left after : Option (List ℕ)) where
  pub none_quiet : (status : Status) → ReadsNoCertificate left after status → IsSilent status → ⊥
  none_quiet Usage r silent = r
  none_quiet NotBuilt r silent = r
  none_quiet status r silent = silent

  pub none_written : (status : Status) → ReadsNoCertificate left after status → MayWrite status → ⊥
  none_written Done r wrote = r
  none_written (GaveUp side bound) r wrote = r
  none_written WriteFault r wrote = r
  none_written (No reason) r wrote = r
  none_written (NoCertificate reason) r wrote = r
  none_written status r wrote = wrote

  pub none_tree : (status : Status) → ReadsNoCertificate left after status → (f : TreeFault) → status ≡ TreeRefused f → ⊥
  none_tree status r f is = let h = subst (λ (s : Status). ReadsNoCertificate left after s) is r in h

verified_ends : (T : TreeValue) (C : Certificate) (status : Status) (text : List ℕ) → IsVerified T C status text → IsDoneOrUncertified status
verified_ends T C Done text c = inl (inl refl)
verified_ends T C (NoCertificate reason) text c = inr (reason, refl)
verified_ends T C status text c = absurd c

module _ (tree tree_after doc doc_after held now : Option (List ℕ)) where
  abbrev IsEnd : Status → Type 0
  IsEnd status = IsDoneOrUncertified status ⊎ IsRefusal status

  refused_tree : (status : Status) → ReadsNoTree tree tree_after status → (status ≡ ReadFault → ⊥) → IsEnd status
  refused_tree (TreeRefused f) r read = inr (inl (f, refl))
  refused_tree ReadFault r read = absurd (read refl)
  refused_tree NoMemory r read = inl (inl (inr refl))
  refused_tree status r read = absurd r

  refused_doc : (status : Status) → ReadsNoCertificate doc doc_after status → (status ≡ ReadFault → ⊥) → IsEnd status
  refused_doc (DocRefused f) r read = inr (inr (f, refl))
  refused_doc ReadFault r read = absurd (read refl)
  refused_doc NoMemory r read = inl (inl (inr refl))
  refused_doc status r read = absurd r

  against : (T : TreeValue) (status : Status) → VerifiesAgainst T doc doc_after held now status → (status ≡ ReadFault → ⊥) → (status ≡ WriteFault → ⊥) → IsEnd status
  against T status (inl none) read write = refused_doc status none.0 read
  against T status (inr (C, reads, inl (text, c, all))) read write = inl (verified_ends T C status text c)
  against T status (inr (C, reads, inr (inl (fault, some_front)))) read write = absurd (write fault)
  against T status (inr (C, reads, inr (inr (memory, same)))) read write = inl (inl (inr memory))

  ends : (status : Status) → VerifiesBoth tree tree_after doc doc_after held now status → (status ≡ ReadFault → ⊥) → (status ≡ WriteFault → ⊥) → IsEnd status
  ends status (inl none) read write = refused_tree status none.0 read
  ends status (inr some) read write = against some.0 status some.2 read write

  not_tree : (T : TreeValue) (f : TreeFault) → VerifiesAgainst T doc doc_after held now (TreeRefused f) → ⊥
  not_tree T f (inl none) = none.0
  not_tree T f (inr (C, reads, inl (text, c, all))) = c
  not_tree T f (inr (C, reads, inr (inl (is, some_front)))) = cc
  not_tree T f (inr (C, reads, inr (inr (is, same)))) = cc

  certificate_fine : (b : List ℕ) → doc ≡ Some b → (C : Certificate) → IsTextOf b C → (f : DocFault) → ReadsNoCertificate doc doc_after (DocRefused f) → ⊥
  certificate_fine b some C text f told =
      let h : IsRefused (take most_read b) f × (doc_after ≡ Some (drop most_read b)) = subst (λ (l : Option (List ℕ)). ReadsNoCertificate l doc_after (DocRefused f)) some told in
      let whole : take most_read b ≡ b = take_all most_read b (omega (arith, text.short)) in
      h.0.none C (subst (λ (c : List ℕ). IsTextOf c C) (sym whole) text)

  not_doc : (b : List ℕ) → doc ≡ Some b → (C : Certificate) → IsTextOf b C → (T : TreeValue) (f : DocFault) → VerifiesAgainst T doc doc_after held now (DocRefused f) → ⊥
  not_doc b some C text T f (inl none) = certificate_fine b some C text f none.0
  not_doc b some C text T f (inr (E, reads, inl (words, c, all))) = c
  not_doc b some C text T f (inr (E, reads, inr (inl (is, some_front)))) = cc
  not_doc b some C text T f (inr (E, reads, inr (inr (is, same)))) = cc

  tree_fine : (b : List ℕ) → tree ≡ Some b → (T : TreeValue) → TreeOf b T → (f : TreeFault) → VerifiesBoth tree tree_after doc doc_after held now (TreeRefused f) → ⊥
  tree_fine b some T of f (inl none) = no_tree_fault tree tree_after b some T f of none.0
  tree_fine b some T of f (inr (U, reads, answer)) = not_tree U f answer

  doc_fine : (b : List ℕ) → doc ≡ Some b → (C : Certificate) → IsTextOf b C → (f : DocFault) → VerifiesBoth tree tree_after doc doc_after held now (DocRefused f) → ⊥
  doc_fine b some C text f (inl none) = none.0
  doc_fine b some C text f (inr (U, reads, answer)) = not_doc b some C text U f answer

  accepted : (status : Status) → IsEnd status → ((f : TreeFault) → status ≡ TreeRefused f → ⊥) → ((f : DocFault) → status ≡ DocRefused f → ⊥) → IsDoneOrUncertified status
  accepted status (inl answer) tree_is_fine doc_is_fine = answer
  accepted status (inr (inl refuses)) tree_is_fine doc_is_fine = absurd (tree_is_fine refuses.0 refuses.1)
  accepted status (inr (inr refuses)) tree_is_fine doc_is_fine = absurd (doc_is_fine refuses.0 refuses.1)

  pub verify_completes : (status : Status) → VerifiesBoth tree tree_after doc doc_after held now status → (status ≡ ReadFault → ⊥) → (status ≡ WriteFault → ⊥) → IsEnd status × ((b c : List ℕ) (T : TreeValue) (C : Certificate) → tree ≡ Some b → doc ≡ Some c → TreeOf b T → IsTextOf c C → IsDoneOrUncertified status)
  verify_completes status h read write =
      let all = ends status h read write in (
        all,
        λ b c T C some_tree some_doc of text.
            accepted status all (λ f is. tree_fine b some_tree T of f (subst (λ (s : Status). VerifiesBoth tree tree_after doc doc_after held now s) is h))
            (λ f is. doc_fine c some_doc C text f (subst (λ (s : Status). VerifiesBoth tree tree_after doc doc_after held now s) is h)),
      )
