-- What a check in one pass has told, and the text that answers it.
use Rattle.std.proofs.Common.{◌≡◌, ◌↔◌, inl, inr, ℕ, List, [], Ok, Err, sym, ap, ◌∙◌, subst, refl}
use Rattle.std.specs.declared.option.Option.{Option}
use Rattle.std.specs.declared.option.Option.TheVariants.{None, Some}
use Rattle.bp_base.specs.Tree.{TreeValue}
use Rattle.bp_tree.specs.declared.fault.TreeFault.{TreeFault}
use Rattle.bp_tree.specs.Text.{TreeOf}
use Rattle.bp_document.specs.declared.document.Document.{Document}
use Rattle.bp_document.specs.declared.fault.DocFault.{DocFault}
use Rattle.bp_document.specs.Faults.{IsTextOf}
use Rattle.bp_check.specs.declared.fault.CheckFault.{CheckFault}
use Rattle.bp_check.specs.declared.fault.CheckFault.TheVariants as fault
use Rattle.bp_check.specs.declared.fault.Streamed.{Streamed}
use Rattle.bp_check.specs.declared.verdict.Reason.{Reason}
use Rattle.bp_check.specs.declared.verdict.Verdict.{Verdict}
use Rattle.bp_check.specs.declared.verdict.Verdict.TheVariants as verdict
use Rattle.bp_check.specs.Checks.{Checks}
use Rattle.bp_check.specs.Reasons.{IsFirstReason}
use Rattle.bp_base.specs.Reading.{Told}
use Rattle.bp_check.specs.Streams.{Streams}
use Rattle.bp_engine.specs.declared.status.Status.{Status}
use Rattle.bp_engine.specs.declared.status.Status.TheVariants.{Done, TreeRefused, DocRefused, ReadFault, WriteFault, NoMemory, No}
use Rattle.bp_engine.specs.Checking.{ChecksBoth, IsChecked, yes_text}
use Rattle.bp_engine.specs.Documents.{Handles}
use Rattle.bp_engine.specs.Outcomes.{AnswersDoc, IsAnswerTo, IsFinal, status_of}
use Rattle.bp_engine.specs.Reading.{ReadsDoc, ReadsNoDoc, ReadsNoTree}
use Rattle.bp_engine.specs.Run.{IsDoneOrNo, IsJudged}
use Rattle.bp_engine.proofs.Completed.{no_doc_fault, no_tree_fault}

is_checked : (T : TreeValue) (D : Document) (side bound : ℕ) (v : Verdict) (status : Status) (text : List ℕ) → side ≡ D.side → bound ≡ D.bound → ((v ≡ verdict.Yes) ↔ Checks T D) → ((reason : Reason) → ((v ≡ verdict.No reason) ↔ IsFirstReason T D reason)) → IsAnswerTo side bound v status text → IsChecked T D status text
is_checked T D side bound verdict.Yes status text same_side same_bound is_yes is_no a =
    subst (λ (s : Status). IsChecked T D s text) (sym a.0)
    (is_yes.0 refl, a.1 ∙ ap (λ (n : ℕ). yes_text n bound) same_side ∙ ap (λ (n : ℕ). yes_text D.side n) same_bound)
is_checked T D side bound (verdict.No reason) status text same_side same_bound is_yes is_no a =
    subst (λ (s : Status). IsChecked T D s text) (sym a.0) ((is_no reason).0 refl, a.1)

reads_text : (left after : Option (List ℕ)) (bytes : List ℕ) (D : Document) → IsTextOf bytes D → Told left (λ b. (b ≡ bytes) × (after ≡ Some [])) → ReadsDoc left after D
reads_text None after bytes D text told = tt
reads_text (Some b) after bytes D text told = (subst (λ (c : List ℕ). IsTextOf c D) (sym told.0) text, told.1)

pub answered : (T : TreeValue) (left after : Option (List ℕ)) (s : Streamed) (status : Status) (text : List ℕ) → Streams T left after (Ok s) → IsAnswerTo s.side s.bound s.verdict status text → AnswersDoc (IsChecked T) left after status text
answered T left after s status text h a =
    let c = h.1 in
    (c.document, reads_text left after h.0 c.document c.text h.2, is_checked T c.document s.side s.bound s.verdict status text c.side c.bound c.yes c.no a)

pub answer_final : (side bound : ℕ) (v : Verdict) (status : Status) (text : List ℕ) → IsAnswerTo side bound v status text → IsFinal status
answer_final side bound verdict.Yes status text a = subst IsFinal (sym a.0) tt
answer_final side bound (verdict.No reason) status text a = subst IsFinal (sym a.0) tt

pub no_doc : (T : TreeValue) (left after : Option (List ℕ)) (v : CheckFault) (status : Status) → status ≡ status_of v → Streams T left after (Err v) → ReadsNoDoc left after status
no_doc T left after (fault.Doc f) status same h = subst (λ (s : Status). ReadsNoDoc left after s) (sym same) h
no_doc T left after fault.Read status same h = subst (λ (s : Status). ReadsNoDoc left after s) (sym same) tt
no_doc T left after fault.NoMemory status same h = subst (λ (s : Status). ReadsNoDoc left after s) (sym same) tt

pub failed : (v : CheckFault) (status : Status) → status ≡ status_of v → status ≡ ReadFault → v ≡ fault.Read
failed (fault.Doc f) status same is = absurd (cc)
failed fault.Read status same is = refl
failed fault.NoMemory status same is = absurd (cc)

checked_ends : (T : TreeValue) (D : Document) (status : Status) (text : List ℕ) → IsChecked T D status text → IsDoneOrNo status
checked_ends T D Done text c = inl (inl refl)
checked_ends T D (No reason) text c = inr (reason, refl)
checked_ends T D status text c = absurd c

module _ (tree tree_after doc doc_after held now : Option (List ℕ)) where
  refused_tree : (status : Status) → ReadsNoTree tree tree_after status → (status ≡ ReadFault → ⊥) → IsJudged status
  refused_tree (TreeRefused f) r read = inr (inl (f, refl))
  refused_tree ReadFault r read = absurd (read refl)
  refused_tree NoMemory r read = inl (inl (inr refl))
  refused_tree status r read = absurd r

  refused_doc : (status : Status) → ReadsNoDoc doc doc_after status → (status ≡ ReadFault → ⊥) → IsJudged status
  refused_doc (DocRefused f) r read = inr (inr (f, refl))
  refused_doc ReadFault r read = absurd (read refl)
  refused_doc NoMemory r read = inl (inl (inr refl))
  refused_doc status r read = absurd r

  judged : (T : TreeValue) (status : Status) → Handles (IsChecked T) doc doc_after held now status → (status ≡ ReadFault → ⊥) → (status ≡ WriteFault → ⊥) → IsJudged status
  judged T status (inl none) read write = refused_doc status none.0 read
  judged T status (inr (D, reads, inl (text, c, all))) read write = inl (checked_ends T D status text c)
  judged T status (inr (D, reads, inr (inl (fault, some_front)))) read write = absurd (write fault)
  judged T status (inr (D, reads, inr (inr (memory, same)))) read write = inl (inl (inr memory))

  ends : (status : Status) → ChecksBoth tree tree_after doc doc_after held now status → (status ≡ ReadFault → ⊥) → (status ≡ WriteFault → ⊥) → IsJudged status
  ends status (inl none) read write = refused_tree status none.0 read
  ends status (inr some) read write = judged some.0 status some.2 read write

  not_tree : (T : TreeValue) (f : TreeFault) → Handles (IsChecked T) doc doc_after held now (TreeRefused f) → ⊥
  not_tree T f (inl none) = none.0
  not_tree T f (inr (D, reads, inl (text, c, all))) = c
  not_tree T f (inr (D, reads, inr (inl (is, some_front)))) = cc
  not_tree T f (inr (D, reads, inr (inr (is, same)))) = cc

  not_doc : (b : List ℕ) → doc ≡ Some b → (D : Document) → IsTextOf b D → (T : TreeValue) (f : DocFault) → Handles (IsChecked T) doc doc_after held now (DocRefused f) → ⊥
  not_doc b some D text T f (inl none) = no_doc_fault doc doc_after b some D f text none.0
  not_doc b some D text T f (inr (E, reads, inl (words, c, all))) = c
  not_doc b some D text T f (inr (E, reads, inr (inl (is, some_front)))) = cc
  not_doc b some D text T f (inr (E, reads, inr (inr (is, same)))) = cc

  tree_fine : (b : List ℕ) → tree ≡ Some b → (T : TreeValue) → TreeOf b T → (f : TreeFault) → ChecksBoth tree tree_after doc doc_after held now (TreeRefused f) → ⊥
  tree_fine b some T of f (inl none) = no_tree_fault tree tree_after b some T f of none.0
  tree_fine b some T of f (inr (U, reads, against)) = not_tree U f against

  doc_fine : (b : List ℕ) → doc ≡ Some b → (D : Document) → IsTextOf b D → (f : DocFault) → ChecksBoth tree tree_after doc doc_after held now (DocRefused f) → ⊥
  doc_fine b some D text f (inl none) = none.0
  doc_fine b some D text f (inr (U, reads, against)) = not_doc b some D text U f against

  accepted : (status : Status) → IsJudged status → ((f : TreeFault) → status ≡ TreeRefused f → ⊥) → ((f : DocFault) → status ≡ DocRefused f → ⊥) → IsDoneOrNo status
  accepted status (inl answer) tree_is_fine doc_is_fine = answer
  accepted status (inr (inl refuses)) tree_is_fine doc_is_fine = absurd (tree_is_fine refuses.0 refuses.1)
  accepted status (inr (inr refuses)) tree_is_fine doc_is_fine = absurd (doc_is_fine refuses.0 refuses.1)

  pub check_completes : (status : Status) → ChecksBoth tree tree_after doc doc_after held now status → (status ≡ ReadFault → ⊥) → (status ≡ WriteFault → ⊥) → IsJudged status × ((b c : List ℕ) (T : TreeValue) (D : Document) → tree ≡ Some b → doc ≡ Some c → TreeOf b T → IsTextOf c D → IsDoneOrNo status)
  check_completes status h read write =
      let all = ends status h read write in (
        all,
        λ b c T D some_tree some_doc of text.
            accepted status all (λ f is. tree_fine b some_tree T of f (subst (λ (s : Status). ChecksBoth tree tree_after doc doc_after held now s) is h))
            (λ f is. doc_fine c some_doc D text f (subst (λ (s : Status). ChecksBoth tree tree_after doc doc_after held now s) is h)),
      )
