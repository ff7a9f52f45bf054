-- A document that was read, and the text that answers it.
use Rattle.std.proofs.Common.{◌≡◌, inl, inr, ℕ, List, Result, Ok, Err, IfOk, IfErr, sym, subst}
use Rattle.std.specs.declared.option.Option.{Option}
use Rattle.bp_tree.specs.declared.fault.TreeFault.{TreeFault}
use Rattle.bp_document.specs.declared.document.Document.{Document}
use Rattle.bp_engine.specs.declared.status.Status.{Status}
use Rattle.bp_engine.specs.declared.status.Status.TheVariants.{Done, TreeRefused, ReadFault, WriteFault, No, NotBuilt, Usage}
use Rattle.bp_engine.specs.Documents.{Handles, Writes}
use Rattle.bp_engine.specs.Outcomes.{AnswersDoc, IsFinal, WritesText}
use Rattle.bp_engine.specs.Reading.{ReadsNoDoc}
use Rattle.bp_engine.specs.Run.{IsSilent}
use Rattle.bp_engine.specs.Texts.{MayWrite}

pub writes : (A : Status → List ℕ → Type 0) (held now : Option (List ℕ)) (status result : Status) (text : List ℕ) → A status text → WritesText status text held now result → Writes A held now result
writes A held now status result text a (inl w) = inl (text, subst (λ (s : Status). A s text) (sym w.0) a, w.1)
writes A held now status result text a (inr w) = inr (inl (w.0, (status, text, a, w.1)))

-- what answers a document was written, or why none came
module _ {V : Type 0} (status_of : V → Status) (words : V → List ℕ) (A : Document → Status → List ℕ → Type 0) (left after held now : Option (List ℕ)) (result : Status) where
  pub handled : (answered : Result V Status) → IfOk answered (λ v. AnswersDoc A left after (status_of v) (words v)) → IfErr answered (λ s. ReadsNoDoc left after s) → IfOk answered (λ v. WritesText (status_of v) (words v) held now result) → IfErr answered (λ s. (result ≡ s) × (now ≡ held)) → Handles A left after held now result
  handled (Ok v) a none w same = inr (a.0, a.1, writes (A a.0) held now (status_of v) result (words v) a.2 w)
  handled (Err s) a none w same = inl (subst (λ (r : Status). ReadsNoDoc left after r) (sym same.0) none, same.1)

pub not_silent : (status : Status) → MayWrite status → IsSilent status → ⊥
not_silent Usage writes silent = writes
not_silent NotBuilt writes silent = writes
not_silent status writes silent = silent

pub no_read_fault : (status : Status) → MayWrite status → status ≡ ReadFault → ⊥
no_read_fault status writes is = let h = subst MayWrite is writes in h

pub no_tree_refused : (status : Status) → MayWrite status → (f : TreeFault) → status ≡ TreeRefused f → ⊥
no_tree_refused status writes f is = let h = subst MayWrite is writes in h

pub not_fault : (status : Status) → IsFinal status → status ≡ WriteFault → ⊥
not_fault status final is = let h = subst IsFinal is final in h
