-- What answers an old document, and which statuses come of it.
use Rattle.std.proofs.Common.{◌≡◌, inl, inr, ℕ, ◌<◌, ◌≤◌, List, [], Result, Ok, Err, IfOk, IfErr, refl, sym, ap, ◌∙◌, subst, arith}
use Rattle.std.specs.declared.option.Option.{Option}
use Rattle.std.specs.declared.option.Option.TheVariants.{None, Some}
use Rattle.std.proofs.lemmas.Bool.{cases_lt}
use Rattle.bp_base.specs.declared.point.Sheet.{Sheet}
use Rattle.bp_base.specs.declared.refutation.Refutation.{Refutation}
use Rattle.bp_base.specs.Tree.{TreeValue}
use Rattle.bp_metric.specs.Nodes.{nodes_of}
use Rattle.bp_tree.specs.declared.fault.TreeFault.{TreeFault}
use Rattle.bp_tree.specs.Faults.{HasOneAnswer as HasOneTree}
use Rattle.bp_tree.specs.Text.{TreeOf}
use Rattle.bp_document.specs.declared.document.Document.{Document}
use Rattle.bp_document.specs.Faults.{HasOneAnswer as HasOneDocument, IsTextOf}
use Rattle.bp_document.specs.Ranges.{HasProof}
use Rattle.bp_document.specs.Text.{doc_text}
use Rattle.bp_check.specs.declared.verdict.Reason.{Reason}
use Rattle.bp_check.specs.Checks.{Checks}
use Rattle.bp_check.specs.Reasons.{IsFirstReason}
use Rattle.bp_check.specs.Written.{IsWanted}
use Rattle.bp_revise.specs.Apart.{open_paths}
use Rattle.bp_revise.specs.Keep.{kept_of}
use Rattle.bp_revise.specs.Revised.{CoversGrown, HasRevisedProof, HasRoom, budget_beside}
use Rattle.bp_engine.specs.declared.status.Status.{Status}
use Rattle.bp_engine.specs.declared.status.Status.TheVariants.{Done, TreeRefused, GaveUp, ReadFault, WriteFault, NoMemory, No, ShapeDiffers}
use Rattle.bp_engine.specs.Documents.{Writes, no_text}
use Rattle.bp_engine.specs.Outcomes.{AnswersDoc, HasNoRevision, IsFinal, ReadsNoRevision, WritesText}
use Rattle.bp_engine.specs.Reading.{ReadsDoc, ReadsNoDoc, ReadsTree}
use Rattle.bp_engine.specs.Revising.{CoversRevision, DiffersInShape, IsRevision, IsRevisionOf, RevisesAgainst, RevisesBoth}
use Rattle.bp_engine.specs.Run.{EndsRevision, IsRevisedToEnd, IsSilent}
use Rattle.bp_engine.specs.Texts.{MayWrite}
use Rattle.bp_engine.proofs.Answered.{writes}
use Rattle.bp_engine.proofs.BytesRead.{no_doc_quiet, no_doc_tree, no_doc_written}
use Rattle.bp_engine.proofs.Completed.{doc_comes, tree_comes}

pub has_room : (proof : Option Refutation) → HasProof proof → HasRoom proof
has_room None has = tt
has_room (Some r) has = has.lines

-- the status of a revision, and what answers it
pub revised : (T : TreeValue) (B : ℕ) (old D : Document) (status : Status) (text : List ℕ) → IsRevisionOf T old B D → (D.bound ≡ D.side → IsWanted T old.sheet D.side) → (D.side ≤ D.bound → status ≡ Done) → (D.bound < D.side → status ≡ GaveUp D.side D.bound) → text ≡ doc_text D → IsRevision T B old status text
revised T B old D status text is wanted done gave_up told = elim (cases_lt D.bound D.side) [
  | inl less ↦ subst (λ (s : Status). IsRevision T B old s text) (sym (gave_up less)) (D, is, less, refl, refl, told)
  | inr most ↦
      let same : D.bound ≡ D.side = omega (arith, is.no_more, most) in
      subst (λ (s : Status). IsRevision T B old s text) (sym (done most)) (D, is, same, wanted same, told)
]

pub ends : (D : Document) (status : Status) → (D.side ≤ D.bound → status ≡ Done) → (D.bound < D.side → status ≡ GaveUp D.side D.bound) → IsFinal status
ends D status done gave_up = elim (cases_lt D.bound D.side) [
  | inl less ↦ subst IsFinal (sym (gave_up less)) tt
  | inr most ↦ subst IsFinal (sym (done most)) tt
]

pub wrong : (T : TreeValue) (B : ℕ) (old : Document) (reason : Reason) (status : Status) (text told : List ℕ) → IsFirstReason old.tree old reason → status ≡ No reason → text ≡ told → told ≡ no_text reason → IsRevision T B old status text
wrong T B old reason status text told first is same says = subst (λ (s : Status). IsRevision T B old s text) (sym is) (first, same ∙ says)

-- why nothing answers a document that was read
module _ (T : TreeValue) (left after : Option (List ℕ)) where
  pub none_read : (old : Document) → ReadsDoc left after old → (status : Status) → HasNoRevision T old status → ReadsNoRevision T left after status
  none_read old reads status (inl memory) = inl (subst (ReadsNoDoc left after) (sym memory) tt)
  none_read old reads status (inr differs) = inr ((old, reads, differs.0), differs.1)

  pub none_written : (status : Status) → ReadsNoRevision T left after status → MayWrite status → ⊥
  none_written status (inl none) writes = no_doc_written left after status none writes
  none_written status (inr differs) writes = let h = subst MayWrite differs.1 writes in h

  pub none_quiet : (status : Status) → ReadsNoRevision T left after status → IsSilent status → ⊥
  none_quiet status (inl none) silent = no_doc_quiet left after status none silent
  none_quiet status (inr differs) silent = let h = subst IsSilent differs.1 silent in h

  pub none_tree : (status : Status) → ReadsNoRevision T left after status → (f : TreeFault) → status ≡ TreeRefused f → ⊥
  none_tree status (inl none) f is = no_doc_tree left after status none f is
  none_tree status (inr differs) f is = cc

pub none_failed : (T : TreeValue) (old : Document) (status : Status) → HasNoRevision T old status → status ≡ ReadFault → ⊥
none_failed T old status (inl memory) is = cc
none_failed T old status (inr differs) is = cc

-- what answers a document was written, or why none was
module _ {V : Type 0} (status_of : V → Status) (words : V → List ℕ) (T : TreeValue) (B : ℕ) (left after held now : Option (List ℕ)) (result : Status) where
  pub handled : (answered : Result V Status) → IfOk answered (λ v. AnswersDoc (IsRevision T B) left after (status_of v) (words v)) → IfErr answered (λ s. ReadsNoRevision T left after s) → IfOk answered (λ v. WritesText (status_of v) (words v) held now result) → IfErr answered (λ s. (result ≡ s) × (now ≡ held)) → RevisesAgainst T B left after held now result
  handled (Ok v) a none w same = inl (inr (a.0, a.1, writes (IsRevision T B a.0) held now (status_of v) result (words v) a.2 w))
  handled (Err s) a none w same = nothing none
    where
      nothing : ReadsNoRevision T left after s → RevisesAgainst T B left after held now result
      nothing (inl none) = inl (inl (subst (ReadsNoDoc left after) (sym same.0) none, same.1))
      nothing (inr differs) = inr (differs.0, same.0 ∙ differs.1, same.1)

-- Which statuses come.

covered_meets : (T : TreeValue) (G : Sheet) (B start : ℕ) (kept : Refutation) (D : Document) (proof : Option Refutation) → HasRevisedProof T G B start kept D proof → CoversGrown T G start (open_paths (nodes_of T G kept)) (budget_beside B kept) → D.bound ≡ D.side
covered_meets T G B start kept D None is covers = is.1
covered_meets T G B start kept D (Some r) is covers = is.1.complete covers

module _ (no_reason : (T : TreeValue) (D : Document) (r : Reason) → Checks T D → IsFirstReason T D r → ⊥) (one_reason : (T : TreeValue) (D : Document) (r s : Reason) → IsFirstReason T D r → IsFirstReason T D s → r ≡ s) (B : ℕ) where
  of_memory : (T : TreeValue) (old : Document) (status : Status) → status ≡ NoMemory → EndsRevision T old B status
  of_memory T old status is = record {
    ends = inl (inl (inr is));
    wrong = λ reason first. inr is;
    differs = λ other. inr is;
    revisable = λ can. inl (inr is);
    covered = λ can covers. inr is;
  }

  of_other : (T : TreeValue) (old : Document) (status : Status) → DiffersInShape T old → status ≡ ShapeDiffers → EndsRevision T old B status
  of_other T old status other is = record {
    ends = inr (inr is);
    wrong = λ reason first. absurd (no_reason old.tree old reason other.checks first);
    differs = λ again. inl is;
    revisable = λ can. absurd (other.other can.shape);
    covered = λ can covers. absurd (other.other can.shape);
  }

  of_answer : (T : TreeValue) (old : Document) (status : Status) (text : List ℕ) → IsRevision T B old status text → EndsRevision T old B status
  of_answer T old Done text (D, is, same, wanted, told) = record {
    ends = inl (inl (inl refl));
    wrong = λ reason first. absurd (no_reason old.tree old reason is.revisable.checks first);
    differs = λ other. absurd (other.other is.revisable.shape);
    revisable = λ can. inl (inl refl);
    covered = λ can covers. inl refl;
  }
  of_answer T old (GaveUp side bound) text (D, is, less, of_side, of_bound, told) = record {
    ends = inl (inr (side, bound, refl));
    wrong = λ reason first. absurd (no_reason old.tree old reason is.revisable.checks first);
    differs = λ other. absurd (other.other is.revisable.shape);
    revisable = λ can. inr (side, bound, refl);
    covered = λ can covers. absurd (omega (arith, less, meets covers));
  }
    where
      meets : CoversRevision T old B → D.bound ≡ D.side
      meets covers =
          let r = is.revised in
          covered_meets T old.sheet B r.start.side (kept_of T old.sheet r.start.side old.proof) D D.proof r.proof (covers r.start r.is_start)
  of_answer T old (No reason) text (first, told) = record {
    ends = inr (inl (reason, refl));
    wrong = λ other another. inl (ap (λ (r : Reason). No r) (one_reason old.tree old reason other first another));
    differs = λ other. absurd (no_reason old.tree old reason other.checks first);
    revisable = λ can. absurd (no_reason old.tree old reason can.checks first);
    covered = λ can covers. absurd (no_reason old.tree old reason can.checks first);
  }
  of_answer T old status text a = absurd a

  module _ (tree tree_after doc doc_after held now : Option (List ℕ)) (one_tree : (bytes : List ℕ) → HasOneTree bytes) (one_document : (bytes : List ℕ) → HasOneDocument bytes) (status : Status) (read : status ≡ ReadFault → ⊥) (write : status ≡ WriteFault → ⊥) where
    -- the tree and the document that were read are those of the bytes
    the_tree : (b : List ℕ) (T U : TreeValue) → tree ≡ Some b → TreeOf b T → ReadsTree tree tree_after U → U ≡ T
    the_tree b T U some of reads =
        let h : TreeOf b U × (tree_after ≡ Some []) = subst (λ (l : Option (List ℕ)). ReadsTree l tree_after U) some reads in
        (one_tree b).tree U T h.0 of

    the_document : (c : List ℕ) (D E : Document) → doc ≡ Some c → IsTextOf c D → ReadsDoc doc doc_after E → E ≡ D
    the_document c D E some of reads =
        let h : IsTextOf c E × (doc_after ≡ Some []) = subst (λ (l : Option (List ℕ)). ReadsDoc l doc_after E) some reads in
        (one_document c).document E D h.0 of

    of_read : (T U : TreeValue) (D E : Document) → U ≡ T → E ≡ D → EndsRevision U E B status → EndsRevision T D B status
    of_read T U D E tree_is doc_is e =
        subst (λ (V : TreeValue). EndsRevision V D B status) tree_is (subst (λ (F : Document). EndsRevision U F B status) doc_is e)

    of_written : (T : TreeValue) (old : Document) → Writes (IsRevision T B old) held now status → EndsRevision T old B status
    of_written T old (inl (text, a, all)) = of_answer T old status text a
    of_written T old (inr (inl (fault, some_front))) = absurd (write fault)
    of_written T old (inr (inr (memory, same))) = of_memory T old status memory

    pub revision_completes : RevisesBoth B tree tree_after doc doc_after held now status → IsRevisedToEnd tree doc B status
    revision_completes (inl none) b c T old some_tree some_doc of text =
        of_memory T old status (tree_comes tree tree_after b some_tree T of status none.0 read)
    revision_completes (inr (U, reads, inl (inl none))) b c T old some_tree some_doc of text =
        of_memory T old status (doc_comes doc doc_after c some_doc old text status none.0 read)
    revision_completes (inr (U, reads, inl (inr (E, reads_doc, written)))) b c T old some_tree some_doc of text =
        of_read T U old E (the_tree b T U some_tree of reads) (the_document c old E some_doc text reads_doc) (of_written U E written)
    revision_completes (inr (U, reads, inr ((E, reads_doc, other), is, same))) b c T old some_tree some_doc of text =
        of_read T U old E (the_tree b T U some_tree of reads) (the_document c old E some_doc text reads_doc) (of_other U E status other is)
