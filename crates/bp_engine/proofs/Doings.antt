-- What a run does, from what each command's call promises.
use Rattle.std.proofs.Common.{◌≡◌, ◌⊎◌, inl, inr, ℕ, List, refl, sym, ap, ◌∙◌, subst, true, false}
use Rattle.std.specs.declared.option.Option.{Option}
use Rattle.std.specs.declared.option.Option.TheVariants.{None, Some}
use Rattle.bp_base.specs.Causes.{Rose}
use Rattle.bp_base.specs.Tree.{TreeValue}
use Rattle.bp_tree.specs.Text.{TreeOf}
use Rattle.bp_metric.specs.Stated.{CoversStated}
use Rattle.bp_document.specs.declared.document.Document.{Document}
use Rattle.bp_document.specs.Faults.{IsTextOf}
use Rattle.bp_words.specs.declared.words.Words.{Words}
use Rattle.bp_words.specs.declared.words.Words.TheVariants.{Design, Check, Contours, Help, Made, Picture, Pieces, Revise, Rewrite, Solve, Verify, Version, Trial}
use Rattle.bp_engine.specs.declared.design.Asked.{Asked}
use Rattle.bp_engine.specs.declared.status.Status.{Status}
use Rattle.bp_engine.specs.declared.status.Status.TheVariants.{Done, GaveUp, ReadFault, WriteFault, NoMemory, No, Unsteady}
use Rattle.bp_engine.specs.Checking.{ChecksBoth}
use Rattle.bp_engine.specs.Designs.{Designs}
use Rattle.bp_engine.specs.declared.drawing.Drawing.{Drawing}
use Rattle.bp_engine.specs.declared.drawing.Drawing.TheVariants.{Loops, Parts, Layout}
use Rattle.bp_engine.specs.Documents.{IsRewritten, Rewrites}
use Rattle.bp_engine.specs.Drawings.{Draws}
use Rattle.bp_engine.specs.Making.{Makes}
use Rattle.bp_engine.specs.Pages.{Shows, help_page, version_page}
use Rattle.bp_engine.specs.Reading.{ReadsTree}
use Rattle.bp_engine.specs.Revising.{RevisesBoth}
use Rattle.bp_engine.specs.Solves.{Solves}
use Rattle.bp_engine.specs.Run.{Does, IsDesignEnd, IsDone, IsEnough, IsRevisedToEnd, Leaves, View, asked_of, sinks_of, solve_asked_of}
use Rattle.bp_engine.specs.Texts.{MayWrite}
use Rattle.bp_engine.proofs.Answered.{no_read_fault}
use Rattle.bp_engine.proofs.Asking.{no_drawing, solve_no_drawing, solve_uses_fold, uses_fold}
use Rattle.bp_engine.proofs.Checked.{check_completes}
use Rattle.bp_engine.proofs.Completed.{design_completes, handled_completes, solve_completes}
use Rattle.bp_engine.proofs.Drawings.{drawing_completes}
use Rattle.bp_engine.proofs.Outcomes.{outcome_read}
use Rattle.bp_engine.specs.Trials.{Tries}
use Rattle.bp_engine.specs.Verifying.{VerifiesBoth}
use Rattle.bp_engine.proofs.Verified.{verify_completes}

pub does_as : (w v : Words) (before after : View) (status : Status) → w ≡ v → Does v before after status → Does w before after status
does_as w v before after status is does = subst (λ (u : Words). Does u before after status) (sym is) does

module _ (before after : View) (status : Status) where
  pub design_does : (workers budget : ℕ) (replay fold strip steady : Option ℕ) (A : Asked) → A ≡ asked_of workers budget replay fold strip steady → Designs A before.tree after.tree (sinks_of before) (sinks_of after) status → ((b : List ℕ) (U : TreeValue) → before.tree ≡ Some b → TreeOf b U → CoversStated U A.sheet A.budget → (side bound : ℕ) → status ≡ GaveUp side bound → ⊥) → ((b : List ℕ) (U : TreeValue) → before.tree ≡ Some b → TreeOf b U → IsEnough U A.sheet A.steady → (quota : ℕ) → status ≡ Unsteady quota → ⊥) → (status ≡ ReadFault → Rose before.tree_faults after.tree_faults) → (status ≡ WriteFault → Rose before.out_faults after.out_faults ⊎ ((A.draws ≡ true) × Rose before.fold_faults after.fold_faults)) → Does (Design workers budget replay fold strip steady) before after status
  design_does workers budget replay fold strip steady A is designs covered enough read write = record {
    answers = subst (λ (a : Asked). Designs a before.tree after.tree (sinks_of before) (sinks_of after) status) is designs;
    read = λ fault. inl (tt, read fault);
    write = λ fault. elim (write fault) [
      | inl out ↦ inl out
      | inr drawn ↦ inr (uses_fold workers budget replay fold strip steady (sym (ap (λ (a : Asked). a.draws) is) ∙ drawn.0), drawn.1)
    ];
    complete = λ quiet b T some text.
        subst (λ (a : Asked). IsDesignEnd a.steady status × (CoversStated T a.sheet a.budget → IsEnough T a.sheet a.steady → IsDone status)) is
        (design_completes before.tree after.tree b some A (sinks_of before) (sinks_of after) status designs (λ fault. quiet.tree (read fault)) (λ fault. elim (write fault) [
          | inl out ↦ quiet.out out
          | inr drawn ↦ quiet.fold drawn.1
        ]) (λ U of covers. covered b U some of covers) (λ U of reaches. enough b U some of reaches) T text);
  }

  pub solve_does : (budget : ℕ) (fold strip : Option ℕ) (A : Asked) → A ≡ solve_asked_of budget fold strip → Solves A before.tree after.tree (sinks_of before) (sinks_of after) status → (status ≡ ReadFault → Rose before.tree_faults after.tree_faults) → (status ≡ WriteFault → Rose before.out_faults after.out_faults ⊎ ((A.draws ≡ true) × Rose before.fold_faults after.fold_faults)) → Does (Solve budget strip fold None) before after status
  solve_does budget fold strip A is solves read write = record {
    answers = subst (λ (a : Asked). Solves a before.tree after.tree (sinks_of before) (sinks_of after) status) is solves;
    read = λ fault. inl (tt, read fault);
    write = λ fault. elim (write fault) [
      | inl out ↦ inl out
      | inr drawn ↦ inr (solve_uses_fold budget fold strip (sym (ap (λ (a : Asked). a.draws) is) ∙ drawn.0), drawn.1)
    ];
    complete = λ quiet b T some text.
        solve_completes before.tree after.tree b some A (sinks_of before) (sinks_of after) status solves (λ fault. quiet.tree (read fault)) (λ fault. elim (write fault) [
          | inl out ↦ quiet.out out
          | inr drawn ↦ quiet.fold drawn.1
        ]) T text;
  }

  pub contours_does : Draws Loops before.doc after.doc before.out after.out status → (status ≡ ReadFault → Rose before.doc_faults after.doc_faults) → (status ≡ WriteFault → Rose before.out_faults after.out_faults) → Does Contours before after status
  contours_does draws read write = record {
    answers = draws;
    read = λ fault. inr (tt, read fault);
    write = λ fault. inl (write fault);
    complete = λ quiet. drawing_completes Loops before.doc after.doc before.out after.out status draws (λ fault. quiet.doc (read fault)) (λ fault. quiet.out (write fault));
  }

  pub pieces_does : Draws Parts before.doc after.doc before.out after.out status → (status ≡ ReadFault → Rose before.doc_faults after.doc_faults) → (status ≡ WriteFault → Rose before.out_faults after.out_faults) → Does Pieces before after status
  pieces_does draws read write = record {
    answers = draws;
    read = λ fault. inr (tt, read fault);
    write = λ fault. inl (write fault);
    complete = λ quiet. drawing_completes Parts before.doc after.doc before.out after.out status draws (λ fault. quiet.doc (read fault)) (λ fault. quiet.out (write fault));
  }

  pub picture_does : Draws Layout before.doc after.doc before.out after.out status → (status ≡ ReadFault → Rose before.doc_faults after.doc_faults) → (status ≡ WriteFault → Rose before.out_faults after.out_faults) → Does Picture before after status
  picture_does draws read write = record {
    answers = draws;
    read = λ fault. inr (tt, read fault);
    write = λ fault. inl (write fault);
    complete = λ quiet. drawing_completes Layout before.doc after.doc before.out after.out status draws (λ fault. quiet.doc (read fault)) (λ fault. quiet.out (write fault));
  }

  pub rewrite_does : Rewrites before.doc after.doc before.out after.out status → (status ≡ ReadFault → Rose before.doc_faults after.doc_faults) → (status ≡ WriteFault → Rose before.out_faults after.out_faults) → Does Rewrite before after status
  rewrite_does rewrites read write = record {
    answers = rewrites;
    read = λ fault. inr (tt, read fault);
    write = λ fault. inl (write fault);
    complete = λ quiet b D some text. handled_completes before.doc after.doc b some IsRewritten before.out after.out IsDone (λ E s words r. inl r.0) (inr refl) D text status rewrites (λ fault. quiet.doc (read fault)) (λ fault. quiet.out (write fault));
  }

  pub check_does : {X : Type 0} (place : ℕ) (doc doc' : X) → ChecksBoth before.tree after.tree before.doc after.doc before.out after.out status → (status ≡ ReadFault → (Rose before.tree_faults after.tree_faults × (doc' ≡ doc)) ⊎ ((t : TreeValue) × ReadsTree before.tree after.tree t × Rose before.doc_faults after.doc_faults)) → (status ≡ WriteFault → Rose before.out_faults after.out_faults) → Does (Check place) before after status
  check_does place doc doc' checks read write = record {
    answers = checks;
    read = λ fault. elim (read fault) [
      | inl rose ↦ inl (tt, rose.0)
      | inr rose ↦ inr (tt, rose.2)
    ];
    write = λ fault. inl (write fault);
    complete = λ quiet. check_completes before.tree after.tree before.doc after.doc before.out after.out status checks (λ fault. elim (read fault) [
      | inl rose ↦ quiet.tree rose.0
      | inr rose ↦ quiet.doc rose.2
    ]) (λ fault. quiet.out (write fault));
  }

  pub verify_does : {X : Type 0} (place : ℕ) (doc doc' : X) → VerifiesBoth before.tree after.tree before.doc after.doc before.out after.out status → (status ≡ ReadFault → (Rose before.tree_faults after.tree_faults × (doc' ≡ doc)) ⊎ ((t : TreeValue) × ReadsTree before.tree after.tree t × Rose before.doc_faults after.doc_faults)) → (status ≡ WriteFault → Rose before.out_faults after.out_faults) → Does (Verify place) before after status
  verify_does place doc doc' verifies read write = record {
    answers = verifies;
    read = λ fault. elim (read fault) [
      | inl rose ↦ inl (tt, rose.0)
      | inr rose ↦ inr (tt, rose.2)
    ];
    write = λ fault. inl (write fault);
    complete = λ quiet. verify_completes before.tree after.tree before.doc after.doc before.out after.out status verifies (λ fault. elim (read fault) [
      | inl rose ↦ quiet.tree rose.0
      | inr rose ↦ quiet.doc rose.2
    ]) (λ fault. quiet.out (write fault));
  }

  pub revise_does : {X : Type 0} (place budget : ℕ) (doc doc' : X) → RevisesBoth budget before.tree after.tree before.doc after.doc before.out after.out status → ((status ≡ ReadFault → ⊥) → (status ≡ WriteFault → ⊥) → IsRevisedToEnd before.tree before.doc budget status) → (status ≡ ReadFault → (Rose before.tree_faults after.tree_faults × (doc' ≡ doc)) ⊎ ((t : TreeValue) × ReadsTree before.tree after.tree t × Rose before.doc_faults after.doc_faults)) → (status ≡ WriteFault → Rose before.out_faults after.out_faults) → Does (Revise place budget) before after status
  revise_does place budget doc doc' revises complete read write = record {
    answers = revises;
    read = λ fault. elim (read fault) [
      | inl rose ↦ inl (tt, rose.0)
      | inr rose ↦ inr (tt, rose.2)
    ];
    write = λ fault. inl (write fault);
    complete = λ quiet. complete (λ fault. elim (read fault) [
      | inl rose ↦ quiet.tree rose.0
      | inr rose ↦ quiet.doc rose.2
    ]) (λ fault. quiet.out (write fault));
  }

-- a tree for tests
made_ends : (leaves seed : ℕ) (held now : Option (List ℕ)) (status : Status) → Makes leaves seed held now status → (status ≡ WriteFault → ⊥) → IsDone status
made_ends leaves seed held now status (inl (T, made, inl (is, all))) write = inl is
made_ends leaves seed held now status (inl (T, made, inr (is, front))) write = absurd (write is)
made_ends leaves seed held now status (inr (is, same)) write = inr is

pub made_does : (before after : View) (status : Status) (leaves seed : ℕ) → Makes leaves seed before.out after.out status → MayWrite status ⊎ (status ≡ NoMemory) → (status ≡ WriteFault → Rose before.out_faults after.out_faults) → Does (Made leaves seed) before after status
made_does before after status leaves seed makes ends write = record {
  answers = makes;
  read = λ fault. absurd (outcome_read status ends fault);
  write = λ fault. inl (write fault);
  complete = λ quiet. made_ends leaves seed before.out after.out status makes (λ fault. quiet.out (write fault));
}

-- a page
shown_ends : (page : List ℕ) (held now : Option (List ℕ)) (status : Status) → Shows page held now status → (status ≡ WriteFault → ⊥) → status ≡ Done
shown_ends page held now status (inl (is, all)) write = is
shown_ends page held now status (inr (is, front)) write = absurd (write is)

pub help_does : (before after : View) (status : Status) → Shows help_page before.out after.out status → MayWrite status → (status ≡ WriteFault → Rose before.out_faults after.out_faults) → Does Help before after status
help_does before after status shows ends write = record {
  answers = shows;
  read = λ fault. absurd (no_read_fault status ends fault);
  write = λ fault. inl (write fault);
  complete = λ quiet. shown_ends help_page before.out after.out status shows (λ fault. quiet.out (write fault));
}

pub version_does : (before after : View) (status : Status) → Shows version_page before.out after.out status → MayWrite status → (status ≡ WriteFault → Rose before.out_faults after.out_faults) → Does Version before after status
version_does before after status shows ends write = record {
  answers = shows;
  read = λ fault. absurd (no_read_fault status ends fault);
  write = λ fault. inl (write fault);
  complete = λ quiet. shown_ends version_page before.out after.out status shows (λ fault. quiet.out (write fault));
}

-- its trial
trial_ends : (leaves seed : ℕ) (held now : Option (List ℕ)) (status : Status) → Tries leaves seed held now status → (status ≡ WriteFault → ⊥) → IsDone status
trial_ends leaves seed held now status (inl (text, is_text, inl (is, all))) write = inl is
trial_ends leaves seed held now status (inl (text, is_text, inr (is, front))) write = absurd (write is)
trial_ends leaves seed held now status (inr (is, same)) write = inr is

pub trial_does : (before after : View) (status : Status) (leaves seed : ℕ) → Tries leaves seed before.out after.out status → MayWrite status ⊎ (status ≡ NoMemory) → (status ≡ WriteFault → Rose before.out_faults after.out_faults) → Does (Trial leaves seed) before after status
trial_does before after status leaves seed tries ends write = record {
  answers = tries;
  read = λ fault. absurd (outcome_read status ends fault);
  write = λ fault. inl (write fault);
  complete = λ quiet. trial_ends leaves seed before.out after.out status tries (λ fault. quiet.out (write fault));
}

pub trial_leaves : {T D K F : Type 0} (before after : View) (status : Status) (t : T) (d : D) (o o' : K) (f : F) (leaves seed : ℕ) → ((MayWrite status → ⊥) → o' ≡ o) → Leaves (Trial leaves seed) before after status t t d d o o' f f
trial_leaves before after status t d o o' f leaves seed unwritten = record {
  tree = λ unused. refl;
  doc = λ unused. refl;
  fold = λ unused. refl;
  unread = λ fault refused. refl;
  order = λ one both. inl refl;
  read_in_order = λ one both fault. absurd both;
  unwritten = λ none. (unwritten none, refl);
  whole = λ fault. inl refl;
}

pub leaves_as : {T D K F : Type 0} (w v : Words) (before after : View) (status : Status) (t t' : T) (d d' : D) (o o' : K) (f f' : F) → w ≡ v → Leaves v before after status t t' d d' o o' f f' → Leaves w before after status t t' d d' o o' f f'
leaves_as w v before after status t t' d d' o o' f f' is leaves = subst (λ (u : Words). Leaves u before after status t t' d d' o o' f f') (sym is) leaves

pub design_leaves : {T D K F : Type 0} (before after : View) (status : Status) (t t' : T) (d : D) (o o' : K) (f f' : F) (workers budget : ℕ) (replay fold strip steady : Option ℕ) (A : Asked) → A ≡ asked_of workers budget replay fold strip steady → ((MayWrite status → ⊥) → (o' ≡ o) × (f' ≡ f)) → (A.draws ≡ false → f' ≡ f) → (status ≡ WriteFault → (f' ≡ f) ⊎ Rose before.fold_faults after.fold_faults) → Leaves (Design workers budget replay fold strip steady) before after status t t' d d o o' f f'
design_leaves before after status t t' d o o' f f' workers budget replay fold strip steady A is unwritten undrawn whole = record {
  tree = λ unused. absurd (unused tt);
  doc = λ unused. refl;
  fold = λ unused. undrawn (ap (λ (a : Asked). a.draws) is ∙ no_drawing workers budget replay fold strip steady unused);
  unread = λ fault refused. refl;
  order = λ one both. inl refl;
  read_in_order = λ one both fault. absurd both;
  unwritten = unwritten;
  whole = whole;
}

pub solve_leaves : {T D K F : Type 0} (before after : View) (status : Status) (t t' : T) (d : D) (o o' : K) (f f' : F) (budget : ℕ) (fold strip : Option ℕ) (A : Asked) → A ≡ solve_asked_of budget fold strip → ((MayWrite status → ⊥) → (o' ≡ o) × (f' ≡ f)) → (A.draws ≡ false → f' ≡ f) → (status ≡ WriteFault → (f' ≡ f) ⊎ Rose before.fold_faults after.fold_faults) → Leaves (Solve budget strip fold None) before after status t t' d d o o' f f'
solve_leaves before after status t t' d o o' f f' budget fold strip A is unwritten undrawn whole = record {
  tree = λ unused. absurd (unused tt);
  doc = λ unused. refl;
  fold = λ unused. undrawn (ap (λ (a : Asked). a.draws) is ∙ solve_no_drawing budget fold strip unused);
  unread = λ fault refused. refl;
  order = λ one both. inl refl;
  read_in_order = λ one both fault. absurd both;
  unwritten = unwritten;
  whole = whole;
}
