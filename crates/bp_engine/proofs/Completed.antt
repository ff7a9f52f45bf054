-- Where nothing failed, inputs in their grammars are answered.
use Rattle.std.proofs.Common.{◌≡◌, inl, inr, ℕ, List, take, drop, refl, sym, subst, arith}
use Rattle.std.specs.declared.option.Option.{Option}
use Rattle.std.specs.declared.option.Option.TheVariants.{None, Some}
use Rattle.std.proofs.lemmas.List.{take_all}
use Rattle.bp_base.specs.Tree.{TreeValue}
use Rattle.bp_tree.specs.declared.fault.TreeFault.{TreeFault}
use Rattle.bp_document.specs.declared.fault.DocFault.{DocFault}
use Rattle.bp_metric.specs.Stated.{CoversStated}
use Rattle.bp_tree.specs.Text.{TreeOf}
use Rattle.bp_document.specs.declared.document.Document.{Document}
use Rattle.bp_document.specs.Faults.{IsTextOf}
use Rattle.bp_check.specs.Streams.{IsRefused as IsRefusedDoc, most_read as most_doc_read}
use Rattle.bp_engine.specs.declared.design.Asked.{Asked}
use Rattle.bp_engine.specs.declared.status.Status.{Status}
use Rattle.bp_engine.specs.declared.status.Status.TheVariants.{Done, TreeRefused, DocRefused, GaveUp, ReadFault, WriteFault, NoMemory, Unsteady}
use Rattle.bp_engine.specs.Designs.{Designs, HasNone, IsFound, Sinks}
use Rattle.bp_engine.specs.Documents.{Handles}
use Rattle.bp_engine.specs.Reading.{IsRefused, ReadsNoDoc, ReadsNoTree, most_read}
use Rattle.bp_engine.specs.Run.{IsDesignEnd, IsDone, IsDoneOrGivenUp, IsEnough}
use Rattle.bp_engine.specs.Solves.{IsAnswered, Solves}
use Rattle.bp_solve.specs.declared.solved.Solved.{Solved}

module _ (left after : Option (List ℕ)) (b : List ℕ) (some : left ≡ Some b) where
  pub no_tree_fault : (T : TreeValue) (fault : TreeFault) → TreeOf b T → ReadsNoTree left after (TreeRefused fault) → ⊥
  no_tree_fault T fault tree told =
      let h : IsRefused (take most_read b) fault × (after ≡ Some (drop most_read b)) = subst (λ (l : Option (List ℕ)). ReadsNoTree l after (TreeRefused fault)) some told in
      let whole : take most_read b ≡ b = take_all most_read b (omega (arith, tree.short)) in
      h.0.no_tree T (subst (λ (c : List ℕ). TreeOf c T) (sym whole) tree)

  pub no_doc_fault : (D : Document) (fault : DocFault) → IsTextOf b D → ReadsNoDoc left after (DocRefused fault) → ⊥
  no_doc_fault D fault text told =
      let h : IsRefusedDoc (take most_doc_read b) fault × (after ≡ Some (drop most_doc_read b)) = subst (λ (l : Option (List ℕ)). ReadsNoDoc l after (DocRefused fault)) some told in
      let whole : take most_doc_read b ≡ b = take_all most_doc_read b (omega (arith, text.short)) in
      h.0.none D (subst (λ (c : List ℕ). IsTextOf c D) (sym whole) text)

  -- where the tree is one, only want of memory keeps it from coming
  pub tree_comes : (T : TreeValue) → TreeOf b T → (status : Status) → ReadsNoTree left after status → (status ≡ ReadFault → ⊥) → status ≡ NoMemory
  tree_comes T tree (TreeRefused fault) r read = absurd (no_tree_fault T fault tree r)
  tree_comes T tree ReadFault r read = absurd (read refl)
  tree_comes T tree NoMemory r read = refl
  tree_comes T tree status r read = absurd r

  pub doc_comes : (D : Document) → IsTextOf b D → (status : Status) → ReadsNoDoc left after status → (status ≡ ReadFault → ⊥) → status ≡ NoMemory
  doc_comes D text (DocRefused fault) r read = absurd (no_doc_fault D fault text r)
  doc_comes D text ReadFault r read = absurd (read refl)
  doc_comes D text NoMemory r read = refl
  doc_comes D text status r read = absurd r

  -- `design` is done, or its search is given up
  found_ends : (T : TreeValue) (A : Asked) (D : Document) (status : Status) → IsFound T A D status → IsDoneOrGivenUp status
  found_ends T A D Done f = inl (inl refl)
  found_ends T A D (GaveUp side bound) f = inr (side, bound, refl)
  found_ends T A D status f = absurd f

  end_of : (steady : Option ℕ) (status : Status) → IsDoneOrGivenUp status → IsDesignEnd steady status
  end_of None status h = h
  end_of (Some quota) status h = inl h

  none_ends : (T : TreeValue) (A : Asked) (status : Status) → HasNone T A status → IsDesignEnd A.steady status
  none_ends T A NoMemory none = end_of A.steady NoMemory (inl (inr refl))
  none_ends T A (Unsteady quota) none = subst (λ (o : Option ℕ). IsDesignEnd o (Unsteady quota)) (sym none.asked) (inr refl)
  none_ends T A status none = absurd none

  design_ends : (A : Asked) (held now : Sinks) (T : TreeValue) → TreeOf b T → (status : Status) → Designs A left after held now status → (status ≡ ReadFault → ⊥) → (status ≡ WriteFault → ⊥) → IsDesignEnd A.steady status
  design_ends A held now T tree status (inl none) read write = end_of A.steady status (inl (inr (tree_comes T tree status none.0 read)))
  design_ends A held now T tree status (inr (U, reads, inl (D, found, all))) read write = end_of A.steady status (found_ends U A D status found)
  design_ends A held now T tree status (inr (U, reads, inr (inl (fault, some_front)))) read write = absurd (write fault)
  design_ends A held now T tree status (inr (U, reads, inr (inr (none, same)))) read write = none_ends U A status none

  not_given_up : (status : Status) → IsDoneOrGivenUp status → ((side bound : ℕ) → status ≡ GaveUp side bound → ⊥) → IsDone status
  not_given_up status (inl done) never = done
  not_given_up status (inr gave_up) never = absurd (never gave_up.0 gave_up.1 gave_up.2)

  ends_done : (steady : Option ℕ) (status : Status) → IsDesignEnd steady status → ((side bound : ℕ) → status ≡ GaveUp side bound → ⊥) → ((quota : ℕ) → status ≡ Unsteady quota → ⊥) → IsDone status
  ends_done None status h never enough = not_given_up status h never
  ends_done (Some quota) status (inl h) never enough = not_given_up status h never
  ends_done (Some quota) status (inr is) never enough = absurd (enough quota is)

  pub design_completes : (A : Asked) (held now : Sinks) (status : Status) → Designs A left after held now status → (status ≡ ReadFault → ⊥) → (status ≡ WriteFault → ⊥) → ((U : TreeValue) → TreeOf b U → CoversStated U A.sheet A.budget → (side bound : ℕ) → status ≡ GaveUp side bound → ⊥) → ((U : TreeValue) → TreeOf b U → IsEnough U A.sheet A.steady → (quota : ℕ) → status ≡ Unsteady quota → ⊥) → (T : TreeValue) → TreeOf b T → IsDesignEnd A.steady status × (CoversStated T A.sheet A.budget → IsEnough T A.sheet A.steady → IsDone status)
  design_completes A held now status d read write covered reached T tree =
      let ends = design_ends A held now T tree status d read write in
      (ends, λ covers enough. ends_done A.steady status ends (covered T tree covers) (reached T tree enough))

  -- and so is `solve`
  answered_ends : (T : TreeValue) (A : Asked) (s : Solved) (status : Status) → IsAnswered T A s status → IsDoneOrGivenUp status
  answered_ends T A s Done f = inl (inl refl)
  answered_ends T A s (GaveUp side bound) f = inr (side, bound, refl)
  answered_ends T A s status f = absurd f

  pub solve_completes : (A : Asked) (held now : Sinks) (status : Status) → Solves A left after held now status → (status ≡ ReadFault → ⊥) → (status ≡ WriteFault → ⊥) → (T : TreeValue) → TreeOf b T → IsDoneOrGivenUp status
  solve_completes A held now status (inl none) read write T tree = inl (inr (tree_comes T tree status none.0 read))
  solve_completes A held now status (inr (U, reads, inl (s, found, all))) read write T tree = answered_ends U A s status found
  solve_completes A held now status (inr (U, reads, inr (inl (fault, some_front)))) read write T tree = absurd (write fault)
  solve_completes A held now status (inr (U, reads, inr (inr (memory, same)))) read write T tree = inl (inr memory)

  -- a command that reads a document answers it
  pub handled_completes : (A : Document → Status → List ℕ → Type 0) (held now : Option (List ℕ)) (P : Status → Type 0) → ((D : Document) (status : Status) (text : List ℕ) → A D status text → P status) → P NoMemory → (D : Document) → IsTextOf b D → (status : Status) → Handles A left after held now status → (status ≡ ReadFault → ⊥) → (status ≡ WriteFault → ⊥) → P status
  handled_completes A held now P answer memory D text status (inl none) read write = subst P (sym (doc_comes D text status none.0 read)) memory
  handled_completes A held now P answer memory D text status (inr (E, reads, inl (words, a, all))) read write = answer E status words a
  handled_completes A held now P answer memory D text status (inr (E, reads, inr (inl (fault, some_front)))) read write = absurd (write fault)
  handled_completes A held now P answer memory D text status (inr (E, reads, inr (inr (none, same)))) read write = subst P (sym none) memory
