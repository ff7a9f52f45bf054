-- The lines that a stack has taken, one after the other.
use Rattle.std.proofs.Common.{◌≡◌, ◌&&◌, ◌+◌, true, false, cond, not, List, [], ◌∷◌, ◌++◌, None, Some, refl, sym, ap, ◌∙◌, subst, arith, length-append}
use Rattle.bp_base.specs.declared.path.Pair.{Pair}
use Rattle.bp_base.specs.declared.point.Sheet.{Sheet}
use Rattle.bp_base.specs.declared.chain.Claim.{Claim}
use Rattle.bp_base.specs.declared.refutation.Refutation.{Refutation}
use Rattle.bp_base.specs.Tree.{TreeValue, leaf_count}
use Rattle.bp_metric.specs.Nodes.{nodes_of}
use Rattle.bp_document.specs.declared.node_line.NodeKind.{NodeKind}
use Rattle.bp_document.specs.declared.node_line.NodeKind.TheVariants.{Split, Closed, Open}
use Rattle.bp_document.specs.declared.node_line.NodeLine.{NodeLine}
use Rattle.bp_check.specs.declared.found.Found.{Found}
use Rattle.bp_check.specs.declared.found.Found.TheVariants.{WrongSplit}
use Rattle.bp_check.specs.declared.stack.Stack.{Stack}
use Rattle.bp_check.specs.Tests.{may_split}
use Rattle.bp_check.specs.Found.{joined, found_of}
use Rattle.bp_document.specs.Told.{node_list}
use Rattle.bp_check.specs.Stack.{stack_of, empty_stack, opened, is_wrong, closed, entered, with_split, with_claim, with_node, fed, run, IsStack, HasTaken}
use Rattle.bp_check.specs.Verdicts.{IsFoundOf}
use Rattle.bp_check.proofs.Judging.{found_is}
use Rattle.bp_check.proofs.Kept.{closed_done}
use Rattle.bp_check.proofs.Reading.{whole_read}

module _ (T : TreeValue) (G : Sheet) where
  run_push : (S : Stack) (lines : List NodeLine) (line : NodeLine) → run T G S (lines ++ line ∷ []) ≡ fed T G (run T G S lines) line
  run_push S [] line = refl
  run_push S (l ∷ lines) line = run_push (fed T G S l) lines line

  split_count : (S : Stack) (p : Pair) → (with_split T G p S).count ≡ S.count + 1
  unfolding with_split
  split_count S p = elim (not (is_wrong S.found) && may_split (leaf_count T) S.path p) as (λ b. (cond b (stack_of T G (S.splits ++ opened S.count p ∷ []) (S.count + 1) S.found) (stack_of T G S.splits (S.count + 1) (joined S.found (WrongSplit S.count)))).count ≡ S.count + 1) [ true ↦ refl | false ↦ refl ]

  claim_count : (S : Stack) (claim : Claim) → (with_claim T G claim S).count ≡ S.count + 1
  unfolding with_claim
  claim_count S claim = refl

  node_count : (S : Stack) (kind : NodeKind) → (with_node T G kind S).count ≡ S.count + 1
  node_count S (Split p) = split_count S p
  node_count S (Closed claim) = claim_count S claim
  node_count S (Open claim) = claim_count S claim

  fed_count : (S : Stack) (line : NodeLine) → (fed T G S line).count ≡ S.count + 1
  unfolding entered closed
  fed_count S line = node_count (entered T G line.depth (closed T G line.depth S)) line.kind

  pub takes : (S N : Stack) (line : NodeLine) → N ≡ fed T G S line → IsStack T G N → (lines : List NodeLine) → HasTaken T G S lines → HasTaken T G N (lines ++ line ∷ [])
  takes S N line now kept lines taken = record {
    is = now ∙ ap (λ (M : Stack). fed T G M line) taken.is ∙ sym (run_push empty_stack lines line);
    kept = kept;
    count = ap (λ (M : Stack). M.count) now ∙ fed_count S line ∙ omega (arith, taken.count, length-append lines (line ∷ []));
  }

  pub empty_kept : IsStack T G empty_stack
  empty_kept = record {
    path = refl;
    pairs = λ k d less. absurd (omega (arith, less));
    differ = λ k l d less within. absurd (omega (arith, within));
    seen = λ k d less. absurd (omega (arith, less));
  }

  pub takes_none : (S : Stack) → S ≡ empty_stack → HasTaken T G S []
  takes_none S is = record { is = is; kept = subst (IsStack T G) (sym is) empty_kept; count = ap (λ (M : Stack). M.count) is }

  pub finds : (S : Stack) (f : Found) → f ≡ (closed T G 0 S).found → (r : Refutation) → HasTaken T G S (node_list r 0) → IsFoundOf T G (Some r) f
  finds S f is r taken =
      let found : f ≡ found_of T G 0 (nodes_of T G r) = is ∙ ap (λ (M : Stack). (closed T G 0 M).found) taken.is ∙ whole_read T G r in
      subst (IsFoundOf T G (Some r)) (sym found) (found_is T G (Some r))

  pub finds_none : (S : Stack) (f : Found) → f ≡ (closed T G 0 S).found → HasTaken T G S [] → IsFoundOf T G None f
  finds_none S f is taken =
      let start : closed T G 0 empty_stack ≡ empty_stack = closed_done T G empty_stack 0 refl (omega arith) in
      let found : f ≡ empty_stack.found = is ∙ ap (λ (M : Stack). (closed T G 0 M).found) taken.is ∙ ap (λ (M : Stack). M.found) start in
      subst (IsFoundOf T G None) (sym found) (found_is T G None)

  -- as the code has it: the call of a line's kind
  pub feeds : (S N : Stack) (line : NodeLine) (kind : NodeKind) → line.kind ≡ kind → N ≡ with_node T G kind (entered T G line.depth (closed T G line.depth S)) → IsStack T G N → (lines : List NodeLine) → HasTaken T G S lines → HasTaken T G N (lines ++ line ∷ [])
  feeds S N line kind is now kept =
      takes S N line (now ∙ ap (λ (k : NodeKind). with_node T G k (entered T G line.depth (closed T G line.depth S))) (sym is)) kept

  pub feeds_open : (S N : Stack) (line : NodeLine) (claim : Claim) → line.kind ≡ Open claim → N ≡ with_node T G (Closed claim) (entered T G line.depth (closed T G line.depth S)) → IsStack T G N → (lines : List NodeLine) → HasTaken T G S lines → HasTaken T G N (lines ++ line ∷ [])
  feeds_open S N line claim is now kept = feeds S N line (Open claim) is now kept
