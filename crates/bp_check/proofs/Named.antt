-- The claims of a document that checks name leaves of its tree, so its text is short enough to be read.
use Rattle.std.proofs.Common.{List, [], ◌∷◌, length, All, Option, None, Some, sym, subst}
use Rattle.std.specs.List.{flat_map, AllByRecursion}
use Rattle.std.proofs.lemmas.List.Elements.{All-append, All-cons, All-nil}
use Rattle.bp_base.specs.declared.chain.Claim.{Claim}
use Rattle.bp_base.specs.declared.chain.Claim.TheVariants.{Walk, Cycle}
use Rattle.bp_base.specs.declared.path.Choice.{Choice}
use Rattle.bp_base.specs.declared.path.Pair.{Pair}
use Rattle.bp_base.specs.declared.path.Step.{Step}
use Rattle.bp_base.specs.declared.point.Sheet.{Sheet}
use Rattle.bp_base.specs.declared.refutation.Refutation.{Refutation}
use Rattle.bp_base.specs.declared.refutation.Refutation.TheVariants.{Split}
use Rattle.bp_base.specs.Tree.{TreeValue, leaf_count}
use Rattle.bp_metric.specs.Choices.{allowed}
use Rattle.bp_metric.specs.Chains.{ClaimHolds}
use Rattle.bp_metric.specs.Nodes.{SplitOf, ClosedBy, OpenBy, parts_of}
use Rattle.bp_metric.specs.Refutation.{EachFits, Fits, extended}
use Rattle.bp_metric.proofs.Refutations.{parts-split, parts-closed, parts-open, fits-split, fits-closed, fits-open}
use Rattle.bp_document.specs.declared.document.Document.{Document}
use Rattle.bp_document.specs.Sizes.{IsClaimUpTo, IsPartUpTo, IsProofUpTo, NamesLeaves}
use Rattle.bp_document.proofs.NodeLists.{by_nodes}
use Rattle.bp_check.specs.Checks.{Checks, ProofFits}

module _ (T : TreeValue) (G : Sheet) where
  abbrev Named : Refutation → Type 0
  Named r = (path : List Step) → Fits T G r path → All (IsPartUpTo (leaf_count T)) (parts_of r)

  claim_named : (path : List Step) (claim : Claim) → ClaimHolds (leaf_count T) path claim → IsClaimUpTo (leaf_count T) claim
  claim_named path (Walk axis chain) holds = λ k d less. (holds.are_leaves k d less).1
  claim_named path (Cycle axis chain) holds = λ k d less. (holds.chain.are_leaves k d less).1

  children_named : (path : List Step) (p : Pair) (cs : List Choice) (rs : List Refutation) → AllByRecursion Named rs → EachFits (Fits T G) path p cs rs → All (IsPartUpTo (leaf_count T)) (flat_map parts_of rs)
  children_named path p [] [] all fits = All-nil (IsPartUpTo (leaf_count T))
  children_named path p [] (r ∷ rs) all fits = absurd fits
  children_named path p (c ∷ cs) [] all fits = absurd fits
  children_named path p (c ∷ cs) (r ∷ rs) all fits =
      All-append (IsPartUpTo (leaf_count T)) (parts_of r) (flat_map parts_of rs) (all.0 (extended path p c) fits.0) (children_named path p cs rs all.1 fits.1)

  split_named : (p : Pair) (rs : List Refutation) → AllByRecursion Named rs → Named (Split p rs)
  split_named p rs all path fits =
      let parts = subst (λ (X : Type 0). X) (fits-split T G p rs path) fits in
      subst (All (IsPartUpTo (leaf_count T))) (sym (parts-split p rs)) (All-cons (IsPartUpTo (leaf_count T)) (SplitOf p (length rs)) (flat_map parts_of rs) tt (children_named path p (allowed T G p) rs all parts.1))

  named : (r : Refutation) → Named r
  named = by_nodes Named split_named
      (λ claim path fits.
      let holds = subst (λ (X : Type 0). X) (fits-closed T G claim path) fits in
      subst (All (IsPartUpTo (leaf_count T))) (sym (parts-closed claim)) (All-cons (IsPartUpTo (leaf_count T)) (ClosedBy claim) [] (claim_named path claim holds) (All-nil (IsPartUpTo (leaf_count T)))))
      (λ claim path fits.
      let holds = subst (λ (X : Type 0). X) (fits-open T G claim path) fits in
      subst (All (IsPartUpTo (leaf_count T))) (sym (parts-open claim)) (All-cons (IsPartUpTo (leaf_count T)) (OpenBy claim) [] (claim_named path claim holds) (All-nil (IsPartUpTo (leaf_count T)))))

  proof_named : (proof : Option Refutation) → ProofFits T G proof → IsProofUpTo (leaf_count T) proof
  proof_named None fits = tt
  proof_named (Some r) fits = named r [] fits

pub names_leaves : (T : TreeValue) (D : Document) → Checks T D → NamesLeaves D
names_leaves T D checks =
    subst (λ (U : TreeValue). IsProofUpTo (leaf_count U) D.proof) (sym checks.tree) (proof_named T D.sheet D.proof checks.fits)
