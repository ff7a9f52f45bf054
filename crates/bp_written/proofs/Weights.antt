-- What the children of a split weigh, one after another.
use Rattle.std.proofs.Common.{◌≡◌, ℕ, zero, suc, ◌+◌, ◌<◌, ◌≤◌, List, [], ◌∷◌, ◌++◌, length, get_or, map, take, All, Option, sym, ap, ◌∙◌, subst, arith}
use Rattle.std.proofs.lemmas.List.{map-append, take_more, take_all}
use Rattle.bp_base.specs.declared.path.Choice.{Choice}
use Rattle.bp_base.specs.declared.path.Pair.{Pair}
use Rattle.bp_base.specs.declared.path.Step.{Step}
use Rattle.bp_base.specs.declared.point.Sheet.{Sheet}
use Rattle.bp_base.specs.declared.chain.Claim.{Claim}
use Rattle.bp_base.specs.declared.refutation.Refutation.{Refutation}
use Rattle.bp_base.specs.declared.refutation.Refutation.TheVariants.{Split, Closed, Open}
use Rattle.bp_base.specs.Tree.{TreeValue, IsLeaf, leaf_count}
use Rattle.bp_metric.specs.Chains.{ClaimHolds}
use Rattle.bp_metric.specs.Choices.{allowed}
use Rattle.bp_metric.specs.Nodes.{counted, least_of, lesser, weighs}
use Rattle.bp_metric.specs.Refutation.{CanSplit, EachFits, Fits, extended}
use Rattle.bp_metric.proofs.Refutations.{fits-split, fits-closed, fits-open}
use Rattle.bp_symmetry.proofs.Least.{weighs-split, weighs-closed, weighs-open}
use Rattle.bp_chain.specs.Counting.{chain_of}
use Rattle.bp_check.proofs.Claims.{leaves_of}
use Rattle.bp_check.proofs.Joined.{lesser_none, lesser_assoc}
use Rattle.bp_written.specs.Told.{FitsSome}

least_push : (ws : List (Option ℕ)) (w : Option ℕ) → least_of (ws ++ w ∷ []) ≡ lesser (least_of ws) w
least_push [] w = lesser_none w
least_push (u ∷ ws) w = ap (lesser u) (least_push ws w) ∙ sym (lesser_assoc u (least_of ws) w)

module _ (T : TreeValue) (G : Sheet) where
  abbrev least : List Refutation → Option ℕ
  least rs = least_of (map (weighs T G) rs)

  -- one child more
  pub weigh_more : (items : List Refutation) (k : ℕ) (child : Refutation) (so_far more : Option ℕ) → k < length items → child ≡ get_or items k child → more ≡ weighs T G child → so_far ≡ least (take k items) → lesser so_far more ≡ least (take (k + 1) items)
  weigh_more items k child so_far more less is weight before =
      (λ i. lesser (before i) ((weight ∙ ap (weighs T G) is) i))
      ∙ sym (least_push (map (weighs T G) (take k items)) (weighs T G (get_or items k child)))
      ∙ ap least_of (sym (map-append (weighs T G) (take k items) (get_or items k child ∷ [])))
      ∙ ap least (sym (take_more items k child less))

  pub weigh_all : (p : Pair) (rs items : List Refutation) (r : Refutation) (k : ℕ) (so_far : Option ℕ) → r ≡ Split p rs → items ≡ rs → length items ≤ k → so_far ≡ least (take k items) → so_far ≡ weighs T G r
  weigh_all p rs items r k so_far is same done before =
      before ∙ ap least (take_all k items done ∙ same) ∙ sym (weighs-split T G p rs) ∙ ap (weighs T G) (sym is)

  each_at : (path : List Step) (p : Pair) (cs : List Choice) (rs : List Refutation) (k : ℕ) (d : Refutation) → k < length rs → EachFits (Fits T G) path p cs rs → FitsSome T G (get_or rs k d)
  each_at path p cs [] k d less each = absurd (omega arith)
  each_at path p [] (r ∷ rs) k d less each = absurd each
  each_at path p (c ∷ cs) (r ∷ rs) zero d less each = (extended path p c, each.0)
  each_at path p (c ∷ cs) (r ∷ rs) (suc k) d less each = each_at path p cs rs k d (omega arith) each.1

  pub child_fits : (p : Pair) (rs items : List Refutation) (r : Refutation) (k : ℕ) (child : Refutation) → r ≡ Split p rs → items ≡ rs → FitsSome T G r → k < length items → child ≡ get_or items k child → FitsSome T G child
  child_fits p rs items r k child is same fits less here =
      let split : Fits T G (Split p rs) fits.0 = subst (λ (x : Refutation). Fits T G x fits.0) is fits.1 in
      let both : CanSplit T fits.0 p × EachFits (Fits T G) fits.0 p (allowed T G p) rs = coe 0 1 (i. fits-split T G p rs fits.0 i) split in
      let each : EachFits (Fits T G) fits.0 p (allowed T G p) items = subst (EachFits (Fits T G) fits.0 p (allowed T G p)) (sym same) both.1 in
      subst (FitsSome T G) (sym here) (each_at fits.0 p (allowed T G p) items k child less each)

  pub closed_leaves : (r : Refutation) (claim : Claim) → r ≡ Closed claim → FitsSome T G r → All (IsLeaf T) (chain_of claim)
  closed_leaves r claim is fits =
      let here : Fits T G (Closed claim) fits.0 = subst (λ (x : Refutation). Fits T G x fits.0) is fits.1 in
      let holds : ClaimHolds (leaf_count T) fits.0 claim = coe 0 1 (i. fits-closed T G claim fits.0 i) here in
      leaves_of T fits.0 claim holds

  pub open_leaves : (r : Refutation) (claim : Claim) → r ≡ Open claim → FitsSome T G r → All (IsLeaf T) (chain_of claim)
  open_leaves r claim is fits =
      let here : Fits T G (Open claim) fits.0 = subst (λ (x : Refutation). Fits T G x fits.0) is fits.1 in
      let holds : ClaimHolds (leaf_count T) fits.0 claim = coe 0 1 (i. fits-open T G claim fits.0 i) here in
      leaves_of T fits.0 claim holds

  pub closed_weighs : (r : Refutation) (claim : Claim) → r ≡ Closed claim → counted T G claim ≡ weighs T G r
  closed_weighs r claim is = sym (ap (weighs T G) is ∙ weighs-closed T G claim)

  pub open_weighs : (r : Refutation) (claim : Claim) → r ≡ Open claim → counted T G claim ≡ weighs T G r
  open_weighs r claim is = sym (ap (weighs T G) is ∙ weighs-open T G claim)
