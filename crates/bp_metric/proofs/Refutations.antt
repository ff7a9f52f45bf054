-- Equations of what is defined over refutations.
use Rattle.std.proofs.Common.{◌≡◌, List, [], ◌∷◌, ◌++◌, length, map, refl, sym, ap, ◌∙◌}
use Rattle.std.specs.List.{flat_map}
use Rattle.std.proofs.lemmas.List.{length-map}
use Rattle.bp_base.specs.declared.point.Sheet.{Sheet}
use Rattle.bp_base.specs.declared.path.Choice.{Choice}
use Rattle.bp_base.specs.declared.path.Pair.{Pair}
use Rattle.bp_base.specs.declared.path.Step.{Step}
use Rattle.bp_base.specs.declared.chain.Claim.{Claim}
use Rattle.bp_base.specs.declared.refutation.Refutation.{Refutation, fold-roll-Refutation, rec-roll-Refutation}
use Rattle.bp_base.specs.declared.refutation.Refutation.TheOpen.{Refutation-F}
use Rattle.bp_base.specs.declared.refutation.Refutation.TheVariants.{Split, Closed, Open, rolls-Split, rolls-Closed, rolls-Open}
use Rattle.bp_base.specs.declared.refutation.Refutation.TheFolds.{map-Refutation}
use Rattle.bp_base.specs.Tree.{TreeValue, leaf_count}
use Rattle.bp_metric.specs.Choices.{allowed}
use Rattle.bp_metric.specs.Chains.{ClaimHolds}
use Rattle.bp_metric.specs.Refutation.{extended, CanSplit, EachFits, fits_at, Fits}
use Rattle.bp_metric.specs.Nodes.{Part, SplitOf, ClosedBy, OpenBy, parts_at, parts_of}

flat-map : (rs : List Refutation) → flat_map (λ (parts : List Part). parts) (map parts_of rs) ≡ flat_map parts_of rs
flat-map [] = refl
flat-map (r ∷ rs) = λ i. parts_of r ++ flat-map rs i

pub parts-split : (p : Pair) (rs : List Refutation) → parts_of (Split p rs) ≡ SplitOf p (length rs) ∷ flat_map parts_of rs
unfolding parts_of
parts-split p rs =
    ap parts_of (sym (rolls-Split p rs)) ∙ fold-roll-Refutation (List Part) parts_at (Refutation-F.Split p rs)
    ∙ (λ i. SplitOf p (length-map rs parts_of i) ∷ flat-map rs i)

pub parts-closed : (claim : Claim) → parts_of (Closed claim) ≡ ClosedBy claim ∷ []
unfolding parts_of
parts-closed claim = ap parts_of (sym (rolls-Closed claim)) ∙ fold-roll-Refutation (List Part) parts_at (Refutation-F.Closed claim)

pub parts-open : (claim : Claim) → parts_of (Open claim) ≡ OpenBy claim ∷ []
unfolding parts_of
parts-open claim = ap parts_of (sym (rolls-Open claim)) ∙ fold-roll-Refutation (List Part) parts_at (Refutation-F.Open claim)

-- what `rec-Refutation` asks: a step reads its children through one function alone
each-map : {A : Type 0} (v : A → Refutation) (k : Refutation → List Step → Type 0) (path : List Step) (p : Pair) (cs : List Choice) (xs : List A) → EachFits (λ x. k (v x)) path p cs xs ≡ EachFits k path p cs (map v xs)
each-map v k path p [] [] = refl
each-map v k path p [] (x ∷ xs) = refl
each-map v k path p (c ∷ cs) [] = refl
each-map v k path p (c ∷ cs) (x ∷ xs) = λ i. k (v x) (extended path p c) × each-map v k path p cs xs i

module _ (T : TreeValue) (G : Sheet) where
  natural : (A : Type 0) (v : A → Refutation) (k : Refutation → List Step → Type 0) (x : Refutation-F A) → fits_at T G A v (λ y. k (v y)) x ≡ fits_at T G Refutation (λ y. y) k (map-Refutation A Refutation v x)
  natural A v k (Refutation-F.Split p cs) = λ i path. CanSplit T path p × each-map v k path p (allowed T G p) cs i
  natural A v k (Refutation-F.Closed claim) = refl
  natural A v k (Refutation-F.Open claim) = refl

  pub fits-split : (p : Pair) (rs : List Refutation) (path : List Step) → Fits T G (Split p rs) path ≡ (CanSplit T path p × EachFits (Fits T G) path p (allowed T G p) rs)
  unfolding Fits
  fits-split p rs path =
      let e = rec-roll-Refutation (List Step → Type 0) (fits_at T G) natural (Refutation-F.Split p rs) in
      ap (λ r. Fits T G r path) (sym (rolls-Split p rs)) ∙ (λ i. e i path)

  pub fits-closed : (claim : Claim) (path : List Step) → Fits T G (Closed claim) path ≡ ClaimHolds (leaf_count T) path claim
  unfolding Fits
  fits-closed claim path =
      let e = rec-roll-Refutation (List Step → Type 0) (fits_at T G) natural (Refutation-F.Closed claim) in
      ap (λ r. Fits T G r path) (sym (rolls-Closed claim)) ∙ (λ i. e i path)

  pub fits-open : (claim : Claim) (path : List Step) → Fits T G (Open claim) path ≡ ClaimHolds (leaf_count T) path claim
  unfolding Fits
  fits-open claim path =
      let e = rec-roll-Refutation (List Step → Type 0) (fits_at T G) natural (Refutation-F.Open claim) in
      ap (λ r. Fits T G r path) (sym (rolls-Open claim)) ∙ (λ i. e i path)
