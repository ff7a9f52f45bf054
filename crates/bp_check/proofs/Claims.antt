-- What is found of a claim.
use Rattle.std.proofs.Common.{◌≡◌, ◌∙◌, ℕ, ◌+◌, ◌<◌, Bool, true, false, ◌||◌, cond, List, length, take, get_or, All, ap, refl}
use Rattle.std.specs.List.{list_any}
use Rattle.std.proofs.lemmas.List.Folds.{list_any_more}
use Rattle.bp_base.specs.declared.point.Sheet.{Sheet}
use Rattle.bp_base.specs.declared.path.Step.{Step}
use Rattle.bp_base.specs.declared.chain.Claim.{Claim}
use Rattle.bp_base.specs.declared.chain.Claim.TheVariants.{Walk, Cycle}
use Rattle.bp_base.specs.Tree.{TreeValue, leaf_count, IsLeaf}
use Rattle.bp_metric.specs.Chains.{ClaimHolds}
use Rattle.bp_metric.specs.Nodes.{counted}
use Rattle.bp_check.specs.declared.found.Found.TheVariants.{Sound, WrongChain}
use Rattle.bp_check.specs.Tests.{claim_passes}
use Rattle.bp_chain.specs.Counting.{chain_of}
use Rattle.bp_check.specs.Found.{found_claim}
use Rattle.bp_check.proofs.Tested.{claim_is}

pub passes_not : (n : ℕ) (path : List Step) (claim : Claim) → (ClaimHolds n path claim → ⊥) → claim_passes n path claim ≡ false
passes_not n path claim not = elim (claim_passes n path claim) as (λ b. claim_passes n path claim ≡ b → claim_passes n path claim ≡ false) [ true ↦ λ is. absurd (not ((claim_is n path claim).0 is)) | false ↦ λ is. is ] refl

module _ (T : TreeValue) (G : Sheet) (k : ℕ) (path : List Step) (claim : Claim) where
  pub claim_sound : ClaimHolds (leaf_count T) path claim → found_claim T G k path claim ≡ Sound (counted T G claim)
  claim_sound holds = let is = (claim_is (leaf_count T) path claim).1 holds in ap (λ (b : Bool). cond b (Sound (counted T G claim)) (WrongChain k)) is

  pub claim_wrong : (ClaimHolds (leaf_count T) path claim → ⊥) → found_claim T G k path claim ≡ WrongChain k
  claim_wrong not = ap (λ (b : Bool). cond b (Sound (counted T G claim)) (WrongChain k)) (passes_not (leaf_count T) path claim not)

pub leaves_of : (T : TreeValue) (path : List Step) (claim : Claim) → ClaimHolds (leaf_count T) path claim → All (IsLeaf T) (chain_of claim)
leaves_of T path (Walk axis chain) holds = holds.are_leaves
leaves_of T path (Cycle axis chain) holds = holds.chain.are_leaves

pub none_more : {X : Type 0} (p : X → Bool) (xs : List X) (k : ℕ) (x : X) → k < length xs → list_any p (take k xs) ≡ false → p (get_or xs k x) ≡ false → list_any p (take (k + 1) xs) ≡ false
none_more p xs k x less none at = list_any_more p xs k x less ∙ (λ i. none i || at i)
